-- The definitions compute to what the rules print.
use Rattle.std.proofs.Common.{refl}
use Rattle.measure.specs.Table.{Agree}
use Rattle.settings.specs.Margins.{m1, m2, m3, m4, m5, accepted, quiet_accepted}
use Rattle.settings.specs.Answers.{judgement, quiet_judgement}
use Rattle.settings.specs.Cases.{cases}

pub cases_hold : Agree cases
unfolding judgement quiet_judgement accepted quiet_accepted m1 m2 m3 m4 m5
cases_hold = (
  refl,
  (
    refl,
    (
      refl,
      (
        refl,
        (
          refl,
          (
            refl,
            (
              refl,
              (
                refl,
                (
                  refl,
                  (
                    refl,
                    (
                      refl,
                      (
                        refl,
                        (
                          refl,
                          (
                            refl,
                            (
                              refl,
                              tt,
                            ),
                          ),
                        ),
                      ),
                    ),
                  ),
                ),
              ),
            ),
          ),
        ),
      ),
    ),
  ),
)
