-- Rules B: when a receiver's state is well formed.
use Rattle.std.specs.Prelude.{ℕ, List, [], ◌∷◌, Bool, true, ◌&&◌, drop, eqb, leb, ltb}
use Rattle.measure.specs.Choose.{choose, between}
use Rattle.measure.specs.Ranges.{row_settings_fit}
use Rattle.board.specs.Packed.{unpacked}
use Rattle.board.specs.declared.Mode.{Mode}
use Rattle.board.specs.declared.Mode.TheVariants.{Hunting, Ready, Counting, Waiting}
use Rattle.board.specs.declared.Receiver.{Receiver}

-- B21: a full run and the mode ready come together; in every other mode the run is short of Q, and inside a row there
-- has been a read
abbrev pub run_fits : Mode → (run Q : ℕ) → Bool
run_fits Hunting run Q = ltb run Q
run_fits Ready run Q = eqb run Q
run_fits Counting run Q = leb 1 run && ltb run Q
run_fits Waiting run Q = leb 1 run && ltb run Q

-- B28: the run's level is a level, and high as long as there is no run
abbrev pub run_level_fits : (run run_level : ℕ) → Bool
run_level_fits run run_level = choose (eqb run 0) (eqb run_level 1) (leb run_level 1)

-- B22: only a counting receiver has reads left up to a sample, at least one and no more than k
abbrev pub left_fits : Mode → (left k : ℕ) → Bool
left_fits Hunting left k = eqb left 0
left_fits Ready left k = eqb left 0
left_fits Counting left k = between 1 k left
left_fits Waiting left k = eqb left 0

-- B23: a row under way lacks at least one bit, and outside a row there are none
abbrev pub found_fits : Mode → (found n : ℕ) → Bool
found_fits Hunting found n = eqb found 0
found_fits Ready found n = eqb found 0
found_fits Counting found n = ltb found n
found_fits Waiting found n = ltb found n

-- B25: what is kept is a level: high in hunting, the run's in ready
abbrev pub level_fits : Mode → (level run_level : ℕ) → Bool
level_fits Hunting level run_level = eqb level 1
level_fits Ready level run_level = eqb level run_level
level_fits Counting level run_level = leb level 1
level_fits Waiting level run_level = leb level 1

-- B24: every entry is 0
abbrev pub all_zero : List ℕ → Bool
all_zero [] = true
all_zero (x ∷ xs) = eqb x 0 && all_zero xs

-- B24: nothing stands in the places from the number found on
unfoldable pub unused_zero : ℕ → List ℕ → Bool
unused_zero found bytes = all_zero (drop found (unpacked 8 bytes))

-- B20 to B25, B28, R49: all of these
unfoldable pub well_formed : Receiver → Bool
well_formed x =
    row_settings_fit x.bare.settings.k.0 x.bare.settings.n x.bare.settings.q.0
    && run_fits x.bare.numbers.mode x.bare.numbers.run.0 x.bare.settings.q.0
    && run_level_fits x.bare.numbers.run.0 x.bare.numbers.runlevel
    && left_fits x.bare.numbers.mode x.bare.numbers.left.0 x.bare.settings.k.0
    && found_fits x.bare.numbers.mode x.bare.numbers.found x.bare.settings.n
    && level_fits x.bare.numbers.mode x.bare.numbers.level x.bare.numbers.runlevel
    && unused_zero x.bare.numbers.found x.bits
