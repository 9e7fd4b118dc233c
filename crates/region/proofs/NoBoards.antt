-- The lines of a region with no boards are of one text, and an output too short for it is refused.
use Rattle.std.proofs.Common.{◌≡◌, refl, ap, ◌∙◌, List, ℕ, ◌≤◌, ◌<◌, arith, length}
use Rattle.measure.specs.Refusals.{given, refused, lent}
use Rattle.text.specs.Decimal.{decimal_in}
use Rattle.text.specs.Putting.{put_at}
use Rattle.text.proofs.PutLaws.{put_one, one_short}
use Rattle.settings.specs.Survey.{none}
use Rattle.region.specs.Lines.{report_lines}
use Rattle.region.specs.Cases.{empty_text}

whole : report_lines none ≡ empty_text
unfolding decimal_in
whole = refl

size : length empty_text ≡ 41
size = refl

pub none_short : (output : List ℕ) → length output < 41 → lent (report_lines none) output ≡ (refused 4 0, output)
none_short output h =
    ap (λ (lines : List ℕ). lent lines output) whole ∙ one_short empty_text output (omega (arith, size))

pub none_put : (output left : List ℕ) (end : ℕ) → 41 ≤ length output → put_at empty_text 0 output ≡ (end, left)
    → lent (report_lines none) output ≡ (given end, left)
none_put output left end h e =
    ap (λ (lines : List ℕ). lent lines output) whole ∙ put_one empty_text output left end (omega (arith, size)) e
