-- Rules S and R: what reading a stored plan answers and leaves in the lent output, for all input, and what each case of
-- the code says.
use Rattle.std.specs.Prelude.{ℕ, Bool, ◌&&◌, List, length, leb, ltb, eqb, Result}
use Rattle.measure.specs.Choose.{choose}
use Rattle.measure.specs.Ranges.{pad_most, rows_most}
use Rattle.measure.specs.Lists.{first_above, some_above, onto}
use Rattle.measure.specs.Refusals.{Answer, given, refused, says, ranged, limited}
use Rattle.sender.specs.Answers.{padded}
use Rattle.stored.specs.Stored.{joined, dropped}
use Rattle.stored.specs.declared.Plan.{Plan}
use Rattle.measure.specs.declared.Refusal.{Refusal}

-- S34: a stored plan has a row, a trail pad for each lead pad, and no pad that is out of range
abbrev pub stored_in_range : (leads trails : List ℕ) → Bool
stored_in_range leads trails =
    leb 1 (length leads) && eqb (length trails) (length leads) && padded leads && padded trails

-- S33: what is told of a plan that was read: how many rows it has, and how many cycles were dropped
pub record Told : Type 0 where
  pub rows : ℕ
  pub dropped : ℕ

-- R59: Reading a stored plan: refusal 1 with place 0 for a plan that is not in range, and then with the place of the
-- first row whose joined lead pad is over the greatest; 3 for more than 1,024 rows; 4.
unfoldable pub read_plan : (leads trails output : List ℕ) → Answer Told × List ℕ
read_plan leads trails output =
    ranged (stored_in_range leads trails) output
    (choose (some_above pad_most (joined leads trails)) (refused 1 (first_above pad_most (joined leads trails)), output)
    (limited rows_most (length leads) output
    (choose (ltb (length output) (length leads)) (refused 4 0, output)
    (given (record { rows = length leads; dropped = dropped trails }), onto (joined leads trails) output))))

-- A8: what is told of a plan that was read
abbrev pub told : Plan → Told
told plan = record { rows = plan.rows; dropped = plan.dropped.0 }

-- A8: what each case of the code's answer says
abbrev pub joined_says : Result Plan Refusal → Answer Told
joined_says answer = says told answer
