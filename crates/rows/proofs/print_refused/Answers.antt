-- `print_refused` is safe: the line has room.
use mathlib.Core.Path.{◌≡◌, sym}
use mathlib.Core.List.{List}
use native.Mathlib.Omega.{arith}
use Prim.Native.Nat.{ℕ, ◌≤◌}
use Rattle.std.proofs.Common.{Result}
use lib.ListN.{length, replicate, length-replicate}
use lib.Seq.{length-take-le}
use Rattle.measure.specs.Refusals.{given, number_of, place_of, lent}
use Rattle.measure.specs.declared.Refusal.{Refusal}
use Rattle.page.specs.Answers.{put_says}
use Rattle.page.specs.Lines.{refused_line}
use Rattle.page.proofs.Longest.{refused_most}
use Rattle.rows.proofs.Turning.{put_within}
use Rattle.rows.proofs.print_refused.Goals as goal

-- how much of it is written
within : (refusal : Refusal) (put : Result ℕ Refusal) (out : List ℕ) (bytes : ℕ)
    → lent (refused_line (number_of refusal) (place_of refusal)) (replicate 1050 0) ≡ (put_says put, out)
    → ((n : ℕ) → put_says put ≡ given n → bytes ≡ n) → length out ≡ length (replicate {A = ℕ} 1050 0)
    → bytes ≤ length out
within refusal put out bytes =
    put_within (refused_line (number_of refusal) (place_of refusal)) (replicate 1050 0) out put bytes
    (omega (arith, refused_most refusal, length-replicate {A = ℕ} 1050 0))

pub slice_bounds-line-end : goal.slice_bounds-line-end
slice_bounds-line-end g c =
    within c.args.refusal _ _ _ c.put_refused.ensures c.bytes_of-bytes.ensures c.put_refused.auto.out

pub slice_bounds-write_all-end : goal.slice_bounds-write_all-end
slice_bounds-write_all-end g c =
    sym (length-take-le c.bytes_of-bytes.result c.put_refused.new.out
    (within c.args.refusal _ _ _ c.put_refused.ensures c.bytes_of-bytes.ensures c.put_refused.auto.out))
