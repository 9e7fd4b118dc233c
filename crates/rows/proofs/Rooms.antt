-- A capture's reads are given only where the lent list has room for them.
use Prim.Native.Nat.{ℕ, ◌≤◌}
use mathlib.Core.Path.{◌≡◌}
use mathlib.Core.List.{List}
use native.Mathlib.Omega.{arith}
use lib.ListN.{length, replicate, length-replicate}
use Rattle.capture.specs.Answers.{read_back}
use Rattle.measure.specs.Refusals.{given}
use Rattle.capture.specs.declared.Summary.{Summary}
use Rattle.capture.proofs.RoundTrips as Captures

pub reads_fit : (bytes out out' : List ℕ) (s : Summary) → read_back bytes out ≡ (given s, out')
    → length out' ≡ length out → s.reads.0 ≤ length out'
reads_fit bytes out out' s e kept = omega (arith, Captures.reads_fit bytes out out' s e, kept)

-- so many zeros are no more than so many
pub zeros_most : (n : ℕ) → length (replicate {A = ℕ} n 0) ≤ n
zeros_most n = omega (arith, length-replicate {A = ℕ} n 0)
