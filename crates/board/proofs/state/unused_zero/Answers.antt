-- `unused_zero` meets its contract: the byte in which the next bit falls is below that bit's weight, and every later
-- byte is 0.
use Rattle.std.proofs.Common.{ℕ, ◌≡◌, refl, ◌∙◌, suc, ◌+◌, ◌-◌, ◌/◌, Bool, List, length, take, drop, add-one, arith}
use Rattle.std.proofs.lemmas.List.{take_rest}
use lib.Seq.{drop-drop}
use Rattle.board.specs.WellFormed.{all_zero}
use Rattle.board.proofs.UnusedBits.{unused_over, unused_rest, zero_part, zero_past}
use Rattle.board.proofs.state.unused_zero.Goals as goal

-- the 64 bytes after the byte of the next bit
near : (l : List ℕ) (at : ℕ) (b : Bool) → all_zero (take (at + 1 + 64 - (at + 1)) (drop (at + 1) l)) ≡ b
    → all_zero (take 64 (drop (suc at) l)) ≡ b
near l at b e = let size : at + 1 + 64 - (at + 1) ≡ 64 = omega arith in rw (size, add-one at) at e

pub returns-then-weight-byte : goal.returns-then-weight-byte
returns-then-weight-byte c =
    unused_over c.args.bits.now c.args.found (omega (arith, c.requires, c.told-bits)) c.fits-bits
    (rw c.weight.ensures c.if-weight-byte.true)

pub returns-then-not-all_zero : goal.returns-then-not-all_zero
returns-then-not-all_zero c =
    let l = c.args.bits.now in
    let at = c.args.found / 8 in
    unused_rest l c.args.found (omega (arith, c.requires, c.told-bits)) c.fits-bits
    (rw c.weight.ensures c.if-weight-byte.false)
    ∙ zero_part (drop (suc at) l) 64 (near l at _ c.all_zero.ensures ∙ c.if-not-all_zero.true)

pub returns-then-at-lt64 : goal.returns-then-at-lt64
returns-then-at-lt64 c =
    let l = c.args.bits.now in
    let at = c.args.found / 8 in
    let e : all_zero (take (length l - 64) (drop 64 l)) ≡ c.all_zero-then-at-lt64.result = c.all_zero-then-at-lt64.ensures in
    let there : suc at + (63 - at) ≡ 64 = omega (arith, c.if-at-lt64.true) in
    unused_rest l c.args.found (omega (arith, c.requires, c.told-bits)) c.fits-bits
    (rw c.weight.ensures c.if-weight-byte.false)
    ∙ zero_past (drop (suc at) l) (63 - at) 64 (omega arith)
    (near l at _ c.all_zero.ensures ∙ c.if-not-all_zero.false)
    ∙ rw (drop-drop, there) refl
    ∙ (rw (take_rest l 64) at e)

pub returns : goal.returns
returns c =
    let l = c.args.bits.now in
    let at = c.args.found / 8 in
    let e : all_zero (take (length l - (at + 1)) (drop (at + 1) l)) ≡ c.all_zero-2.result
    = c.all_zero-2.ensures in
    unused_rest l c.args.found (omega (arith, c.requires, c.told-bits)) c.fits-bits
    (rw c.weight.ensures c.if-weight-byte.false)
    ∙ (rw (take_rest l (at + 1), add-one at) at e)
