-- `walk_to_word` meets its contract: at each bit the number of the last 16 tells whether a mark ends there.
use Rattle.std.proofs.Common.{◌≡◌, ℕ, List, ◌+◌, ◌-◌, ◌∙◌, ◌<◌, ◌≤◌, length, take, drop, get_or, arith}
use Rattle.std.proofs.lemmas.List.{length-take, length-drop}
use lib.Seq.{get_or-take, get_or-drop}
use Rattle.measure.proofs.LevelLaws.{most_none_some}
use Rattle.timecode.proofs.Search.{searching_none, searching_one, searching_found, none_left}
use Rattle.timecode.proofs.Bits.walk_to_word.Goals as goal

-- a bit of the rest of a list, by its place in the list
within : (list : List ℕ) (k i : ℕ) → i < length (take (length list - k) (drop k list)) → k + i < length list
within list k i h = omega (arith, length-take (length list - k) (drop k list), length-drop k list)

there : (list : List ℕ) (k i : ℕ) → i < length (take (length list - k) (drop k list))
    → get_or (take (length list - k) (drop k list)) i 0 ≡ get_or list (k + i) 0
there list k i h =
    get_or-take (length list - k) (drop k list) i 0 (omega (arith, within list k i h)) ∙ get_or-drop k list i 0

pub loop-i-init : goal.loop-i-init
loop-i-init c =
    let e : c.args.from + 64 + 0 ≡ c.args.from + 64 = omega arith in
    rw e (searching_none _ _ c.requires)

pub overflow_mul-full : goal.overflow_mul-full
overflow_mul-full c = omega (arith, c.loop-i.invariant.small)

pub overflow_sub-result : goal.overflow_sub-result
overflow_sub-result c =
    let list = c.args.self.list.now in
    let k = c.args.from + 64 in
    let i = c.loop-i.i in
    let bit = c.from.ensures ∙ there list k i c.loop-i-test.true in
    let found =
    searching_found c.loop-i.invariant (most_none_some 1 list c.args.self.all_bits) (within list k i c.loop-i-test.true)
    (rw bit at c.if-full-eq-MARK.true) in
    omega (arith, found.0)

pub returns-then-full-eq-MARK : goal.returns-then-full-eq-MARK
returns-then-full-eq-MARK c =
    let list = c.args.self.list.now in
    let k = c.args.from + 64 in
    let i = c.loop-i.i in
    let bit = c.from.ensures ∙ there list k i c.loop-i-test.true in
    let found =
    searching_found c.loop-i.invariant (most_none_some 1 list c.args.self.all_bits) (within list k i c.loop-i-test.true)
    (rw bit at c.if-full-eq-MARK.true) in
    let place : k + i - 79 ≡ c.args.from + i - 15 = omega arith in
    rw place at found.1

pub loop-i-preserved : goal.loop-i-preserved
loop-i-preserved c =
    let list = c.args.self.list.now in
    let k = c.args.from + 64 in
    let i = c.loop-i.i in
    let bit = c.from.ensures ∙ there list k i c.loop-i-test.true in
    let next : k + (i + 1) ≡ k + i + 1 = omega arith in
    rw (bit, next)
    (searching_one c.loop-i.invariant (most_none_some 1 list c.args.self.all_bits) (within list k i c.loop-i-test.true)
    (rw bit at c.if-full-eq-MARK.false))

pub returns : goal.returns
returns c =
    let list = c.args.self.list.now in
    let k = c.args.from + 64 in
    let end : length list ≤ k + c.loop-i.i =
    omega (arith, c.loop-i-test.false, length-drop k list, length-take (length list - k) (drop k list)) in
    c.loop-i.invariant.passed ∙ none_left list _ (omega arith)
