-- `read_into` meets its contract: the times listed and those still to come are all times.
use Rattle.std.proofs.Common.{ℕ, List, ◌*◌, ◌∙◌, ap, drop, sym}
use Rattle.timecode.proofs.Lists.{listing_none, listing_whole, listing_bad, listing_room, listing_one, listing_all}
use Rattle.timecode.proofs.Lists.{good_word_lem}
use lib.Seq.{sets}
use Rattle.timecode.proofs.read_into.Goals as goal

pub loop-at-init : goal.loop-at-init
loop-at-init c =
    rw (c.into_iter-at-iterator.ensures.into_iter_gives, c.words-at-items.ensures.0, c.words-at-items.ensures.1)
    (listing_none _ _)

pub word-word-requires : goal.word-word-requires
word-word-requires c = listing_whole c.loop-at.invariant c.requires c.in-Some.ensures.steps

pub returns-then-not-has_digits-in_range : goal.returns-then-not-has_digits-in_range
returns-then-not-has_digits-in_range c =
    let word = drop c.in-Some.at c.args.bits.list.now in
    let here = c.word-word.ensures in
    let good =
    good_word_lem _ _ _ _ word (rw here at c.has_digits.ensures) (rw here at c.time-time.ensures) c.in_range.ensures in
    listing_bad c.loop-at.invariant c.requires c.in-Some.ensures.steps (sym good ∙ c.if-not-has_digits-in_range.true)

pub put_time-requires : goal.put_time-requires
put_time-requires c = listing_room c.loop-at.invariant c.requires c.in-Some.ensures.steps

pub loop-at-preserved : goal.loop-at-preserved
loop-at-preserved c =
    let word = drop c.in-Some.at c.args.bits.list.now in
    let here = c.word-word.ensures in
    let time = rw here at c.time-time.ensures in
    let good = good_word_lem _ _ _ _ word (rw here at c.has_digits.ensures) time c.in_range.ensures in
    listing_one c.loop-at.invariant c.requires c.in-Some.ensures.steps _
    (sym good ∙ c.if-not-has_digits-in_range.false)
    (ap (λ (l : List ℕ). sets c.loop-at.out (4 * c.loop-at.words) l) (sym time) ∙ c.put_time.ensures)

pub returns : goal.returns
returns c = listing_all c.loop-at.invariant c.requires c.in-None.ensures.steps.0
