-- `write_words` meets its contract: the words of the bytes left are still to be stored.
use Rattle.std.proofs.Common.{◌≡◌, ◌∙◌, ◌≤◌, ◌<◌, ◌+◌, refl, sym, arith, length}
use Rattle.measure.proofs.Stores.{stored_none, stored_one, stored_all}
use Rattle.halfcells.proofs.ListLaws.{words_step, words_end, level_step, level_end}
use Rattle.halfcells.proofs.write_words.Goals as goal

pub loop-i-init : goal.loop-i-init
loop-i-init c =
    let from : c.args.at + 0 ≡ c.args.at = omega arith in
    (rw from (stored_none _ _ _), refl)

pub loop-i-preserved : goal.loop-i-preserved
loop-i-preserved c =
    let here : c.loop-i.i < length c.args.bytes.now = omega arith in
    let next : c.args.at + (c.loop-i.i + 1) ≡ c.args.at + c.loop-i.i + 1 = omega arith in (
      rw next (stored_one (rw (words_step _ _ _ here, ← c.word-word.ensures) at c.loop-i.invariant.0)),
      c.loop-i.invariant.1 ∙ rw c.word-word.ensures (level_step _ _ _ here),
    )

pub returns : goal.returns
returns c =
    let all : length c.args.bytes.now ≤ c.loop-i.i = omega arith in (
      sym (c.loop-i.invariant.1 ∙ level_end _ _ _ all),
      sym (stored_all (rw (words_end _ _ _ all) at c.loop-i.invariant.0)),
    )
