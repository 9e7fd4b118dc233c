-- `decode_into` meets its contract: what is written, followed by the bytes of the words left, is the bytes of all.
use Rattle.std.proofs.Common.{◌≤◌, ◌<◌, sym, arith, length}
use Rattle.measure.proofs.Wrote.{wrote_more, wrote_all}
use Rattle.halfcells.proofs.ListLaws.{bytes_step, bytes_end}
use Rattle.halfcells.proofs.decode_into.Goals as goal

pub loop-at-preserved : goal.loop-at-preserved
loop-at-preserved c =
    let here : c.loop-at.at < length c.args.words.now = omega arith in
    wrote_more _ _ _ _ _ _ (rw (bytes_step _ _ here, ← c.byte_of.ensures) at c.loop-at.invariant) (omega arith)

pub returns : goal.returns
returns c =
    let all : length c.args.words.now ≤ c.loop-at.at = omega arith in
    sym (wrote_all _ _ _ _ (rw (bytes_end _ _ all) at c.loop-at.invariant) (omega arith))
