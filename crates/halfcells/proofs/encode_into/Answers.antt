-- `encode_into` meets its contract: the words of the bytes left are still to be stored.
use Rattle.std.proofs.Common.{◌≡◌, ◌∙◌, ◌≤◌, ◌+◌, sym, ap, arith, length, drop, length-append, drop-drop}
use Rattle.std.proofs.lemmas.List.{drop_at}
use Rattle.std.proofs.lemmas.Slice.{between_to_end}
use Rattle.std.specs.Slice.Iter.{chunks_exact_rest}
use Rattle.measure.proofs.Stores.{stored_none, stored_part}
use Rattle.measure.proofs.Laid.{laid_first}
use Rattle.halfcells.specs.HalfCells.{words_from, words_of}
use Rattle.halfcells.proofs.ListLaws.{words_append, length_words}
use Rattle.halfcells.proofs.encode_into.Goals as goal

pub loop-eight-init : goal.loop-eight-init
loop-eight-init c =
    let all : chunks_exact_rest c.into_iter-eight-iterator.result ≡ c.args.bytes.now = cc in
    (cc, all, omega (arith, ap length all), rw all (stored_none _ _ _))

pub loop-eight-preserved : goal.loop-eight-preserved
loop-eight-preserved c =
    let turn = c.in-Some.ensures.steps in
    let loop = c.loop-eight in
    let written = c.write_words-level in
    let eight = c.in-Some.eight.now in
    let long : length eight ≡ 8 = turn.1.1 ∙ loop.invariant.0 in (
      turn.0 ∙ loop.invariant.0,
      sym (drop_at eight _ 8 long) ∙ ap (drop 8) (sym turn.1.0 ∙ loop.invariant.1) ∙ drop-drop 8 loop.at c.args.bytes.now,
      omega (arith, long, simp length-append at (ap length turn.1.0)),
      rw written.ensures.0
          (stored_part (words_from loop.level eight) written.new.out (loop.at + 8)
          (rw (turn.1.0, words_append loop.level eight) at loop.invariant.3) (sym written.ensures.1)
          (omega (arith, long, length_words loop.level eight))),
    )

pub returns : goal.returns
returns c =
    let loop = c.loop-eight in
    let bytes = c.args.bytes.now in
    let room : length (words_of bytes) ≤ length c.args.out.now = rw length_words (omega arith) in
    sym (laid_first (words_of bytes) c.args.out.now room)
    ∙ sym loop.invariant.3.whole
    ∙ rw loop.invariant.1 (rw (between_to_end bytes loop.at (length bytes) (omega arith)) at c.write_words.ensures.1)
