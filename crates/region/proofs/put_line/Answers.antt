-- `put_line` meets its contract: the five pieces of the line are put one after another.
use Rattle.std.proofs.Common.{◌+◌, ◌^◌, ◌<◌, arith, length}
use Rattle.std.proofs.lemmas.Bool.{lt-leb}
use Rattle.std.specs.Int.Signed.{mag}
use Rattle.settings.proofs.Signs.{read_back}
use Rattle.text.specs.Decimal.{decimal, signed_decimal}
use Rattle.text.proofs.PutLaws.{put_short}
use Rattle.region.specs.Lines.{m1_text, at_text, feed, margin_line}
use Rattle.region.proofs.Pieces.{line_length, put_from}
use Rattle.region.proofs.put_line.Goals as goal

pub returns-then-room-at : goal.returns-then-room-at
returns-then-room-at c =
    let a = c.args in
    put_short (margin_line a.name.now a.m) a.at a.out.now
    (lt-leb (a.at + length (margin_line a.name.now a.m)) (length a.out.now) (omega (arith, c.if-room-at.true)))

-- the name is as long as any other
pub returns-then-room-at-2 : goal.returns-then-room-at-2
returns-then-room-at-2 c =
    let a = c.args in
    put_short (margin_line a.name.now a.m) a.at a.out.now
    (lt-leb (a.at + length (margin_line a.name.now a.m)) (length a.out.now)
    (omega (arith, c.line_size.ensures.size, line_length a.name.now a.m, line_length m1_text a.m)))

pub returns : goal.returns
returns c =
    let a = c.args in
    let size : mag a.m.margin < 2 ^ 63 = omega arith in
    put_from a.name.now (signed_decimal a.m.margin) at_text (decimal a.m.place) feed a.at a.out.now
    (omega (arith, c.line_size.ensures.size, line_length a.name.now a.m, line_length m1_text a.m))
    c.put_text-a.ensures
    (rw (read_back a.m.margin size) at c.put_signed-b.ensures)
    c.put_text-c.ensures c.put_number-d.ensures c.put_text.ensures
