-- `put_figures` meets its contract: the six pieces of its lines are put one after another.
use Rattle.std.proofs.Common.{◌≡◌, ℕ, ◌+◌, arith, length}
use Rattle.settings.specs.declared.surveying.Smallest.{Smallest}
use Rattle.text.specs.Decimal.{decimal}
use Rattle.region.specs.Lines.{accepted_text, m1_text, m2_text, m3_text, feed, margin_line}
use Rattle.region.proofs.Pieces.{line_length, put_six, six_short}
use Rattle.region.proofs.put_figures.Goals as goal

-- what room is asked for is what the lines take, since every name has three bytes
asked_for : (accepted : ℕ) (one two three : Smallest) (n a b c : ℕ) → n ≡ length (decimal accepted)
    → a ≡ length (margin_line m1_text one) → b ≡ length (margin_line m1_text two)
    → c ≡ length (margin_line m1_text three)
    → 9 + n + 1 + a + b + c
    ≡ length accepted_text + length (decimal accepted) + length feed + length (margin_line m1_text one)
    + length (margin_line m2_text two)
    + length (margin_line m3_text three)
asked_for accepted one two three n a b c d e f g =
    omega (
      arith,
      line_length m1_text two,
      line_length m2_text two,
      line_length m1_text three,
      line_length m3_text three,
    )

pub returns-then-out-first : goal.returns-then-out-first
returns-then-out-first c =
    let f = c.args.f in
    let asked =
    asked_for f.accepted f.m1 f.m2 f.m3 _ _ _ _ c.number_size.ensures c.line_size.ensures.size c.line_size-2.ensures.size
    c.line_size-3.ensures.size in
    six_short accepted_text (decimal f.accepted) feed (margin_line m1_text f.m1) (margin_line m2_text f.m2)
    (margin_line m3_text f.m3) c.args.out.now
    (omega (arith, c.if-out-first.true, asked))

pub returns : goal.returns
returns c =
    let f = c.args.f in
    let asked =
    asked_for f.accepted f.m1 f.m2 f.m3 _ _ _ _ c.number_size.ensures c.line_size.ensures.size c.line_size-2.ensures.size
    c.line_size-3.ensures.size in
    put_six accepted_text (decimal f.accepted) feed (margin_line m1_text f.m1) (margin_line m2_text f.m2)
    (margin_line m3_text f.m3) c.args.out.now
    (omega (arith, c.if-out-first.false, asked))
    c.put_text-a.ensures c.put_number-b.ensures c.put_text-c.ensures c.put_line-d.ensures c.put_line-e.ensures
    c.put_line.ensures
