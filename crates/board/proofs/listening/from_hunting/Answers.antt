-- `from_hunting` meets its contract: until the run is q a read changes the run alone, and with that read the mode is
-- ready.
use Rattle.std.proofs.Common.{◌≡◌, sym, ◌∙◌, get_or, arith}
use Rattle.board.specs.Rows.{run_of, hunting}
use Rattle.board.specs.Packed.{rules_of}
use Rattle.board.specs.Listening.{longer}
use Rattle.board.proofs.ListeningLaws.{heard_end, heard_bad, heard_move, longer_most, next_quiet, next_on}
use Rattle.board.proofs.listening.from_hunting.Goals as goal

pub returns-then-read-gt-HIGH : goal.returns-then-read-gt-HIGH
returns-then-read-gt-HIGH c = λ x.
    let l = c.loop-i in
    l.invariant.3 x
    ∙ heard_bad x (rules_of c.args.start.settings) _ l.i c.args.reads.now c.loop-i-test.true c.if-read-gt-HIGH.true

pub returns-then-equal-q : goal.returns-then-equal-q
returns-then-equal-q c = λ x.
    let l = c.loop-i in
    let g = rules_of c.args.start.settings in
    l.invariant.3 x
    ∙ heard_move x g _ _ l.i c.args.reads.now c.loop-i-test.true c.if-read-gt-HIGH.false
    (next_quiet g (hunting (run_of l.equal l.level)) _ l.invariant.1 (c.longer-equal.ensures ∙ c.if-equal-q.true))
    ∙ c.from_ready.ensures x

pub loop-i-preserved : goal.loop-i-preserved
loop-i-preserved c =
    let l = c.loop-i in
    let g = rules_of c.args.start.settings in
    let read = get_or c.args.reads.now l.i 0 in
    let e = c.longer-equal.ensures in
    let on : longer l.equal l.level read ≡ g.Q → ⊥ = λ d. c.if-equal-q.false (sym e ∙ d) in
    rw (← e) (
      omega arith,
      omega (arith, longer_most g.Q (run_of l.equal l.level) read l.invariant.1, on),
      l.invariant.2,
      λ x. l.invariant.3 x
          ∙ heard_move x g _ _ l.i c.args.reads.now c.loop-i-test.true c.if-read-gt-HIGH.false
          (next_on g (hunting (run_of l.equal l.level)) read l.invariant.1 on),
    )

pub returns : goal.returns
returns c = λ x.
    let l = c.loop-i in
    l.invariant.3 x ∙ heard_end x (rules_of c.args.start.settings) _ l.i c.args.reads.now l.invariant.0 c.loop-i-test.false
    ∙ rw (c.nothing.ensures, c.hunting.ensures, l.invariant.2)
