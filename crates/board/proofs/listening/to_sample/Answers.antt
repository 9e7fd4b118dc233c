-- `to_sample` meets its contract: it is a search, in which each read before the sample leaves one fewer.
use Rattle.std.proofs.Common.{◌-◌, arith}
use Rattle.board.specs.Rows.{counting}
use Rattle.board.specs.Packed.{rules_of}
use Rattle.board.proofs.ListeningLaws.{next_quiet, counting_on, counting_sample}
use Rattle.board.proofs.SearchLaws.{search_starts, search_ends, search_bad, search_quiet, search_finds, search_goes_on}
use Rattle.board.proofs.listening.to_sample.Goals as goal

pub loop-i-init : goal.loop-i-init
loop-i-init c = (c.requires.room.2, search_starts c.requires.room.0 c.requires.room.1)

pub returns-then-read-gt-HIGH : goal.returns-then-read-gt-HIGH
returns-then-read-gt-HIGH c = search_bad c.loop-i.invariant.1 c.loop-i-test.true c.if-read-gt-HIGH.true

pub returns-then-run-q : goal.returns-then-run-q
returns-then-run-q c =
    rw c.broken-heard.ensures
    (search_quiet c.loop-i.invariant.1
    c.loop-i-test.true c.if-read-gt-HIGH.false c.longer-run.ensures
    c.if-run-q.true
    (λ below full bits. next_quiet (rules_of c.args.settings) (counting _ _ _ bits) _ below full))

pub returns-then-left-eq0 : goal.returns-then-left-eq0
returns-then-left-eq0 c =
    search_finds c.loop-i.invariant.1
    c.loop-i-test.true c.if-read-gt-HIGH.false
    c.longer-run.ensures c.if-run-q.false
    (λ below short bits. counting_sample (rules_of c.args.settings) _ _ bits _ below _ short c.if-left-eq0.true)

pub loop-i-preserved : goal.loop-i-preserved
loop-i-preserved c =
    let l = c.loop-i in (
      omega (arith, c.if-left-eq0.false),
      search_goes_on l.invariant.1 c.loop-i-test.true
          c.if-read-gt-HIGH.false c.longer-run.ensures
          (λ run bits. counting (l.left - 1) c.args.start.level run bits) c.if-run-q.false
          (λ below short bits. counting_on (rules_of c.args.settings) _ _ bits _ below _ short c.if-left-eq0.false),
    )

pub returns : goal.returns
returns c =
    rw c.nothing-heard.ensures
    (search_ends c.loop-i.invariant.1 _ c.loop-i-test.false
    (λ bits e. rw (e, c.requires.mode_value)))
