-- `to_mark` meets its contract: it is a search, in which a read at the level kept changes the run alone.
use Rattle.board.specs.Rows.{waiting}
use Rattle.board.specs.Packed.{rules_of}
use Rattle.board.proofs.ListeningLaws.{next_quiet, waiting_on, waiting_mark}
use Rattle.board.proofs.SearchLaws.{search_starts, search_ends, search_bad, search_quiet, search_finds, search_goes_on}
use Rattle.board.proofs.listening.to_mark.Goals as goal

pub loop-i-init : goal.loop-i-init
loop-i-init c = search_starts c.requires.room.0 c.requires.room.1

pub returns-then-read-gt-HIGH : goal.returns-then-read-gt-HIGH
returns-then-read-gt-HIGH c = search_bad c.loop-i.invariant c.loop-i-test.true c.if-read-gt-HIGH.true

pub returns-then-run-q : goal.returns-then-run-q
returns-then-run-q c =
    rw c.broken-heard.ensures
    (search_quiet c.loop-i.invariant
    c.loop-i-test.true c.if-read-gt-HIGH.false c.longer-run.ensures
    c.if-run-q.true
    (λ below full bits. next_quiet (rules_of c.args.settings) (waiting _ _ bits) _ below full))

pub returns-then-read-level : goal.returns-then-read-level
returns-then-read-level c =
    search_finds c.loop-i.invariant
    c.loop-i-test.true c.if-read-gt-HIGH.false
    c.longer-run.ensures c.if-run-q.false
    (λ below short bits. waiting_mark (rules_of c.args.settings) _ _ bits _ below short c.if-read-level.true)

pub loop-i-preserved : goal.loop-i-preserved
loop-i-preserved c =
    search_goes_on c.loop-i.invariant
    c.loop-i-test.true c.if-read-gt-HIGH.false
    c.longer-run.ensures (λ run bits. waiting c.args.start.level run bits) c.if-run-q.false
    (λ below short bits. waiting_on (rules_of c.args.settings) _ _ bits _ below short c.if-read-level.false)

pub returns : goal.returns
returns c =
    rw c.nothing-heard.ensures
    (search_ends c.loop-i.invariant _ c.loop-i-test.false
    (λ bits e. rw (e, c.requires.mode_value, c.requires.room.2)))
