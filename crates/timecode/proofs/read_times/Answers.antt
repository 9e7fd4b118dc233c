-- `read_times` meets its contract: the tests that led to a return pick the definition's case, and the core gives the
-- last.
use Rattle.std.proofs.Common.{◌∙◌, sym}
use borrow.Author.Tests.{leb-true, leb-false, lt-ltb, le-ltb}
use Rattle.measure.proofs.Checked.{good_entries}
use Rattle.timecode.specs.Answers.{read_times}
use Rattle.timecode.proofs.read_times.Goals as goal

pub returns-then-not-has_room : goal.returns-then-not-has_room
unfolding read_times
returns-then-not-has_room c =
    simp (
      le-ltb _ _ c.if-bits-gt-ENTRIES_MOST.false,
      good_entries _ _ _ c.in_ok-check_entries.ensures,
      lt-ltb _ _ (leb-false _ _ (sym c.has_room.ensures ∙ c.if-not-has_room.true)),
    )

pub read_into-requires : goal.read_into-requires
read_into-requires c = leb-true _ _ (sym c.has_room.ensures ∙ c.if-not-has_room.false)

pub returns : goal.returns
unfolding read_times
returns c =
    simp (
      le-ltb _ _ c.if-bits-gt-ENTRIES_MOST.false,
      good_entries _ _ _ c.in_ok-check_entries.ensures,
      le-ltb _ _ (leb-true _ _ (sym c.has_room.ensures ∙ c.if-not-has_room.false)),
    )
    c.read_into.ensures
