-- What the program writes on its way is the whole output: its reads are the accepted capture's, and the lines from
-- fresh on are those of all their reports.
use Rattle.std.proofs.Common.{ℕ, ◌+◌, ◌≡◌, refl, ap, ◌∙◌, List, ◌++◌, add-zero, zero-add, arith, ltb, length, drop}
use lib.Seq.{take-append_seam}
use Rattle.measure.specs.Choose.{choose}
use Rattle.measure.specs.Ranges.{entries_most, input_most}
use Rattle.measure.specs.Refusals.{Answer, given, refused, refused_after}
use Rattle.measure.proofs.LevelLaws.{most_at}
use Rattle.capture.specs.Capture.{Capture, capture}
use Rattle.capture.specs.Answers.{summary, read_back}
use Rattle.capture.proofs.Good.{Good, capture_good}
use Rattle.capture.proofs.ReadLaws.{read_refused, read_refused_after, read_given}
use Rattle.board.specs.Rows.{fresh}
use Rattle.board.specs.Feeding.{reports}
use Rattle.board.specs.Packed.{receiver_of}
use Rattle.board.proofs.RowRules.{valid_fresh}
use Rattle.board.proofs.Standing.{ranged_of}
use Rattle.board.proofs.HeardLaws.{begun_fresh}
use Rattle.page.specs.Lines.{refused_line, end_line, event_lines, rows_in, capture_settings, capture_reads, printed}
use Rattle.page.specs.Lines.{output}
use Rattle.page.specs.Walk.{Whole, begin, lines_of, wrote_by, wrote}
use Rattle.page.proofs.ReportLines.{report_lines}

module _ (c : Capture) (good : Good c) where
  -- the way begins fresh
  begin_fresh : begin (summary c) ≡ record { receiver = receiver_of (capture_settings c) fresh; place = 0; rows = 0 }
  begin_fresh = rw (begun_fresh c.k c.n c.Q good.fit)

  page_lines : lines_of (begin (summary c)) (capture_reads c)
      ≡ event_lines (reports (capture_settings c) fresh 0 (capture_reads c))
      ++ end_line (length (capture_reads c)) (rows_in (reports (capture_settings c) fresh 0 (capture_reads c)))
  page_lines =
      rw begin_fresh
      (report_lines (capture_settings c) (length (capture_reads c) + 1) fresh 0 0 (capture_reads c)
      (valid_fresh (capture_settings c) (ranged_of (capture_settings c) good.fit))
      (most_at 1 (capture_reads c) good.levels) good.few
      (omega arith)
      ∙ rw (
        zero-add (length (capture_reads c)),
        add-zero (rows_in (reports (capture_settings c) fresh 0 (capture_reads c))),
      ))

wrote_printed : (input reads : List ℕ) → length reads ≡ entries_most
    → wrote_by (read_back input reads).0 (read_back input reads).1 ≡ printed (capture input)
wrote_printed input reads h = go (capture input) refl
  where
    go : (answer : Answer Capture) → capture input ≡ answer
        → wrote_by (read_back input reads).0 (read_back input reads).1 ≡ printed answer
    go (refused number place) e = rw (read_refused input reads number place e)
    go (refused_after number place count) e = rw (read_refused_after input reads number place count e)
    go (given c) e =
        let good = capture_good input c e in
        rw (
          read_given input reads c e (omega (arith, good.few)),
          take-append_seam (capture_reads c) (drop (length (capture_reads c)) reads),
          page_lines c good,
        )

pub whole : Whole
unfolding wrote output
whole input reads h = ap (choose (ltb input_most (length input)) (refused_line 3 0)) (wrote_printed input reads h)
