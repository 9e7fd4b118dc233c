-- Turn by turn the lines are those of all reports and the last: a turn takes the reads up to the first report, puts its
-- line, and leaves the others to the turns after it.
use Rattle.std.proofs.Common.{ℕ, zero, suc, ◌+◌, ◌-◌, ◌≤◌, ◌<◌, ◌≡◌, refl, sym, ◌∙◌, ap, true, List, [], ◌∷◌, ◌++◌, map, append_assoc, append-nil, zero-add, arith, length, take, drop, length-drop, get_or-drop}
use Rattle.measure.specs.Choose.{choose}
use Rattle.measure.specs.Ranges.{entries_most}
use Rattle.measure.specs.Refusals.{given}
use Rattle.board.specs.Rows.{Settings, State, Event, nothing, row, broken, next}
use Rattle.board.specs.Feeding.{Report, reports, after}
use Rattle.board.specs.Packed.{receiver_of}
use Rattle.board.specs.Answers.{to_event}
use Rattle.board.proofs.PackedBits.{Binary, binary_take}
use Rattle.board.proofs.RowRules.{Valid}
use Rattle.board.proofs.FeedingLaws.{later, reports_later}
use Rattle.board.proofs.HeardLaws.{Some, First, first_report, valid_after, listened_levels}
use Rattle.page.specs.Lines.{event_line, end_line, event_lines, one_more, rows_in}
use Rattle.page.specs.Walk.{Walk, after_turn, line_at, goes_on, lines_from}

-- what an event does in a turn
line_event : (w : Walk) (event : Event) → Some event → line_at w (given event) ≡ event_line (w.place - 1) event
line_event w nothing some = absurd some
line_event w (row bits) some = refl
line_event w (broken found) some = refl

goes_event : (event : Event) → Some event → goes_on (given event) ≡ true
goes_event nothing some = absurd some
goes_event (row bits) some = refl
goes_event (broken found) some = refl

counts_on : (event : Event) (a b : ℕ) → one_more event a + b ≡ a + one_more event b
counts_on nothing a b = refl
counts_on (row bits) a b = omega arith
counts_on (broken found) a b = refl

-- the page from a place on: a line for each report and the last line
abbrev page_from : ℕ → List Report → ℕ → List ℕ
page_from end told rows = event_lines told ++ end_line end (rows_in told + rows)

page_none : (end rows : ℕ) → end_line end rows ++ [] ≡ page_from end [] rows
unfolding event_lines rows_in
page_none end rows = append-nil (end_line end rows) ∙ rw (zero-add rows)

-- a report's line, and then the page without it
page_more : (end : ℕ) (report : Report) (more : List Report) (rows : ℕ)
    → event_line report.place report.event ++ page_from end more (one_more report.event rows)
    ≡ page_from end (report ∷ more) rows
unfolding event_lines rows_in
page_more end report more rows =
    rw (counts_on report.event (rows_in more) rows)
    (sym (append_assoc (event_line report.place report.event) (event_lines more)
    (end_line end (rows_in more + one_more report.event rows))))

pub report_lines : (g : Settings) (turns : ℕ) (s : State) (place rows : ℕ) (reads : List ℕ) → Valid g s → Binary reads
    → length reads ≤ entries_most → length reads < turns
    → lines_from turns (record { receiver = receiver_of g s; place = place; rows = rows }) reads
    ≡ page_from (place + length reads) (reports g s place reads) rows
unfolding lines_from
report_lines g zero s place rows reads v b h t = absurd (omega arith)
report_lines g (suc turns) s place rows reads v b h t =
    let e : reports g s place reads ≡ map (later place) (reports g s 0 reads) =
    rw zero-add at (reports_later (next g) s 0 place reads) in
    rw (listened_levels g s reads v b h, e) (go (reports g s 0 reads) refl (report_lines g turns))
  where
    w : Walk
    w = record { receiver = receiver_of g s; place = place; rows = rows }

    go : (told : List Report) → reports g s 0 reads ≡ told
        → ((s : State) (place rows : ℕ) (reads : List ℕ) → Valid g s → Binary reads → length reads ≤ entries_most
        → length reads < turns
        → lines_from turns (record { receiver = receiver_of g s; place = place; rows = rows }) reads
        ≡ page_from (place + length reads) (reports g s place reads) rows)
        → line_at (after_turn w (to_event g s reads told)) (to_event g s reads told).0.answer
        ++ choose (goes_on (to_event g s reads told).0.answer)
        (lines_from turns (after_turn w (to_event g s reads told)) (drop (to_event g s reads told).1 reads)) []
        ≡ page_from (place + length reads) (map (later place) told) rows
    go [] e rest = page_none (place + length reads) rows
    go (report ∷ more) e rest =
        let f : First (next g) s 0 reads report more = first_report (next g) s 0 reads report more e in
        let n : ℕ = report.place + 1 in
        let u : 0 + f.used ≡ n = sym f.at in
        let z : f.used ≡ n = sym (zero-add f.used) ∙ u in
        let end : State = after g s (take n reads) in
        let left : List ℕ = drop n reads in
        let most : n ≤ length reads = rw z at f.most in
        let size : length left ≡ length reads - n = length-drop n reads in
        let others : more ≡ reports g end n left = rw (u, z) at f.others in
        let turned : n + place ≡ place + n = omega arith in
        let all : map (later place) more ≡ reports g end (place + n) left =
        ap (map (later place)) others ∙ sym (reports_later (next g) end n place left)
        ∙ ap (λ (p : ℕ). reports g end p left) turned
        in
        let more-lines = rest end (place + n) (one_more report.event rows) left
        (valid_after g s (take n reads) v (binary_take n reads b))
        (λ i. rw (get_or-drop n reads i 0) (b (n + i)))
        (omega arith)
        (omega arith)
        in
        let here : place + n - 1 ≡ report.place + place = omega arith in
        let whole : place + n + length left ≡ place + length reads = omega arith in
        rw (
          line_event (after_turn w (to_event g s reads (report ∷ more))) report.event f.some,
          goes_event report.event f.some,
          more-lines,
          all,
          here,
          whole,
        )
        (page_more (place + length reads) (later place report) (reports g end (place + n) left) rows)
