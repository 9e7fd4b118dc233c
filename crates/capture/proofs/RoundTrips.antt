-- The two round trips: a capture's numbers and its bytes determine one another, and so do its runs and its reads.
use Rattle.std.proofs.Common.{ℕ, ◌≤◌, ◌≡◌, refl, sym, ap, ◌∙◌, List, arith, ltb, length, take, drop, take_at, le-ltb}
use Rattle.std.proofs.Common.{ltb-false}
use Rattle.measure.specs.Ranges.{entries_most, row_settings_fit}
use Rattle.measure.specs.Levels.{AtMost, Levels}
use Rattle.measure.specs.Lists.{first_above, some_above, onto}
use Rattle.measure.specs.Refusals.{Answer, given, refused, refused_after}
use Rattle.measure.proofs.Given.{refused_none, held, failed}
use Rattle.measure.proofs.LevelLaws.{most_at, most_none_some, none_some}
use Rattle.capture.specs.Capture.{Capture, capture, reads_of_runs}
use Rattle.capture.specs.Writing.{runs_of, first_level, capture_of}
use Rattle.capture.specs.Answers.{summary, unrolled, read_back, written}
use Rattle.capture.specs.RoundTrips.{ReadsBack, WritesBack, WrittenReadsBack, ReadWritesBack}
use Rattle.capture.specs.declared.Summary.{Summary}
use Rattle.capture.proofs.Groups.{Bytes}
use Rattle.capture.proofs.Runs.{length_reads, reads_levels}
use Rattle.capture.proofs.ReadsBack.{reads_back, capture_back}
use Rattle.capture.proofs.WritesBack.{accepted, capture_again}
use Rattle.capture.proofs.WriteLaws.{InRange, write_whole}

-- a list none of whose entries is above 255 has bytes
all_bytes : (l : List ℕ) → AtMost 255 l → Bytes l
all_bytes l all i = omega (arith, most_at 255 l all i)

pub reads_written_back : ReadsBack
reads_written_back k n Q reads r h l = record {
  is = record { k = k; n = n; Q = Q; level = first_level reads; runs = runs_of reads };
  accepted = capture_back k n Q reads r h l;
  same_k = refl;
  same_n = refl;
  same_q = refl;
  same_reads = reads_back reads l;
}

pub bytes_read_back : WritesBack
bytes_read_back bytes e c g = capture_again bytes c (all_bytes bytes e) g

-- what writing did, where it gave a size
record Wrote (k n Q : ℕ) (reads out out' : List ℕ) (size : ℕ) : Type 0 where
  in_range : InRange k n Q
  few : length reads ≤ entries_most
  low : Levels reads
  sized : length (capture_of k n Q reads) ≡ size
  laid : onto (capture_of k n Q reads) out ≡ out'

wrote : (k n Q : ℕ) (reads out out' : List ℕ) (size : ℕ) → written k n Q reads out ≡ (given size, out')
    → Wrote k n Q reads out out' size
unfolding written
wrote k n Q reads out out' size e =
    let fit = held 1 0 out out' size (row_settings_fit k n Q) _ e in
    let few = failed 3 0 out out' size (ltb entries_most (length reads)) _ fit.1 in
    let low = failed 2 (first_above 1 reads) out out' size (some_above 1 reads) _ few.1 in
    let room = failed 4 0 out out' size (ltb (length out) (length (capture_of k n Q reads))) _ low.1 in
    let f : given (length (capture_of k n Q reads)) ≡ given size = ap (λ (p : Answer ℕ × List ℕ). p.0) room.1 in
    record {
      in_range = fit.0;
      few = ltb-false entries_most (length reads) few.0;
      low = most_none_some 1 reads low.0;
      sized = cc;
      laid = ap (λ (p : Answer ℕ × List ℕ). p.1) room.1;
    }

pub written_read_back : WrittenReadsBack
unfolding read_back
written_read_back k n Q reads out out' room size e h =
    let w = wrote k n Q reads out out' size e in
    let same : reads_of_runs (first_level reads) (runs_of reads) ≡ reads = reads_back reads w.low in
    let bytes : take size out' ≡ capture_of k n Q reads = ap (take size) (sym w.laid)
    ∙ take_at (capture_of k n Q reads) (drop (length (capture_of k n Q reads)) out) size w.sized in
    rw (bytes, capture_back k n Q reads w.in_range w.few w.low, same, le-ltb (length room) (length reads) h)

-- what reading did, where it gave a summary
record Read (bytes room room' : List ℕ) (s : Summary) : Type 0 where
  is : Capture
  accepted_is : capture bytes ≡ given is
  summed_up : summary is ≡ s
  roomy : length (reads_of_runs is.level is.runs) ≤ length room
  laid : onto (reads_of_runs is.level is.runs) room ≡ room'

read : (bytes room room' : List ℕ) (s : Summary) → read_back bytes room ≡ (given s, room') → Read bytes room room' s
unfolding read_back
read bytes room room' s = go (capture bytes) refl
  where
    go : (answer : Answer Capture) → capture bytes ≡ answer → unrolled answer room ≡ (given s, room')
        → Read bytes room room' s
    go (given c) e f =
        let g = failed 4 0 room room' s (ltb (length room) (length (reads_of_runs c.level c.runs))) _ f in
        let h : given (summary c) ≡ given s = ap (λ (p : Answer Summary × List ℕ). p.0) g.1 in
        record {
          is = c;
          accepted_is = e;
          summed_up = cc;
          roomy = ltb-false (length room) (length (reads_of_runs c.level c.runs)) g.0;
          laid = ap (λ (p : Answer Summary × List ℕ). p.1) g.1;
        }
    go (refused number place) e f = absurd (refused_none number place room room' s f)
    go (refused_after number place count) e f =
        let g : ◌≡◌ {A = Answer Summary} (refused_after number place count) (given s) =
        ap (λ (p : Answer Summary × List ℕ). p.0) f in
        let z : ◌≡◌ {A = ℕ} 0 1 = cc in
        absurd (omega arith)

-- what is read has room
pub reads_fit : (bytes room room' : List ℕ) (s : Summary) → read_back bytes room ≡ (given s, room')
    → s.reads.0 ≤ length room
reads_fit bytes room room' s e =
    let r = read bytes room room' s e in
    rw (← r.summed_up) r.roomy

pub read_written_back : ReadWritesBack
read_written_back bytes room room' out s e f h =
    let r = read bytes room room' s f in
    let c = r.is in
    let b = all_bytes bytes e in
    let a = accepted bytes c b r.accepted_is in
    let reads = reads_of_runs c.level c.runs in
    let same : capture_of c.k c.n c.Q reads ≡ bytes = capture_again bytes c b r.accepted_is in
    let front : take (length reads) room' ≡ reads = ap (take (length reads)) (sym r.laid)
    ∙ take_at reads (drop (length reads) room) (length reads) refl in
    rw (← r.summed_up, front)
    (write_whole c.k c.n c.Q reads out a.in_range
    (omega (arith, a.few, length_reads c.level c.runs))
    (none_some 1 reads (reads_levels c.level c.runs a.low)) (rw same h) ∙ rw same)
