-- What the format promises of writing and reading together (F31, F32): reads that are written are read back, and a
-- capture that is read is written back. Statements only; proofs/RoundTrips has their proofs.
use Rattle.std.specs.Prelude.{ℕ, ◌≤◌, ◌≡◌, true, List, length, take}
use Rattle.measure.specs.Ranges.{entries_most, row_settings_fit}
use Rattle.measure.specs.Levels.{AtMost, Levels}
use Rattle.measure.specs.Lists.{onto}
use Rattle.measure.specs.Refusals.{given}
use Rattle.capture.specs.Capture.{Capture, capture, reads_of_runs}
use Rattle.capture.specs.Writing.{runs_of, capture_of}
use Rattle.capture.specs.Answers.{read_back, written}
use Rattle.capture.specs.declared.Summary.{Summary}

-- F31: bytes are an accepted capture with these settings and these reads
pub record ReadsAs (k n Q : ℕ) (reads bytes : List ℕ) : Type 0 where
  pub is : Capture
  pub accepted : capture bytes ≡ given is
  pub same_k : is.k ≡ k
  pub same_n : is.n ≡ n
  pub same_q : is.Q ≡ Q
  pub same_reads : reads_of_runs is.level is.runs ≡ reads

-- F31: settings in range and levels within their limit, written, read back to the same settings and levels
abbrev pub ReadsBack : Type 0
ReadsBack =
    (k n Q : ℕ) (reads : List ℕ) → row_settings_fit k n Q ≡ true → length reads ≤ entries_most → Levels reads
    → ReadsAs k n Q reads (capture_of k n Q reads)

-- F32: an accepted capture, read and written again, is the same bytes
abbrev pub WritesBack : Type 0
WritesBack =
    (bytes : List ℕ) → AtMost 255 bytes → (c : Capture) → capture bytes ≡ given c
    → capture_of c.k c.n c.Q (reads_of_runs c.level c.runs) ≡ bytes

-- F31: The same of the operations. What `write_capture` put at the front of an output, `read_capture` answers with the
-- same settings and puts the same reads at the front of another that has room.
abbrev pub WrittenReadsBack : Type 0
WrittenReadsBack =
    (k n Q : ℕ) (reads out out' room : List ℕ) (size : ℕ) → written k n Q reads out ≡ (given size, out')
    → length reads ≤ length room
    → read_back (take size out') room
    ≡ (
      given
          (record {
            settings = record { k = record { 0 = k }; n = n; q = record { 0 = Q } };
            reads = record { 0 = length reads };
            runs =
                length (runs_of reads);
          }),
      onto reads room,
    )

-- F32: What `read_capture` read, `write_capture` puts as the same bytes at the front of an output that has room.
abbrev pub ReadWritesBack : Type 0
ReadWritesBack =
    (bytes room room' out : List ℕ) (s : Summary) → AtMost 255 bytes
    → read_back bytes room ≡ (given s, room') → length bytes ≤ length out
    → written s.settings.k.0 s.settings.n s.settings.q.0 (take s.reads.0 room') out
    ≡ (given (length bytes), onto bytes out)
