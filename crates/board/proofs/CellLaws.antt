-- A cell: its sample brings a bit, with which the row is full or goes on waiting, and the next mark begins the next
-- cell.
use Rattle.std.proofs.Common.{ℕ, ◌≡◌, sym, ap, ◌-◌, ◌*◌, ◌≤◌, ◌<◌, List, Some, length, take, replicate, eq-eqb, arith}
use borrow.Author.Tests.{ne_eqb}
use lib.Seq.{take_at}
use Rattle.measure.specs.declared.ReadCycles.{ReadCycles}
use Rattle.board.specs.declared.Event.TheVariants.{Row}
use Rattle.board.specs.declared.Receiver.{Receiver}
use Rattle.board.specs.declared.listening.Heard.{Heard}
use Rattle.board.specs.Rows.{Settings, run_of, State, waiting, counting, collected}
use Rattle.board.specs.Packed.{unpacked, kept, settings_as, state_of, receiver_of}
use Rattle.board.specs.Listening.{keeping, hunting_at, marked_at, Keeps, heard_from, moved_from, heard_says}
use Rattle.board.proofs.PackedBits.{Binary, unpacked_packed}
use Rattle.board.proofs.RowRules.{Ranged, Valid, valid_counting}
use Rattle.board.proofs.KeepingLaws.{keeps_of, state_kept}

-- a row's bits can be recovered from its bytes
pub row_read : (l : List ℕ) (n : ℕ) → Binary l → length l ≡ n → n ≤ 1024 → take n (unpacked 8 (kept l)) ≡ l
row_read l n b e h = rw (unpacked_packed 8 128 l b (omega arith)) (take_at l (replicate (128 * 8 - length l) 0) n e)

-- what is heard with a row's last bit
abbrev pub row_heard : ReadCycles → (read used : ℕ) → Heard
row_heard run read used =
    record { numbers = hunting_at run read; event = Some Row; used = record { 0 = used } }

pub row_full : (x : Receiver) (g : Settings) (run : ReadCycles) (read used : ℕ) (l bytes reads : List ℕ) → Binary l
    → length l ≡ g.n → g.n ≤ 1024 → kept l ≡ bytes
    → moved_from x g (collected g (run_of run.0 read) read l) used reads ≡ heard_says g bytes (row_heard run read used)
row_full x g run read used l bytes reads b e h k = rw (eq-eqb (length l) g.n e, ← k, row_read l g.n b e h)

pub row_on : (x : Receiver) (g : Settings) (run read used : ℕ) (l reads : List ℕ) → (length l ≡ g.n → ⊥)
    → moved_from x g (collected g (run_of run read) read l) used reads
    ≡ heard_from x g (waiting read (run_of run read) l) used reads
row_on x g run read used l reads n = rw (ne_eqb (length l) g.n n)

-- what is known at a mark: the run and the level of the mark, and the bits so far with the bytes that keep them
pub record Marked (g : Settings) (run : ReadCycles) (read found : ℕ) (l bytes : List ℕ) : Type 0 where
  pub range : Ranged g
  pub some : 1 ≤ run.0
  pub below : run.0 < g.Q
  pub level : read ≤ 1
  pub fewer : found < g.n
  pub binary : Binary l
  pub size : length l ≡ found
  pub same : kept l ≡ bytes

module _ {g : Settings} {run : ReadCycles} {read found : ℕ} {l bytes : List ℕ} (m : Marked g run read found l bytes) where
  marked_valid : Valid g (counting g.k read (run_of run.0 read) l)
  marked_valid =
      valid_counting g m.range (run_of run.0 read) read l
      (record { some = m.some; below = m.below; level = m.level }) m.level (omega (arith, m.size, m.fewer))
      m.binary

  marked_receiver : keeping g (marked_at (settings_as g).k run read found) bytes
      ≡ receiver_of g (counting g.k read (run_of run.0 read) l)
  marked_receiver = rw (← m.size, ← m.same)

  pub mark_keeps : Keeps g (marked_at (settings_as g).k run read found) bytes
  mark_keeps =
      keeps_of g (counting g.k read (run_of run.0 read) l) (marked_at (settings_as g).k run read found) bytes marked_valid
      marked_receiver

  pub mark_heard : (x : Receiver) (i : ℕ) (reads : List ℕ)
      → heard_from x g (counting g.k read (run_of run.0 read) l) i reads
      ≡ heard_from x g (state_of (keeping g (marked_at (settings_as g).k run read found) bytes)) i reads
  mark_heard x i reads =
      ap (λ (s : State). heard_from x g s i reads)
      (sym (state_kept g (counting g.k read (run_of run.0 read) l)
      (marked_at (settings_as g).k run read found) bytes marked_valid marked_receiver))
