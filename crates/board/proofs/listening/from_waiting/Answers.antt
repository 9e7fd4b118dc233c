-- `from_waiting` meets its contract: the mark that it finds is a cell's, from which counting goes on.
use Rattle.std.proofs.Common.{ℕ, ◌≡◌, ◌∙◌, ap, ◌<◌, ◌≤◌, List, arith}
use Rattle.board.specs.declared.Mode.TheVariants.{Waiting}
use Rattle.board.specs.declared.Receiver.{Receiver}
use Rattle.board.specs.declared.Numbers.{Numbers}
use Rattle.board.specs.declared.listening.Found.{Found}
use Rattle.board.specs.Rows.{Settings, State, waiting, marked}
use Rattle.board.specs.Packed.{rules_of, state_of}
use Rattle.board.specs.Listening.{keeping, Keeps, heard_from, Sought, sought_says, Seeks}
use Rattle.board.proofs.KeepingLaws.{run_in, bits_in, kept_valid, kept_length, kept_bytes, waiting_fits, waiting_kept}
use Rattle.board.proofs.CellLaws.{Marked, mark_keeps, mark_heard}
use Rattle.board.proofs.listening.from_waiting.Goals as goal

module _ (g : Settings) (now : Numbers) (bytes : List ℕ) (keeps : Keeps g now bytes) (mode : now.mode ≡ Waiting) where
  -- what the search for the mark makes of the outcome
  waited : (reads : List ℕ) (sought : Sought)
      → Seeks g now.found 0 reads (λ bits. waiting now.level (run_in now) bits)
      (λ bits run read. marked g (waiting now.level (run_in now) bits) run read) sought
      → (x : Receiver)
      → heard_from x g (state_of (keeping g now bytes)) 0 reads
      ≡ sought_says x g (λ run read. marked g (waiting now.level (run_in now) (bits_in now bytes)) run read)
      (bits_in now bytes) reads sought
  waited reads sought seeks x =
      ap (λ (t : State). heard_from x g t 0 reads) (waiting_kept g now bytes keeps mode)
      ∙ seeks.says x (bits_in now bytes) (kept_length g now bytes keeps)

  -- the numbers at the mark
  at_mark : (mark : Found) → 1 ≤ mark.run.0 → mark.run.0 < g.Q → mark.level ≤ 1
      → Marked g mark.run mark.level now.found (bits_in now bytes) bytes
  at_mark mark some below level =
      record {
        range = (kept_valid g now bytes keeps).range;
        some = some;
        below = below;
        level = level;
        fewer = (waiting_fits g now bytes keeps mode).2;
        binary = (kept_valid g now bytes keeps).binary;
        size = kept_length g now bytes keeps;
        same = kept_bytes g now bytes keeps;
      }

pub to_mark-requires-clause-room : goal.to_mark-requires-clause-room
to_mark-requires-clause-room c =
    let a = c.args in
    let fits = waiting_fits (rules_of a.start.settings) a.start.numbers a.bits.now c.requires.keeps c.requires.mode_value in
    (omega arith, fits.0, fits.1)

pub from_counting-requires-clause-keeps : goal.from_counting-requires-clause-keeps
from_counting-requires-clause-keeps c =
    let a = c.args in
    let g = rules_of a.start.settings in
    let f = c.in-Continue.mark in
    let seeks = c.in-Continue.ensures in
    let lands = seeks.lands in
    rw c.marked-numbers.ensures
    (mark_keeps (at_mark g a.start.numbers a.bits.now c.requires.keeps c.requires.mode_value f lands.2 lands.3 lands.4))

pub returns-in-Break : goal.returns-in-Break
returns-in-Break c = λ x.
    let a = c.args in
    let g = rules_of a.start.settings in
    let seeks = c.in-Break.ensures in
    waited g a.start.numbers a.bits.now c.requires.keeps c.requires.mode_value a.reads.now _ seeks x
    ∙ rw (kept_bytes g a.start.numbers a.bits.now c.requires.keeps)

pub returns-in-Continue : goal.returns-in-Continue
returns-in-Continue c = λ x.
    let a = c.args in
    let g = rules_of a.start.settings in
    let f = c.in-Continue.mark in
    let seeks = c.in-Continue.ensures in
    let lands = seeks.lands in
    waited g a.start.numbers a.bits.now c.requires.keeps c.requires.mode_value a.reads.now _ seeks x
    ∙ mark_heard (at_mark g a.start.numbers a.bits.now c.requires.keeps c.requires.mode_value f lands.2 lands.3 lands.4) x _ _
    ∙ (rw c.marked-numbers.ensures at c.from_counting.ensures) x
