-- `from_counting` meets its contract: a turn takes a cell, from its mark to the next, and the outcome from the start is
-- the outcome from there.
use Rattle.std.proofs.Common.{ℕ, ◌≡◌, refl, sym, ◌∙◌, ap, ◌+◌, ◌/◌, ◌%◌, ◌^◌, ◌<◌, ◌≤◌, List, [], ◌∷◌, ◌++◌, get_or, drop, Continue, arith}
use Rattle.measure.specs.Cells.{bit_of}
use Rattle.board.specs.declared.Mode.TheVariants.{Counting}
use Rattle.board.specs.declared.Receiver.{Receiver}
use Rattle.board.specs.declared.Numbers.{Numbers}
use Rattle.board.specs.declared.listening.Found.{Found}
use Rattle.board.specs.Rows.{Settings, run_of, State, counting, waiting, collected, marked}
use Rattle.board.specs.Packed.{kept, rules_of, state_of}
use Rattle.board.specs.Listening.{keeping, Keeps, heard_from, Sought, sought_says, Seeks}
use Rattle.board.proofs.RowRules.{bit_most}
use Rattle.board.proofs.KeepingLaws.{run_in, bits_in, kept_valid, kept_length, kept_bytes, counting_kept}
use Rattle.board.proofs.KeepingLaws.{counting_fits, kept_room, kept_more, more_length, more_binary}
use Rattle.board.proofs.CellLaws.{row_full, row_on, Marked, mark_keeps, mark_heard}
use Rattle.board.proofs.listening.from_counting.Goals as goal

-- at the head of a turn, in counting: the numbers and the bytes that keep the bits so far
module _ (g : Settings) (now : Numbers) (bytes : List ℕ) (keeps : Keeps g now bytes) (mode : now.mode ≡ Counting) where
  room : now.found < 1024
  room = omega (arith, (counting_fits g now bytes keeps mode).3, (kept_valid g now bytes keeps).range.n_most)

  place : get_or bytes (now.found / 8) 0 < 2 ^ (now.found % 8)
  place = kept_room g now bytes keeps room

  -- with the bit of a sample
  abbrev more : ℕ → List ℕ
  more read = bits_in now bytes ++ bit_of now.level read ∷ []

  -- what is searched for: the sample from a place on, and the mark after it
  abbrev Samples : (i : ℕ) (reads : List ℕ) → Sought → Type 0
  Samples i reads sought =
      Seeks g now.found i reads (λ bits. counting now.left.0 now.level (run_in now) bits)
      (λ bits run read. collected g run read (bits ++ bit_of now.level read ∷ [])) sought

  abbrev Marks : Found → (reads : List ℕ) → Sought → Type 0
  Marks found reads sought =
      Seeks g (now.found + 1) found.used reads
      (λ bits. waiting found.level (run_of found.run.0 found.level) bits)
      (λ bits then level. marked g (waiting found.level (run_of found.run.0 found.level) bits) then level) sought

  -- what the search for the sample makes of the outcome
  sampled : (i : ℕ) (reads : List ℕ) (sought : Sought) → Samples i reads sought → (x : Receiver)
      → heard_from x g (state_of (keeping g now bytes)) i (drop i reads)
      ≡ sought_says x g (λ run read. collected g run read (more read)) (bits_in now bytes) reads sought
  sampled i reads sought seeks x =
      ap (λ (t : State). heard_from x g t i (drop i reads)) (counting_kept g now bytes keeps mode)
      ∙ seeks.says x (bits_in now bytes) (kept_length g now bytes keeps)

  -- and then the search for the next mark
  waited : (i : ℕ) (found : Found) (reads : List ℕ) (sought : Sought) → Samples i reads (Continue found)
      → (now.found + 1 ≡ g.n → ⊥) → Marks found reads sought → (x : Receiver)
      → heard_from x g (state_of (keeping g now bytes)) i (drop i reads)
      ≡ sought_says x g
      (λ then level. marked g (waiting found.level (run_of found.run.0 found.level) (more found.level)) then level)
      (more found.level) reads sought
  waited i found reads sought first fewer seeks x =
      let size = more_length g now bytes keeps (bit_of now.level found.level) in
      sampled i reads (Continue found) first x
      ∙ row_on x g found.run.0 found.level found.used (more found.level) _ (λ e. fewer (sym size ∙ e))
      ∙ seeks.says x (more found.level) size

  -- the numbers at that mark
  at_mark : (mark : Found) (read : ℕ) (new : List ℕ) → 1 ≤ mark.run.0 → mark.run.0 < g.Q → mark.level ≤ 1
      → (now.found + 1 ≡ g.n → ⊥)
      → kept (more read) ≡ new
      → Marked g mark.run mark.level (now.found + 1) (more read) new
  at_mark mark read new some below level fewer same =
      let bit = bit_of now.level read in
      record {
        range = (kept_valid g now bytes keeps).range;
        some = some;
        below = below;
        level = level;
        fewer = omega (arith, (counting_fits g now bytes keeps mode).3, fewer);
        binary = more_binary g now bytes keeps bit (bit_most now.level read);
        size = more_length g now bytes keeps bit;
        same = same;
      }

-- to the sample

pub to_sample-requires-clause-room : goal.to_sample-requires-clause-room
to_sample-requires-clause-room c =
    let l = c.loop-end in
    let g = rules_of c.args.start.settings in
    let fits = counting_fits g l.numbers l.bits l.invariant.2 l.invariant.1 in
    (l.invariant.0, fits.0, fits.1)

pub returns-in-Break : goal.returns-in-Break
returns-in-Break c = λ x.
    let l = c.loop-end in
    let g = rules_of c.args.start.settings in
    l.invariant.3 x
    ∙ sampled g l.numbers l.bits l.invariant.2 l.invariant.1 l.at c.args.reads.now _ c.in-Break.ensures x
    ∙ rw (kept_bytes g l.numbers l.bits l.invariant.2)

-- its bit is put

pub put-requires : goal.put-requires
put-requires c =
    let l = c.loop-end in
    let g = rules_of c.args.start.settings in
    (room g l.numbers l.bits l.invariant.2 l.invariant.1, place g l.numbers l.bits l.invariant.2 l.invariant.1)

pub overflow_add-found : goal.overflow_add-found
overflow_add-found c =
    let l = c.loop-end in
    omega (arith, room (rules_of c.args.start.settings) l.numbers l.bits l.invariant.2 l.invariant.1)

pub returns-then-found-n : goal.returns-then-found-n
returns-then-found-n c = λ x.
    let reads = c.args.reads.now in
    let l = c.loop-end in
    let f = c.in-Continue.found in
    let g = rules_of c.args.start.settings in
    let keeps = l.invariant.2 in
    let bit = bit_of l.numbers.level f.level in
    let first = c.in-Continue.ensures in
    l.invariant.3 x
    ∙ sampled g l.numbers l.bits keeps l.invariant.1 l.at reads (Continue f) first x
    ∙ row_full x g f.run f.level f.used (more g l.numbers l.bits keeps l.invariant.1 f.level) _ _
    (more_binary g l.numbers l.bits keeps bit (bit_most l.numbers.level f.level))
    (more_length g l.numbers l.bits keeps bit ∙ c.if-found-n.true)
    (kept_valid g l.numbers l.bits keeps).range.n_most
    (kept_more g l.numbers l.bits keeps bit (room g l.numbers l.bits keeps l.invariant.1) ∙ c.put.ensures)
    ∙ rw c.row.ensures

-- on to the mark

pub returns-in-Break-to_mark : goal.returns-in-Break-to_mark
returns-in-Break-to_mark c = λ x.
    let reads = c.args.reads.now in
    let l = c.loop-end in
    let f = c.in-Continue.found in
    let g = rules_of c.args.start.settings in
    let keeps = l.invariant.2 in
    let second = rw c.sampled-sampled.ensures at c.in-Break-to_mark.ensures in
    l.invariant.3 x
    ∙ waited g l.numbers l.bits keeps l.invariant.1 l.at f reads _ c.in-Continue.ensures c.if-found-n.false second x
    ∙ rw (kept_more g l.numbers l.bits keeps (bit_of l.numbers.level f.level)
    (room g l.numbers l.bits keeps l.invariant.1) ∙ c.put.ensures)

pub loop-end-preserved : goal.loop-end-preserved
loop-end-preserved c =
    let reads = c.args.reads.now in
    let l = c.loop-end in
    let f = c.in-Continue.found in
    let m = c.in-Continue-to_mark.found in
    let g = rules_of c.args.start.settings in
    let keeps = l.invariant.2 in
    let first = c.in-Continue.ensures in
    let second = rw c.sampled-sampled.ensures at c.in-Continue-to_mark.ensures in
    let same = kept_more g l.numbers l.bits keeps (bit_of l.numbers.level f.level)
    (room g l.numbers l.bits keeps l.invariant.1) ∙ c.put.ensures in
    let lands = second.lands in
    let at = at_mark g l.numbers l.bits keeps l.invariant.1 m f.level _ lands.2 lands.3 lands.4
    c.if-found-n.false same in
    rw c.marked-numbers.ensures (
      lands.1,
      refl,
      mark_keeps at,
      λ x. l.invariant.3 x
          ∙ waited g l.numbers l.bits keeps l.invariant.1 l.at f reads _ first c.if-found-n.false second x
          ∙ mark_heard at x _ _,
    )
