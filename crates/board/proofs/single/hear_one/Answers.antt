-- `hear_one` meets its contract: each mode does with the read what its rule says, and the list ends with it.
use Rattle.std.proofs.Common.{ℕ, ◌≡◌, sym, ◌∙◌, ap, ◌+◌, ◌-◌, ◌*◌, ◌/◌, ◌%◌, ◌^◌, ◌<◌, ◌≤◌, List, [], ◌∷◌, ◌++◌, length, get_or, set, arith}
use Rattle.measure.specs.Cells.{bit_of}
use Rattle.board.specs.declared.Mode.TheVariants.{Counting, Waiting}
use Rattle.board.specs.declared.Bare.{Bare}
use Rattle.board.specs.declared.Receiver.{Receiver}
use Rattle.board.specs.Rows.{Settings, Run, run_of, State, nothing, broken, Moved, hunting, ready, counting}
use Rattle.board.specs.Rows.{waiting, collected, next}
use Rattle.board.specs.Packed.{kept, rules_of, state_of, receiver_of}
use Rattle.board.specs.Answers.{reached}
use Rattle.board.specs.Listening.{keeping, Keeps, heard_from, moved_from, longer}
use Rattle.board.proofs.PackedBits.{Binary}
use Rattle.board.proofs.RowRules.{Ranged, Fitting, bit_most}
use Rattle.board.proofs.KeepingLaws.{run_in, bits_in, kept_valid, kept_length, kept_bytes, hunting_kept}
use Rattle.board.proofs.KeepingLaws.{ready_kept, counting_fits, counting_kept, waiting_fits, waiting_kept}
use Rattle.board.proofs.KeepingLaws.{kept_room, kept_more, more_length, more_binary}
use Rattle.board.proofs.ListeningLaws.{heard_end, heard_move, next_quiet, next_on, ready_on, ready_mark}
use Rattle.board.proofs.ListeningLaws.{counting_on, counting_sample, waiting_on, waiting_mark}
use Rattle.board.proofs.CellLaws.{row_full, row_on}
use Rattle.board.proofs.single.hear_one.Goals as goal

-- what the read comes to, and the read
record Came : Type 0 where
  bare : Bare
  read : ℕ
  bytes : List ℕ
  keeps : Keeps (rules_of bare.settings) bare.numbers bytes
  level : read ≤ 1

abbrev g : Came → Settings
g s = rules_of s.bare.settings

-- the state that is kept, its run and its bits
abbrev here : Came → State
here s = state_of (keeping (g s) s.bare.numbers s.bytes)

abbrev run : Came → Run
run s = run_in s.bare.numbers

abbrev so_far : Came → List ℕ
so_far s = bits_in s.bare.numbers s.bytes

range : (s : Came) → Ranged (g s)
range s = (kept_valid (g s) s.bare.numbers s.bytes s.keeps).range

found : (s : Came) → length (so_far s) ≡ s.bare.numbers.found
found s = kept_length (g s) s.bare.numbers s.bytes s.keeps

bytes : (s : Came) → kept (so_far s) ≡ s.bytes
bytes s = kept_bytes (g s) s.bare.numbers s.bytes s.keeps

-- the outcome of the read, by what it does
moved : (s : Came) (x : Receiver) (from : State) (m : Moved) → here s ≡ from
    → next (g s) from s.read ≡ m
    → heard_from x (g s) (here s) 0 (s.read ∷ []) ≡ moved_from x (g s) m 1 []
moved s x from m e move =
    ap (λ (t : State). heard_from x (g s) t 0 (s.read ∷ [])) e
    ∙ heard_move x (g s) from m 0 (s.read ∷ []) (omega arith) s.level move

ends : (s : Came) (x : Receiver) (t : State)
    → heard_from x (g s) t 1 [] ≡ (reached (g s) t nothing, 1)
ends s x t = heard_end x (g s) t 1 (s.read ∷ []) (omega arith) (omega arith)

silently : (s : Came) (x : Receiver) (from t : State) → here s ≡ from
    → next (g s) from s.read ≡ record { state = t; event = nothing }
    → heard_from x (g s) (here s) 0 (s.read ∷ []) ≡ (reached (g s) t nothing, 1)
silently s x from t e move = moved s x from (record { state = t; event = nothing }) e move ∙ ends s x t

breaks : (s : Came) (x : Receiver) (from : State) → here s ≡ from
    → next (g s) from s.read
    ≡ record { state = ready (g s).Q s.read; event = broken (length (so_far s)) }
    → heard_from x (g s) (here s) 0 (s.read ∷ [])
    ≡ (reached (g s) (ready (g s).Q s.read) (broken s.bare.numbers.found), 1)
breaks s x from e move =
    moved s x from (record { state = ready (g s).Q s.read; event = broken (length (so_far s)) }) e move
    ∙ ap (λ (f : ℕ). (reached (g s) (ready (g s).Q s.read) (broken f), 1)) (found s)

counting_fit : (s : Came) → s.bare.numbers.mode ≡ Counting
    → Fitting Counting (g s) (run s) s.bare.numbers.left.0 s.bare.numbers.found s.bare.numbers.level
counting_fit s m = counting_fits (g s) s.bare.numbers s.bytes s.keeps m

counting_here : (s : Came) → s.bare.numbers.mode ≡ Counting
    → here s ≡ counting s.bare.numbers.left.0 s.bare.numbers.level (run s) (so_far s)
counting_here s m = counting_kept (g s) s.bare.numbers s.bytes s.keeps m

room : (s : Came) → s.bare.numbers.mode ≡ Counting → s.bare.numbers.found < 1024
room s m = omega (arith, (counting_fit s m).3, (range s).n_most)

abbrev bit : Came → ℕ
bit s = bit_of s.bare.numbers.level s.read

abbrev more : Came → List ℕ
more s = so_far s ++ bit s ∷ []

more_kept : (s : Came) → s.bare.numbers.mode ≡ Counting
    → kept (more s)
    ≡ set s.bytes (s.bare.numbers.found / 8) (get_or s.bytes (s.bare.numbers.found / 8) 0 + bit s * 2 ^ (s.bare.numbers.found % 8))
more_kept s m = kept_more (g s) s.bare.numbers s.bytes s.keeps (bit s) (room s m)

more_found : (s : Came) → length (more s) ≡ s.bare.numbers.found + 1
more_found s = more_length (g s) s.bare.numbers s.bytes s.keeps (bit s)

more_bits : (s : Came) → Binary (more s)
more_bits s = more_binary (g s) s.bare.numbers s.bytes s.keeps (bit s) (bit_most s.bare.numbers.level s.read)

sampled : (s : Came) → s.bare.numbers.mode ≡ Counting → (then : ℕ) → longer s.bare.numbers.run.0 s.bare.numbers.runlevel s.read ≡ then
    → (then ≡ (g s).Q → ⊥) → s.bare.numbers.left.0 - 1 ≡ 0
    → (x : Receiver)
    → heard_from x (g s) (here s) 0 (s.read ∷ [])
    ≡ moved_from x (g s) (collected (g s) (run_of then s.read) s.read (more s)) 1 []
sampled s m then e short last x =
    moved s x _ _ (counting_here s m)
    (counting_sample (g s) s.bare.numbers.level (run s) (so_far s) s.read (counting_fit s m).0
    s.bare.numbers.left.0 (λ d. short (sym e ∙ d)) last
    ∙ ap (λ (r : ℕ). collected (g s) (run_of r s.read) s.read (more s)) e)

waiting_fit : (s : Came) → s.bare.numbers.mode ≡ Waiting
    → Fitting Waiting (g s) (run s) s.bare.numbers.left.0 s.bare.numbers.found s.bare.numbers.level
waiting_fit s m = waiting_fits (g s) s.bare.numbers s.bytes s.keeps m

waiting_here : (s : Came) → s.bare.numbers.mode ≡ Waiting
    → here s ≡ waiting s.bare.numbers.level (run s) (so_far s)
waiting_here s m = waiting_kept (g s) s.bare.numbers s.bytes s.keeps m

abbrev came : (bare : Bare) (read : ℕ) (bytes : List ℕ) → Keeps (rules_of bare.settings) bare.numbers bytes → read ≤ 1
    → Came
came bare read bytes keeps level = record { bare = bare; read = read; bytes = bytes; keeps = keeps; level = level }

pub longer-run-requires : goal.longer-run-requires
longer-run-requires c =
    let s = came c.args.start c.args.read c.args.bits.now c.requires.keeps c.requires.read_bound in
    let h = hunting_kept (g s) s.bare.numbers s.bytes s.keeps c.in-Hunting.is in
    omega (arith, (range s).q_most, h.2)

pub returns-then-run-q : goal.returns-then-run-q
returns-then-run-q c = λ x.
    let s = came c.args.start c.args.read c.args.bits.now c.requires.keeps c.requires.read_bound in
    let m = c.in-Hunting.is in
    let h = hunting_kept (g s) s.bare.numbers s.bytes s.keeps m in
    silently s x (hunting (run s)) (ready (g s).Q s.read) h.0
    (next_quiet (g s) (hunting (run s)) s.read h.2 (c.longer-run.ensures ∙ c.if-run-q.true))
    ∙ rw (c.nothing.ensures, c.ready.ensures, h.1)

-- ready
pub returns-else-run-q : goal.returns-else-run-q
returns-else-run-q c = λ x.
    let s = came c.args.start c.args.read c.args.bits.now c.requires.keeps c.requires.read_bound in
    let m = c.in-Hunting.is in
    let h = hunting_kept (g s) s.bare.numbers s.bytes s.keeps m in
    let e = c.longer-run.ensures in
    silently s x (hunting (run s)) _ h.0
    (next_on (g s) (hunting (run s)) s.read h.2 (λ d. c.if-run-q.false (sym e ∙ d)))
    ∙ rw (c.nothing-in-Hunting.ensures, c.hunting.ensures, e, h.1)

-- ready

pub returns-then-read-quiet : goal.returns-then-read-quiet
returns-then-read-quiet c = λ x.
    let s = came c.args.start c.args.read c.args.bits.now c.requires.keeps c.requires.read_bound in
    let quiet = s.bare.numbers.runlevel in
    let h = ready_kept (g s) s.bare.numbers s.bytes s.keeps c.in-Ready.is in
    silently s x (ready (g s).Q quiet) (ready (g s).Q quiet) h.0
    (ready_on (g s) quiet s.read c.if-read-quiet.true)
    ∙ rw (c.nothing-then-read-quiet.ensures, ap (receiver_of (g s)) (sym h.0) ∙ s.keeps.whole)

-- counting
pub returns-else-read-quiet : goal.returns-else-read-quiet
returns-else-read-quiet c = λ x.
    let s = came c.args.start c.args.read c.args.bits.now c.requires.keeps c.requires.read_bound in
    let quiet = s.bare.numbers.runlevel in
    let h = ready_kept (g s) s.bare.numbers s.bytes s.keeps c.in-Ready.is in
    silently s x (ready (g s).Q quiet) _ h.0
    (ready_mark (g s) quiet s.read (range s).q_least c.if-read-quiet.false)
    ∙ rw (c.nothing-in-Ready.ensures, c.marked.ensures, h.1)

-- counting

pub longer-run-requires-in-Counting : goal.longer-run-requires-in-Counting
longer-run-requires-in-Counting c =
    let s = came c.args.start c.args.read c.args.bits.now c.requires.keeps c.requires.read_bound in omega (arith, (range s).q_most, (counting_fit s c.in-Counting.is).0)

pub returns-then-run-q-2 : goal.returns-then-run-q-2
returns-then-run-q-2 c = λ x.
    let s = came c.args.start c.args.read c.args.bits.now c.requires.keeps c.requires.read_bound in
    let m = c.in-Counting.is in
    breaks s x _ (counting_here s m)
    (next_quiet (g s) _ s.read (counting_fit s m).0 (c.longer-run-in-Counting.ensures ∙ c.if-run-q-2.true))
    ∙ rw c.broken.ensures

pub overflow_sub-left : goal.overflow_sub-left
overflow_sub-left c =
    let s = came c.args.start c.args.read c.args.bits.now c.requires.keeps c.requires.read_bound in
    omega (arith, (counting_fit s c.in-Counting.is).1)

pub put-requires : goal.put-requires
put-requires c =
    let s = came c.args.start c.args.read c.args.bits.now c.requires.keeps c.requires.read_bound in
    let m = c.in-Counting.is in
    (room s m, kept_room (g s) s.bare.numbers s.bytes s.keeps (room s m))

pub overflow_add-more : goal.overflow_add-more
overflow_add-more c =
    let s = came c.args.start c.args.read c.args.bits.now c.requires.keeps c.requires.read_bound in
    omega (arith, room s c.in-Counting.is)

pub returns-then-more-n : goal.returns-then-more-n
returns-then-more-n c = λ x.
    let s = came c.args.start c.args.read c.args.bits.now c.requires.keeps c.requires.read_bound in
    sampled s c.in-Counting.is _ c.longer-run-in-Counting.ensures c.if-run-q-2.false c.if-left-eq0.true x
    ∙ row_full x (g s) (record { 0 = _ }) s.read 1 (more s) _ _ (more_bits s) (more_found s ∙ c.if-more-n.true)
    (range s).n_most (more_kept s c.in-Counting.is ∙ c.put.ensures)
    ∙ rw c.row.ensures

pub returns-then-left-eq0 : goal.returns-then-left-eq0
returns-then-left-eq0 c = λ x.
    let s = came c.args.start c.args.read c.args.bits.now c.requires.keeps c.requires.read_bound in
    sampled s c.in-Counting.is _ c.longer-run-in-Counting.ensures c.if-run-q-2.false c.if-left-eq0.true x
    ∙ row_on x (g s) _ s.read 1 (more s) [] (λ e. c.if-more-n.false (sym (more_found s) ∙ e))
    ∙ ends s x _
    ∙ rw (c.nothing-then-left-eq0.ensures, c.sampled.ensures, more_found s, more_kept s c.in-Counting.is ∙ c.put.ensures)

-- waiting
pub returns-else-left-eq0 : goal.returns-else-left-eq0
returns-else-left-eq0 c = λ x.
    let s = came c.args.start c.args.read c.args.bits.now c.requires.keeps c.requires.read_bound in
    let m = c.in-Counting.is in
    let e = c.longer-run-in-Counting.ensures in
    silently s x _ _ (counting_here s m)
    (counting_on (g s) s.bare.numbers.level (run s) (so_far s) s.read (counting_fit s m).0
    s.bare.numbers.left.0 (λ d. c.if-run-q-2.false (sym e ∙ d)) c.if-left-eq0.false)
    ∙ rw (c.nothing-in-Counting.ensures, e, found s, bytes s, m)

-- waiting

pub longer-run-requires-in-Waiting : goal.longer-run-requires-in-Waiting
longer-run-requires-in-Waiting c =
    let s = came c.args.start c.args.read c.args.bits.now c.requires.keeps c.requires.read_bound in omega (arith, (range s).q_most, (waiting_fit s c.in-Waiting.is).0)

pub returns-then-run-q-3 : goal.returns-then-run-q-3
returns-then-run-q-3 c = λ x.
    let s = came c.args.start c.args.read c.args.bits.now c.requires.keeps c.requires.read_bound in
    let m = c.in-Waiting.is in
    breaks s x _ (waiting_here s m)
    (next_quiet (g s) _ s.read (waiting_fit s m).0 (c.longer-run-in-Waiting.ensures ∙ c.if-run-q-3.true))
    ∙ rw c.broken-then-run-q-3.ensures

pub returns-then-read-level : goal.returns-then-read-level
returns-then-read-level c = λ x.
    let s = came c.args.start c.args.read c.args.bits.now c.requires.keeps c.requires.read_bound in
    let m = c.in-Waiting.is in
    let e = c.longer-run-in-Waiting.ensures in
    silently s x _ _ (waiting_here s m)
    (waiting_on (g s) s.bare.numbers.level (run s) (so_far s) s.read (waiting_fit s m).0
    (λ d. c.if-run-q-3.false (sym e ∙ d)) c.if-read-level.true)
    ∙ rw (c.nothing-then-read-level.ensures, e, found s, bytes s, m, (waiting_fit s m).1)

pub returns-else-read-level : goal.returns-else-read-level
returns-else-read-level c = λ x.
    let s = came c.args.start c.args.read c.args.bits.now c.requires.keeps c.requires.read_bound in
    let m = c.in-Waiting.is in
    let e = c.longer-run-in-Waiting.ensures in
    silently s x _ _ (waiting_here s m)
    (waiting_mark (g s) s.bare.numbers.level (run s) (so_far s) s.read (waiting_fit s m).0
    (λ d. c.if-run-q-3.false (sym e ∙ d)) c.if-read-level.false)
    ∙ rw (c.nothing-in-Waiting.ensures, c.marked-marked.ensures, e, found s, bytes s)
