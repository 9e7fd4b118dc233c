-- `from_ready` meets its contract: a read of the quiet's level leaves ready as it is, and another is the mark, from
-- which counting goes on.
use Rattle.std.proofs.Common.{ℕ, ◌≡◌, refl, ◌∙◌, ◌≤◌, List, [], arith}
use Rattle.board.specs.Rows.{Settings}
use Rattle.board.specs.Packed.{kept, rules_of}
use Rattle.board.proofs.PackedBits.{binary_none}
use Rattle.board.proofs.RowRules.{Ranged}
use Rattle.board.proofs.Standing.{ranged_of}
use Rattle.board.proofs.ListeningLaws.{heard_end, heard_bad, heard_move, ready_on, ready_mark}
use Rattle.board.proofs.CellLaws.{Marked, mark_keeps, mark_heard}
use Rattle.board.proofs.listening.from_ready.Goals as goal

mark : (g : Settings) (bytes : List ℕ) (read : ℕ) → Ranged g → kept [] ≡ bytes → read ≤ 1
    → Marked g (record { 0 = 1 }) read 0 [] bytes
mark g bytes read r same level =
    record {
      range = r;
      some = omega arith;
      below = omega (arith, r.q_least);
      level = level;
      fewer = omega (arith, r.n_least);
      binary = binary_none;
      size = refl;
      same = same;
    }

pub returns-then-read-gt-HIGH : goal.returns-then-read-gt-HIGH
returns-then-read-gt-HIGH c = λ x.
    let l = c.loop-i in
    l.invariant.2 x
    ∙ heard_bad x (rules_of c.args.settings) _ l.i c.args.reads.now c.loop-i-test.true c.if-read-gt-HIGH.true

pub from_counting-requires-clause-keeps : goal.from_counting-requires-clause-keeps
from_counting-requires-clause-keeps c =
    let g = rules_of c.args.settings in
    rw c.marked-numbers.ensures
    (mark_keeps (mark g _ _ (ranged_of g c.requires.0) c.loop-i.invariant.1 c.if-read-gt-HIGH.false))

pub returns-then-read-quiet : goal.returns-then-read-quiet
returns-then-read-quiet c = λ x.
    let a = c.args in
    let l = c.loop-i in
    let g = rules_of a.settings in
    let range = ranged_of g c.requires.0 in
    let level = c.if-read-gt-HIGH.false in
    l.invariant.2 x
    ∙ heard_move x g _ _ l.i a.reads.now c.loop-i-test.true level
    (ready_mark g a.quiet _ range.q_least c.if-read-quiet.true)
    ∙ mark_heard (mark g _ _ range l.invariant.1 level) x _ _
    ∙ (rw c.marked-numbers.ensures at c.from_counting.ensures) x

pub loop-i-preserved : goal.loop-i-preserved
loop-i-preserved c =
    let a = c.args in
    let l = c.loop-i in
    let g = rules_of a.settings in (
      omega arith,
      l.invariant.1,
      λ x. l.invariant.2 x
          ∙ heard_move x g _ _ l.i a.reads.now c.loop-i-test.true
          (omega (arith, c.if-read-quiet.false, c.requires.3))
          (ready_on g a.quiet _ c.if-read-quiet.false),
    )

pub returns : goal.returns
returns c = λ x.
    let a = c.args in
    let l = c.loop-i in
    let g = rules_of a.settings in
    l.invariant.2 x ∙ heard_end x g _ l.i a.reads.now l.invariant.0 c.loop-i-test.false
    ∙ rw (c.nothing.ensures, c.ready.ensures, l.invariant.1)
