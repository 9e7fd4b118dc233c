-- `look_along` meets its contract: a read under way stays the same read with each cycle looked at, and it ends with the
-- first that does not end before it.
use Rattle.std.proofs.Common.{◌≡◌, ℕ, ◌<◌, ◌≤◌, length, refl, ap, ◌∙◌, arith}
use Rattle.line.specs.declared.wander.Wandering.{Wandering}
use Rattle.line.specs.Running.{clock_of}
use Rattle.line.proofs.UnderWay.{way_first, way_on, way_gone}
use Rattle.line.proofs.WanderClocks.{ticks, next_time, next_most, among}
use Rattle.line.proofs.wander.Wandering.look_along.Goals as goal

-- a cycle that starts before the read's end has a level and a length
module _ (s : Wandering) {until k t : ℕ} (ends : until ≤ clock_of 1 0 s.cycles.now (length s.wave.now))
    (at : clock_of 1 0 s.cycles.now k ≡ t) (begun : t < until) where
  levelled : k < length s.wave.now
  levelled = among s.judged 0 (length s.wave.now) k until (omega arith) ends

  lasting : k < length s.cycles.now
  lasting = omega (arith, levelled, s.lasting)

pub bounds-self-i : goal.bounds-self-i
bounds-self-i c = levelled c.args.self c.requires.2 c.requires.0 c.requires.1

pub offset_bounds-self-i : goal.offset_bounds-self-i
offset_bounds-self-i c =
    omega (
      arith,
      c.args.self.judged.few,
      lasting c.args.self c.requires.2 c.requires.0 c.requires.1,
    )

pub bounds-self-i-2 : goal.bounds-self-i-2
bounds-self-i-2 c = lasting c.args.self c.requires.2 c.requires.0 c.requires.1

pub overflow_add-over : goal.overflow_add-over
overflow_add-over c =
    let last = lasting c.args.self c.requires.2 c.requires.0 c.requires.1 in
    omega (arith, next_most c.args.self.judged 0 _ _ last c.requires.0)

pub overflow_add-next : goal.overflow_add-next
overflow_add-next c =
    omega (
      arith,
      c.args.self.judged.few,
      lasting c.args.self c.requires.2 c.requires.0 c.requires.1,
    )

pub loop-over-init : goal.loop-over-init
loop-over-init c =
    let here = levelled c.args.self c.requires.2 c.requires.0 c.requires.1 in
    let last = lasting c.args.self c.requires.2 c.requires.0 c.requires.1 in (
      next_time c.args.self.judged 0 _ _ last c.requires.0,
      (λ k e. ap (λ (x : ℕ). clock_of 1 0 c.args.self.cycles.now x) (omega arith) ∙ c.requires.0),
      omega arith,
      omega arith,
      way_first _ _ _ _ _ _ here (omega (arith, c.requires.0, c.requires.1)) refl refl,
    )

pub overflow_add-over-in-loop-over : goal.overflow_add-over-in-loop-over
overflow_add-over-in-loop-over c =
    let last =
    lasting c.args.self c.requires.2 c.loop-over.invariant.0
    c.loop-over-test.true in
    omega (arith, next_most c.args.self.judged 0 _ _ last c.loop-over.invariant.0)

pub loop-over-preserved : goal.loop-over-preserved
loop-over-preserved c =
    let before = c.loop-over-test.true in
    let at = c.loop-over.invariant.0 in
    let here = levelled c.args.self c.requires.2 at before in
    let last = lasting c.args.self c.requires.2 at before in (
      next_time c.args.self.judged 0 _ _ last at,
      (λ k e. ap (λ (x : ℕ). clock_of 1 0 c.args.self.cycles.now x) (omega arith) ∙ at),
      omega arith,
      omega arith,
      way_on _ _ _ _ _ _ _ _ _ _ c.loop-over.invariant.4 here at before c.agreed-level.ensures refl,
    )

pub returns-then-over-until : goal.returns-then-over-until
returns-then-over-until c =
    let way = c.loop-over.invariant.4 in (
      way.done (omega (arith, c.loop-over.invariant.0, c.if-over-until.true)),
      way_gone _ _ _ way (omega (arith, c.loop-over.invariant.0, c.if-over-until.true))
          (omega (arith, (ticks c.args.self.judged 0).low c.loop-over.next)),
      c.loop-over.invariant.0,
    )
