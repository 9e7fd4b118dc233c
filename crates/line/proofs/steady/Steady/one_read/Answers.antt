-- `one_read` meets its contract: after each cycle looked at it is the same read, and each way out finds it.
use Rattle.std.proofs.Common.{◌≡◌, ℕ, ◌+◌, ◌*◌, ◌<◌, ◌≤◌, List, length, drop, get_or, refl, arith}
use Rattle.line.specs.Warp.{cycle_start, reconcile as agree, look}
use Rattle.line.specs.Looking.{UnderWay, left_from}
use Rattle.line.proofs.Times.{in_wave}
use Rattle.line.proofs.UnderWay.{way_first, way_on, way_over, finds_kept, finds_gone, finds_left, finds_again}
use Rattle.line.proofs.steady.Steady.one_read.Goals as goal

-- the read has found `level` in the cycles before `next`, the last of which ends at `end`
record Found (w t first : ℕ) (wave : List ℕ) (level next end : ℕ) : Type 0 where
  way : UnderWay (cycle_start w) t wave (look (cycle_start w) t first (drop first wave))
      (left_from w t wave first) level next
  ends : next * w ≡ end
  within : next ≤ length wave

module _ (w t first : ℕ) (wave : List ℕ) (fits : t ≤ length wave * w) where
  one : (end : ℕ) → first * w < t → (first + 1) * w ≡ end
      → Found w t first wave (get_or wave first 0) (first + 1) end
  one end begun ends =
      let here = in_wave w (length wave) first t begun fits in
      record { way = way_first _ _ _ _ _ _ here begun refl refl; ends = ends; within = omega arith }

  -- where the last cycle looked at ends before the read, there is a next one
  on : {level next end v n e : ℕ} → Found w t first wave level next end → end < t
      → (agree level (get_or wave next 0) ≡ v) × (next + 1 ≡ n) × (n * w ≡ e) → Found w t first wave v n e
  on {next = next} found before (is, then, ends) =
      let more = in_wave w (length wave) next t (omega (arith, found.ends)) fits in
      record {
        way = way_on _ _ _ _ _ _ _ _ _ _ found.way more found.ends before is then;
        ends = ends;
        within = omega arith;
      }

pub returns-then-t-end : goal.returns-then-t-end
returns-then-t-end c =
    let found =
    one c.args.self.w.0 c.args.t.0 c.args.first.0 c.args.self.wave.now c.requires.1 _ c.requires.0 c.requires.2 in
    finds_kept _ _ _ found.way found.ends (omega (arith, c.if-t-end.true)) c.keep_last.ensures

pub returns-then-t-end-2 : goal.returns-then-t-end-2
returns-then-t-end-2 c =
    let found =
    one c.args.self.w.0 c.args.t.0 c.args.first.0 c.args.self.wave.now c.requires.1 _ c.requires.0 c.requires.2 in
    finds_gone _ _ _ c.args.self.in_range found.way found.ends (omega (arith, c.if-t-end-2.true)) c.drop_last.ensures

pub returns-in-Some : goal.returns-in-Some
returns-in-Some c =
    let found =
    one c.args.self.w.0 c.args.t.0 c.args.first.0 c.args.self.wave.now c.requires.1 _ c.requires.0 c.requires.2 in
    let two = on _ _ _ _ c.requires.1 found (omega (arith, c.if-t-end.false, c.if-t-end-2.false)) c.look_on-two.ensures in
    finds_left _ _ _ c.args.self.in_range two.way two.ends c.in-Some.ensures

pub returns-in-Some-ended : goal.returns-in-Some-ended
returns-in-Some-ended c =
    let found =
    one c.args.self.w.0 c.args.t.0 c.args.first.0 c.args.self.wave.now c.requires.1 _ c.requires.0 c.requires.2 in
    let two = on _ _ _ _ c.requires.1 found (omega (arith, c.if-t-end.false, c.if-t-end-2.false)) c.look_on-two.ensures in
    let three = on _ _ _ _ c.requires.1 two c.in_default.ensures c.look_on-three.ensures in
    finds_left _ _ _ c.args.self.in_range three.way three.ends c.in-Some-ended.ensures

pub returns-in-Some-ended-2 : goal.returns-in-Some-ended-2
returns-in-Some-ended-2 c =
    let found =
    one c.args.self.w.0 c.args.t.0 c.args.first.0 c.args.self.wave.now c.requires.1 _ c.requires.0 c.requires.2 in
    let two = on _ _ _ _ c.requires.1 found (omega (arith, c.if-t-end.false, c.if-t-end-2.false)) c.look_on-two.ensures in
    let three = on _ _ _ _ c.requires.1 two c.in_default.ensures c.look_on-three.ensures in
    let way = way_over _ _ _ three.way three.ends c.in_default-ended.ensures c.look_block-at.ensures.0 in
    finds_left _ _ _ c.args.self.in_range way c.look_block-at.ensures.3 c.in-Some-ended-2.ensures

pub returns-in-None : goal.returns-in-None
returns-in-None c =
    let found =
    one c.args.self.w.0 c.args.t.0 c.args.first.0 c.args.self.wave.now c.requires.1 _ c.requires.0 c.requires.2 in
    let two = on _ _ _ _ c.requires.1 found (omega (arith, c.if-t-end.false, c.if-t-end-2.false)) c.look_on-two.ensures in
    let three = on _ _ _ _ c.requires.1 two c.in_default.ensures c.look_on-three.ensures in
    let way = way_over _ _ _ three.way three.ends c.in_default-ended.ensures c.look_block-at.ensures.0 in
    finds_again _ _ _ way c.look_block-at.ensures.3 c.in-None.ensures c.reconcile.ensures
