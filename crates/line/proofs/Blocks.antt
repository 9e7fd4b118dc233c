-- A wave that is smoothed block by block: what has been written and what is still to come make the smoothed wave. The
-- first block has high before it, and every other g cycles of the wave.
use Rattle.std.proofs.Common.{◌≡◌, sym, ap, ◌∙◌, List, ◌++◌, ℕ, ◌+◌, ◌-◌, ◌≤◌, ◌<◌, min, arith, length, take, drop, replicate, length-take}
use mathlib.Core.Logic.{dite}
use native.Mathlib.Decide.{dec_le}
use lib.ListN.{length-replicate, get_or-replicate}
use lib.Seq.{sets, length-sets}
use Rattle.std.proofs.lemmas.List.{get_or-drop, get_or-take, get_or_append_left, get_or-append-add}
use Rattle.measure.specs.Lists.{onto}
use Rattle.measure.proofs.Laid.{laid_first}
use Rattle.measure.proofs.Stores.{Stored, stored_none, stored_part, stored_all}
use Rattle.line.specs.Smooth.{smooth}
use Rattle.line.specs.Windows.{level_at, led, agreeing, listed}
use Rattle.line.proofs.PartLent.{sets_part}
use Rattle.line.proofs.SmoothLaws.{length_smooth}
use Rattle.line.proofs.Windows.{agreeing_same, length_listed, listed_same, listed_split}
use Rattle.line.proofs.Windows.{led_before, led_from, smooth_listed}

-- the first `done` cycles are written, and the rest is to come
abbrev pub Smoothing : (g : ℕ) (wave out₀ out : List ℕ) (done : ℕ) → Type 0
Smoothing g wave out₀ out done =
    Stored out₀ 0 (listed (agreeing (led g wave) g) 0 (length wave)) out done
    (listed (agreeing (led g wave) g) done (length wave - done))

-- Blocks after the first: the cycles that are written are enough for any g, or they are all; and whatever the output
-- was before the first block, what is to come is less.
pub record Further (g : ℕ) (wave out₀ : List ℕ) (first : ℕ) (out : List ℕ) (done : ℕ) : Type 0 where
  pub enough : min (length wave) 64 ≤ done
  pub within : done ≤ length wave
  pub size : length out ≡ length out₀
  pub goes_on : (start : List ℕ) → Smoothing g wave start out₀ first → Smoothing g wave start out done

module _ (g : ℕ) (wave : List ℕ) (most : g ≤ 64) where
  abbrev smoothed : ℕ → ℕ
  smoothed = agreeing (led g wave) g

  -- a block more, whatever it is smoothed from
  more : (out₀ out out' : List ℕ) (done count : ℕ) (W : ℕ → ℕ) (from : ℕ) → Smoothing g wave out₀ out done
      → done + count ≤ length wave → sets out done (listed (agreeing W g) from count) ≡ out'
      → ((i : ℕ) → i < count + g → W (from + i) ≡ led g wave (done + i))
      → Smoothing g wave out₀ out' (done + count)
  more out₀ out out' done count W from stored room is same =
      let e : length wave - done ≡ count + (length wave - (done + count)) = omega arith in
      stored_part (listed smoothed done count) out' (done + count)
      (rw (e, listed_split smoothed done count (length wave - (done + count))) at stored)
      (sym is ∙ ap (λ l. sets out done l) (listed_same (agreeing W g) smoothed from done count λ i h.
      agreeing_same W (led g wave) g (from + i) (done + i) λ j l.
      let f : from + i + j ≡ from + (i + j) = omega arith in
      let d : done + i + j ≡ done + (i + j) = omega arith in
      rw (f, d) (same (i + j) (omega arith))))
      (rw (length_listed smoothed done count))

  -- the list that the first block is smoothed from: high, and the front of the wave from place g on
  module _ (first : ℕ) (is-first : first ≡ min (length wave) 64) (front rest : List ℕ)
      (copied : front ≡ take first wave) where
    abbrev high : List ℕ
    high = take g (replicate 128 1)

    abbrev lead : List ℕ
    lead = high ++ (front ++ rest)

    led_at : (i : ℕ) → i < first + g → level_at lead i ≡ led g wave i
    led_at i h =
        dite (dec_le g i) later λ n.
        get_or_append_left high (front ++ rest) 2 i (omega (arith, before))
        ∙ get_or-take g (replicate 128 1) i 2 (omega arith) ∙ get_or-replicate 128 i 1 2 (omega arith)
        ∙ sym (led_before g wave i (omega arith))
      where
        before : length high ≡ g
        before = omega (arith, length-take {A = ℕ} g (replicate 128 1), length-replicate {A = ℕ} 128 1)

        later : g ≤ i → level_at lead i ≡ led g wave i
        later l =
            let e : length high + (i - g) ≡ i = omega (arith, before) in
            rw e at (get_or-append-add high (front ++ rest) (i - g) 2)
            ∙ get_or_append_left front rest 2 (i - g) (omega (arith, ap length copied, length-take first wave))
            ∙ ap (λ (l : List ℕ). level_at l (i - g)) copied ∙ get_or-take first wave (i - g) 2 (omega arith)
            ∙ sym (led_from g wave i l)

    pub first_block : (out₀ block : List ℕ) → first ≤ length out₀ → listed (agreeing (level_at lead) g) 0 first ≡ block
        → Smoothing g wave out₀ (block ++ drop first out₀) first
    first_block out₀ block room is =
        let e : length wave - 0 ≡ length wave = omega arith in
        let f : 0 + first ≡ first = omega arith in
        let long : length block ≡ first = ap length (sym is) ∙ length_listed (agreeing (level_at lead) g) 0 first in
        rw f at (more out₀ out₀ (block ++ drop first out₀) 0 first (level_at lead) 0
        (rw e (stored_none out₀ 0 (listed smoothed 0 (length wave)))) (omega arith)
        (ap (λ (l : List ℕ). sets out₀ 0 l) is
        ∙ laid_first block out₀ (omega (arith, long)) ∙ ap (λ (n : ℕ). block ++ drop n out₀) long) λ i h.
        let z : 0 + i ≡ i = omega arith in
        rw z (led_at i h))

  pub further_one : (out₀ : List ℕ) (first : ℕ) (out block : List ℕ) (done end : ℕ)
      → Further g wave out₀ first out done → length wave ≤ length out₀ → done < end → end ≤ length wave
      → listed (agreeing (level_at (drop (done - g) wave)) g) 0 (end - done) ≡ block
      → Further g wave out₀ first (take done out ++ (block ++ drop (end - done) (drop done out))) end
  further_one out₀ first out block done end q fits less room is =
      let past : g ≤ done = omega (arith, q.enough) in
      let W : ℕ → ℕ = level_at (drop (done - g) wave) in
      let long : length block ≡ end - done = ap length (sym is) ∙ length_listed (agreeing W g) 0 (end - done) in
      let there : done + (end - done) ≡ end = omega arith in
      let laid : sets out done (listed (agreeing W g) 0 (end - done))
      ≡ take done out ++ (block ++ drop (end - done) (drop done out)) =
      ap (λ (l : List ℕ). sets out done l) is ∙ sets_part block out done (end - done) long (omega (arith, q.size)) in
      record {
        enough = omega (arith, q.enough);
        within = room;
        size = ap length (sym laid) ∙ length-sets out done (listed (agreeing W g) 0 (end - done)) ∙ q.size;
        goes_on = λ start h.
            rw there at
            (more start out (take done out ++ (block ++ drop (end - done) (drop done out))) done (end - done) W 0
            (q.goes_on start h) (omega arith) laid λ i l.
            let z : 0 + i ≡ i = omega arith in
            let e : done - g + i ≡ done + i - g = omega arith in
            rw z (get_or-drop (done - g) wave i 2 ∙ rw e (sym (led_from g wave (done + i) (omega arith)))));
      }

  pub smoothing_all : (out₀ out : List ℕ) (done : ℕ) → Smoothing g wave out₀ out done → length wave ≤ done
      → length wave ≤ length out₀ → onto (smooth g wave) out₀ ≡ out
  unfolding listed
  smoothing_all out₀ out done q all room =
      let e : length wave - done ≡ 0 = omega arith in
      sym
      (stored_all (rw e at q) ∙ ap (λ l. sets out₀ 0 l) (sym (smooth_listed g wave))
      ∙ laid_first (smooth g wave) out₀ (rw (length_smooth g wave) room))
