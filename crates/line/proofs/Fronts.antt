-- A wave that goes on: cycles that follow it change none of the reads that end before them, so the reads of a wave are
-- the front of the reads of any wave that goes on from it. By any two clocks and with any settling count.
use mathlib.Core.Path.{◌≡◌, refl, sym, ap, ◌∙◌}
use mathlib.Core.Logic.{dite}
use mathlib.Core.List.{List, [], ◌∷◌, ◌++◌}
use Prim.Native.Nat.{ℕ, zero, suc, ◌-◌, ◌<◌, ◌≤◌}
use native.Mathlib.Decide.{ℕ_discrete, dec_le}
use native.Mathlib.Omega.{arith}
use lib.Dec.{eqb}
use lib.ListN.{length, get_or, take, drop, length-append, get_or-append, take-append-drop}
use lib.Seq.{length-take-le, get_or-take, ext_get_or}
use borrow.Author.Tests.{eq-eqb, ne_eqb}
use Rattle.line.specs.Smooth.{unknown, seen, smooth_from, smooth}
use Rattle.line.specs.Warp.{warp_by}
use Rattle.line.specs.Settle.{next_choice, settle}
use Rattle.line.specs.Passes.{over_the_line}
use Rattle.line.specs.Sharing.{Shares, ReadIs}
use Rattle.line.proofs.Clocks.{Clocks, cycles_in_order, even_clocks}
use Rattle.line.proofs.ReadsThere.{read_there, read_ends}
use Rattle.line.proofs.SharedCycles.{read_is, read_is_one}
use Rattle.line.proofs.LineLaws.{line_by, over_the_line_lem}

-- one list goes on from another
abbrev pub GoesOn : (front whole : List ℕ) → Type 0
GoesOn front whole = (rest : List ℕ) × (whole ≡ front ++ rest)

smooth_front : (g left before : ℕ) (levels more : List ℕ)
    → GoesOn (smooth_from g left before levels) (smooth_from g left before (levels ++ more))
unfolding smooth_from
smooth_front g left before [] more = (smooth_from g left before more, refl)
smooth_front g left before (level ∷ levels) more =
    let (rest, e) = smooth_front g (unknown g left (eqb before level) - 1) level levels more in
    (rest, ap (λ (l : List ℕ). seen (unknown g left (eqb before level)) level ∷ l) e)

settle_front : (reads more choices : List ℕ) → GoesOn (settle reads choices) (settle (reads ++ more) choices)
unfolding settle
settle_front [] more choices = (settle more choices, refl)
settle_front (read ∷ reads) more choices =
    dite (ℕ_discrete read 2)
    (λ unknown.
    let (rest, e) = settle_front reads more (drop 1 choices) in
    (rest, rw (eq-eqb read 2 unknown) (ap (λ (l : List ℕ). next_choice choices ∷ l) e)))
    (λ known.
    let (rest, e) = settle_front reads more choices in
    (rest, rw (ne_eqb read 2 known) (ap (λ (l : List ℕ). read ∷ l) e)))

module _ {starts reads : ℕ → ℕ} (clocks : Clocks starts reads) (levels more : List ℕ) where
  -- a read that ends before what follows looks at none of it
  module _ (j : ℕ) (ends : reads (suc j) ≤ starts (length levels)) where
    among : (i : ℕ) → Shares starts reads j i → i < length levels
    among i shares =
        dite (dec_le (suc i) (length levels)) (λ h. h)
        (λ h. absurd (omega
        (arith, shares.before_the_end, cycles_in_order clocks (length levels) i (omega arith))))

    ends_too : reads (suc j) ≤ starts (length (levels ++ more))
    ends_too =
        omega (
          arith,
          cycles_in_order clocks (length levels) (length (levels ++ more)) (rw length-append (omega arith)),
        )

    here_too : j < length (warp_by starts reads (levels ++ more))
    here_too = read_there clocks (levels ++ more) j ends_too

    same_read : get_or (warp_by starts reads levels) j 2 ≡ get_or (warp_by starts reads (levels ++ more)) j 2
    same_read =
        read_is_one starts reads levels j _ _ (read_is clocks levels j (read_there clocks levels j ends)) (record {
          same = λ x all.
              is.same x (λ i h shares.
              get_or-append levels more 2 i (among i shares) ∙ all i (among i shares) shares);
          known = λ known i h shares.
              sym (get_or-append levels more 2 i h) ∙ is.known known i (rw length-append (omega arith)) shares;
        })
      where
        is : ReadIs starts reads (levels ++ more) j (get_or (warp_by starts reads (levels ++ more)) j 2)
        is = read_is clocks (levels ++ more) j here_too

  warp_front : GoesOn (warp_by starts reads levels) (warp_by starts reads (levels ++ more))
  warp_front =
      (drop N all, sym (take-append-drop N all) ∙ ap (λ (l : List ℕ). l ++ drop N all) front)
    where
      N : ℕ
      N = length (warp_by starts reads levels)

      all : List ℕ
      all = warp_by starts reads (levels ++ more)

      fewer : (n : ℕ) → ((j : ℕ) → j < n → j < length all) → n ≤ length all
      fewer zero f = omega arith
      fewer (suc n) f = f n (omega arith)

      size : length (take N all) ≡ N
      size = length-take-le N all (fewer N λ j h. here_too j (read_ends clocks levels j h))

      front : take N all ≡ warp_by starts reads levels
      front =
          ext_get_or 2 (take N all) (warp_by starts reads levels) size λ j h.
          get_or-take N all j 2 (omega (arith, size))
          ∙ sym (same_read j (read_ends clocks levels j (omega (arith, size))))

-- the reads of a wave are the front of those of a wave that goes on from it
pub line_front : {tw tr : ℕ → ℕ} → Clocks tw tr → (g : ℕ) (wave more choices : List ℕ)
    → GoesOn (line_by tw tr g wave choices) (line_by tw tr g (wave ++ more) choices)
line_front {tw} {tr} clocks g wave more choices =
    let (cycles, smoothed) = smooth_front g 0 1 wave more in
    let (reads, warped) = warp_front clocks (smooth g wave) cycles in
    let (rest, settled) = settle_front (warp_by tw tr (smooth g wave)) reads choices in (
      rest,
      ap (λ (l : List ℕ). settle (warp_by tw tr l) choices) smoothed
          ∙ ap (λ (l : List ℕ). settle l choices) warped
          ∙ settled,
    )

pub over_front : (g w r p : ℕ) (wave more choices : List ℕ) → 0 < r → p < w
    → GoesOn (over_the_line g w r p wave choices) (over_the_line g w r p (wave ++ more) choices)
over_front g w r p wave more choices some-r phase =
    let (rest, e) = line_front (even_clocks w r p some-r phase) g wave more choices in (
      rest,
      over_the_line_lem g w r p (wave ++ more) choices ∙ e
          ∙ ap (λ (l : List ℕ). l ++ rest) (sym (over_the_line_lem g w r p wave choices)),
    )
