-- A capture is judged by its length, then by its heading, then by its runs.
use Rattle.std.proofs.Common.{ℕ, ◌≤◌, ◌<◌, ◌≡◌, List, Bool, true, false, arith, ltb, length, lt-ltb, le-ltb}
use Rattle.measure.specs.Choose.{choose}
use Rattle.measure.specs.Ranges.{capture_most}
use Rattle.measure.specs.Refusals.{given, refused}
use Rattle.capture.specs.Capture.{Heading, Capture, four_numbers, header, then, runs_from, with_runs, capture}
use Rattle.capture.proofs.Headings.{then_given}

module _ (s : List ℕ) where
  pub header_long : capture_most < length s → header s ≡ refused 3 0
  header_long h = rw (lt-ltb capture_most (length s) h)

  pub header_short : length s ≤ capture_most → header s ≡ four_numbers s
  header_short h = rw (le-ltb capture_most (length s) h)

  pub capture_refused : (number place : ℕ) → header s ≡ refused number place → capture s ≡ refused number place
  unfolding capture
  capture_refused number place e = rw e

  pub capture_found : (h : Heading) → header s ≡ given h
      → capture s ≡ then (runs_from 0 s h.after) (with_runs h)
  unfolding capture
  capture_found h e = rw e

  pub header_found : (h : Heading) → header s ≡ given h → four_numbers s ≡ given h
  header_found h = go (ltb capture_most (length s))
    where
      go : (test : Bool) → choose test (refused 3 0) (four_numbers s) ≡ given h → four_numbers s ≡ given h
      go true e = let z : ◌≡◌ {A = ℕ} 0 1 = cc in absurd (omega arith)
      go false e = e

-- an accepted capture has a heading, and is that heading with its runs
pub capture_given : (s : List ℕ) (c : Capture) → capture s ≡ given c
    → (h : Heading) × ((four_numbers s ≡ given h) × (then (runs_from 0 s h.after) (with_runs h) ≡ given c))
unfolding capture
capture_given s c e =
    let h = then_given (header s) _ c e in
    (h.0, (header_found s h.0 h.1.0, h.1.1))
