-- What is known after one board more: the figures of the survey, as they go on. No contract of a public operation
-- speaks of this.
use Rattle.std.specs.Prelude.{ℕ, ◌+◌, ℤ, get_or, Option, None, Some}
use mir.Val.{bool_byte as from_bool}
use Rattle.std.specs.Int.Signed.{lt_z}
use Rattle.measure.specs.Choose.{choose}
use Rattle.settings.specs.Answers.{cell_margins, cell_met}
use Rattle.settings.specs.Survey.{Region, clocks_at, fits_at}
use Rattle.settings.specs.declared.Margins.{Margins}
use Rattle.settings.specs.declared.surveying.Smallest.{Smallest}
use Rattle.settings.specs.declared.surveying.Figures.{Figures}

-- V3: the smaller of a margin found before and that of the board at a place; of equals the one found before
abbrev pub smaller : (found : Smallest) (margin : ℤ) (place : ℕ) → Smallest
smaller found margin place =
    choose (lt_z margin found.margin) (record { margin = margin; place = place }) found

-- V2, V3: the figures with those of the board at a place
abbrev pub with_board : Figures → Margins → (place : ℕ) → Figures
with_board f m place =
    record {
      accepted = f.accepted + from_bool (cell_met m);
      m1 = smaller f.m1 m.m1 place;
      m2 = smaller f.m2 m.m2 place;
      m3 = smaller f.m3 m.m3 place;
    }

-- V3, R90: the margins M1, M2 and M3 of the board at a place, if its settings are in range
abbrev pub margins_at : Region → (i : ℕ) → Option Margins
margins_at s i =
    choose (fits_at s i)
    (Some (cell_margins (get_or s.a i 0) (get_or s.b i 0) (get_or s.g i 0) (get_or s.k i 0) (clocks_at s i)))
    None
