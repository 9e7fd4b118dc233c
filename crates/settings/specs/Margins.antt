-- Rules M: the five margins over the ends of two clocks, and when settings are accepted.
use Rattle.std.specs.Prelude.{ℕ, ◌+◌, Bool, true, false, ◌&&◌, ℤ, pos, negsuc, ◌-ℤ◌, ◌*ℤ◌}
use Rattle.settings.specs.declared.Clocks.{Clocks}

-- N14 to N17: the ends of two clocks: a writer cycle is w1 to w2 time units long, and a read r1 to r2
pub record Ends : Type 0 where
  pub w1 : ℕ
  pub w2 : ℕ
  pub r1 : ℕ
  pub r2 : ℕ

abbrev pub ends : (w1 w2 r1 r2 : ℕ) → Ends
ends w1 w2 r1 r2 = record { w1 = w1; w2 = w2; r1 = r1; r2 = r2 }

-- A8: the ends that the code's clocks have
abbrev pub ends_of : Clocks → Ends
ends_of clocks = ends clocks.w1.0 clocks.w2.0 clocks.r1.0 clocks.r2.0

-- M40: the ends of steady clocks: every writer cycle is w long, and every read r
abbrev pub steady : (w r : ℕ) → Ends
steady w r = ends w w r r

-- M10: a length or a count as a signed whole number
abbrev pub signed : ℕ → ℤ
signed n = pos n

-- M1, M10: the mark subcell less the settling count, of the shortest cycles, passes two of the longest reads by this
unfoldable pub m1 : (a g : ℕ) (e : Ends) → ℤ
m1 a g e = (signed a -ℤ signed g) *ℤ signed e.w1 -ℤ signed 2 *ℤ signed e.r2

-- M2, M10: the sampling count less one, of the shortest reads, passes the mark subcell and the settling count, of the
-- longest cycles, by this
unfoldable pub m2 : (a g k : ℕ) (e : Ends) → ℤ
m2 a g k e = (signed k -ℤ signed 1) *ℤ signed e.r1 -ℤ signed (a + g) *ℤ signed e.w2

-- M3, M10: the whole cell less the settling count, of the shortest cycles, passes the sampling count and two, of the
-- longest reads, by this
unfoldable pub m3 : (a b g k : ℕ) (e : Ends) → ℤ
m3 a b g k e = (signed (a + b) -ℤ signed g) *ℤ signed e.w1 -ℤ signed (k + 2) *ℤ signed e.r2

-- M4, M10: the quiet count less two, of the shortest reads, passes a cell and the settling count, of the longest
-- cycles, by this
unfoldable pub m4 : (a b g : ℕ) (e : Ends) (Q : ℕ) → ℤ
m4 a b g e Q = (signed Q -ℤ signed 2) *ℤ signed e.r1 -ℤ signed (a + b + g) *ℤ signed e.w2

-- M5, M10: the lead pad less the settling count, of the shortest cycles, passes the quiet count and one, of the longest
-- reads, by this
unfoldable pub m5 : (g : ℕ) (e : Ends) (Q p1 : ℕ) → ℤ
m5 g e Q p1 = (signed p1 -ℤ signed g) *ℤ signed e.w1 -ℤ signed (Q + 1) *ℤ signed e.r2

-- M11: zero or more
abbrev pub zero_or_more : ℤ → Bool
zero_or_more (pos n) = true
zero_or_more (negsuc n) = false

-- M11: the test that settings have to pass: none of the three margins of a cell is negative
unfoldable pub accepted : (a b g k : ℕ) (e : Ends) → Bool
accepted a b g k e = zero_or_more (m1 a g e) && zero_or_more (m2 a g k e) && zero_or_more (m3 a b g k e)

-- M12: the test that quiet settings have to pass: that one, and neither margin of the quiet is negative
unfoldable pub quiet_accepted : (a b g k : ℕ) (e : Ends) (Q p1 : ℕ) → Bool
quiet_accepted a b g k e Q p1 = accepted a b g k e && zero_or_more (m4 a b g e Q) && zero_or_more (m5 g e Q p1)
