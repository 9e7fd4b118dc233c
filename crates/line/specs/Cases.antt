-- Rules P: P2 to P6, and P12.
use Rattle.std.specs.Prelude.{ℕ, List, [], ◌∷◌}
use Rattle.measure.specs.Table.{Case}
use Rattle.line.specs.Smooth.{smooth}
use Rattle.line.specs.Warp.{warp}
use Rattle.line.specs.Settle.{settle}

-- the wave that P1 prints
abbrev sent_wave : List ℕ
sent_wave = 1 ∷ 1 ∷ 0 ∷ 0 ∷ 1 ∷ 1 ∷ 1 ∷ 0 ∷ 0 ∷ 0 ∷ 0 ∷ 0 ∷ 1 ∷ []

-- what P2 prints of it
abbrev smoothed_wave : List ℕ
smoothed_wave = 1 ∷ 1 ∷ 2 ∷ 0 ∷ 2 ∷ 1 ∷ 1 ∷ 2 ∷ 0 ∷ 0 ∷ 0 ∷ 0 ∷ 2 ∷ []

-- what P3 prints of that
abbrev warped_reads : List ℕ
warped_reads = 1 ∷ 2 ∷ 2 ∷ 2 ∷ 2 ∷ 1 ∷ 2 ∷ 2 ∷ 0 ∷ 0 ∷ 0 ∷ 2 ∷ []

abbrev P2 : Case
P2 = record { kind = List ℕ; gives = smooth 1 sent_wave; printed = smoothed_wave }

-- P3: w 4, r 4, at phase 1 and at phase 0
abbrev p3_1 : Case
p3_1 = record { kind = List ℕ; gives = warp 4 4 1 smoothed_wave; printed = warped_reads }

abbrev p3_0 : Case
p3_0 = record { kind = List ℕ; gives = warp 4 4 0 smoothed_wave; printed = smoothed_wave }

-- P4: choices 1 0 0 1
abbrev P4 : Case
P4 = record {
  kind = List ℕ;
  gives = settle warped_reads (1 ∷ 0 ∷ 0 ∷ 1 ∷ []);
  printed = 1 ∷ 1 ∷ 0 ∷ 0 ∷ 1 ∷ 1 ∷ 0 ∷ 0 ∷ 0 ∷ 0 ∷ 0 ∷ 0 ∷ [];
}

-- P5: 1 2 0 0 at w 2, p 0, with r 3 and with r 4
abbrev p5_3 : Case
p5_3 = record { kind = List ℕ; gives = warp 2 3 0 (1 ∷ 2 ∷ 0 ∷ 0 ∷ []); printed = 2 ∷ 2 ∷ [] }

abbrev p5_4 : Case
p5_4 = record { kind = List ℕ; gives = warp 2 4 0 (1 ∷ 2 ∷ 0 ∷ 0 ∷ []); printed = 2 ∷ 0 ∷ [] }

-- P6: one cycle at w 3, r 3: one read at phase 0, none at phase 1
abbrev p6_0 : Case
p6_0 = record { kind = List ℕ; gives = warp 3 3 0 (1 ∷ []); printed = 1 ∷ [] }

abbrev p6_1 : Case
p6_1 = record { kind = List ℕ; gives = warp 3 3 1 (1 ∷ []); printed = [] }

-- P12: the wave of P1 smoothed with g 2 and with g 64
abbrev p12_2 : Case
p12_2 = record {
  kind = List ℕ;
  gives = smooth 2 sent_wave;
  printed = 1 ∷ 1 ∷ 2 ∷ 2 ∷ 2 ∷ 2 ∷ 1 ∷ 2 ∷ 2 ∷ 0 ∷ 0 ∷ 0 ∷ 2 ∷ [];
}

abbrev p12_64 : Case
p12_64 = record {
  kind = List ℕ;
  gives = smooth 64 sent_wave;
  printed = 1 ∷ 1 ∷ 2 ∷ 2 ∷ 2 ∷ 2 ∷ 2 ∷ 2 ∷ 2 ∷ 2 ∷ 2 ∷ 2 ∷ 2 ∷ [];
}

-- P2 to P6, and P12
abbrev pub cases : List Case
cases = P2 ∷ p3_1 ∷ p3_0 ∷ P4 ∷ p5_3 ∷ p5_4 ∷ p6_0 ∷ p6_1 ∷ p12_2 ∷ p12_64 ∷ []
