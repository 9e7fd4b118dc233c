-- Rules L, worked: what warp by lengths gives.
use Rattle.std.specs.Prelude.{ℕ, List, [], ◌∷◌}
use Rattle.measure.specs.Table.{Case}
use Rattle.line.specs.Wander.{warp_by_lengths}

-- six levels, the lengths of their cycles, and those of seven reads
abbrev six_levels : List ℕ
six_levels = 1 ∷ 1 ∷ 2 ∷ 0 ∷ 0 ∷ 1 ∷ []

abbrev six_cycles : List ℕ
six_cycles = 3 ∷ 2 ∷ 4 ∷ 2 ∷ 3 ∷ 4 ∷ []

abbrev seven_reads : List ℕ
seven_reads = 2 ∷ 5 ∷ 1 ∷ 4 ∷ 3 ∷ 1 ∷ 1 ∷ []

-- L41: the first read within a cycle, the second over two that differ, the fourth over two that agree
abbrev wandering : Case
wandering = record {
  kind = List ℕ;
  gives = warp_by_lengths 1 six_cycles seven_reads six_levels;
  printed = 1 ∷ 2 ∷ 2 ∷ 0 ∷ 2 ∷ 1 ∷ 1 ∷ [];
}

-- L41: reads that only touch the cycles beside their own
abbrev touching : Case
touching = record {
  kind = List ℕ;
  gives = warp_by_lengths 0 (3 ∷ 1 ∷ 2 ∷ []) (3 ∷ 1 ∷ 2 ∷ []) (1 ∷ 0 ∷ 1 ∷ []);
  printed = 1 ∷ 0 ∷ 1 ∷ [];
}

-- L42: two lengths of cycles for three levels, and three for two
abbrev fewer_lengths : Case
fewer_lengths = record {
  kind = List ℕ;
  gives = warp_by_lengths 0 (3 ∷ 3 ∷ []) (3 ∷ 3 ∷ 3 ∷ []) (1 ∷ 0 ∷ 1 ∷ []);
  printed = 1 ∷ 0 ∷ [];
}

abbrev fewer_levels : Case
fewer_levels = record {
  kind = List ℕ;
  gives = warp_by_lengths 0 (3 ∷ 3 ∷ 3 ∷ []) (3 ∷ 3 ∷ 3 ∷ []) (1 ∷ 0 ∷ []);
  printed = 1 ∷ 0 ∷ [];
}

-- L43: one length of a read, and a read that would end a unit after the wave
abbrev fewer_reads : Case
fewer_reads = record {
  kind = List ℕ;
  gives = warp_by_lengths 0 (3 ∷ 3 ∷ []) (3 ∷ []) (1 ∷ 0 ∷ []);
  printed = 1 ∷ [];
}

abbrev too_late : Case
too_late = record {
  kind = List ℕ;
  gives = warp_by_lengths 0 (3 ∷ 3 ∷ []) (3 ∷ 4 ∷ []) (1 ∷ 0 ∷ []);
  printed = 1 ∷ [];
}

-- L41 to L43
abbrev pub cases : List Case
cases = wandering ∷ touching ∷ fewer_lengths ∷ fewer_levels ∷ fewer_reads ∷ too_late ∷ []
