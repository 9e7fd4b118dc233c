-- `search_word` meets its contract: the cells left are the lowest bits of the word, twice as many as there are cells.
use Rattle.std.proofs.Common.{◌≡◌, sym, ◌∙◌, ◌∷◌, ℕ, suc, ◌+◌, ◌-◌, ◌*◌, ◌/◌, ◌%◌, ◌^◌, ◌≤◌, ◌<◌, add-one, arith}
use Rattle.std.proofs.Common.{eq-eqb, ne_eqb}
use Rattle.halfcells.specs.HalfCells.{bits_of, no_edge_from}
use Rattle.halfcells.proofs.search_word.Goals as goal

module _ (word level cell : ℕ) (h : cell < 8) where
  -- the place of the code of the first cell left; its mark is one place higher
  abbrev code : ℕ
  code = 2 * (8 - cell) - 2

  cells_left : bits_of (16 - 2 * cell) word
      ≡ word / 2 ^ (code + 1) % 2 ∷ word / 2 ^ code % 2 ∷ bits_of (16 - 2 * (cell + 1)) word
  unfolding bits_of
  cells_left =
      let e : 16 - 2 * cell ≡ suc (suc code) = omega arith in
      let f : 16 - 2 * (cell + 1) ≡ code = omega arith in
      rw (e, f, add-one)

  here : word / 2 ^ (code + 1) % 2 ≡ level → no_edge_from level (bits_of (16 - 2 * cell) word) ≡ 0
  unfolding no_edge_from
  here e = rw (cells_left, eq-eqb (word / 2 ^ (code + 1) % 2) level e)

  further : (word / 2 ^ (code + 1) % 2 ≡ level → ⊥)
      → no_edge_from level (bits_of (16 - 2 * cell) word)
      ≡ suc (no_edge_from (word / 2 ^ code % 2) (bits_of (16 - 2 * (cell + 1)) word))
  unfolding no_edge_from
  further e = rw (cells_left, ne_eqb (word / 2 ^ (code + 1) % 2) level e)

none_left : (word level cell : ℕ) → 8 ≤ cell → no_edge_from level (bits_of (16 - 2 * cell) word) ≡ 0
unfolding bits_of no_edge_from
none_left word level cell h =
    let e : 16 - 2 * cell ≡ 0 = omega arith in
    rw e

pub returns-then-half-level : goal.returns-then-half-level
returns-then-half-level c =
    let none =
    here c.args.word c.loop-cell.level c.loop-cell.cell (omega arith) (sym c.half.ensures ∙ c.if-half-level.true) in
    (omega arith, omega (arith, none, c.loop-cell.invariant))

pub loop-cell-preserved : goal.loop-cell-preserved
loop-cell-preserved c =
    let next =
    further c.args.word c.loop-cell.level c.loop-cell.cell (omega arith)
    (λ e. c.if-half-level.false (c.half.ensures ∙ e)) in
    rw c.half-level.ensures (omega (arith, next, c.loop-cell.invariant))

pub returns : goal.returns
returns c =
    omega (
      arith,
      none_left c.args.word c.loop-cell.level c.loop-cell.cell (omega arith),
      c.loop-cell.invariant,
    )
