-- Lists of bytes and words, from a place on: the word or byte at the place, and then those after it.
use Rattle.std.proofs.Common.{◌≡◌, refl, ap, ◌∙◌, List, [], ◌∷◌, ◌++◌, ℕ, suc, ◌+◌, ◌*◌, ◌%◌, ◌≤◌, ◌<◌, add-one}
use Rattle.std.proofs.Common.{arith, length, drop, get_or, drop_of_length-le, drop-cons}
use Rattle.halfcells.specs.HalfCells.{bits_of, word_from, words_from, half_cells, no_edge_from, byte_of, bytes_of}
use Rattle.halfcells.specs.Turns.{level_after}
use Rattle.halfcells.proofs.Bits.{length_bits}
use Rattle.halfcells.proofs.Edges.{edges_most, edges_past, edges_within}
use Rattle.halfcells.proofs.ReadWhole.{last_bit}

-- bytes to words
pub words_step : (v : ℕ) (bytes : List ℕ) (i : ℕ) → i < length bytes
    → let word = word_from v (get_or bytes i 0) in
    words_from v (drop i bytes) ≡ word ∷ words_from (word % 2) (drop (i + 1) bytes)
unfolding words_from
words_step v bytes i h = rw (drop-cons bytes i 0 h, add-one)

pub words_end : (v : ℕ) (bytes : List ℕ) (i : ℕ) → length bytes ≤ i → words_from v (drop i bytes) ≡ []
unfolding words_from
words_end v bytes i h = rw (drop_of_length-le bytes h)

-- the words of bytes, and then those of the bytes after them
pub words_append : (v : ℕ) (one other : List ℕ)
    → words_from v (one ++ other) ≡ words_from v one ++ words_from (level_after v one) other
unfolding words_from level_after
words_append v [] other = refl
words_append v (byte ∷ one) other =
    ap (λ (l : List ℕ). word_from v byte ∷ l) (words_append (word_from v byte % 2) one other)

-- the level on which they end, from a place on
pub level_step : (v : ℕ) (bytes : List ℕ) (i : ℕ) → i < length bytes
    → level_after v (drop i bytes) ≡ level_after (word_from v (get_or bytes i 0) % 2) (drop (i + 1) bytes)
unfolding level_after
level_step v bytes i h = rw (drop-cons bytes i 0 h, add-one)

pub level_end : (v : ℕ) (bytes : List ℕ) (i : ℕ) → length bytes ≤ i → level_after v (drop i bytes) ≡ v
unfolding level_after
level_end v bytes i h = rw (drop_of_length-le bytes h)

pub length_words : (v : ℕ) (bytes : List ℕ) → length (words_from v bytes) ≡ length bytes
unfolding words_from
length_words v [] = refl
length_words v (byte ∷ bytes) = ap suc (length_words (word_from v byte % 2) bytes)

-- words to bytes
pub bytes_step : (words : List ℕ) (i : ℕ) → i < length words
    → bytes_of (drop i words) ≡ byte_of (get_or words i 0) ∷ bytes_of (drop (i + 1) words)
unfolding bytes_of
bytes_step words i h = rw (drop-cons words i 0 h, add-one)

pub bytes_end : (words : List ℕ) (i : ℕ) → length words ≤ i → bytes_of (drop i words) ≡ []
unfolding bytes_of
bytes_end words i h = rw (drop_of_length-le words h)

pub length_bytes : (words : List ℕ) → length (bytes_of words) ≡ length words
unfolding bytes_of
length_bytes [] = refl
length_bytes (word ∷ words) = ap suc (length_bytes words)

-- the first cell with no edge: in the first word, or else eight cells on
pub edges_on : (v word : ℕ) (words : List ℕ) → no_edge_from v (bits_of 16 word) ≡ 8
    → no_edge_from v (half_cells (word ∷ words)) ≡ 8 + no_edge_from (word % 2) (half_cells words)
unfolding half_cells
edges_on v word words e =
    edges_past 8 v (bits_of 16 word) (half_cells words) (length_bits 16 word) e
    ∙ ap (λ (u : ℕ). 8 + no_edge_from u (half_cells words)) (last_bit 15 v word)

pub edges_here : (v word : ℕ) (words : List ℕ) → no_edge_from v (bits_of 16 word) < 8
    → no_edge_from v (half_cells (word ∷ words)) ≡ no_edge_from v (bits_of 16 word)
unfolding half_cells
edges_here v word words h = edges_within 8 v (bits_of 16 word) (half_cells words) (length_bits 16 word) h

pub word_most : (v word : ℕ) → no_edge_from v (bits_of 16 word) ≤ 8
word_most v word = edges_most 8 v (bits_of 16 word) (length_bits 16 word)

pub no_words : (v : ℕ) → no_edge_from v (half_cells []) ≡ 0
unfolding no_edge_from half_cells
no_words v = refl

-- the words searched: each cell of the first i has an edge, and v is the level on which they end
pub record Edged (words : List ℕ) (i v : ℕ) : Type 0 where
  pub within : i ≤ length words
  pub level : v ≤ 1
  pub left : no_edge_from 1 (half_cells words) ≡ 8 * i + no_edge_from v (half_cells (drop i words))

pub edged_none : (words : List ℕ) → Edged words 0 1
edged_none words = record { within = omega arith; level = omega arith; left = omega arith }

module _ {words : List ℕ} {i v : ℕ} (q : Edged words i v) where
  abbrev here : ℕ
  here = no_edge_from v (bits_of 16 (get_or words i 0))

  pub edged_one : i < length words → 8 ≤ here → Edged words (i + 1) (get_or words i 0 % 2)
  edged_one h e =
      let eight : here ≡ 8 = omega (arith, word_most v (get_or words i 0)) in
      let next : no_edge_from v (half_cells (drop i words))
      ≡ 8 + no_edge_from (get_or words i 0 % 2) (half_cells (drop (i + 1) words)) =
      rw (drop-cons words i 0 h, add-one) (edges_on v (get_or words i 0) (drop (suc i) words) eight) in
      record { within = omega arith; level = omega arith; left = omega (arith, q.left) }

  pub edged_found : i < length words → here < 8 → no_edge_from 1 (half_cells words) ≡ 8 * i + here
  edged_found h e =
      let there : no_edge_from v (half_cells (drop i words)) ≡ here =
      rw (drop-cons words i 0 h) (edges_here v (get_or words i 0) (drop (suc i) words) e) in
      omega (arith, q.left)

  pub edged_all : length words ≤ i → no_edge_from 1 (half_cells words) ≡ 8 * length words
  edged_all h =
      let none : no_edge_from v (half_cells (drop i words)) ≡ 0 =
      rw (drop_of_length-le words h) (no_words v) in
      omega (arith, q.left, q.within)
