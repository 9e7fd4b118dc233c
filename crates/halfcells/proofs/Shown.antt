-- Held on the line the words of a message are its wave; they give its bytes back; and words that were accepted are the
-- words of their bytes.
use mathlib.Core.Path.{◌≡◌, refl, sym, ap, ap₂, ◌∙◌}
use mathlib.Core.List.{List, [], ◌∷◌, ◌++◌, append-nil}
use Prim.Native.Nat.{ℕ, ◌+◌, ◌*◌, ◌%◌, ◌≤◌}
use native.Mathlib.Decide.{dec_le}
use native.Mathlib.Omega.{arith}
use borrow.Author.Tests.{le-ltb, ltb-false}
use lib.ListN.{length}
use Rattle.measure.specs.Levels.{AtMost}
use Rattle.sender.specs.Sending.{cells, wave}
use Rattle.sender.proofs.Waves.{wave_followed}
use Rattle.halfcells.specs.HalfCells.{bits_of, word_from, words_from, words_of, half_cells, no_edge_from, first_no_edge}
use Rattle.halfcells.specs.HalfCells.{byte_of, bytes_of}
use Rattle.halfcells.specs.Shown.{message_bits, held, WordsAreTheWave, WordsGiveBack, BytesGiveBack}
use Rattle.halfcells.proofs.Halves.{no_cell, cells_append, held_cells}
use Rattle.halfcells.proofs.Edges.{cells_edged}
use Rattle.halfcells.proofs.Bits.{length_bits}
use Rattle.halfcells.proofs.WordLaws.{word_halves, word_ends, byte_back, word_back}
use Rattle.halfcells.proofs.ListLaws.{length_words, edges_on, edges_here, word_most, no_words}

-- W20: the half cells of a message's words are the cells of its bits
words_cells : (v : ℕ) (bytes : List ℕ) → v ≤ 1 → half_cells (words_from v bytes) ≡ cells 1 1 v (message_bits bytes)
unfolding half_cells words_from message_bits
words_cells v [] h = sym (no_cell 1 1 v)
words_cells v (byte ∷ bytes) h =
    let word = word_from v byte in
    ap₂ (λ (one other : List ℕ). one ++ other) (word_halves v byte h) (words_cells (word % 2) bytes (omega arith))
    ∙ ap (λ (u : ℕ). cells 1 1 v (bits_of 8 byte) ++ cells 1 1 u (message_bits bytes)) (word_ends v byte h)
    ∙ sym (cells_append 1 1 v (bits_of 8 byte) (message_bits bytes))

-- a wave with no lead pad is the cells alone
unpadded : (a b : ℕ) (bits : List ℕ) → wave a b 0 bits ≡ cells a b 1 bits
unpadded a b bits =
    sym (append-nil (wave a b 0 bits)) ∙ wave_followed a b 0 bits [] ∙ append-nil (cells a b 1 bits)

pub words_are_the_wave : WordsAreTheWave
words_are_the_wave a bytes =
    ap (held a) (words_cells 1 bytes (omega arith))
    ∙ held_cells a 1 (message_bits bytes)
    ∙ sym (unpadded a a (message_bits bytes))

-- W21
word_edges : (v byte : ℕ) → v ≤ 1 → no_edge_from v (bits_of 16 (word_from v byte)) ≡ 8
word_edges v byte h =
    ap (no_edge_from v) (word_halves v byte h) ∙ cells_edged v (bits_of 8 byte) h ∙ length_bits 8 byte

words_edges : (v : ℕ) (bytes : List ℕ) → v ≤ 1 → no_edge_from v (half_cells (words_from v bytes)) ≡ 8 * length bytes
unfolding words_from
words_edges v [] h = no_words v
words_edges v (byte ∷ bytes) h =
    let word = word_from v byte in
    edges_on v word (words_from (word % 2) bytes) (word_edges v byte h)
    ∙ ap (λ (n : ℕ). 8 + n) (words_edges (word % 2) bytes (omega arith))
    ∙ omega arith

bytes_back : (v : ℕ) (bytes : List ℕ) → v ≤ 1 → AtMost 255 bytes → bytes_of (words_from v bytes) ≡ bytes
unfolding words_from bytes_of
bytes_back v [] h all = refl
bytes_back v (byte ∷ bytes) h all =
    ap₂ (λ (x : ℕ) (l : List ℕ). x ∷ l) (byte_back v byte h (omega (arith, all.0)))
    (bytes_back (word_from v byte % 2) bytes (omega arith) all.1)

pub words_give_back : WordsGiveBack
words_give_back bytes all = (
  le-ltb (first_no_edge (words_of bytes)) (8 * length (words_of bytes))
      (omega (arith, words_edges 1 bytes (omega arith), length_words 1 bytes)),
  bytes_back 1 bytes (omega arith) all,
)

-- W22
words_back : (v : ℕ) (words : List ℕ) → v ≤ 1 → AtMost 65535 words
    → 8 * length words ≤ no_edge_from v (half_cells words) → words_from v (bytes_of words) ≡ words
unfolding words_from bytes_of
words_back v [] h all e = refl
words_back v (word ∷ words) h all e = go (dec_le 8 (no_edge_from v (bits_of 16 word)))
    (λ edge. words_back (word % 2) words (omega arith) all.1 (omega (arith, e, edges_on v word words edge)))
  where
    go : Dec (8 ≤ no_edge_from v (bits_of 16 word))
        → (no_edge_from v (bits_of 16 word) ≡ 8 → words_from (word % 2) (bytes_of words) ≡ words)
        → words_from v (byte_of word ∷ bytes_of words) ≡ word ∷ words
    go (yes m) rest =
        let edge : no_edge_from v (bits_of 16 word) ≡ 8 = omega (arith, word_most v word) in
        let back = word_back v word h (omega (arith, all.0)) edge in
        ap₂ (λ (x : ℕ) (l : List ℕ). x ∷ l) back
        (ap (λ (x : ℕ). words_from (x % 2) (bytes_of words)) back ∙ rest edge)
    go (no m) rest = absurd (omega (arith, e, edges_here v word words (omega arith)))

pub bytes_give_back : BytesGiveBack
bytes_give_back words all e =
    words_back 1 words (omega arith) all (ltb-false (first_no_edge words) (8 * length words) e)
