-- The bits of a number, stored one after another.
use mathlib.Core.Path.{◌≡◌, refl, sym, ap, subst, ◌∙◌}
use mathlib.Core.Bool.{Bool, true, ◌&&◌}
use mathlib.Core.List.{List, [], ◌∷◌, ◌++◌, append-nil}
use Prim.Native.Nat.{ℕ, zero, suc, ◌+◌, ◌-◌, ◌/◌, ◌%◌, ◌≤◌, ◌<◌}
use native.Mathlib.Omega.{arith}
use native.Mathlib.Decide.{ℕ_discrete}
use mathlib.Core.Logic.{dite}
use borrow.Author.Tests.{eqb-true, le-ltb}
use lib.Dec.{T, eqb}
use lib.ListN.{length, set, drop, drop_of_length-le, length-append, length-drop}
use borrow.Rule.Slice.PartMut.{put_mid}
use Rattle.std.proofs.lemmas.List.{append_assoc}
use lib.Seq.{sets, sets-eq, length-sets, drop-drop}
use Rattle.measure.proofs.Wrote.{Wrote, wrote_more, wrote_all}
use Rattle.measure.specs.Lists.{onto}
use Rattle.measure.specs.Refusals.{given, lent}
use Rattle.measure.proofs.Both.{both}
use Rattle.measure.proofs.Laid.{laid_first, laid_more}
use Rattle.timecode.specs.Words.{mark, same}
use Rattle.timecode.specs.Times.{bits_of, part_bits, word_of}

-- eight places that hold the bits of a number, of which i have been stored
pub eight_more : (n left i : ℕ) (out₀ out : List ℕ) → Wrote (bits_of 8 n) out₀ out (bits_of (8 - i) left) i → i < 8
    → length out₀ ≡ 8 → Wrote (bits_of 8 n) out₀ (set out i (left % 2)) (bits_of (8 - (i + 1)) (left / 2)) (i + 1)
unfolding bits_of
eight_more n left i out₀ out w h size =
    let e : 8 - i ≡ suc (8 - (i + 1)) = omega arith in
    wrote_more _ _ _ _ _ _ (rw e at w) (omega arith)

pub eight_all : (n left i : ℕ) (out₀ out : List ℕ) → Wrote (bits_of 8 n) out₀ out (bits_of (8 - i) left) i → 8 ≤ i
    → i ≤ 8 → length out₀ ≡ 8 → bits_of 8 n ≡ out
unfolding bits_of
eight_all n left i out₀ out w done most size =
    let e : 8 - i ≡ 0 = omega arith in
    let none : drop 8 out₀ ≡ [] = drop_of_length-le out₀ {i = 8} (omega arith) in
    sym (append-nil (bits_of 8 n)) ∙ ap (λ (l : List ℕ). bits_of 8 n ++ l) (sym none)
    ∙ sym (wrote_all _ _ _ i (rw e at w) (omega arith))

-- a test that holds of every number below a bound
abbrev pub every : (test : ℕ → Bool) (n : ℕ) → Bool
every test zero = true
every test (suc n) = test n && every test n

pub every_holds : (test : ℕ → Bool) (n : ℕ) → every test n ≡ true → (i : ℕ) → i < n → test i ≡ true
every_holds test zero e i h = absurd (omega arith)
every_holds test (suc n) e i h =
    let (here, rest) = both (test n) (every test n) e in
    dite (ℕ_discrete i n) (λ f. ap test f ∙ here) (λ g. every_holds test n rest i (omega arith))

pub same_equal : (one other : List ℕ) → same one other ≡ true → one ≡ other
same_equal [] [] e = refl
same_equal [] (y ∷ other) e = absurd (subst T (sym e) tt)
same_equal (x ∷ one) [] e = absurd (subst T (sym e) tt)
same_equal (x ∷ one) (y ∷ other) e =
    let (here, rest) = both (eqb x y) (same one other) e in
    rw (eqb-true x y here, same_equal one other rest)

-- a part of a time is its units and its tens in eight bits each; its tens have a third bit, which is 0 where two are
-- enough
part_halves : (n : ℕ) → n ≤ 59 → bits_of 8 (n % 10) ++ bits_of 8 (n / 10) ≡ part_bits 3 n
unfolding bits_of part_bits
part_halves n h =
    same_equal (bits_of 8 (n % 10) ++ bits_of 8 (n / 10)) (part_bits 3 n)
    (every_holds (λ (n : ℕ). same (bits_of 8 (n % 10) ++ bits_of 8 (n / 10)) (part_bits 3 n)) 60 refl n (omega arith))

-- sixteen places of a lent output that hold units and tens
pub part_put : (n : ℕ) (out units tens : List ℕ) → n ≤ 59 → length out ≡ 16 → bits_of 8 (n % 10) ≡ units
    → bits_of 8 (n / 10) ≡ tens
    → part_bits 3 n ≡ put_mid 8 (length (units ++ drop 8 out) - 8) (units ++ drop 8 out) tens
unfolding bits_of
part_put n out units tens h size e f =
    let more = length-append (bits_of 8 (n % 10)) (drop 8 out) in
    let rest = length-drop 8 out in
    let none : drop (length (bits_of 8 (n % 10) ++ drop 8 out) - 8) (drop 8 out) ≡ [] =
    drop_of_length-le (drop 8 out) (omega arith) in
    rw (← e, ← f, none) (sym (part_halves n h))

pub part_third : (n : ℕ) → n ≤ 39 → part_bits 3 n ≡ part_bits 2 n
unfolding bits_of part_bits
part_third n h =
    same_equal (part_bits 3 n) (part_bits 2 n)
    (every_holds (λ (n : ℕ). same (part_bits 3 n) (part_bits 2 n)) 40 refl n (omega arith))

pub part_length : (n : ℕ) → length (part_bits 3 n) ≡ 16
unfolding bits_of part_bits
part_length n = refl

-- a piece stored after a result
stored_after : (result piece out out' out'' : List ℕ) (n : ℕ) → out' ≡ onto result out → length result ≡ n
    → n + length piece ≤ length out → sets out' n piece ≡ out'' → out'' ≡ onto (result ++ piece) out
stored_after result piece out out' out'' n e l room f =
    sym f ∙ rw (e, ← l) (laid_more result piece out (omega arith))

-- a piece put into a lent output is stored there
put_stored : (at k : ℕ) (piece put out : List ℕ) → piece ≡ put → length piece ≡ k → at + k ≤ length out
    → sets out at piece ≡ put_mid at k out put
put_stored at k piece put out e size room =
    sets-eq piece out at (omega arith) ∙ rw (append_assoc, size, ← drop-drop k at out, e)

put_length : (at k : ℕ) (piece out out' : List ℕ) → sets out at piece ≡ out' → length out' ≡ length out
put_length at k piece out out' e = ap length (sym e) ∙ length-sets out at piece

-- the word of a time, put piece by piece into a lent output
pub word_put : (h m s f : ℕ) (out frames seconds minutes hours last : List ℕ) → h ≤ 23 → f ≤ 24 → 80 ≤ length out
    → part_bits 3 f ≡ frames → part_bits 3 s ≡ seconds → part_bits 3 m ≡ minutes → part_bits 3 h ≡ hours → mark ≡ last
    → onto (word_of h m s f) out
    ≡ put_mid 64 16 (put_mid 48 16 (put_mid 32 16 (put_mid 16 16 (frames ++ drop 16 out) seconds) minutes) hours) last
unfolding word_of part_bits bits_of
word_put h m s f out frames seconds minutes hours last lh lf room e₁ e₂ e₃ e₄ e₅ =
    let pf = part_bits 3 f in
    let ps = part_bits 3 s in
    let pm = part_bits 3 m in
    let ph = part_bits 3 h in
    let out₁ = frames ++ drop 16 out in
    let out₂ = put_mid 16 16 out₁ seconds in
    let out₃ = put_mid 32 16 out₂ minutes in
    let out₄ = put_mid 48 16 out₃ hours in
    let out₅ = put_mid 64 16 out₄ last in
    let s₁ : sets out 0 pf ≡ out₁ = laid_first pf out (omega arith) ∙ ap (λ (l : List ℕ). l ++ drop 16 out) e₁ in
    let n₁ = put_length 0 16 pf out out₁ s₁ in
    let s₂ : sets out₁ 16 ps ≡ out₂ = put_stored 16 16 ps seconds out₁ e₂ refl (omega arith) in
    let n₂ = put_length 16 16 ps out₁ out₂ s₂ in
    let s₃ : sets out₂ 32 pm ≡ out₃ = put_stored 32 16 pm minutes out₂ e₃ refl (omega arith) in
    let n₃ = put_length 32 16 pm out₂ out₃ s₃ in
    let s₄ : sets out₃ 48 ph ≡ out₄ = put_stored 48 16 ph hours out₃ e₄ refl (omega arith) in
    let n₄ = put_length 48 16 ph out₃ out₄ s₄ in
    let s₅ : sets out₄ 64 mark ≡ out₅ = put_stored 64 16 mark last out₄ e₅ refl (omega arith) in
    let one = sym s₁ ∙ laid_first pf out (omega arith) in
    let two = stored_after pf ps out out₁ out₂ 16 one refl (omega arith) s₂ in
    let three = stored_after (pf ++ ps) pm out out₂ out₃ 32 two refl (omega arith) s₃ in
    let four = stored_after (pf ++ ps ++ pm) ph out out₃ out₄ 48 three refl (omega arith) s₄ in
    let five = stored_after (pf ++ ps ++ pm ++ ph) mark out out₄ out₅ 64 four refl (omega arith) s₅ in
    ap (λ (l : List ℕ). onto (l ++ ps ++ pm ++ part_bits 2 h ++ mark) out) (sym (part_third f (omega arith)))
    ∙ ap (λ (l : List ℕ). onto (pf ++ ps ++ pm ++ l ++ mark) out) (sym (part_third h (omega arith)))
    ∙ sym five

pub word_length : (h m s f : ℕ) → length (word_of h m s f) ≡ 80
unfolding word_of part_bits bits_of
word_length h m s f = refl

-- a lent output that has room for a word
pub word_lent : (h m s f : ℕ) (out out' : List ℕ) → 80 ≤ length out → onto (word_of h m s f) out ≡ out'
    → lent (word_of h m s f) out ≡ (given 80, out')
word_lent h m s f out out' room e =
    rw (le-ltb (length out) (length (word_of h m s f)) (omega (arith, word_length h m s f)), e, word_length h m s f)
