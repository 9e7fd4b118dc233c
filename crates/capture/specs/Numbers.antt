-- Rules F: how a number is spelled. Each byte has seven bits of it, the lowest first, and its top bit tells whether
-- another follows; there is one spelling for each number, of three bytes at most.
use Rattle.std.specs.Prelude.{ℕ, zero, suc, ◌+◌, ◌-◌, ◌*◌, ◌/◌, ◌%◌, ◌^◌, List, [], ◌∷◌, drop, ltb, leb, eqb}
use Rattle.measure.specs.Choose.{choose}
use Rattle.measure.specs.Refusals.{Answer, given, refused}

-- F3: at most so many bytes follow a number's first
abbrev pub further : ℕ
further = 2

-- F3: and where all of them do, the last is at most this
abbrev pub last_most : ℕ
last_most = 127

-- F3: one more than the greatest number that so many bytes after the first can say
abbrev pub bound : ℕ → ℕ
bound more = (last_most + 1) * 128 ^ more

-- F1: What stands at the front of bytes: a number and how many bytes it has; a number that is cut off by the end; or no
-- number, for a long form or too many bytes.
pub data Group : Type 0 where
  value : ℕ → ℕ → Group
  cut : Group
  long : Group

-- F1: a byte with its top bit set, before the groups that follow it
abbrev pub before : ℕ → Group → Group
before byte (value v size) = value (byte - 128 + 128 * v) (suc size)
before byte cut = cut
before byte long = long

-- F2, R27: A byte that follows another of its number, and at most so many after it. A last byte of 0 would not be the
-- shortest form.
unfoldable pub following : ℕ → List ℕ → Group
following more [] = cut
following zero (byte ∷ bytes) = choose (eqb byte 0) long (choose (leb byte last_most) (value byte 1) long)
following (suc more) (byte ∷ bytes) =
    choose (eqb byte 0) long (choose (ltb byte 128) (value byte 1) (before byte (following more bytes)))

-- F1, F3, R27: a number's first byte, and at most so many after it
unfoldable pub group : ℕ → List ℕ → Group
group more [] = cut
group zero (byte ∷ bytes) = choose (leb byte last_most) (value byte 1) long
group (suc more) (byte ∷ bytes) = choose (ltb byte 128) (value byte 1) (before byte (following more bytes))

-- F21: a number that was read: its value, and the place after its last byte
pub record Numeral : Type 0 where
  pub value : ℕ
  pub after : ℕ

-- R6, R7: What was found at a place as an answer. Refusal 6 where the bytes end inside the number or before it, 7 where
-- it is not in shortest form or too long; the place is the number's first byte.
abbrev pub placed : ℕ → Group → Answer Numeral
placed at (value v size) = given (record { value = v; after = at + size })
placed at cut = refused 6 at
placed at long = refused 7 at

-- R52: the number at a place
unfoldable pub number_at : List ℕ → ℕ → Answer Numeral
number_at bytes at = placed at (group further (drop at bytes))

-- F1: the bytes of a number, at most so many after the first
unfoldable pub grouped : ℕ → ℕ → List ℕ
grouped zero v = v ∷ []
grouped (suc more) v = choose (ltb v 128) (v ∷ []) ((v % 128 + 128) ∷ grouped more (v / 128))

-- F1, F2: the bytes of a number in a capture
abbrev pub spelled : ℕ → List ℕ
spelled v = grouped further v
