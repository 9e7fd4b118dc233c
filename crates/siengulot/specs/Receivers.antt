-- How a receiver crosses to C: its numbers and 128 bytes, which are lent, and the answers of its operations as numbers.
use Rattle.std.specs.Prelude.{ℕ, Bool, ◌&&◌, List, [], ◌∷◌, leb, eqb, get_or}
use Rattle.measure.specs.Choose.{choose}
use Rattle.measure.specs.Refusals.{Answer, given, refused, refused_after}
use Rattle.board.specs.Rows.{Event, nothing, row, broken}
use Rattle.board.specs.Packed.{mode_number}
use Rattle.board.specs.WellFormed.{well_formed}
use Rattle.board.specs.Answers.{Outcome, stepped, listened}
use Rattle.board.specs.declared.Mode.{Mode}
use Rattle.board.specs.declared.Mode.TheVariants.{Hunting, Ready, Counting, Waiting}
use Rattle.board.specs.declared.Receiver.{Receiver}
use Rattle.siengulot.specs.Crossing.{flag}

-- H8: the mode of a number up to 3
abbrev pub mode_of : ℕ → Mode
mode_of m = choose (eqb m 0) Hunting (choose (eqb m 1) Ready (choose (eqb m 2) Counting Waiting))

-- the numbers of a receiver, by name
pub record Named : Type 0 where
  pub k : ℕ
  pub n : ℕ
  pub Q : ℕ
  pub mode : ℕ
  pub run : ℕ
  pub runlevel : ℕ
  pub left : ℕ
  pub level : ℕ
  pub found : ℕ

-- where each stands among the lent numbers: the header's enum siengulot_number
abbrev pub named : (numbers : List ℕ) → Named
named numbers =
    record {
      k = get_or numbers 0 0;
      n = get_or numbers 1 0;
      Q = get_or numbers 2 0;
      mode = get_or numbers 3 0;
      run = get_or numbers 4 0;
      runlevel = get_or numbers 5 0;
      left = get_or numbers 6 0;
      level = get_or numbers 7 0;
      found = get_or numbers 8 0;
    }

-- H7: the numbers that a receiver crosses as, in that order
abbrev pub numbers_of : Receiver → List ℕ
numbers_of x =
    x.bare.settings.k.0
    ∷ x.bare.settings.n
    ∷ x.bare.settings.q.0
    ∷ mode_number x.bare.numbers.mode
    ∷ x.bare.numbers.run.0
    ∷ x.bare.numbers.runlevel
    ∷ x.bare.numbers.left.0
    ∷ x.bare.numbers.level
    ∷ x.bare.numbers.found
    ∷ []

-- H8: Numbers make a receiver where the mode's is that of a mode and both levels are bytes. Other numbers are a state
-- that is not well formed.
abbrev pub numbers_fit : Named → Bool
numbers_fit x = leb x.mode 3 && leb x.runlevel 255 && leb x.level 255

-- H7: the receiver that numbers and bytes make
unfoldable pub receiver_lent : Named → (bytes : List ℕ) → Receiver
receiver_lent x bytes =
    record {
      bare = record {
        settings = record { k = record { 0 = x.k }; n = x.n; q = record { 0 = x.Q } };
        numbers = record {
          mode = mode_of x.mode;
          run = record { 0 = x.run };
          runlevel = x.runlevel;
          left = record { 0 = x.left };
          level = x.level;
          found = x.found;
        };
      };
      bits = bytes;
    }

-- H7, H9: a receiver as it is lent, and 128 bytes for a row
pub record Lent : Type 0 where
  pub numbers : List ℕ
  pub bytes : List ℕ
  pub row : List ℕ

-- H9: What crosses of reads: the refusal's number (0: none) and place; the event, 0 for nothing, 1 for a row, 2 for a
-- broken one; and the number of bits of a broken row, otherwise 0.
pub record Reply : Type 0 where
  pub number : ℕ
  pub place : ℕ
  pub event : ℕ
  pub found : ℕ

-- H7: a next receiver put back in the lent numbers and bytes, beside a row
abbrev pub put_back : Receiver → (bits : List ℕ) → Lent
put_back next bits = record { numbers = numbers_of next; bytes = next.bits; row = bits }

-- H9: What crosses of an answer, and what is lent afterwards. The row's bytes are written where a row is delivered, all
-- 128 of them, and are otherwise left. A refusal leaves all that is lent.
abbrev pub answered : Lent → Receiver → (bits : List ℕ) → Answer Event → Reply × Lent
answered lent next bits (given nothing) =
    (record { number = 0; place = 0; event = 0; found = 0 }, put_back next lent.row)
answered lent next bits (given (row delivered)) =
    (record { number = 0; place = 0; event = 1; found = 0 }, put_back next bits)
answered lent next bits (given (broken found)) =
    (record { number = 0; place = 0; event = 2; found = found }, put_back next lent.row)
answered lent next bits (refused number place) =
    (record { number = number; place = place; event = 0; found = 0 }, lent)
answered lent next bits (refused_after number place count) =
    (record { number = number; place = place; event = 0; found = 0 }, lent)

-- H9
abbrev pub brought : Lent → Outcome → Reply × Lent
brought lent outcome = answered lent outcome.receiver outcome.row outcome.answer

-- H9: what crosses of an answer, and the numbers afterwards, where the bits and the row's bytes are in place
abbrev pub handed : (numbers : List ℕ) → Receiver → Answer Event → Reply × List ℕ
handed numbers next (given nothing) = (record { number = 0; place = 0; event = 0; found = 0 }, numbers_of next)
handed numbers next (given (row delivered)) = (record { number = 0; place = 0; event = 1; found = 0 }, numbers_of next)
handed numbers next (given (broken found)) =
    (record { number = 0; place = 0; event = 2; found = found }, numbers_of next)
handed numbers next (refused number place) =
    (record { number = number; place = place; event = 0; found = 0 }, numbers)
handed numbers next (refused_after number place count) =
    (record { number = number; place = place; event = 0; found = 0 }, numbers)

-- H8: refusal 1 of numbers that make no receiver
abbrev pub no_receiver : Reply
no_receiver = record { number = 1; place = 0; event = 0; found = 0 }

-- H9: one read
unfoldable pub stepped_lent : Lent → (read : ℕ) → Reply × Lent
stepped_lent lent read =
    choose (numbers_fit (named lent.numbers))
    (brought lent (stepped (receiver_lent (named lent.numbers) lent.bytes) read)) (no_receiver, lent)

-- H9: reads up to and with the first that brings an event, and how many were used: none with a refusal
abbrev pub brought_by : Lent → Outcome × ℕ → (Reply × Lent) × ℕ
brought_by lent (outcome, used) = (brought lent outcome, used)

-- H9
unfoldable pub listened_lent : Lent → (reads : List ℕ) → (Reply × Lent) × ℕ
listened_lent lent reads =
    choose (numbers_fit (named lent.numbers))
    (brought_by lent (listened (receiver_lent (named lent.numbers) lent.bytes) reads)) ((no_receiver, lent), 0)

-- H2: 1 for a state that is well formed, otherwise 0
unfoldable pub well_formed_lent : (numbers bytes : List ℕ) → ℕ
well_formed_lent numbers bytes =
    flag (numbers_fit (named numbers) && well_formed (receiver_lent (named numbers) bytes))

-- H7, R33: starting: the refusal's number, and the receiver with which to start, also after a refusal
abbrev pub begun_lent : Answer Event × Receiver → ℕ × List ℕ × List ℕ
begun_lent (given event, next) = (0, numbers_of next, next.bits)
begun_lent (refused number place, next) = (number, numbers_of next, next.bits)
begun_lent (refused_after number place count, next) = (number, numbers_of next, next.bits)
