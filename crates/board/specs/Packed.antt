-- Rules B30, B31 and form A3: a row's bits are kept packed, the first bit lowest in the first word, 128 bytes for up to
-- 1,024 bits; and how a receiver keeps a state.
use Rattle.std.specs.Prelude.{ℕ, zero, suc, ◌+◌, ◌*◌, ◌/◌, ◌%◌, List, [], ◌∷◌, ◌++◌, length, take, drop}
use Rattle.board.specs.Rows.{Settings, run_of, State}
use Rattle.board.specs.declared.Bare.{Bare}
use Rattle.board.specs.declared.Mode.{Mode}
use Rattle.board.specs.declared.Mode.TheVariants.{Hunting, Ready, Counting, Waiting}
use Rattle.board.specs.declared.Receiver.{Receiver}
use Rattle.measure.specs.declared.RowSettings.{RowSettings}

-- B30: the number whose binary digits, lowest first, are the first `width` entries of a list; a place past the end
-- counts as 0
unfoldable pub number : ℕ → List ℕ → ℕ
number zero bits = 0
number (suc width) [] = 0
number (suc width) (bit ∷ bits) = bit + 2 * number width bits

-- B30: the lowest binary digits of a number, so many, lowest first
unfoldable pub digits : ℕ → ℕ → List ℕ
digits zero x = []
digits (suc width) x = x % 2 ∷ digits width (x / 2)

-- B30: bits as so many words of a width
unfoldable pub packed : ℕ → ℕ → List ℕ → List ℕ
packed width zero bits = []
packed width (suc words) bits = number width bits ∷ packed width words (drop width bits)

-- B30: the bits of words of a width
unfoldable pub unpacked : ℕ → List ℕ → List ℕ
unpacked width [] = []
unpacked width (x ∷ words) = digits width x ++ unpacked width words

-- B30: a row's bits as they are kept and handed over
abbrev pub kept : List ℕ → List ℕ
kept bits = packed 8 128 bits

-- B1, B32: the receiver that bare numbers and lent bits make
abbrev pub whole : Bare → (bits : List ℕ) → Receiver
whole x bits = record { bare = x; bits = bits }

-- B1: what the code's settings are in the rules, and the other way
abbrev pub rules_of : RowSettings → Settings
rules_of x = record { k = x.k.0; n = x.n; Q = x.q.0 }

-- B1
abbrev pub settings_as : Settings → RowSettings
settings_as g = record { k = record { 0 = g.k }; n = g.n; q = record { 0 = g.Q } }

-- B1: the settings that a receiver keeps
abbrev pub settings_of : Receiver → Settings
settings_of x = rules_of x.bare.settings

-- B1, B30: the state that a receiver keeps
abbrev pub state_of : Receiver → State
state_of x =
    record {
      mode = x.bare.numbers.mode;
      left = x.bare.numbers.left.0;
      level = x.bare.numbers.level;
      run = run_of x.bare.numbers.run.0 x.bare.numbers.runlevel;
      bits = take x.bare.numbers.found (unpacked 8 x.bits);
    }

-- B1, B30: the receiver that keeps settings and a state
abbrev pub receiver_of : Settings → State → Receiver
receiver_of g s =
    record {
      bare = record {
        settings = settings_as g;
        numbers = record {
          mode = s.mode;
          run = record { 0 = s.run.reads };
          runlevel = s.run.level;
          left = record { 0 = s.left };
          level = s.level;
          found = length s.bits;
        };
      };
      bits = kept s.bits;
    }

-- H8: a mode's number, in the order of the rules
abbrev pub mode_number : Mode → ℕ
mode_number Hunting = 0
mode_number Ready = 1
mode_number Counting = 2
mode_number Waiting = 3
