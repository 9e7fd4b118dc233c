-- Rules V10 and V11: the lines of a survey, byte for byte.
use Rattle.std.specs.Prelude.{ℕ, List, [], ◌∷◌, ◌++◌}
use Rattle.settings.specs.Survey.{Report, none, told}
use Rattle.settings.specs.declared.surveying.Smallest.{Smallest}
use Rattle.text.specs.Decimal.{decimal, signed_decimal}

-- V10: "accepted "
abbrev pub accepted_text : List ℕ
accepted_text = 97 ∷ 99 ∷ 99 ∷ 101 ∷ 112 ∷ 116 ∷ 101 ∷ 100 ∷ 32 ∷ []

-- V10: "M1 "
abbrev pub m1_text : List ℕ
m1_text = 77 ∷ 49 ∷ 32 ∷ []

-- V10: "M2 "
abbrev pub m2_text : List ℕ
m2_text = 77 ∷ 50 ∷ 32 ∷ []

-- V10: "M3 "
abbrev pub m3_text : List ℕ
m3_text = 77 ∷ 51 ∷ 32 ∷ []

-- V10: " at "
abbrev pub at_text : List ℕ
at_text = 32 ∷ 97 ∷ 116 ∷ 32 ∷ []

-- V11: "-"
abbrev pub dash : List ℕ
dash = 45 ∷ []

-- V10: a line feed
abbrev pub feed : List ℕ
feed = 10 ∷ []

-- V10: how many boards are accepted
abbrev pub accepted_line : ℕ → List ℕ
accepted_line n = accepted_text ++ decimal n ++ feed

-- V10: a margin's name, the smallest of it, and the first place that has it
abbrev pub margin_line : (name : List ℕ) → Smallest → List ℕ
margin_line name m = name ++ signed_decimal m.margin ++ at_text ++ decimal m.place ++ feed

-- V11: the same where there is no board
abbrev pub dash_line : (name : List ℕ) → List ℕ
dash_line name = name ++ dash ++ at_text ++ dash ++ feed

-- V10, V11: the four lines
abbrev pub report_lines : Report → List ℕ
report_lines none = accepted_line 0 ++ dash_line m1_text ++ dash_line m2_text ++ dash_line m3_text
report_lines (told f) =
    accepted_line f.accepted ++ margin_line m1_text f.m1 ++ margin_line m2_text f.m2 ++ margin_line m3_text f.m3
