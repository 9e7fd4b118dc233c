-- Rules P: P8, P9 and P10, which are cases of g 1, P13 and P14, all of steady clocks, and P16.
use Rattle.std.specs.Prelude.{Bool, true, false, List, [], ◌∷◌, ℤ, pos, negsuc}
use Rattle.measure.specs.Refusals.{Answer, given}
use Rattle.measure.specs.Table.{Case}
use Rattle.settings.specs.Margins.{ends, steady, m2, m3, m4, m5, accepted}
use Rattle.settings.specs.Answers.{Judgement, QuietJudgement, judgement, quiet_judgement}

-- what the judge is to say: three margins and yes or no
abbrev says : ℤ → ℤ → ℤ → Bool → Answer Judgement
says one two three verdict = given (record { margins = record { m1 = one; m2 = two; m3 = three }; accepts = verdict })

-- P8: a 5, b 13, k 10, w 100 at four lengths of a read; of the last only M2 and the "no" are printed
abbrev p8_141 : Case
p8_141 =
    record {
      kind = Answer Judgement;
      gives = judgement 5 13 1 10 (steady 100 141);
      printed =
          says (pos 118) (pos 669) (pos 8) true;
    }

abbrev p8_142 : Case
p8_142 =
    record {
      kind = Answer Judgement;
      gives = judgement 5 13 1 10 (steady 100 142);
      printed =
          says (pos 116) (pos 678) (negsuc 3) false;
    }

abbrev p8_67 : Case
p8_67 = record {
  kind = Answer Judgement;
  gives = judgement 5 13 1 10 (steady 100 67);
  printed =
      says (pos 266) (pos 3) (pos 896) true;
}

abbrev p8_66 : Case
p8_66 = record {
  kind = ℤ × Bool;
  gives = (m2 5 1 10 (steady 100 66), accepted 5 13 1 10 (steady 100 66));
  printed = (negsuc 5, false);
}

-- P9: a 5, b 13, k 10 at two pairs of clocks, each with one margin exactly 0
abbrev p9_12_17 : Case
p9_12_17 = record {
  kind = ℤ × Bool;
  gives = (m3 5 13 1 10 (steady 12 17), accepted 5 13 1 10 (steady 12 17));
  printed = (pos 0, true);
}

abbrev p9_3_2 : Case
p9_3_2 = record {
  kind = ℤ × Bool;
  gives = (m2 5 1 10 (steady 3 2), accepted 5 13 1 10 (steady 3 2));
  printed = (pos 0, true);
}

-- P10: a 5, b 13, w and r 100: the quiet margins at and beside their edge
abbrev p10_21_23 : Case
p10_21_23 = record {
  kind = ℤ × ℤ;
  gives = (m4 5 13 1 (steady 100 100) 21, m5 1 (steady 100 100) 21 23);
  printed = (pos 0, pos 0);
}

abbrev p10_20 : Case
p10_20 = record { kind = ℤ; gives = m4 5 13 1 (steady 100 100) 20; printed = negsuc 99 }

abbrev p10_21_22 : Case
p10_21_22 = record { kind = ℤ; gives = m5 1 (steady 100 100) 21 22; printed = negsuc 99 }

-- P13: a 5, b 13, k 10, w and r 100 with three settling counts, of which the last is longer than a cell
abbrev p13_2 : Case
p13_2 = record {
  kind = Answer Judgement;
  gives = judgement 5 13 2 10 (steady 100 100);
  printed = says (pos 100) (pos 200) (pos 400) true;
}

abbrev p13_4 : Case
p13_4 = record {
  kind = Answer Judgement;
  gives = judgement 5 13 4 10 (steady 100 100);
  printed = says (negsuc 99) (pos 0) (pos 200) false;
}

abbrev p13_64 : Case
p13_64 = record {
  kind = Answer Judgement;
  gives = judgement 5 13 64 10 (steady 100 100);
  printed = says (negsuc 6099) (negsuc 5999) (negsuc 5799) false;
}

-- P14: a 80, b 160, g 64, k 160, w and r 100, Q 306, p1 371: all five margins, the last two at their edge
abbrev P14 : Case
P14 = record {
  kind = Answer QuietJudgement;
  gives = quiet_judgement 80 160 64 160 (steady 100 100) 306 371;
  printed = given (record {
    margins = record { cell = record { m1 = pos 1400; m2 = pos 1500; m3 = pos 1400 }; m4 = pos 0; m5 = pos 0 };
    accepts = true;
  });
}

-- P16: clocks of 100 parts in a million, and clocks that wander far with a settling count longer than a cell
abbrev p16_near : Case
p16_near = record {
  kind = Answer QuietJudgement;
  gives = quiet_judgement 4 7 1 5 (ends 9999 10001 14098 14102) 11 18;
  printed = given (record {
    margins = record { cell = record { m1 = pos 1793; m2 = pos 6387; m3 = pos 1276 }; m4 = pos 6870; m5 = pos 759 };
    accepts = true;
  });
}

abbrev p16_far : Case
p16_far = record {
  kind = Answer QuietJudgement;
  gives = quiet_judgement 5 13 64 10 (ends 90 110 80 120) 21 23;
  printed = given (record {
    margins = record {
      cell = record { m1 = negsuc 5549; m2 = negsuc 6869; m3 = negsuc 5579 };
      m4 = negsuc 7499;
      m5 = negsuc 6329;
    };
    accepts = false;
  });
}

-- P8 to P10, P13, P14 and P16
abbrev pub cases : List Case
cases =
    p8_141 ∷ p8_142 ∷ p8_67 ∷ p8_66 ∷ p9_12_17 ∷ p9_3_2 ∷ p10_21_23 ∷ p10_20 ∷ p10_21_22 ∷ p13_2 ∷ p13_4 ∷ p13_64
    ∷ P14 ∷ p16_near ∷ p16_far ∷ []
