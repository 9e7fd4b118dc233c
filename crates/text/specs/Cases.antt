-- Numbers as the lines of the programs print them: 0, a total of reads, the greatest number, a margin below 0 and the
-- least signed number.
use Rattle.std.specs.Prelude.{ℕ, List, [], ◌∷◌, negsuc}
use Rattle.measure.specs.Table.{Case}
use Rattle.text.specs.Decimal.{decimal, signed_decimal}

abbrev none : Case
none = record { kind = List ℕ; gives = decimal 0; printed = 48 ∷ [] }

abbrev total : Case
total = record { kind = List ℕ; gives = decimal 1048576; printed = 49 ∷ 48 ∷ 52 ∷ 56 ∷ 53 ∷ 55 ∷ 54 ∷ [] }

abbrev greatest : Case
greatest =
    record {
      kind = List ℕ;
      gives = decimal 18446744073709551615;
      printed =
          49 ∷ 56 ∷ 52 ∷ 52 ∷ 54 ∷ 55 ∷ 52 ∷ 52 ∷ 48 ∷ 55 ∷ 51 ∷ 55 ∷ 48 ∷ 57 ∷ 53 ∷ 53 ∷ 49 ∷ 54 ∷ 49 ∷ 53 ∷ [];
    }

-- the margin of P8 that is −4
abbrev below : Case
below = record { kind = List ℕ; gives = signed_decimal (negsuc 3); printed = 45 ∷ 52 ∷ [] }

abbrev pub cases : List Case
cases = none ∷ total ∷ greatest ∷ below ∷ []
