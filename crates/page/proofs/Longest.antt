-- No line is longer than twenty digits, a row's word, 1,024 bits and a line feed: numbers have at most twenty digits,
-- and a row comes in 128 bytes.
use Rattle.std.proofs.Common.{Result, Option, Ok, Err, Some, None, ℕ, ◌-◌, ◌≤◌, List, [], arith, length, take}
use Rattle.measure.specs.Refusals.{number_of, place_of}
use Rattle.measure.specs.declared.Refusal.{Refusal}
use Rattle.board.specs.Packed.{unpacked}
use Rattle.board.specs.Answers.{event_says}
use Rattle.board.specs.declared.Event.{Event as CodeEvent}
use Rattle.board.specs.declared.Event.TheVariants.{Row, Broken}
use Rattle.board.proofs.PackedBits.{length_unpacked}
use Rattle.text.specs.Decimal.{decimal}
use Rattle.text.proofs.Digits.{decimal_most}
use Rattle.text.proofs.PutLaws.{length_four, length_five}
use Rattle.page.specs.Words.{feed, row_text, broken_text, end_text, rows_text, refused_text, at_text, bits_text}
use Rattle.page.specs.Lines.{refused_line}
use Rattle.page.specs.Walk.{Walk, line_at}
use Rattle.page.proofs.Bits.{text_length, taken_within}

pub refused_most : (refusal : Refusal) → length (refused_line (number_of refusal) (place_of refusal)) ≤ 1050
refused_most refusal =
    omega (
      arith,
      length_five refused_text (decimal (number_of refusal)) at_text (decimal (place_of refusal)) feed [],
      decimal_most (number_of refusal),
      decimal_most (place_of refusal),
    )

pub longest : (w : Walk) (n : ℕ) (bytes : List ℕ) (event : Result (Option CodeEvent) Refusal) → length bytes ≤ 128
    → length (line_at w (event_says n bytes event)) ≤ 1050
longest w n bytes (Ok None) h =
    omega (
      arith,
      length_five end_text (decimal w.place) rows_text (decimal w.rows) feed [],
      decimal_most w.place,
      decimal_most w.rows,
    )
longest w n bytes (Ok (Some Row)) h =
    let bits = take n (unpacked 8 bytes) in
    omega (
      arith,
      length_four (decimal (w.place - 1)) row_text (bits_text bits) feed [],
      decimal_most (w.place - 1),
      text_length bits,
      taken_within n (unpacked 8 bytes),
      length_unpacked 8 bytes,
    )
longest w n bytes (Ok (Some (Broken found))) h =
    omega (
      arith,
      length_four (decimal (w.place - 1)) broken_text (decimal found) feed [],
      decimal_most (w.place - 1),
      decimal_most found,
    )
longest w n bytes (Err refusal) h = refused_most refusal
