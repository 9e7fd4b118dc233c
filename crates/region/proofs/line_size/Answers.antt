-- `line_size` meets its contract: it adds the lengths of the line's five pieces, and none of these is great.
use Rattle.std.proofs.Common.{arith}
use Rattle.text.proofs.Digits.{size_most}
use Rattle.region.proofs.Pieces.{signed_size_most}
use Rattle.region.proofs.line_size.Goals as goal

pub overflow_add-result : goal.overflow_add-result
overflow_add-result c = omega (arith, signed_size_most _ c.signed_size.ensures)

pub overflow_add-result-2 : goal.overflow_add-result-2
overflow_add-result-2 c = omega (arith, signed_size_most _ c.signed_size.ensures)

pub overflow_add-result-3 : goal.overflow_add-result-3
overflow_add-result-3 c =
    omega (arith, signed_size_most _ c.signed_size.ensures, size_most _ c.number_size.ensures)

pub overflow_add-result-4 : goal.overflow_add-result-4
overflow_add-result-4 c =
    omega (arith, signed_size_most _ c.signed_size.ensures, size_most _ c.number_size.ensures)

pub returns-clause-most : goal.returns-clause-most
returns-clause-most c =
    omega (arith, signed_size_most _ c.signed_size.ensures, size_most _ c.number_size.ensures)
