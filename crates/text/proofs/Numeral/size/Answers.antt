-- `size` meets its contract: a sign is one byte more, and a number has few digits.
use Rattle.std.proofs.Common.{arith}
use Rattle.text.proofs.Digits.{size_most}
use Rattle.text.proofs.Numeral.size.Goals as goal

pub overflow_add-result : goal.overflow_add-result
overflow_add-result c = omega (arith, size_most _ c.number_size-digits.ensures)
