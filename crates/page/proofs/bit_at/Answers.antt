-- `bit_at` meets its contract: a row's bit is that binary digit of its byte.
use Rattle.board.proofs.BitPlaces.{bit_of_byte}
use Rattle.page.proofs.bit_at.Goals as goal

pub returns : goal.returns
returns c = bit_of_byte c.args.bits.now c.args.i
