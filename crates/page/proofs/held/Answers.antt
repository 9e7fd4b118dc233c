-- `held` meets its contract: bytes hold eight bits each.
use Rattle.page.proofs.Bits.{held_some, held_all}
use Rattle.page.proofs.held.Goals as goal

pub returns-then-n-bytes : goal.returns-then-n-bytes
returns-then-n-bytes c = held_some c.args.bits.now c.args.n c.if-n-bytes.true

pub returns-else-n-bytes : goal.returns-else-n-bytes
returns-else-n-bytes c = held_all c.args.bits.now c.args.n c.if-n-bytes.false
