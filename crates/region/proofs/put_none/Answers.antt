-- `put_none` meets its contract: its one piece is put. Where the output is too short, `none_short` says so.
use Rattle.std.proofs.Common.{arith}
use Rattle.region.proofs.NoBoards.{none_put}
use Rattle.region.proofs.put_none.Goals as goal

pub returns : goal.returns
returns c = none_put c.args.out.now _ _ (omega arith) c.put_text.ensures
