-- `read_header` meets its contract: too many bytes, or the heading that they have.
use Rattle.std.proofs.Common.{◌∙◌, arith}
use Rattle.capture.proofs.Captures.{header_short}
use Rattle.capture.proofs.reading.read_header.Goals as goal

pub returns : goal.returns
returns c = header_short c.args.bytes.now (omega arith) ∙ c.four_numbers.ensures
