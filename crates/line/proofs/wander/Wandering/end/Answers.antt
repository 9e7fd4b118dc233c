-- `end` meets its contract: the cycles have taken the sum of their lengths, and that fits.
use Rattle.std.proofs.Common.{length, take, arith}
use Rattle.std.proofs.lemmas.Iterator.{YieldsList-from_slice}
use Rattle.std.proofs.lemmas.Iterator.Consumers.{sum_from_yields_List, fits_from_yields_list}
use Rattle.line.proofs.WanderClocks.{clock_sum, time_most}
use Rattle.line.proofs.wander.Wandering.end.Goals as goal

pub sum-requires-clause-fits : goal.sum-requires-clause-fits
sum-requires-clause-fits c =
    let n = length c.args.self.wave.now in
    let lengths = c.args.self.cycles.now in
    fits_from_yields_list c.iter.result _ (YieldsList-from_slice (take n lengths) cc)
    (omega (arith, clock_sum 0 lengths n c.args.self.lasting, time_most c.args.self.judged 0 n c.args.self.lasting))

pub returns : goal.returns
returns c =
    let n = length c.args.self.wave.now in
    let lengths = c.args.self.cycles.now in
    omega (
      arith,
      clock_sum 0 lengths n c.args.self.lasting,
      sum_from_yields_List c.iter.result c.sum.result c.sum.ensures.ran (YieldsList-from_slice (take n lengths) cc),
    )
