-- `count_into` meets its contract: what is written, followed by what is found in the reads left, is all that is found.
use Rattle.std.proofs.Common.{ap, ◌-◌, arith, drop, length}
use Rattle.std.proofs.lemmas.List.{length-drop, set-get_or, take_all}
use Rattle.counted.proofs.Counting.{counting_one, counting_short, counting_all, counted_front, front_length}
use Rattle.counted.proofs.count_into.Goals as goal

pub returns-then-marked-k : goal.returns-then-marked-k
returns-then-marked-k c =
    let size = front_length _ _ c.args.out.now c.loop-i.front c.loop-i.auto.front c.requires (omega arith) in
    let few = ap length c.from_mark-marked.ensures in
    rw set-get_or
    (counted_front _ _ _ _ _ _ _ _ c.requires (omega arith) (counting_short c.loop-i.invariant (omega arith) (omega arith) (omega arith)))

pub loop-i-preserved : goal.loop-i-preserved
loop-i-preserved c =
    let size = front_length _ _ c.args.out.now c.loop-i.front c.loop-i.auto.front c.requires (omega arith) in
    let k = c.args.k.0 in
    let all = c.from_mark-marked.result.now in
    let marked = c.from_mark-marked.ensures in
    let after = take_all (length all - k) (drop k all) (omega (arith, length-drop k all)) in
    let bit = rw (after, marked) at c.bit.ensures in
    rw (after, marked, bit)
    (counting_one c.loop-i.invariant (omega arith) (omega arith) (omega (arith, ap length marked)))

pub returns : goal.returns
returns c =
    let size = front_length _ _ c.args.out.now c.loop-i.front c.loop-i.auto.front c.requires (omega arith) in
    counted_front _ _ _ _ _ _ _ _ c.requires (omega arith) (counting_all c.loop-i.invariant (omega arith) (omega arith) (omega arith))
