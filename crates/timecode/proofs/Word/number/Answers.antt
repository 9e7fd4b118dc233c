-- `number` meets its contract: the bits from a place on make the number so far, and the next weighs twice the last.
use Rattle.std.proofs.Common.{◌≡◌, ◌+◌, arith}
use Rattle.timecode.proofs.Numbers.{number_more, number_most, bit_most, weighed, weight_most}
use Rattle.timecode.proofs.Word.number.Goals as goal

pub overflow_mul-n : goal.overflow_mul-n
overflow_mul-n g c =
    let word = c.args.self in
    let bit = bit_most word.bits.now word.all_bits (c.args.at + c.loop-i.i) in
    omega (arith, weighed c.loop-i.weight _ bit, weight_most c.loop-i.i (omega arith), c.loop-i.invariant.1)

pub overflow_add-n-in-loop-i : goal.overflow_add-n-in-loop-i
overflow_add-n-in-loop-i g c =
    let word = c.args.self in
    let bit = bit_most word.bits.now word.all_bits (c.args.at + c.loop-i.i) in
    omega (
      arith,
      number_most word.bits.now word.all_bits c.loop-i.i c.args.at (omega arith),
      weighed c.loop-i.weight _ bit,
      weight_most c.loop-i.i (omega arith),
      c.loop-i.invariant.0,
      c.loop-i.invariant.1,
    )

pub overflow_mul-weight : goal.overflow_mul-weight
overflow_mul-weight g c = omega (arith, weight_most c.loop-i.i (omega arith), c.loop-i.invariant.1)

pub loop-i-preserved : goal.loop-i-preserved
loop-i-preserved g c = number_more c.loop-i.i c.args.at _ _ _ c.loop-i.invariant.0 c.loop-i.invariant.1

pub returns : goal.returns
returns g c =
    let word = c.args.self in
    let end : c.loop-i.i ≡ g.row.COUNT = omega arith in
    let all = rw end at c.loop-i.invariant.0 in
    (all, omega (arith, all, number_most word.bits.now word.all_bits g.row.COUNT c.args.at (omega arith)))
