-- `word` keeps what a word is: 80 bits at least.
use Rattle.std.proofs.Common.{◌-◌, length, drop, arith}
use Rattle.std.proofs.lemmas.List.{take_all, length-drop}
use Rattle.measure.proofs.LevelLaws.{most_drop, most_none_some, none_some}
use Rattle.timecode.proofs.Bits.word.Goals as goal

pub invariant_of-result : goal.invariant_of-result
invariant_of-result c =
    let list = c.args.self.list.now in
    let at = c.args.at in
    let all = take_all (length list - at) (drop at list) (omega (arith, length-drop at list)) in
    record {
      all_bits = rw all (none_some 1 (drop at list) (most_drop 1 at list (most_none_some 1 list c.args.self.all_bits)));
      whole = rw (all, length-drop at list) (omega arith);
    }
