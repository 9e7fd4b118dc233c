-- `write_into` meets its contract: the parts of the word follow one another, and the mark comes last.
use Rattle.std.proofs.Common.{sym}
use Rattle.timecode.proofs.NumberBits.{word_put}
use Rattle.timecode.proofs.TimeLaws.{fit_hours, fit_frames}
use Rattle.timecode.proofs.write_into.Goals as goal

pub returns : goal.returns
returns c =
    let time = c.args.time in
    let h = fit_hours time.hours time.minutes time.seconds time.frames c.requires.0 in
    let f = fit_frames time.hours time.minutes time.seconds time.frames c.requires.0 in
    word_put _ _ _ _ _ _ _ _ _ _ h f c.requires.1 c.put_part.ensures c.put_part-2.ensures c.put_part-3.ensures
    c.put_part-4.ensures (sym c.copy_from_slice.ensures.after)
