-- `turn` meets its contract: in each arm the line of the event is put, and it fits.
use Rattle.std.proofs.Common.{Result, Option, Ok, Err, Some, None, refl, add-one, arith}
use Rattle.board.specs.declared.Event.{Event}
use Rattle.board.specs.declared.Event.TheVariants.{Row, Broken}
use Rattle.measure.specs.declared.Refusal.{Refusal}
use Rattle.rows.specs.Turns.{walk_of}
use Rattle.rows.proofs.Turning.{known, event_takes, turn_is, no_event, some_event}
use Rattle.rows.proofs.turn.Goals as goal

pub overflow_add-place : goal.overflow_add-place
overflow_add-place c =
    let a = c.args in
    omega (
      arith,
      (known (walk_of a.walk) a.left.now c.listen-heard.result c.listen-heard.ensures).most,
      c.requires.ready,
    )

pub overflow_sub-last : goal.overflow_sub-last
overflow_sub-last c =
    let a = c.args in
    let event : Result (Option Event) Refusal = Ok (Some Row) in
    let arm = c.in-Ok-Some-Row in
    let some = rw arm.is at arm.field-0-is in
    let is = some_event arm.is some (rw (arm.is, some) at arm.field-0-0-is) in
    omega (
      arith,
      event_takes (walk_of a.walk) a.left.now c.listen-heard.result c.listen-heard.ensures event is refl,
    )

pub overflow_sub-last-in-Ok-Some-Broken : goal.overflow_sub-last-in-Ok-Some-Broken
overflow_sub-last-in-Ok-Some-Broken c =
    let a = c.args in
    let event : Result (Option Event) Refusal = Ok (Some (Broken c.in-Ok-Some-Broken.found)) in
    let arm = c.in-Ok-Some-Broken in
    let some = rw arm.is at arm.field-0-is in
    let is = some_event arm.is some (rw (arm.is, some) at arm.field-0-0-is) in
    omega (
      arith,
      event_takes (walk_of a.walk) a.left.now c.listen-heard.result c.listen-heard.ensures event is refl,
    )

pub returns-in-Ok-None : goal.returns-in-Ok-None
returns-in-Ok-None c =
    let a = c.args in
    let event : Result (Option Event) Refusal = Ok None in
    let is = no_event c.in-Ok-None.is (rw c.in-Ok-None.is at c.in-Ok-None.field-0-is) in
    turn_is (walk_of a.walk) a.left.now c.listen-heard.result c.listen-heard.ensures event is a.out.now _ c.put_end.result _
    c.requires.line_most_in_bounds c.put_end.ensures c.bytes_of-bytes.ensures

pub returns-in-Ok-Some-Row : goal.returns-in-Ok-Some-Row
returns-in-Ok-Some-Row c =
    let a = c.args in
    let event : Result (Option Event) Refusal = Ok (Some Row) in
    let arm = c.in-Ok-Some-Row in
    let some = rw arm.is at arm.field-0-is in
    let is = some_event arm.is some (rw (arm.is, some) at arm.field-0-0-is) in
    rw (add-one a.walk.rows)
    (turn_is (walk_of a.walk) a.left.now c.listen-heard.result c.listen-heard.ensures event is a.out.now _ c.put_row.result _
    c.requires.line_most_in_bounds c.put_row.ensures c.bytes_of-bytes-in-Ok-Some-Row.ensures)

pub returns-in-Ok-Some-Broken : goal.returns-in-Ok-Some-Broken
returns-in-Ok-Some-Broken c =
    let a = c.args in
    let event : Result (Option Event) Refusal = Ok (Some (Broken c.in-Ok-Some-Broken.found)) in
    let arm = c.in-Ok-Some-Broken in
    let some = rw arm.is at arm.field-0-is in
    let is = some_event arm.is some (rw (arm.is, some) at arm.field-0-0-is) in
    turn_is (walk_of a.walk) a.left.now c.listen-heard.result c.listen-heard.ensures event is a.out.now _
    c.put_broken.result _ c.requires.line_most_in_bounds c.put_broken.ensures c.bytes_of-bytes-in-Ok-Some-Broken.ensures

pub returns-in-Err : goal.returns-in-Err
returns-in-Err c =
    let a = c.args in
    let event : Result (Option Event) Refusal = Err c.in-Err.refusal in
    turn_is (walk_of a.walk) a.left.now c.listen-heard.result c.listen-heard.ensures event c.in-Err.is a.out.now _
    c.put_refused.result _ c.requires.line_most_in_bounds c.put_refused.ensures c.bytes_of-bytes-in-Err.ensures
