-- `byte_at` meets its contract: a byte stands before those after its place, or the bytes have ended.
use Rattle.std.proofs.Common.{◌≡◌, get_or, refl, ◌∙◌, add-one, arith, drop-cons, drop_of_length-le}
use Rattle.measure.proofs.LevelLaws.{get_d_any}
use Rattle.capture.proofs.reading.byte_at.Goals as goal

pub returns-in-Some-clause-found : goal.returns-in-Some-clause-found
returns-in-Some-clause-found c =
    let bytes = c.args.bytes.now in
    let byte = c.in-Some.byte.now in
    let found = c.in-Some.ensures.lookup in
    let is : c.from.result ≡ get_or bytes c.args.at byte = c.from.ensures ∙ found.1 in (
      rw (add-one, is) (drop-cons bytes c.args.at byte found.3.0),
      omega (arith, c.type_inv.bytes c.args.at, get_d_any bytes c.args.at byte 0 found.3.0, is),
    )

pub returns-in-None-clause-cut : goal.returns-in-None-clause-cut
returns-in-None-clause-cut c = (drop_of_length-le c.args.bytes.now c.in-None.ensures.lookup.3, refl)
