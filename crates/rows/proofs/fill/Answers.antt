-- `fill` meets its contract: the loop's invariant is that of a page that is being filled.
use Rattle.std.proofs.Common.{ap, arith}
use Rattle.rows.specs.Turns.{walk_of, next_of}
use Rattle.rows.proofs.Filling.{turned_page}
use Rattle.rows.proofs.fill.Goals as goal

pub overflow_add-bytes : goal.overflow_add-bytes
overflow_add-bytes c =
    let l = c.loop-page in
    let page =
    turned_page _ _ _ l.page (walk_of l.walk) l.bytes l.invariant _ _ _ c.turn-turned.ensures c.turn-turned.auto.out in
    omega (arith, page.most)

pub loop-page-smaller : goal.loop-page-smaller
loop-page-smaller c =
    let l = c.loop-page in
    let page =
    turned_page _ _ _ l.page (walk_of l.walk) l.bytes l.invariant _ _ _ c.turn-turned.ensures c.turn-turned.auto.out in
    let next = walk_of c.in-Some.next in
    let on = ap next_of c.in-Some.is in
    omega (arith, page.further next on, (page.filling next on).ready.within)

pub loop-page-preserved : goal.loop-page-preserved
loop-page-preserved c =
    let l = c.loop-page in
    let page =
    turned_page _ _ _ l.page (walk_of l.walk) l.bytes l.invariant _ _ _ c.turn-turned.ensures c.turn-turned.auto.out in
    page.filling (walk_of c.in-Some.next) (ap next_of c.in-Some.is)

pub returns-in-None : goal.returns-in-None
returns-in-None c =
    let l = c.loop-page in
    let page =
    turned_page _ _ _ l.page (walk_of l.walk) l.bytes l.invariant _ _ _ c.turn-turned.ensures c.turn-turned.auto.out in
    rw (ap next_of c.in-None.is) at page.filled
