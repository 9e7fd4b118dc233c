-- `hear` meets its contract: each mode has its function, and in hunting and ready no bits are kept.
use Rattle.std.proofs.Common.{◌∙◌, ap, arith}
use Rattle.board.specs.Rows.{State}
use Rattle.board.specs.Packed.{rules_of}
use Rattle.board.specs.Listening.{heard_from}
use Rattle.board.proofs.Standing.{of_ranged}
use Rattle.board.proofs.KeepingLaws.{kept_valid, kept_level, hunting_kept, ready_kept}
use Rattle.board.proofs.listening.hear.Goals as goal

pub from_hunting-requires : goal.from_hunting-requires
from_hunting-requires c =
    let a = c.args in
    let g = rules_of a.start.settings in
    let keeps = c.requires in
    let h = hunting_kept g a.start.numbers a.bits.now keeps c.in-Hunting.is in
    (of_ranged g (kept_valid g a.start.numbers a.bits.now keeps).range, h.1, h.2)

pub from_ready-requires : goal.from_ready-requires
from_ready-requires c =
    let a = c.args in
    let g = rules_of a.start.settings in
    let keeps = c.requires in (
      of_ranged g (kept_valid g a.start.numbers a.bits.now keeps).range,
      (ready_kept g a.start.numbers a.bits.now keeps c.in-Ready.is).1,
      omega arith,
      kept_level g a.start.numbers a.bits.now keeps,
    )

pub returns-in-Hunting : goal.returns-in-Hunting
returns-in-Hunting c = λ x.
    let a = c.args in
    let g = rules_of a.start.settings in
    ap (λ (t : State). heard_from x g t 0 a.reads.now) (hunting_kept g a.start.numbers a.bits.now c.requires c.in-Hunting.is).0
    ∙ c.from_hunting.ensures x

pub returns-in-Ready : goal.returns-in-Ready
returns-in-Ready c = λ x.
    let a = c.args in
    let g = rules_of a.start.settings in
    ap (λ (t : State). heard_from x g t 0 a.reads.now) (ready_kept g a.start.numbers a.bits.now c.requires c.in-Ready.is).0
    ∙ c.from_ready.ensures x
