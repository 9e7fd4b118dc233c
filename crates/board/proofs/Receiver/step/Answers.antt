-- `step` meets its contract: it takes its read on its own bits, with no row in the bytes for one.
use Rattle.std.proofs.Common.{ℕ, sym, ◌∙◌, ap, List, [], ◌∷◌}
use Rattle.board.specs.Answers.{Outcome, in_lent, listened}
use Rattle.board.proofs.ListenedLaws.{stepped_listened}
use Rattle.board.proofs.HeardLaws.{row_lent}
use Rattle.board.proofs.Receiver.step.Goals as goal

pub returns : goal.returns
returns c =
    let a = c.args in
    let one = a.read ∷ [] in
    stepped_listened a.self a.read
    ∙ ap (λ (heard : Outcome × ℕ). heard.0)
    (sym (row_lent a.self one)
    ∙ ap (λ (row : List ℕ). in_lent row (listened a.self one)) c.none-row.ensures
    ∙ c.step-told.ensures)
