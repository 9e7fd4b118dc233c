-- `listen` meets its contract: it listens on its own bits, with no row in the bytes for one.
use Rattle.std.proofs.Common.{ℕ, sym, ◌∙◌, ap, List}
use Rattle.board.specs.Answers.{in_lent, listened}
use Rattle.board.proofs.HeardLaws.{row_lent}
use Rattle.board.proofs.Receiver.listen.Goals as goal

pub returns : goal.returns
returns c =
    let a = c.args in
    sym (row_lent a.self a.reads.now)
    ∙ ap (λ (row : List ℕ). in_lent row (listened a.self a.reads.now)) c.none-row.ensures
    ∙ c.listen-told.ensures
