-- Call after call: a receiver that a call put back is the one that the next call works on, so what crosses is what its
-- own operation brings.
use mathlib.Core.Path.{◌≡◌}
use mathlib.Core.List.{List}
use Prim.Native.Nat.{ℕ, ◌≤◌}
use Rattle.board.specs.Answers.{stepped, listened}
use Rattle.board.specs.declared.Receiver.{Receiver}
use Rattle.siengulot.specs.Receivers.{put_back, brought, stepped_lent, brought_by, listened_lent}
use Rattle.siengulot.proofs.Recovered.{its_numbers_fit, receiver_recovered}

module _ (x : Receiver) (run : x.bare.numbers.runlevel ≤ 255) (byte : x.bare.numbers.level ≤ 255) (room : List ℕ) where
  pub next_step : (read : ℕ) → stepped_lent (put_back x room) read ≡ brought (put_back x room) (stepped x read)
  unfolding stepped_lent
  next_step read = rw (its_numbers_fit x run byte, receiver_recovered x)

  pub next_listen : (reads : List ℕ)
      → listened_lent (put_back x room) reads ≡ brought_by (put_back x room) (listened x reads)
  unfolding listened_lent
  next_listen reads = rw (its_numbers_fit x run byte, receiver_recovered x)
