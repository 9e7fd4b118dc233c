-- The definitions compute to what the rules print.
use mathlib.Core.Path.{refl}
use Rattle.measure.specs.Table.{Agree}
use Rattle.measure.specs.Lists.{first_above}
use Rattle.sender.specs.Sending.{cells, wave, plan_wave, rows_of}
use Rattle.stored.specs.Stored.{joined_leads, last_trail}
use Rattle.stored.specs.Answers.{read_plan}
use Rattle.stored.specs.Cases.{cases}

pub cases_hold : Agree cases
unfolding first_above cells wave plan_wave rows_of joined_leads last_trail read_plan
cases_hold = (refl, (refl, tt))
