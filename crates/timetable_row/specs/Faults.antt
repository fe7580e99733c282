-- A refusal: the number of the first fault, and where its row begins.
use Rattle.std.specs.Prelude.{ℕ}
use Rattle.rules.specs.declared.answers.Fault.{Fault}

abbrev pub fault_at : (number place : ℕ) → Fault
fault_at number place = record { number = number; place = place }
