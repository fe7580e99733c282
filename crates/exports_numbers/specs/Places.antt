-- What stands at the places that include/wagontulip.h has names for: the values of each answer, read back by name. Place 0 has the code.
use Rattle.std.specs.Int.{w64}
use Rattle.std.proofs.Common.{to_z, ℕ, List, [], ◌∷◌, get_or}
use Rattle.rules.specs.declared.answers.Tally.{Tally}
use Rattle.rules.specs.declared.answers.Violation.{Violation}
use Rattle.rules.specs.declared.answers.Refusal.{Refusal}
use Rattle.rules.specs.declared.figures.Figures.{Figures}
use Rattle.energy_parts.specs.declared.desk.Bits.{Bits}

module _ (numbers : List ℕ) where
  abbrev pub at : (place : ℕ) → ℕ
  at place = get_or numbers place 0

  abbrev pub violation_at : Violation
  violation_at = record { kind = at 1; position = at 2; inequality = at 3; shortfall = at 4; file = at 5 }

  abbrev pub refusal_at : Refusal
  refusal_at = record { number = at 1; file = at 2; place = at 3 }

  -- an accepted solution's energies
  abbrev pub figures_at : Figures
  figures_at =
      record {
        before = at 1;
        drawn = at 2;
        lost = at 3;
        fluctuation = to_z w64 (at 4);
        peaks = record { before = record { kj = at 5; quarter = at 11 }; drawn = record { kj = at 6; quarter = at 12 } };
      }

  abbrev pub bits_at : Bits
  bits_at = record { before = at 7; drawn = at 8; lost = at 9; peak = at 10 }

  -- an accepted merge's length, in bytes
  abbrev pub length_at : ℕ
  length_at = at 1

  -- a row's start and length
  abbrev pub row_start_at : ℕ
  row_start_at = at 1

  abbrev pub row_length_at : ℕ
  row_length_at = at 2

  -- how much was tested, of every answer
  abbrev pub tally_at : Tally
  tally_at = record { kinds = at 17 ∷ at 18 ∷ at 19 ∷ at 20 ∷ at 21 ∷ at 22 ∷ []; total = at 16 }
