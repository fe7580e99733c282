-- The way out of the leg table: the choices in their own, and the leg table as it was read.
use Rattle.std.specs.Prelude.{ℕ, ◌%◌, ◌<◌, ◌≡◌, ◌≢◌, List, length, get_or}
use Rattle.rules.specs.Limits.{most_listed}
use Rattle.rules.specs.Lists.{flat, over}
use Rattle.rules.specs.Timetable.{configuration_numbers}
use Rattle.earliest_offer.specs.Offer.{last_at}
use Rattle.earliest_search.specs.Searching.{chosen_in}

-- the choices of n rows at a table's front
abbrev pub choices_over : (n : ℕ) → (legs configurations choices : List ℕ) → List ℕ
choices_over n legs configurations choices = over (flat configuration_numbers (chosen_in n legs configurations)) choices

-- the places of the nominals alone
pub record Restored (n : ℕ) (legs legs' : List ℕ) : Type 0 where
  pub long : length legs' ≡ length legs
  pub same : (p : ℕ) → ((i : ℕ) → i < n → p ≢ last_at i) → get_or legs' p 0 ≡ get_or legs p 0
  pub places : (i : ℕ) → i < n → get_or legs' (last_at i) 0 ≡ get_or legs (last_at i) 0 % most_listed
