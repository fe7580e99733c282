-- How much was tested: six counts, one per kind from 0 to 5, and their total.
use Rattle.std.specs.Prelude.{ℕ, ◌+◌, ◌<◌, ◌^◌, get_or, set, replicate}
use Rattle.rules.specs.declared.answers.Tally.{Tally}

-- kind 0 and the five of document 01
abbrev pub kind_count : ℕ
kind_count = 6

abbrev pub no_tests : Tally
no_tests = record { kinds = replicate kind_count 0; total = 0 }

-- so many tests more, of one kind
abbrev pub counted : (kind tests : ℕ) → Tally → Tally
counted kind tests t = record { kinds = set t.kinds kind (get_or t.kinds kind 0 + tests); total = t.total + tests }

-- they are of a kind that has a count, and both numbers stay within 32 bits
pub record Countable (kind tests : ℕ) (t : Tally) : Type 0 where
  pub known : kind < kind_count
  pub count_fits : get_or t.kinds kind 0 + tests < 2 ^ 32
  pub total_fits : t.total + tests < 2 ^ 32
