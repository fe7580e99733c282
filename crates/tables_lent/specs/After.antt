-- What an answer leaves of what was lent.
use Rattle.std.specs.Prelude.{ℕ, cond, List, ℤ}
use Rattle.rules.specs.Limits.{unsigned_fill, signed_fill, byte_fill}
use Rattle.rules.specs.Answers.{is_refusal, is_accepted}
use Rattle.rules.specs.Entries.{Tables, filled, filled_tables}
use Rattle.rules.specs.declared.answers.Answer.{Answer}

-- a refusal fills the tables and the choices

abbrev pub tables_after : Answer → Tables → Tables
tables_after a t = cond (is_refusal a) (filled_tables t) t

abbrev pub choices_after : Answer → List ℕ → List ℕ
choices_after a c = cond (is_refusal a) (filled unsigned_fill c) c

-- all but acceptance fills the curves, and zeroes the text

abbrev pub curves_after : Answer → List ℤ → List ℤ
curves_after a p = cond (is_accepted a) p (filled signed_fill p)

abbrev pub text_after : Answer → List ℕ → List ℕ
text_after a s = cond (is_accepted a) s (filled byte_fill s)
