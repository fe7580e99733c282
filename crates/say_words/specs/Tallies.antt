-- How many tests of a kind were made, in words.
use Rattle.std.specs.Prelude.{ℕ, cond, List, [], ◌++◌, eqb, get_or}
use Rattle.rules.specs.Bytes.{bytes, spelled}
use Rattle.say_words.specs.Names.{test_names}

-- one has its name in the singular
abbrev pub plural_of : (count : ℕ) → List ℕ
plural_of count = cond (eqb count 1) [] (bytes "s")

unfoldable pub count_text : (kind count : ℕ) → List ℕ
count_text kind count = spelled count ++ bytes " " ++ get_or test_names kind [] ++ plural_of count
