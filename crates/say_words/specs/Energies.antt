-- Energies with three decimals, rounded down.
use Rattle.std.specs.Prelude.{ℕ, ◌*◌, ◌/◌, ◌%◌, List, ◌∷◌, ◌++◌}
use Rattle.rules.specs.Limits.{kj_a_mwh, kj_a_mw}
use Rattle.rules.specs.Bytes.{bytes, point, spelled}
use Rattle.rules.specs.declared.figures.Peak.{Peak}
use Rattle.say_words.specs.Numbers.{three_digits}
use Rattle.say_words.specs.Times.{quarter_of}

-- n in units of so many
unfoldable pub decimals_of : (unit n : ℕ) → List ℕ
decimals_of unit n = spelled (n / unit) ++ point ∷ three_digits (n % unit * 1_000 / unit)

-- a unit of which a thousand fit a `u64`
abbrev pub most_unit : ℕ
most_unit = kj_a_mwh

-- kilojoules in megawatt hours
abbrev pub mwh_of : (kj : ℕ) → List ℕ
mwh_of = decimals_of kj_a_mwh

-- the kilojoules of a quarter hour as its average megawatts
abbrev pub mw_of : (kj : ℕ) → List ℕ
mw_of = decimals_of kj_a_mw

-- a peak quarter within H: its energy, its average power and its time
unfoldable pub peak_text : (H : ℕ) → (p : Peak) → List ℕ
peak_text H p = spelled p.kj ++ bytes " kJ, " ++ mw_of p.kj ++ bytes " MW, " ++ quarter_of H p.quarter
