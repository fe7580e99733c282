-- Texts as they come out.
use Rattle.std.specs.Prelude.{◌*◌, ◌-◌, ◌≡◌, refl, [], ◌∷◌, ◌++◌, map}
use Rattle.rules.specs.Limits.{most_horizon}
use Rattle.rules.specs.Bytes.{bytes}
use Rattle.say_words.specs.Times.{hour, clock_of, time_of, quarter_of}
use Rattle.say_words.specs.Energies.{decimals_of, mwh_of, mw_of, peak_text}
use Rattle.say_words.specs.Tallies.{count_text}
use Rattle.say_words.specs.Shown.{shown}

-- past midnight, on the hour, the last second of a day, the first of the next
pub clocks : map clock_of (0 ∷ 59 ∷ 3_600 ∷ (24 * hour - 1) ∷ 24 * hour ∷ 90_850 ∷ 360_000 ∷ []) ≡ bytes "00:00:00" ∷ bytes "00:00:59" ∷ bytes "01:00:00" ∷ bytes "23:59:59" ∷ bytes "24:00:00" ∷ bytes "25:14:10" ∷ bytes "100:00:00" ∷ []
unfolding clock_of
clocks = refl

pub times : time_of 90_850 ≡ bytes "90850 s (25:14:10)"
unfolding clock_of time_of
times = refl

-- the first quarter, one of the morning, the last of the day, the last of all
pub quarters : map (quarter_of most_horizon) (0 ∷ 29 ∷ 95 ∷ 195 ∷ []) ≡ bytes "00:00:00 to 00:15:00" ∷ bytes "07:15:00 to 07:30:00" ∷ bytes "23:45:00 to 24:00:00" ∷ bytes "48:45:00 to 49:00:00" ∷ []
unfolding clock_of quarter_of
quarters = refl

-- quarters that H cuts: after one second, after one second less than a quarter, and not at its end; the second of two; the last of all
pub cut_quarters : map (λ H. quarter_of H 0) (1 ∷ 100 ∷ 899 ∷ 900 ∷ []) ++ quarter_of 901 1 ∷ quarter_of (most_horizon - 1) 195 ∷ []
    ≡ bytes "00:00:00 to 00:00:01" ∷ bytes "00:00:00 to 00:01:40" ∷ bytes "00:00:00 to 00:14:59" ∷ bytes "00:00:00 to 00:15:00" ∷ bytes "00:15:00 to 00:15:01" ∷ bytes "48:45:00 to 48:59:59" ∷ []
unfolding clock_of quarter_of
cut_quarters = refl

-- less than a thousandth, one, a whole MWh less one kJ, a whole one, the worked example's 2,050 kJ
pub energies : map mwh_of (3_599 ∷ 3_600 ∷ 3_599_999 ∷ 3_600_000 ∷ 2_050 ∷ []) ≡ bytes "0.000" ∷ bytes "0.001" ∷ bytes "0.999" ∷ bytes "1.000" ∷ bytes "0.000" ∷ []
unfolding decimals_of
energies = refl

pub peaks : map mw_of (0 ∷ 45_000 ∷ 1_800_000 ∷ []) ≡ bytes "0.000" ∷ bytes "0.050" ∷ bytes "2.000" ∷ []
unfolding decimals_of
peaks = refl

-- a quarter that H cuts, and whole ones
pub peak-texts : peak_text 100 (record { kj = 2_050; quarter = 0 }) ∷ peak_text 900 (record { kj = 2_050; quarter = 0 }) ∷ peak_text 90_000 (record { kj = 1_234_567; quarter = 29 }) ∷ [] ≡ bytes "2050 kJ, 0.002 MW, 00:00:00 to 00:01:40" ∷ bytes "2050 kJ, 0.002 MW, 00:00:00 to 00:15:00" ∷ bytes "1234567 kJ, 1.371 MW, 07:15:00 to 07:30:00" ∷ []
unfolding clock_of quarter_of decimals_of peak_text
peak-texts = refl

-- each kind once, with the numbers around one
pub counts : count_text 0 2 ∷ count_text 0 1 ∷ count_text 1 2 ∷ count_text 2 0 ∷ count_text 3 1 ∷ count_text 4 10 ∷ count_text 5 11 ∷ [] ≡ bytes "2 choices" ∷ bytes "1 choice" ∷ bytes "2 headway times" ∷ bytes "0 single-track headways" ∷ bytes "1 dwell time" ∷ bytes "10 terminal turnarounds" ∷ bytes "11 connections" ∷ []
unfolding count_text
counts = refl

-- a space, a tilde, the byte past it, an escape, a line feed, the greatest byte
pub bytes-shown : map shown (32 ∷ 126 ∷ 127 ∷ 27 ∷ 10 ∷ 255 ∷ []) ≡ bytes " " ∷ bytes "~" ∷ bytes "\\x7f" ∷ bytes "\\x1b" ∷ bytes "\\x0a" ∷ bytes "\\xff" ∷ []
bytes-shown = refl
