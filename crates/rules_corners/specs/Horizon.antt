-- H at its least and its greatest, departures plus travel at H and past it, quarters and their peak. Assumes nothing.
use Rattle.std.specs.Prelude.{ℕ, ◌+◌, ◌-◌, ◌*◌, ◌≡◌, refl, cond, List, [], ◌∷◌, ◌++◌, leb, eqb, replicate, length, ℤ, pos, neg_ℤ}
use Prim.Native.String.{String}
use Rattle.std.specs.Float.{binary64}
use Rattle.std.specs.Float.Ieee.{to_bits, round}
use Rattle.rules.specs.Limits.{least_horizon, most_horizon, quarter_seconds, most_quarters, most_kw, most_kj, kj_a_mwh, kj_a_mw, signed_fill}
use Rattle.rules.specs.Answers.{bad_horizon, out_of_range, no_room, no_file, timetable_file}
use Rattle.rules.specs.Bytes.{bytes, spelled}
use Rattle.rules.specs.Timetable.{timetable_header}
use Rattle.rules.specs.Profiles.{profiles_header}
use Rattle.rules.specs.Verdict.{All}
use Rattle.rules.specs.Energy.{max_to, max_at, quarter, peak_of, quotient}
use Rattle.rules.specs.Entries.{no_peaks, Reported}
use Rattle.rules.specs.Computed.{computed}
use Rattle.rules.specs.Examples.{rows, in_first}
use Rattle.rules.specs.declared.figures.Peak.{Peak}
use Rattle.rules.specs.declared.figures.Peaks.{Peaks}
use Rattle.rules.specs.declared.figures.Figures.{Figures}
use Rattle.rules.specs.declared.answers.Answer.{Answer}
use Rattle.rules.specs.declared.answers.Answer.TheVariants.{Accepted}
use Rattle.rules_corners.specs.Corner.{Input, input, ample, choices_for, report, answer_to, refuses, six_lists}

-- ---- the texts

-- a leg of one second on track 1, at a departure, by a profile
abbrev leg_row : (leg departure profile : ℕ) → List ℕ
leg_row n d p =
    let chosen = spelled d ++ bytes "_1_" ++ spelled p in
    spelled n ++ bytes ",1,1,1,2," ++ chosen ++ bytes "," ++ chosen ++ bytes "\n"

abbrev profile_row : (profile : ℕ) → (sample : String) → List ℕ
profile_row p sample = spelled p ++ bytes "," ++ bytes sample ++ bytes "\n"

abbrev one_track : List ℕ
one_track = six_lists "" "" "" "" "" "{\"subnet_id\": 1, \"track_ids\": [1]}"

-- one leg, chosen as it stands
abbrev alone : (H departure : ℕ) → (sample : String) → Input
alone H d sample =
    let timetable = timetable_header ++ leg_row 1 d 7 in
    input H timetable (profiles_header ++ profile_row 7 sample) one_track timetable

-- two legs
abbrev twice : (H first second : ℕ) → (one two : String) → Input
twice H d e one two =
    let timetable = timetable_header ++ leg_row 1 d 7 ++ leg_row 2 e 8 in
    input H timetable (profiles_header ++ profile_row 7 one ++ profile_row 8 two) one_track timetable

-- the same, each leg on a track of its own, with subnets
abbrev apart : (subnets : String) → Input
apart s =
    let timetable = rows "1,1,1,1,2,0_1_7,0_1_7\n2,1,2,1,2,1_1_8,1_1_8\n" in
    input 2 timetable (profiles_header ++ profile_row 7 "0.5" ++ profile_row 8 "0.3") (six_lists "" "" "" "" "" s) timetable

-- ---- what is awaited

abbrev peak : (kj quarter : ℕ) → Peak
peak kj q = record { kj = kj; quarter = q }

abbrev figures : (before drawn lost fluctuation : ℕ) → Peaks → Figures
figures before drawn lost fluctuation peaks = record { before = before; drawn = drawn; lost = lost; fluctuation = pos fluctuation; peaks = peaks }

-- ---- THE TABLE

pub data Corner : Type 0 where
  answers : Input → Answer → Corner
  reports : Input → Figures → (curve : List ℤ) → Corner
  -- the curves of two subnets or more, in room for so many numbers
  lays : Input → (room : ℕ) → Answer → (curves : List ℤ) → Corner
  -- the drawn peak of a report
  draws : Input → Peak → Corner
  -- the sum of quarter k
  sums : (f : ℕ → ℕ) → (H k sum : ℕ) → Corner
  -- the greatest of f 0 .. f (n - 1), and the first place that has it
  tops : (f : ℕ → ℕ) → (n most place : ℕ) → Corner
  peaks : (f : ℕ → ℕ) → (H : ℕ) → Peak → Corner
  -- the bits of a double
  desks : (kj by bits : ℕ) → Corner

abbrev shown : Reported → Figures × List ℤ
shown r = (r.figures, r.curves)

abbrev laid : Reported → Answer × List ℤ
laid r = (r.answer, r.curves)

abbrev pub Right : Corner → Type 0
Right (answers x a) = answer_to x ≡ a
Right (reports x g p) = shown (report x ample (choices_for 3) (replicate x.H (pos 9))) ≡ (g, p)
Right (lays x n a p) = laid (report x ample (choices_for 3) (replicate n (pos 9))) ≡ (a, p)
Right (draws x p) = (report x ample (choices_for 3) (replicate x.H (pos 9))).figures.peaks.drawn ≡ p
Right (sums f H k n) = quarter f H k ≡ n
Right (tops f n m k) = peak (max_to f n) (max_at f n) ≡ peak m k
Right (peaks f H p) = peak_of f H ≡ p
Right (desks kj by n) = to_bits binary64 (quotient kj by) ≡ n

-- nothing; one always; one at a place alone, or from it on
abbrev none : ℕ → ℕ
none t = 0

abbrev steady : ℕ → ℕ
steady t = 1

abbrev only : ℕ → ℕ → ℕ
only k t = cond (eqb k t) 1 0

abbrev since : ℕ → ℕ → ℕ
since k t = cond (leb k t) 1 0

-- the last quarter of the greatest H
abbrev last : ℕ
last = most_quarters - 1

abbrev pub horizons : List Corner
horizons =
    -- H 1: a leg of one second fills it. There is one quarter, of one second, and the only value is the greatest and the least
    reports (alone least_horizon 0 "20.000") (figures most_kw most_kw 0 0 (in_first most_kw most_kw)) (pos most_kw ∷ [])
    ∷ reports (alone least_horizon 0 "-20.000") (figures 0 0 most_kw 0 no_peaks) (neg_ℤ (pos most_kw) ∷ [])
    ∷ reports (alone least_horizon 0 "-0.0") (figures 0 0 0 0 no_peaks) (pos 0 ∷ [])
    -- a second in which no leg runs has 0, which may be the greatest or the least
    ∷ reports (alone 2 0 "-20.000") (figures 0 0 most_kw most_kw no_peaks) (neg_ℤ (pos most_kw) ∷ pos 0 ∷ [])
    ∷ reports (alone 2 1 "20.000") (figures most_kw most_kw 0 most_kw (in_first most_kw most_kw)) (pos 0 ∷ pos most_kw ∷ [])
    -- both limits at one second: nothing is drawn and nothing is lost
    ∷ reports (twice least_horizon 0 0 "20.000" "-20.000") (figures most_kw 0 0 0 (in_first most_kw 0)) (pos 0 ∷ [])
    -- "subnet by subnet, H numbers each; less room is 16", of two subnets, in the order of the file, and of one with no legs
    ∷ lays (apart "{\"subnet_id\": 1, \"track_ids\": [1]}, {\"subnet_id\": 2, \"track_ids\": [2]}") 4 Accepted (pos 500 ∷ pos 0 ∷ pos 0 ∷ pos 300 ∷ [])
    ∷ lays (apart "{\"subnet_id\": 2, \"track_ids\": [2]}, {\"subnet_id\": 1, \"track_ids\": [1]}") 5 Accepted (pos 0 ∷ pos 300 ∷ pos 500 ∷ pos 0 ∷ pos 9 ∷ [])
    ∷ lays (apart "{\"subnet_id\": 1, \"track_ids\": [1]}, {\"subnet_id\": 2, \"track_ids\": [2]}") 3 (refuses no_room no_file 0) (replicate 3 signed_fill)
    ∷ lays (apart "{\"subnet_id\": 1, \"track_ids\": [1, 2]}, {\"subnet_id\": 2, \"track_ids\": []}") 4 Accepted (pos 500 ∷ pos 300 ∷ pos 0 ∷ pos 0 ∷ [])
    ∷ lays (apart "{\"subnet_id\": 1, \"track_ids\": [1, 2]}, {\"subnet_id\": 2, \"track_ids\": []}") 3 (refuses no_room no_file 0) (replicate 3 signed_fill)
    -- departure plus travel is at most H: one second later is 5, at the row
    ∷ answers (alone least_horizon 1 "20.000") (refuses out_of_range timetable_file (length timetable_header))
    ∷ answers (alone most_horizon (most_horizon - 1) "20.000") Accepted
    ∷ answers (alone most_horizon most_horizon "20.000") (refuses out_of_range timetable_file (length timetable_header))
    ∷ answers (alone (most_horizon + 1) most_horizon "20.000") (refuses bad_horizon no_file 0)
    -- H 899 has one quarter, and so has H 900; H 901 has a second, of one second
    ∷ draws (alone 899 898 "1.0") (peak 1_000 0)
    ∷ reports (alone 900 899 "1.0") (figures 1_000 1_000 0 1_000 (in_first 1_000 1_000)) (replicate 899 (pos 0) ++ pos 1_000 ∷ [])
    ∷ draws (alone 901 900 "1.0") (peak 1_000 1)
    -- the peak in the second quarter, whole, one second shorter, and of one second; of equal quarters the first is named, also where the second is cut
    ∷ draws (twice 1_800 899 900 "1.0" "1.001") (peak 1_001 1)
    ∷ draws (twice 1_799 899 900 "1.0" "1.001") (peak 1_001 1)
    ∷ draws (twice 901 899 900 "1.0" "1.001") (peak 1_001 1)
    ∷ draws (twice 1_800 900 899 "1.0" "1.0") (peak 1_000 0)
    ∷ draws (twice 901 900 899 "1.0" "1.0") (peak 1_000 0)
    -- the same of a curve
    ∷ peaks (since 900) 900 (peak 0 0)
    ∷ peaks (since 900) 901 (peak 1 1)
    ∷ peaks (since 900) 1_799 (peak 899 1)
    ∷ peaks (since 900) 1_800 (peak 900 1)
    ∷ peaks steady 1_799 (peak 900 0)
    ∷ peaks steady 1_800 (peak 900 0)
    -- quarter k covers 900k to 900k+899
    ∷ sums (only 899) 1_800 0 1
    ∷ sums (only 899) 1_800 1 0
    ∷ sums (only 900) 1_800 0 0
    ∷ sums (only 900) 1_800 1 1
    ∷ sums (only 1_799) 1_800 1 1
    ∷ sums (only 1_800) 1_800 1 0
    -- a last, shorter quarter has the sum of its own seconds, from one to all but one
    ∷ sums steady 1 0 1
    ∷ sums steady 899 0 899
    ∷ sums steady 1_801 2 1
    ∷ sums steady 2_699 2 899
    -- the greatest H has 196 quarters, one second less cuts the last; a multiple of 900 has no empty one after it
    ∷ sums steady most_horizon last quarter_seconds
    ∷ sums steady (most_horizon - 1) last (quarter_seconds - 1)
    ∷ sums steady (most_horizon - quarter_seconds) last 0
    ∷ sums steady most_horizon most_quarters 0
    -- the greatest, and the first place that has it: of none, of zeros, at the end, of equals
    ∷ tops steady 0 0 0
    ∷ tops none most_quarters 0 0
    ∷ tops (only last) most_quarters 1 last
    ∷ tops (since 2) most_quarters 1 2
    ∷ tops steady most_quarters 1 0
    -- doubles: 0; one kJ; the greatest energy is 655,360 MWh; 20 MW for a quarter
    ∷ desks 0 kj_a_mwh 0
    ∷ desks 1 kj_a_mwh 4_508_846_701_240_351_161
    ∷ desks most_kj kj_a_mwh 4_693_876_711_626_899_456
    ∷ desks 1 kj_a_mw 4_517_853_900_495_092_153
    ∷ desks (quarter_seconds * most_kw) kj_a_mw 4_626_322_717_216_342_016
    ∷ []

horizons_hold : All Right horizons
unfolding computed to_bits round
horizons_hold = (refl, (refl, (refl, (refl, (refl, (refl, (refl, (refl, (refl, (refl, (refl, (refl, (refl, (refl, (refl, (refl, (refl, (refl, (refl, (refl, (refl, (refl, (refl, (refl, (refl, (refl, (refl, (refl, (refl, (refl, (refl, (refl, (refl, (refl, (refl, (refl, (refl, (refl, (refl, (refl, (refl, (refl, (refl, (refl, (refl, (refl, (refl, (refl, (refl, (refl, (refl, (refl, (refl, tt)))))))))))))))))))))))))))))))))))))))))))))))))))))
