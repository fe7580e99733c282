-- What lawful rows and profiles keep: ranges, counts, distinct ids; and when rows have room. Assumes nothing.
use Prim.Native.Nat.{ℕ, ◌+◌, ◌≤◌, ◌<◌}
use mathlib.Core.Bool.{not, ◌&&◌}
use mathlib.Core.List.{List, [], ◌∷◌, ◌++◌}
use native.Mathlib.Omega.{arith}
use lib.Dec.{T, leb, ltb, eqb, leb→le, ltb→lt, le→leb, lt→ltb}
use lib.ListN.{length}
use lib.IntN.{nat_abs}
use Rattle.rules.specs.Limits.{most_id, least_travel, most_travel, most_listed, most_legs, least_sampled, most_configurations, most_kw, most_profiles, most_sampled, most_samples}
use Rattle.rules.specs.Lists.{every, any}
use Rattle.rules.specs.Timetable.{Row, ids_of, in_range, listed, row_tests, draft_fits, solution_fits}
use Rattle.rules.specs.Profiles.{Curve, sampled, row_tests as curve_tests}
use Rattle.rules.specs.Verdict.{All}
use Rattle.rules.specs.declared.sizes.Configuration.{Configuration}
use Rattle.rules.proofs.Truth.{and_both, both_and, every_all, all_map}
use Rattle.rules_theorems.specs.Lists.{EachAfter, Distinct}
use Rattle.rules_theorems.specs.WellFormed.{Passed, any_room, Lawful, InRange, KeptRow, Fitting, FittingChoices, LawfulCurves, KeptCurve}
use Rattle.rules_theorems.proofs.Sums.{sum_more, length_more}
use Rattle.rules_theorems.proofs.Each.{each_keeps, each_all, each_map, new_distinct}
use Rattle.rules_theorems.proofs.GoodRows.{offers_some}

-- ---- rows

-- the test of a configuration's range is document 01's
pub in_range_lem : (H : ℕ) (c : Configuration) → T (in_range H c) → InRange H c
in_range_lem H c h =
    let a = and_both (leb least_travel c.travel) (leb c.travel most_travel && (leb (c.departure + c.travel) H && leb c.profile most_id)) h in
    let b = and_both (leb c.travel most_travel) (leb (c.departure + c.travel) H && leb c.profile most_id) a.1 in
    let d = and_both (leb (c.departure + c.travel) H) (leb c.profile most_id) b.1 in
    record {
      travel_least = leb→le least_travel c.travel a.0;
      travel_most = leb→le c.travel most_travel b.0;
      ends = leb→le (c.departure + c.travel) H d.0;
      profile_id = leb→le c.profile most_id d.1;
    }

module _ (H : ℕ) where
  -- the tests of a row after others
  abbrev Tested : List Row → Row → Type 0
  Tested before r = Passed (row_tests H any_room before r)

  row-counted : (before : List Row) (r : Row) → Tested before r
      → (length before < most_legs) × (length r.list ≤ most_listed) × (listed before + length r.list ≤ most_configurations)
  row-counted before r h =
      let a = and_both (ltb (length before) most_legs) (leb (length r.list) most_listed && leb (listed before + length r.list) most_configurations) h.1.0 in
      let b = and_both (leb (length r.list) most_listed) (leb (listed before + length r.list) most_configurations) a.1 in
      (ltb→lt (length before) most_legs a.0, leb→le (length r.list) most_listed b.0, leb→le (listed before + length r.list) most_configurations b.1)

  row_kept : (before : List Row) (r : Row) → Tested before r → KeptRow H r
  row_kept before r h =
      let a = and_both (every (λ id. leb id most_id) (ids_of r)) (in_range H r.nominal && every (in_range H) r.list) h.0 in
      let b = and_both (in_range H r.nominal) (every (in_range H) r.list) a.1 in
      record {
        ids = all_map (λ id. T (leb id most_id)) (λ id. id ≤ most_id) (λ id. leb→le id most_id) (ids_of r) (every_all (λ id. leb id most_id) (ids_of r) a.0);
        nominal_in = in_range_lem H r.nominal b.0;
        list_in = all_map (λ c. T (in_range H c)) (InRange H) (in_range_lem H) r.list (every_all (in_range H) r.list b.1);
        least = offers_some r.list r.nominal h.1.1.1.0;
        most = (row-counted before r h).1;
        nominal_listed = h.1.1.1.0;
      }

  module _ (rows : List Row) (lawful : Lawful H rows) where
    -- each row by itself: ids, ranges, counts of its list, nominal listed
    pub rows_kept : All (KeptRow H) rows
    rows_kept = each_all Tested (KeptRow H) row_kept [] rows lawful

    -- at most 32,768 legs
    pub legs_most : length rows ≤ most_legs
    legs_most =
        each_keeps Tested (λ b. length b ≤ most_legs) (λ b r h k. rw (length_more b r) (omega (arith, (row-counted b r h).0))) [] rows lawful (omega arith)

    -- at most 1,048,576 configurations in all
    pub listed_most : listed rows ≤ most_configurations
    listed_most =
        each_keeps Tested (λ b. listed b ≤ most_configurations)
        (λ b r h k. rw (sum_more (λ (r : Row). length r.list) b r) (row-counted b r h).2) [] rows lawful (omega arith)

    -- no two legs have one id
    pub legs_distinct : Distinct (λ r. r.leg) rows
    legs_distinct =
        new_distinct (λ (r : Row). r.leg) rows
        (each_map Tested (λ b r. T (not (any (λ x. eqb x.leg r.leg) b))) (λ b r h. h.1.1.0) [] rows lawful)

-- ---- room

-- rows fit where their legs and their configurations do
pub rooms_fit : (legs configurations : ℕ) (rows : List Row) → length rows ≤ legs → listed rows ≤ configurations → Fitting legs configurations rows
rooms_fit legs configurations rows h k = go [] rows (omega arith) (omega arith)
  where
    go : (before rows : List Row) → length before + length rows ≤ legs → listed before + listed rows ≤ configurations
        → EachAfter (λ b r. T (draft_fits legs configurations b r)) before rows
    go before [] h k = tt
    go before (r ∷ rows) h k = (
      both_and (ltb (length before) legs) (leb (listed before + length r.list) configurations)
          (lt→ltb (length before) legs (omega arith)) (le→leb (listed before + length r.list) configurations (omega arith)),
      go (before ++ r ∷ []) rows (rw (length_more before r) (omega arith)) (rw (sum_more (λ (q : Row). length q.list) before r) (omega arith)),
    )

-- and only there
pub fit_rooms : (legs configurations : ℕ) (rows : List Row) → Fitting legs configurations rows → (length rows ≤ legs) × (listed rows ≤ configurations)
fit_rooms legs configurations rows fits =
    each_keeps (λ b r. T (draft_fits legs configurations b r)) (λ b. (length b ≤ legs) × (listed b ≤ configurations)) step [] rows fits (omega arith)
  where
    step : (b : List Row) (r : Row) → T (draft_fits legs configurations b r) → (length b ≤ legs) × (listed b ≤ configurations)
        → (length (b ++ r ∷ []) ≤ legs) × (listed (b ++ r ∷ []) ≤ configurations)
    step b r h k =
        let a = and_both (ltb (length b) legs) (leb (listed b + length r.list) configurations) h in (
          rw (length_more b r) (omega (arith, ltb→lt (length b) legs a.0)),
          rw (sum_more (λ (q : Row). length q.list) b r) (leb→le (listed b + length r.list) configurations a.1),
        )

-- a solution's rows fit where their choices do
pub choices_fit : (choices : ℕ) (rows : List Row) → length rows ≤ choices → FittingChoices choices rows
choices_fit choices rows h = go [] rows (omega arith)
  where
    go : (before rows : List Row) → length before + length rows ≤ choices → EachAfter (λ b r. T (solution_fits choices b r)) before rows
    go before [] h = tt
    go before (r ∷ rows) h = (lt→ltb (length before) choices (omega arith), go (before ++ r ∷ []) rows (rw (length_more before r) (omega arith)))

-- and only there
pub fit_choices : (choices : ℕ) (rows : List Row) → FittingChoices choices rows → length rows ≤ choices
fit_choices choices rows fits =
    each_keeps (λ b r. T (solution_fits choices b r)) (λ b. length b ≤ choices)
    (λ b r h k. rw (length_more b r) (omega (arith, ltb→lt (length b) choices h))) [] rows fits (omega arith)

-- ---- profiles

module _ (profiles samples : ℕ) where
  abbrev TestedCurve : List Curve → Curve → Type 0
  TestedCurve before c = Passed (curve_tests profiles samples before c) × (least_sampled ≤ length c.samples)

  curve-counted : (before : List Curve) (c : Curve) → TestedCurve before c
      → (length before < most_profiles) × (length c.samples ≤ most_sampled) × (sampled before + length c.samples ≤ most_samples)
  curve-counted before c h =
      let a = and_both (ltb (length before) most_profiles) (leb (length c.samples) most_sampled && leb (sampled before + length c.samples) most_samples) h.0.1.0 in
      let b = and_both (leb (length c.samples) most_sampled) (leb (sampled before + length c.samples) most_samples) a.1 in
      (ltb→lt (length before) most_profiles a.0, leb→le (length c.samples) most_sampled b.0, leb→le (sampled before + length c.samples) most_samples b.1)

  curve_kept : (before : List Curve) (c : Curve) → TestedCurve before c → KeptCurve c
  curve_kept before c h =
      let a = and_both (leb c.id most_id) (every (λ x. leb (nat_abs x) most_kw) c.samples) h.0.0 in
      record {
        id_most = leb→le c.id most_id a.0;
        sizes =
            all_map (λ x. T (leb (nat_abs x) most_kw)) (λ x. nat_abs x ≤ most_kw) (λ x. leb→le (nat_abs x) most_kw) c.samples
            (every_all (λ x. leb (nat_abs x) most_kw) c.samples a.1);
        least = h.1;
        most = (curve-counted before c h).1;
      }

  module _ (curves : List Curve) (lawful : LawfulCurves profiles samples curves) where
    -- each profile by itself: id, sizes of its samples, 1 to 3,600 of them
    pub curves_kept : All KeptCurve curves
    curves_kept = each_all TestedCurve KeptCurve curve_kept [] curves lawful

    -- at most 16,384 profiles
    pub profiles_most : length curves ≤ most_profiles
    profiles_most =
        each_keeps TestedCurve (λ b. length b ≤ most_profiles) (λ b c h k. rw (length_more b c) (omega (arith, (curve-counted b c h).0))) [] curves lawful (omega arith)

    -- at most 1,048,576 samples in all
    pub sampled_most : sampled curves ≤ most_samples
    sampled_most =
        each_keeps TestedCurve (λ b. sampled b ≤ most_samples)
        (λ b c h k. rw (sum_more (λ (x : Curve). length x.samples) b c) (curve-counted b c h).2) [] curves lawful (omega arith)

    -- no two profiles have one id
    pub profiles_distinct : Distinct (λ c. c.id) curves
    profiles_distinct =
        new_distinct (λ (c : Curve). c.id) curves
        (each_map TestedCurve (λ b c. T (not (any (λ x. eqb x.id c.id) b))) (λ b c h. h.0.1.1.0) [] curves lawful)

    -- they have room
    pub curves_room : (length curves ≤ profiles) × (sampled curves ≤ samples)
    curves_room =
        each_keeps TestedCurve (λ b. (length b ≤ profiles) × (sampled b ≤ samples))
        (λ b c h k. step b c (and_both (ltb (length b) profiles) (leb (sampled b + length c.samples) samples) h.0.1.1.1.0)) [] curves lawful (omega arith)
      where
        step : (b : List Curve) (c : Curve) → T (ltb (length b) profiles) × T (leb (sampled b + length c.samples) samples)
            → (length (b ++ c ∷ []) ≤ profiles) × (sampled (b ++ c ∷ []) ≤ samples)
        step b c a = (
          rw (length_more b c) (omega (arith, ltb→lt (length b) profiles a.0)),
          rw (sum_more (λ (x : Curve). length x.samples) b c) (leb→le (sampled b + length c.samples) samples a.1),
        )
