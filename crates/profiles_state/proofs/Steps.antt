-- An id and the whole part of a sample: each byte takes the code's state where it takes the reading. Assumes nothing.
use Rattle.std.specs.Prelude.{Option, Some, None}
use Prim.Native.Nat.{ℕ, suc, ◌/◌, ◌≤◌, ◌<◌, min}
use mathlib.Core.Path.{◌≡◌, refl, ap, ◌∙◌}
use mathlib.Core.Bool.{Bool, true, false, not, cond, ◌&&◌}
use mathlib.Core.List.{List, [], append-nil}
use native.Mathlib.Omega.{arith}
use lib.Dec.{leb, ltb, eqb}
use lib.ListN.{length}
use lib.IntN.{ℤ}
use borrow.Author.Tests.{eq-eqb, ne_eqb, lt-ltb, le-ltb, leb-true, leb-false}
use Rattle.rules.specs.Limits.{most_id, profile_width}
use Rattle.rules.specs.Lists.{◌>>=◌, over}
use Rattle.rules.specs.Answers.{Judged, bad_row}
use Rattle.rules.specs.Bytes.{line_feed, comma, space, minus, point, digit_zero, digit_nine}
use Rattle.rules.specs.Profiles.{Curve, judge_form, sample_table}
use Rattle.csv_machine.specs.Number.{Number as Whole, empty, zero, digits, number_step, number_end}
use Rattle.profiles_row.specs.declared.number.Number.{Number}
use Rattle.profiles_row.specs.declared.number.Number.TheVariants.{Empty, Zero, Digits}
use Rattle.profiles_row.specs.declared.row.Past.{Past}
use Rattle.profiles_row.specs.declared.row.Listed.{Listed}
use Rattle.profiles_row.specs.declared.sample.Tail.{Tail}
use Rattle.profiles_state.specs.declared.state.State.{State}
use Rattle.profiles_state.specs.declared.state.State.TheVariants.{Id, Whole as InWhole, Fraction, Stopped}
use Rattle.profiles_row.specs.Near.{cap, Near, empty_near, zero_near, digits_near, NearNext, next_near, next_broken, Pushes, NearEnd, end_near, end-broken, Ends as NumberEnds}
use Rattle.profiles_row.specs.Sample.{Sample, whole, fraction, negated, whole_step}
use Rattle.profiles_state.specs.Open.{Open, in_id, in_list, open_step, open_end, Reached, in_row, stopped, on_byte, on_line, reach}
use Rattle.profiles_row.specs.Row.{Closed, Going}
use Rattle.profiles_state.specs.Holds.{Holds, in_id_lem, in_whole, in_fraction, at_stop, Free}
use Rattle.rules.proofs.Numbers.{digit_in, digit_below, digit_above}
use Rattle.csv_machine.proofs.Number.{no_step}
use Rattle.rules.proofs.Lists.{over-length}
use Rattle.profiles_row.proofs.Tables.{samples_length}

-- ---- what a byte does to the reading

module _ (profiles samples : ℕ) (place next : ℕ) (before : List Curve) where
  abbrev pub taken : Option Open → Reached
  taken = on_byte place next before

  abbrev pub ended : Judged Curve → Reached
  ended = on_line place next before

  module _ (o : Open) (b : ℕ) where
    pub reach-byte : (b ≡ line_feed → ⊥) → reach profiles samples (in_row place next before o) b ≡ taken (open_step o b)
    unfolding reach
    reach-byte h = rw (ne_eqb b line_feed h)

    pub reach-line : b ≡ line_feed → reach profiles samples (in_row place next before o) b ≡ ended (judge_form profiles samples before (open_end o))
    unfolding reach
    reach-line e = rw (eq-eqb b line_feed e)

    -- a byte that may not stand there, in a row that may not end there
    pub reach_stop : open_step o b ≡ None → open_end o ≡ None → reach profiles samples (in_row place next before o) b ≡ stopped bad_row place
    unfolding reach
    reach_stop e h = go (eqb b line_feed)
      where
        go : (t : Bool) → cond t (ended (judge_form profiles samples before (open_end o))) (taken (open_step o b)) ≡ stopped bad_row place
        go true = rw h
        go false = rw e

-- the samples of the rows before fit
pub samples_long : {profiles₀ : List ℕ} {samples₀ samples : List ℤ} {past : Past} {profiles : List ℕ} {before : List Curve}
    → Closed profiles₀ samples₀ past profiles before → samples ≡ over (sample_table before) samples₀ → length samples ≡ length samples₀
samples_long {samples₀ = samples₀} {before = before} c e =
    ap length e ∙ over-length (sample_table before) samples₀ (rw (samples_length before) c.samples_room)

-- ---- an id

module _ (past : Past) (n : Number) (b : ℕ) where
  id_stop : ((m : Whole) → Near n m → open_step (in_id m) b ≡ None) → (at : ℕ) → Free at (Id past n) b (Stopped bad_row past.place)
  unfolding open_end
  id_stop e at profiles samples profiles₀ samples₀ reached (in_id_lem {before = before} {m = m} h c s k) =
      rw (reach_stop (length profiles₀ / profile_width) (length samples₀) past.place at before (in_id m) b (e m k) refl) at_stop

  module _ (l : digit_zero ≤ b) (h : b ≤ digit_nine) (r : Option Number) (pushes : Pushes n b r) where
    id_byte : (m : Whole) → open_step (in_id m) b ≡ (number_step m b >>= (λ next. Some (in_id next)))
    unfolding open_step
    id_byte m = rw (ne_eqb b comma (λ q. omega arith))

    pub id_broken : r ≡ None → (at : ℕ) → Free at (Id past n) b (Stopped bad_row past.place)
    id_broken e = id_stop (λ m k. id_byte m ∙ go (number_step m b) (rw e at (pushes m k)))
      where
        go : (o : Option Whole) → NearNext None o → o >>= (λ next. Some (in_id next)) ≡ None
        go None next_broken = refl
        go (Some _) x = elim x [ ]

    pub id_digits_lem : (w : Number) → r ≡ Some w → (at : ℕ) → Free at (Id past n) b (Id past w)
    id_digits_lem w e at profiles samples profiles₀ samples₀ reached (in_id_lem {before = before} {m = m} q c s k) =
        rw (reach-byte (length profiles₀ / profile_width) (length samples₀) past.place at before (in_id m) b (λ z. omega arith), id_byte m)
        (go (number_step m b) (rw e at (pushes m k)))
      where
        go : (o : Option Whole) → NearNext (Some w) o
            → Holds profiles₀ samples₀ (suc at) (Id past w) profiles samples
            (taken (length profiles₀ / profile_width) (length samples₀) past.place at before (o >>= (λ next. Some (in_id next))))
        go (Some m') (next_near k') = in_id_lem {past = past} (omega arith) c s k'
        go None x = elim x [ ]

  -- a byte that is neither a digit nor a comma
  pub id_low : (b ≡ comma → ⊥) → b < digit_zero → (at : ℕ) → Free at (Id past n) b (Stopped bad_row past.place)
  unfolding open_step
  id_low z h = id_stop (λ m k. rw (ne_eqb b comma z, no_step m b (digit_below b h)))

  pub id_high : (b ≡ comma → ⊥) → digit_nine < b → (at : ℕ) → Free at (Id past n) b (Stopped bad_row past.place)
  unfolding open_step
  id_high z h = id_stop (λ m k. rw (ne_eqb b comma z, no_step m b (digit_above b h)))

  module _ (z : b ≡ comma) (r : Option ℕ) (ends : NumberEnds n r) where
    pub id_unfit : r ≡ None → (at : ℕ) → Free at (Id past n) b (Stopped bad_row past.place)
    unfolding open_step
    id_unfit e = id_stop (λ m k. rw (eq-eqb b comma z) (go (number_end m) (rw e at (ends m k))))
      where
        go : (o : Option ℕ) → NearEnd None o → o >>= (λ id. Some (in_list id [] (whole false empty))) ≡ None
        go None end-broken = refl
        go (Some _) x = elim x [ ]

    module _ (v : ℕ) (e : r ≡ Some v) (l : Listed) (f : (l.id ≡ v) × ((l.count ≡ 0) × (l.wide ≡ ltb most_id v))) where
      wide_id : (id : ℕ) → v ≡ min id cap → l.wide ≡ not (leb id most_id && true)
      wide_id id q = f.1.1 ∙ go (leb id most_id) refl
        where
          go : (t : Bool) → leb id most_id ≡ t → ltb most_id v ≡ not (t && true)
          go true x = le-ltb most_id v (omega (arith, leb-true))
          go false x = lt-ltb most_id v (omega (arith, leb-false))

      pub id_whole : (at : ℕ) → Free at (Id past n) b (InWhole past l false Empty)
      unfolding open_step
      id_whole at profiles samples profiles₀ samples₀ reached (in_id_lem {before = before} {m = m} q c s k) =
          rw (reach-byte (length profiles₀ / profile_width) (length samples₀) past.place at before (in_id m) b (λ y. omega arith), eq-eqb b comma z)
          (go (number_end m) (rw e at (ends m k)))
        where
          go : (o : Option ℕ) → NearEnd (Some v) o
              → Holds profiles₀ samples₀ (suc at) (InWhole past l false Empty) profiles samples
              (taken (length profiles₀ / profile_width) (length samples₀) past.place at before (o >>= (λ id. Some (in_list id [] (whole false empty)))))
          go (Some id) (end_near w) =
              in_whole {past = past} {l = l} {samples = samples} {before = before} {id = id} {done = []} c
              (record {
                under_way = omega arith;
                few = omega arith;
                same_id = f.0 ∙ w;
                counted = f.1.0;
                wide = wide_id id w;
                long = samples_long c s;
                entered = λ x y. rw append-nil s;
              })
              empty_near
          go None x = elim x [ ]

-- ---- the whole part of a sample

-- a byte more of the open row
pub onward : {profiles₀ : List ℕ} {samples₀ samples : List ℤ} {past : Past} {l : Listed} {next : ℕ} {before : List Curve} {id : ℕ} {done : List ℤ}
    → Going profiles₀ samples₀ past l next samples before id done → Going profiles₀ samples₀ past l (suc next) samples before id done
onward g =
    record {
      under_way = omega (arith, g.under_way);
      few = omega (arith, g.few);
      same_id = g.same_id;
      counted = g.counted;
      wide = g.wide;
      long = g.long;
      entered = g.entered;
    }

-- the same byte by another name
pub same_byte : {state state' : State} (b b' : ℕ) → b ≡ b' → ((at : ℕ) → Free at state b' state') → (at : ℕ) → Free at state b state'
same_byte b b' e f = rw e f

-- where a byte of the open sample takes the state
abbrev Lands : Past → Listed → State → Option Sample → Type 0
Lands past l state x =
    (profiles₀ : List ℕ) (samples₀ : List ℤ) (at : ℕ) (profiles : List ℕ) (samples : List ℤ) (before : List Curve) (id : ℕ) (done : List ℤ)
    → Closed profiles₀ samples₀ past profiles before → Going profiles₀ samples₀ past l (suc at) samples before id done
    → Holds profiles₀ samples₀ (suc at) state profiles samples
    (taken (length profiles₀ / profile_width) (length samples₀) past.place at before (x >>= (λ next. Some (in_list id done next))))

module _ (past : Past) (l : Listed) (negative : Bool) (n : Number) (b : ℕ) where
  abbrev inside : State
  inside = InWhole past l negative n

  whole_stop : ((m : Whole) → Near n m → whole_step negative m b ≡ None) → (at : ℕ) → Free at inside b (Stopped bad_row past.place)
  unfolding open_step open_end
  whole_stop e at profiles samples profiles₀ samples₀ reached (in_whole {before = before} {id = id} {done = done} {m = m} c g k) =
      rw (reach_stop (length profiles₀ / profile_width) (length samples₀) past.place at before (in_list id done (whole negative m)) b none_next refl) at_stop
    where
      none_next : open_step (in_list id done (whole negative m)) b ≡ None
      none_next = rw (e m k) (go (eqb b space))
        where
          go : (t : Bool) → ◌≡◌ {A = Option Open} (cond t None None) None
          go true = refl
          go false = refl

  -- a byte of the sample itself
  whole_on : (b ≡ space → ⊥) → (b ≡ line_feed → ⊥) → (state : State) → ((m : Whole) → Near n m → Lands past l state (whole_step negative m b)) → (at : ℕ) → Free at inside b state
  unfolding open_step
  whole_on not-space not-Line state f at profiles samples profiles₀ samples₀ reached (in_whole {before = before} {id = id} {done = done} {m = m} c g k) =
      rw (reach-byte (length profiles₀ / profile_width) (length samples₀) past.place at before (in_list id done (whole negative m)) b not-Line, ne_eqb b space not-space)
      (f m k profiles₀ samples₀ at profiles samples before id done c (onward g))

  module _ (low : digit_zero ≤ b) (high : b ≤ digit_nine) (r : Option Number) (pushes : Pushes n b r) where
    at_digit : (m : Whole) → whole_step negative m b ≡ (number_step m b >>= (λ next. Some (whole negative next)))
    at_digit m = rw (digit_in b low high)

    pub whole_broken : r ≡ None → (at : ℕ) → Free at inside b (Stopped bad_row past.place)
    whole_broken e = whole_stop (λ m k. at_digit m ∙ go (number_step m b) (rw e at (pushes m k)))
      where
        go : (o : Option Whole) → NearNext None o → o >>= (λ next. Some (whole negative next)) ≡ None
        go None next_broken = refl
        go (Some _) x = elim x [ ]

    pub whole_digits : (w : Number) → r ≡ Some w → (at : ℕ) → Free at inside b (InWhole past l negative w)
    whole_digits w e =
        whole_on (λ q. omega arith) (λ q. omega arith) (InWhole past l negative w) (λ m k. rw (at_digit m) (go (number_step m b) (rw e at (pushes m k))))
      where
        go : (o : Option Whole) → NearNext (Some w) o → Lands past l (InWhole past l negative w) (o >>= (λ next. Some (whole negative next)))
        go (Some m) (next_near k) profiles₀ samples₀ at profiles samples before id done c g = in_whole {past = past} {l = l} c g k
        go None x profiles₀ samples₀ at profiles samples before id done c g = elim x [ ]

  pub whole_low : (b ≡ point → ⊥) → (b ≡ minus → ⊥) → b < digit_zero → (at : ℕ) → Free at inside b (Stopped bad_row past.place)
  whole_low p q h = whole_stop (λ m k. rw (digit_below b h, ne_eqb b point p, ne_eqb b minus q))

  pub whole_high : (b ≡ point → ⊥) → (b ≡ minus → ⊥) → digit_nine < b → (at : ℕ) → Free at inside b (Stopped bad_row past.place)
  whole_high p q h = whole_stop (λ m k. rw (digit_above b h, ne_eqb b point p, ne_eqb b minus q))

-- ---- a point, and a minus

module _ (past : Past) (l : Listed) (negative : Bool) (n : Number) where
  module _ (r : Option ℕ) (ends : NumberEnds n r) where
    pub point_unfit : r ≡ None → (at : ℕ) → Free at (InWhole past l negative n) point (Stopped bad_row past.place)
    point_unfit e = whole_stop past l negative n point (λ m k. go (number_end m) (rw e at (ends m k)))
      where
        go : (o : Option ℕ) → NearEnd None o → o >>= (λ w. Some (fraction negative w 0 0)) ≡ None
        go None end-broken = refl
        go (Some _) x = elim x [ ]

    abbrev begun : ℕ → Tail
    begun v = record { negative = negative; whole = v; digits = 0; value = 0 }

    pub point_value : (v : ℕ) → r ≡ Some v → (at : ℕ) → Free at (InWhole past l negative n) point (Fraction past l (begun v))
    point_value v e =
        whole_on past l negative n point (λ q. omega arith) (λ q. omega arith) (Fraction past l (begun v)) (λ m k. go (number_end m) (rw e at (ends m k)))
      where
        go : (o : Option ℕ) → NearEnd (Some v) o → Lands past l (Fraction past l (begun v)) (o >>= (λ w. Some (fraction negative w 0 0)))
        go (Some w) (end_near q) profiles₀ samples₀ at profiles samples before id done c g =
            in_fraction {past = past} {l = l} {t = begun v} c g (record { same_whole = q; counted = refl; same_value = refl; few = omega arith })
        go None x profiles₀ samples₀ at profiles samples before id done c g = elim x [ ]

  -- a second minus, or one after a digit
  pub minus_again : negative ≡ true → (at : ℕ) → Free at (InWhole past l negative n) minus (Stopped bad_row past.place)
  minus_again e = whole_stop past l negative n minus (λ m k. rw e)

  minus_late : ((m : Whole) → Near n m → negated negative m ≡ None) → (at : ℕ) → Free at (InWhole past l negative n) minus (Stopped bad_row past.place)
  minus_late e = whole_stop past l negative n minus e

  pub minus_zero : negative ≡ false → n ≡ Zero → (at : ℕ) → Free at (InWhole past l negative n) minus (Stopped bad_row past.place)
  minus_zero e q = minus_late (rw (e, q) go)
    where
      go : (m : Whole) → Near Zero m → negated false m ≡ None
      go zero zero_near = refl
      go empty x = elim x [ ]
      go (digits _) x = elim x [ ]

  pub minus_digits : (v : ℕ) → negative ≡ false → n ≡ Digits v → (at : ℕ) → Free at (InWhole past l negative n) minus (Stopped bad_row past.place)
  minus_digits v e q = minus_late (rw (e, q) go)
    where
      go : (m : Whole) → Near (Digits v) m → negated false m ≡ None
      go (digits w) (digits_near k) = refl
      go empty x = elim x [ ]
      go zero x = elim x [ ]

  pub minus-first : negative ≡ false → n ≡ Empty → (at : ℕ) → Free at (InWhole past l negative n) minus (InWhole past l true Empty)
  minus-first e q =
      rw (e, q) (whole_on past l false Empty minus (λ z. omega arith) (λ z. omega arith) (InWhole past l true Empty) go)
    where
      go : (m : Whole) → Near Empty m → Lands past l (InWhole past l true Empty) (negated false m)
      go empty empty_near profiles₀ samples₀ at profiles samples before id done c g = in_whole {past = past} {l = l} c g empty_near
      go zero x profiles₀ samples₀ at profiles samples before id done c g = elim x [ ]
      go (digits _) x profiles₀ samples₀ at profiles samples before id done c g = elim x [ ]

pub ruleset ways =
    (id_broken, id_digits_lem, id_low, id_high, id_unfit, id_whole, whole_broken, whole_digits, whole_low, whole_high, point_unfit, point_value, minus_again, minus_zero, minus_digits, minus-first, same_byte)
