-- The digits past a sample's point, and the space or LF that closes it. Assumes nothing.
use Prim.Native.Nat.{ℕ, suc, ◌+◌, ◌*◌, ◌-◌, ◌/◌, ◌≤◌, ◌<◌, min}
use mathlib.Core.Path.{◌≡◌, refl, sym, ◌∙◌}
use mathlib.Core.Bool.{Bool, true, false, cond}
use mathlib.Core.List.{List, [], ◌∷◌}
use native.Mathlib.Omega.{arith}
use lib.Dec.{leb, eqb}
use lib.ListN.{length, length-append}
use lib.IntN.{ℤ}
use borrow.Author.Tests.{eq-eqb, ne_eqb, le-leb, lt-leb, lt-ltb, le-ltb}
use Rattle.rules.specs.Limits.{most_text, profile_width}
use Rattle.rules.specs.Answers.{bad_row}
use Rattle.rules.specs.Bytes.{line_feed, space, digit_zero, digit_nine}
use Rattle.rules.specs.Made.{signed}
use Rattle.profiles_row.specs.declared.number.Number.TheVariants.{Empty}
use Rattle.profiles_row.specs.declared.row.Past.{Past}
use Rattle.profiles_row.specs.declared.row.Listed.{Listed}
use Rattle.profiles_row.specs.declared.sample.Tail.{Tail}
use Rattle.profiles_state.specs.declared.state.State.{State}
use Rattle.profiles_state.specs.declared.state.State.TheVariants.{Whole as InWhole, Fraction, Stopped}
use Rattle.profiles_row.specs.Near.{cap, empty_near}
use Rattle.profiles_row.specs.Sample.{most_digits, fraction, fraction_step, kw_of}
use Rattle.profiles_state.specs.Open.{Open, in_list, open_step, open_end, Reached, reach}
use Rattle.profiles_row.specs.Row.{Digits, Closes, Ending}
use Rattle.profiles_state.specs.Holds.{Holds, in_whole, in_fraction, at_stop, Live, Steps, Free, Ends}
use Rattle.rules.proofs.Numbers.{digit_in, digit_below, digit_above}
use Rattle.profiles_state.proofs.Steps.{reach-byte, reach-line, reach_stop, onward}
use Rattle.std.specs.Prelude.{Option, None}

module _ (past : Past) (l : Listed) (t : Tail) (b : ℕ) where
  abbrev inside : State
  inside = Fraction past l t

  -- a byte that may not stand there
  module _ (off-space : b ≡ space → ⊥) (off-line : b ≡ line_feed → ⊥) where
    fraction_stop : ((n count value : ℕ) → Digits t n count value → fraction_step t.negative n count value b ≡ None) → (at : ℕ) → Free at inside b (Stopped bad_row past.place)
    unfolding open_step
    fraction_stop e at profiles samples profiles₀ samples₀ reached (in_fraction {before = before} {id = id} {done = done} {n = n} {count = count} {value = value} c g d) =
        rw (reach-byte (length profiles₀ / profile_width) (length samples₀) past.place at before (in_list id done (fraction t.negative n count value)) b off-line)
        (rw (ne_eqb b space off-space, e n count value d) at_stop)

    pub fraction_other : b < digit_zero → (at : ℕ) → Free at inside b (Stopped bad_row past.place)
    fraction_other h = fraction_stop (λ n count value d. rw (digit_below b h))

  pub fraction_high : digit_nine < b → (at : ℕ) → Free at inside b (Stopped bad_row past.place)
  fraction_high h = fraction_stop (λ q. omega arith) (λ q. omega arith) (λ n count value d. rw (digit_above b h))

  pub fraction_full : digit_zero ≤ b → b ≤ digit_nine → most_digits ≤ t.digits → (at : ℕ) → Free at inside b (Stopped bad_row past.place)
  fraction_full x y h =
      fraction_stop (λ q. omega arith) (λ q. omega arith)
      (λ n count value d. rw (digit_in b x y, le-ltb count most_digits (omega (arith, d.counted))))

  -- no digit stands before it
  pub fraction_empty : t.digits ≡ 0 → b < digit_zero → (at : ℕ) → Free at inside b (Stopped bad_row past.place)
  unfolding open_step open_end
  fraction_empty z h at profiles samples profiles₀ samples₀ reached (in_fraction {before = before} {id = id} {done = done} {n = n} {count = count} {value = value} c g d) =
      let q : count ≡ 0 = sym d.counted ∙ z in
      let e : leb 1 count ≡ false = lt-leb 1 count (omega arith) in
      let f : open_step (in_list id done (fraction t.negative n count value)) b ≡ None = rw (e, digit_below b h) (go (eqb b space)) in
      rw (reach_stop (length profiles₀ / profile_width) (length samples₀) past.place at before (in_list id done (fraction t.negative n count value)) b f (rw e)) at_stop
    where
      go : (y : Bool) → ◌≡◌ {A = Option Open} (cond y None None) None
      go true = refl
      go false = refl

  -- a digit more
  pub fraction_digits : (v : ℕ) → digit_zero ≤ b → b ≤ digit_nine → t.digits < most_digits → v ≡ min (t.value * 10 + (b - digit_zero)) cap
      → (at : ℕ) → Free at inside b (Fraction past l (record { negative = t.negative; whole = t.whole; digits = t.digits + 1; value = v }))
  unfolding open_step
  fraction_digits v x y h e at profiles samples profiles₀ samples₀ reached (in_fraction {before = before} {id = id} {done = done} {n = n} {count = count} {value = value} c g d) =
      let tail : Tail = record { negative = t.negative; whole = t.whole; digits = t.digits + 1; value = v } in
      let more : Digits tail n (suc count) (value * 10 + (b - digit_zero)) =
      record {
        same_whole = d.same_whole;
        counted = omega (arith, d.counted);
        same_value = omega (arith, d.same_value);
        few = omega (arith, d.counted);
      } in
      rw (reach-byte (length profiles₀ / profile_width) (length samples₀) past.place at before (in_list id done (fraction t.negative n count value)) b (λ q. omega arith))
      (rw (ne_eqb b space (λ q. omega arith), digit_in b x y, lt-ltb count most_digits (omega (arith, d.counted)))
      (in_fraction {past = past} {l = l} {t = tail} c (onward g) more))

-- ---- the sample is closed

module _ {past : Past} {l : Listed} {t : Tail} {at : ℕ} {profiles : List ℕ} {samples : List ℤ} (live : Live at (Fraction past l t) profiles samples) where
  few : {profiles₀ : List ℕ} {samples₀ : List ℤ} {reached : Reached} → Holds profiles₀ samples₀ at (Fraction past l t) profiles samples reached → l.count < at
  few (in_fraction c g d) = omega (arith, g.few, g.counted)

  pub count_fits : at < most_text → l.count < most_text
  count_fits h = omega (arith, few live.holds)

  pub ending : {m : Listed} {samples' : List ℤ} {room : ℕ} → (t.digits ≡ 0 → ⊥) → Closes past l t samples m samples' → room ≡ length samples' → Ending past m profiles room
  ending {m} {samples'} {room} z closes e = go live.holds
    where
      go : {profiles₀ : List ℕ} {samples₀ : List ℤ} {reached : Reached} → Holds profiles₀ samples₀ at (Fraction past l t) profiles samples reached → Ending past m profiles room
      go {profiles₀} {samples₀} (in_fraction {before = before} {id = id} {done = done} {n = n} {count = count} {value = value} c g d) =
          let g' = closes profiles₀ samples₀ at before id done n count value c.summed (omega (arith, d.counted, z)) g d in
          record {
            profiles₀ = profiles₀;
            samples₀ = samples₀;
            next = suc at;
            samples = samples';
            before = before;
            id = id;
            done = _;
            lent = e ∙ g'.long;
            closed = c;
            going = g';
            some_closed = omega (arith, g'.counted, length-append done (signed t.negative (kw_of n count value) ∷ []));
          }

module _ (past : Past) (l m : Listed) (t : Tail) (b : ℕ) (profiles : List ℕ) (samples samples' : List ℤ) (some-digit : t.digits ≡ 0 → ⊥) (closes : Closes past l t samples m samples') where
  pub fraction_space : b ≡ space → (at : ℕ) → Steps at (Fraction past l t) profiles samples b (InWhole past m false Empty) profiles samples'
  unfolding open_step
  fraction_space q at profiles₀ samples₀ reached (in_fraction {before = before} {id = id} {done = done} {n = n} {count = count} {value = value} c g d) =
      let one : 1 ≤ count = omega (arith, d.counted, some-digit) in
      rw (reach-byte (length profiles₀ / profile_width) (length samples₀) past.place at before (in_list id done (fraction t.negative n count value)) b (λ z. omega arith))
      (rw (eq-eqb b space q, le-leb 1 count one)
      (in_whole {past = past} {l = m} c (closes profiles₀ samples₀ at before id done n count value c.summed one g d) empty_near))

  pub fraction_line : (state : State) (profiles' : List ℕ) (room at : ℕ) → b ≡ line_feed → room ≡ length samples' → Ends at past m profiles room state profiles'
      → Steps at (Fraction past l t) profiles samples b state profiles' samples'
  unfolding open_end
  fraction_line state profiles' room at q e ends profiles₀ samples₀ reached (in_fraction {before = before} {id = id} {done = done} {n = n} {count = count} {value = value} c g d) =
      let one : 1 ≤ count = omega (arith, d.counted, some-digit) in
      let g' = closes profiles₀ samples₀ at before id done n count value c.summed one g d in
      rw (reach-line (length profiles₀ / profile_width) (length samples₀) past.place at before (in_list id done (fraction t.negative n count value)) b q, le-leb 1 count one)
      (ends profiles₀ samples₀ samples' before id _ (e ∙ g'.long) c g')

-- ---- any state

module _ {state state' : State} {at : ℕ} (b : ℕ) where
  pub step_free : (named : State) (profiles : List ℕ) (samples : List ℤ) → state ≡ named → Free at named b state' → Steps at state profiles samples b state' profiles samples
  step_free named profiles samples e f = rw e (f profiles samples)

  pub step_freely : (named : State) (profiles : List ℕ) (samples : List ℤ) → state ≡ named → ((at : ℕ) → Free at named b state') → Steps at state profiles samples b state' profiles samples
  step_freely named profiles samples e f = rw e (f at profiles samples)

  pub step_named : (named : State) {profiles profiles' : List ℕ} {samples samples' : List ℤ} → state ≡ named
      → Steps at named profiles samples b state' profiles' samples' → Steps at state profiles samples b state' profiles' samples'
  step_named named e f = rw e f

pub live_named : {state : State} (named : State) {at : ℕ} {profiles : List ℕ} {samples : List ℤ} → state ≡ named → Live at state profiles samples → Live at named profiles samples
live_named named e f = rw e at f

-- once stopped, always stopped
pub step_stopped : {state : State} (number place at b : ℕ) (profiles : List ℕ) (samples : List ℤ) → state ≡ Stopped number place
    → Steps at state profiles samples b (Stopped number place) profiles samples
unfolding reach
step_stopped number place at b profiles samples e = rw e go
  where
    go : Steps at (Stopped number place) profiles samples b (Stopped number place) profiles samples
    go profiles₀ samples₀ reached at_stop = at_stop

pub ruleset fractions =
    (fraction_other, fraction_high, fraction_full, fraction_empty, fraction_digits, count_fits, ending, fraction_space, fraction_line, step_free, step_freely, step_named, live_named, step_stopped)
