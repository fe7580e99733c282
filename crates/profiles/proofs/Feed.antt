-- A part of a text: the loop's turns are the reading's bytes, one by one or whole samples at once. Assumes nothing.
use Rattle.std.specs.Prelude.{Option, Some, Result, Ok, Err}
use Prim.Native.Nat.{ℕ, suc, ◌+◌, ◌*◌, ◌-◌, ◌/◌, ◌≤◌, ◌<◌}
use mathlib.Core.Path.{◌≡◌, refl, ap, sym, subst, ◌∙◌}
use mathlib.Core.Bool.{Bool, true, false, cond}
use mathlib.Core.List.{List, []}
use native.Mathlib.Omega.{arith}
use native.Mathlib.Nat.{add-zero}
use lib.Dec.{leb, eqb}
use lib.ListN.{length, get_or, drop}
use lib.IntN.{ℤ}
use borrow.Author.Tests.{le-leb, lt-leb, leb-true, eqb-true, eqb-false}
use Rattle.rules.specs.Limits.{most_text, profile_width}
use Rattle.rules.specs.Lists.{over}
use Rattle.rules.specs.Answers.{bad_header}
use Rattle.rules.specs.Profiles.{profiles_header}
use Rattle.csv_machine.specs.Machine.{in_row as row_at, stopped as stopped_at, Faulty, is_stopped}
use Rattle.csv_machine.proofs.Machine.{faulty_fold}
use Rattle.csv_machine.proofs.Fold.{fold-drop, fold_end}
use Rattle.csv_marks.specs.declared.Mark.{Mark}
use Rattle.csv_marks.specs.declared.Mark.TheVariants.{Bare, Within}
use Rattle.csv_marks.specs.Turns.{marked, takes, plain_under}
use Rattle.csv_marks.proofs.Late.{late, late_most, late_open, late_shut}
use Rattle.csv_header.specs.declared.Headed.{Headed}
use Rattle.csv_header.specs.Heading.{headed, compared_from, Headings}
use Rattle.csv_header.proofs.Part.{past_header, header_law}
use Rattle.profiles_row.specs.declared.number.Number.{Number}
use Rattle.profiles_row.specs.declared.number.Number.TheVariants.{Empty}
use Rattle.profiles_sample.specs.declared.Spaced.{Spaced}
use Rattle.profiles_row.specs.declared.row.Past.{Past}
use Rattle.profiles_row.specs.declared.row.Listed.{Listed}
use Rattle.profiles_row.specs.Near.{empty_near}
use Rattle.profiles_row.specs.Row.{Closed, ClosesTo}
use Rattle.profiles_state.specs.declared.state.State.{State}
use Rattle.profiles_state.specs.declared.state.State.TheVariants.{Id, Whole, Stopped}
use Rattle.profiles_state.specs.declared.marked.Passed.{Passed}
use Rattle.profiles_state.specs.Open.{start, Reached, in_row, stopped, Read, contents, machine, read}
use Rattle.profiles_state.specs.Holds.{Holds, in_id_lem, in_whole, in_fraction, at_stop, Live, Steps, Under, Stands, Passes, passed, leaves, reading, Leads, Leap}
use Rattle.profiles.specs.declared.reader.Reader.{Reader}
use Rattle.profiles.specs.declared.reader.Many.{Many}
use Rattle.profiles.specs.declared.reader.Moved.{Moved}
use Rattle.profiles.specs.declared.reader.Crossed.{Crossed}
use Rattle.profiles.specs.Feeds.{Held, in_header_lem, in_rows, Feeds, Alive, Lined, opened, begun_at, count_in, ManyRead, Skips, Quickens, TurnedAt, CrossedTo}
use Rattle.profiles_sample.specs.Quick.{Samples, lasting}
use Rattle.profiles_sample.specs.declared.Headed.{Headed as Head}
use Rattle.profiles_sample.specs.Heads.{ListAfter, Heads, headed as head-there}
use Rattle.profiles_state.proofs.Fraction.{fraction_space}
use Rattle.profiles_state.proofs.Marking.{Other, other_space, turn_plain}
use Rattle.profiles_state.proofs.Leaps.{leap_none, leap_then, leap_step}

-- ---- whole samples

-- the loop's invariant at byte i
pub record Sampling (part : List ℕ) (past : Past) (l : Listed) (from : ℕ) (samples₁ : List ℤ) (cur : Listed) (i : ℕ) (samples : List ℤ) : Type 0 where
  pub inside : i ≤ length part
  pub few : cur.count + from ≤ l.count + i
  pub long : length samples ≡ length samples₁
  pub leaps : (mark : Mark) → takes mark ≡ true → (profiles : List ℕ) → Leap part mark from (Whole past l false Empty) profiles samples₁ i (Whole past cur false Empty) profiles samples

pub sampling_none : {part : List ℕ} (past : Past) (l : Listed) {from : ℕ} (samples : List ℤ) → from ≤ length part → Sampling part past l from samples l from samples
sampling_none past l samples h = record { inside = h; few = omega arith; long = refl; leaps = λ mark t profiles. leap_none h }

module _ {part : List ℕ} {past : Past} {l : Listed} {from : ℕ} {samples₁ : List ℤ} {cur : Listed} {i : ℕ} {samples : List ℤ} (s : Sampling part past l from samples₁ cur i samples) where
  -- the next sample may be counted
  pub sampling_count : l.count + length part ≤ most_text + from → i < length part → cur.count < most_text
  sampling_count h k = omega (arith, s.few)

  pub sampling_next : {x : Option Spaced} {r : Spaced} {cur' : Listed} {samples' : List ℤ} → Samples part i false x → x ≡ Some r → ClosesTo past cur r.tail samples cur' samples'
      → length samples' ≡ length samples → Sampling part past l from samples₁ cur' (r.next + 1) samples'
  sampling_next {x} {r} {cur'} {samples'} found e closes long = go (rw e at found)
    where
      go : Samples part i false (Some r) → Sampling part past l from samples₁ cur' (r.next + 1) samples'
      go (lasting h q z j) =
          record {
            inside = omega arith;
            few = omega (arith, s.few, closes.counted, (j past cur Bare refl part samples).onward);
            long = long ∙ s.long;
            leaps =
                λ mark m profiles. leap_then (s.leaps mark m profiles)
                (leap_then (j past cur mark m profiles samples) (leap_step m (subst Other (sym q) other_space) h (fraction_space past cur cur' r.tail (get_or part r.next 0) profiles samples samples' z closes.closes q)));
          }

  -- behind it, the loop goes on
  pub sampling_after : {x : Option Spaced} {r : Spaced} → Samples part i false x → x ≡ Some r → (i ≤ r.next) × (r.next < length part)
  sampling_after {x} {r} found e = go (rw e at found)
    where
      go : Samples part i false (Some r) → (i ≤ r.next) × (r.next < length part)
      go (lasting h q z j) = ((j past cur Bare refl part samples).onward, h)

  pub sampling_end : ManyRead part past l from samples₁ (record { l = cur; next = i }) samples
  sampling_end = s.leaps

-- ---- after a fault

faulty_reading : (profiles : List ℕ) (samples : List ℤ) {k place : ℕ} (p : Read) (s : List ℕ) → Faulty k place p → Faulty k place (reading profiles samples p s)
unfolding read
faulty_reading profiles samples p s f = faulty_fold (machine (length profiles / profile_width) (length samples)) p s f

module _ {part : List ℕ} {from : ℕ} where
  pub skip_none : (state : State) → from ≤ length part → Skips part from state (record { state = state; next = from })
  skip_none state h mark profiles samples = leap_none h

  pub skip_stopped : {state : State} (number place : ℕ) → state ≡ Stopped number place → from ≤ length part → Skips part from state (record { state = Stopped number place; next = length part })
  skip_stopped number place e h mark profiles samples =
      rw e
      (record { onward = h; inside = omega arith; leaps = λ base profiles₀ samples₀ text stands. go base profiles₀ samples₀ text stands.contents stands.holds stands.under })
    where
      go : (base : ℕ) (profiles₀ : List ℕ) (samples₀ : List ℤ) (text : Read) (c : Reached) → Holds profiles₀ samples₀ (base + from) (Stopped number place) profiles samples c → Under mark c text
          → Leads profiles₀ samples₀ (base + length part) mark (Stopped number place) profiles samples (drop (length part) part) (reading profiles₀ samples₀ text (drop from part))
      go base profiles₀ samples₀ text c at_stop u =
          record {
            midway = reading profiles₀ samples₀ text (drop from part);
            stands =
                record {
                  contents = stopped number place;
                  holds = at_stop;
                  under = faulty_reading profiles₀ samples₀ text (drop from part) u;
                };
            leads = fold_end (read (length profiles₀ / profile_width) (length samples₀)) (reading profiles₀ samples₀ text (drop from part)) part (length part) (omega arith);
          }

-- ---- quicken

module _ {part : List ℕ} {from : ℕ} {mark : Mark} where
  pub quick_skip : {state : State} (samples : List ℤ) {moved : Moved} → Skips part from state moved → Quickens part from mark state samples moved samples
  quick_skip samples f profiles = f mark profiles samples

  pub quick-same : {state : State} (named : State) (samples : List ℤ) → state ≡ named → from ≤ length part → Quickens part from mark state samples (record { state = named; next = from }) samples
  quick-same named samples e h profiles = rw e (leap_none h)

  pub quick_many : {state : State} (past : Past) (l : Listed) (negative : Bool) (n : Number) (t : Bool) {many : Many} {samples samples' : List ℤ} → state ≡ Whole past l negative n → n ≡ Empty → negative ≡ false
      → t ≡ takes mark → t ≡ true → ManyRead part past l from samples many samples' → Quickens part from mark state samples (record { state = Whole past many.l false Empty; next = many.next }) samples'
  quick_many past l negative n t e q z m y f = rw (e, q, z) (f mark (sym m ∙ y))

pub quick_count : {state : State} (past : Past) (l : Listed) (negative : Bool) (n : Number) (k m : ℕ) → state ≡ Whole past l negative n → count_in state + k ≤ m → l.count + k ≤ m
quick_count past l negative n k m e h = rw e at h

-- ---- the rows of a part

-- some text stands behind a state under each mark
abbrev text_of : Mark → Reached → Read
text_of mark (in_row place next before o) = row_at place next before (marked mark o)
text_of mark (stopped k place) = stopped_at k place

under_text : (mark : Mark) (c : Reached) → Under mark c (text_of mark c)
under_text mark (in_row place next before o) = refl
under_text mark (stopped k place) = is_stopped

standing : {at : ℕ} {state : State} {profiles : List ℕ} {samples : List ℤ} (mark : Mark) (l : Live at state profiles samples)
    → Stands l.profiles₀ l.samples₀ at mark state profiles samples (text_of mark l.reached)
standing mark l = record { contents = l.reached; holds = l.holds; under = under_text mark l.reached }

living : {profiles₀ : List ℕ} {samples₀ : List ℤ} {at : ℕ} {mark : Mark} {state : State} {profiles : List ℕ} {samples : List ℤ} {text : Read}
    → Stands profiles₀ samples₀ at mark state profiles samples text → Live at state profiles samples
living {profiles₀} {samples₀} s = record { profiles₀ = profiles₀; samples₀ = samples₀; reached = s.contents; holds = s.holds }

-- the loop's invariant at byte i
pub record Fed (next : ℕ) (before : State) (first : Mark) (profiles₁ : List ℕ) (samples₁ : List ℤ) (part : List ℕ) (from : ℕ) (state : State) (mark : Mark) (i : ℕ) (profiles : List ℕ) (samples : List ℤ) : Type 0 where
  pub inside : i ≤ length part
  pub live : Live (next + i) state profiles samples
  pub profiles_long : length profiles ≡ length profiles₁
  pub samples_long : length samples ≡ length samples₁
  pub same : (profiles₀ : List ℕ) (samples₀ : List ℤ) (text : Read) → Stands profiles₀ samples₀ (next + from) first before profiles₁ samples₁ text
      → Leads profiles₀ samples₀ (next + i) mark state profiles samples (drop i part) (reading profiles₀ samples₀ text (drop from part))

pub fed_first : {next : ℕ} {state : State} (mark : Mark) {profiles : List ℕ} {samples : List ℤ} (part : List ℕ) (from : ℕ) → Live (next + from) state profiles samples → from ≤ length part
    → Fed next state mark profiles samples part from state mark from profiles samples
fed_first mark part from live h =
    record {
      inside = h;
      live = live;
      profiles_long = refl;
      samples_long = refl;
      same = λ profiles₀ samples₀ text s. record { midway = text; stands = s; leads = refl };
    }

count_below : {profiles₀ profiles : List ℕ} {samples₀ samples : List ℤ} {at : ℕ} {state : State} {reached : Reached} → Holds profiles₀ samples₀ at state profiles samples reached → count_in state ≤ at
count_below (in_id_lem h c w k) = omega arith
count_below (in_whole c g k) = omega (arith, g.few, g.counted)
count_below (in_fraction c g d) = omega (arith, g.few, g.counted)
count_below at_stop = omega arith

-- ---- a turn

-- the samples after a byte may be counted
pub turn_count : {state one : State} {profiles profiles' : List ℕ} {samples samples' : List ℤ} (gone i long b : ℕ) → Steps (gone + i) state profiles samples b one profiles' samples'
    → Live (gone + i) state profiles samples → gone + long ≤ most_text → count_in one + long ≤ most_text + (i + 1)
turn_count gone i long b steps live h = omega (arith, count_below (steps live.profiles₀ live.samples₀ live.reached live.holds))

pub pass_step : {state : State} {mark : Mark} {b : ℕ} {v : Passed} → Passes state mark b v → v.step ≤ 1
pass_step (passed one turns) = omega arith
pass_step (leaves none takes-contents shut left) = omega arith

module _ {gone : ℕ} {state : State} {mark : Mark} {profiles : List ℕ} {samples : List ℤ} {part : List ℕ} {i : ℕ} (h : i < length part) where
  -- a plain byte, and the whole samples behind it
  module _ {one : State} {profiles' : List ℕ} {samples' : List ℤ} (steps : Steps (gone + i) state profiles samples (get_or part i 0) one profiles' samples') where
    pub turned_plain : (p : Bool) {moved : Moved} {samples'' : List ℤ} → p ≡ plain_under mark (get_or part i 0) → p ≡ true → Quickens part (i + 1) mark one samples' moved samples''
        → TurnedAt gone state mark profiles samples part i moved.state mark moved.next profiles' samples''
    turned_plain p {moved} {samples''} q y quick =
        record {
          onward = omega (arith, (quick profiles').onward);
          inside = (quick profiles').inside;
          stays = λ e. absurd (omega (arith, (quick profiles').onward));
          leads = go;
        }
      where
        go : (profiles₀ : List ℕ) (samples₀ : List ℤ) (text : Read) → Stands profiles₀ samples₀ (gone + i) mark state profiles samples text
            → Leads profiles₀ samples₀ (gone + moved.next) mark moved.state profiles' samples'' (drop moved.next part) (reading profiles₀ samples₀ text (drop i part))
        go profiles₀ samples₀ text s =
            let n : suc (gone + i) ≡ gone + (i + 1) = omega arith in
            let t =
            subst (λ (k : ℕ). Stands profiles₀ samples₀ k mark one profiles' samples' (read (length profiles₀ / profile_width) (length samples₀) text (get_or part i 0))) n
            (turn_plain {mark = mark} (get_or part i 0) (sym q ∙ y) steps profiles₀ samples₀ text s) in
            let m = (quick profiles').leaps gone profiles₀ samples₀ _ t in
            record {
              midway = m.midway;
              stands = m.stands;
              leads = m.leads ∙ sym (fold-drop (read (length profiles₀ / profile_width) (length samples₀)) text part i h);
            }

  -- a byte that is not plain: taken, or left
  pub turned-passed : (p : Bool) {v : Passed} {moved : Moved} → p ≡ plain_under mark (get_or part i 0) → p ≡ false → Passes state mark (get_or part i 0) v → Skips part (i + v.step) v.state moved
      → TurnedAt gone state mark profiles samples part i moved.state v.mark moved.next profiles samples
  turned-passed p {v} {moved} q y passes skips = go passes
    where
      leap : Leap part v.mark (i + v.step) v.state profiles samples moved.next moved.state profiles samples
      leap = skips v.mark profiles samples

      -- a text that stands where the byte leads
      onto : (k : ℕ) (profiles₀ : List ℕ) (samples₀ : List ℤ) (text there : Read) → i + v.step ≡ k → Stands profiles₀ samples₀ (gone + k) v.mark v.state profiles samples there
          → reading profiles₀ samples₀ there (drop k part) ≡ reading profiles₀ samples₀ text (drop i part)
          → Leads profiles₀ samples₀ (gone + moved.next) v.mark moved.state profiles samples (drop moved.next part) (reading profiles₀ samples₀ text (drop i part))
      onto k profiles₀ samples₀ text there e s l =
          let m = leap.leaps gone profiles₀ samples₀ there (subst (λ (n : ℕ). Stands profiles₀ samples₀ (gone + n) v.mark v.state profiles samples there) (sym e) s) in
          record {
            midway = m.midway;
            stands = m.stands;
            leads = m.leads ∙ ap (λ (n : ℕ). reading profiles₀ samples₀ there (drop n part)) e ∙ l;
          }

      go : Passes state mark (get_or part i 0) v → TurnedAt gone state mark profiles samples part i moved.state v.mark moved.next profiles samples
      go (passed one turns) =
          record {
            onward = omega (arith, leap.onward);
            inside = leap.inside;
            stays = λ e. absurd (omega (arith, leap.onward));
            leads =
                λ profiles₀ samples₀ text s.
                let n : suc (gone + i) ≡ gone + (i + 1) = omega arith in
                let k : i + v.step ≡ i + 1 = omega arith in
                onto (i + 1) profiles₀ samples₀ text (read (length profiles₀ / profile_width) (length samples₀) text (get_or part i 0)) k
                (subst (λ (n : ℕ). Stands profiles₀ samples₀ n v.mark v.state profiles samples (read (length profiles₀ / profile_width) (length samples₀) text (get_or part i 0))) n
                (turns (gone + i) profiles samples profiles₀ samples₀ text s))
                (sym (fold-drop (read (length profiles₀ / profile_width) (length samples₀)) text part i h));
          }
      go (leaves none takes-contents shut left) =
          record {
            onward = omega (arith, leap.onward);
            inside = leap.inside;
            stays = λ e. (shut (sym q ∙ y), takes-contents);
            leads =
                λ profiles₀ samples₀ text s.
                let k : i + v.step ≡ i = omega arith in
                let l = left (gone + i) profiles samples profiles₀ samples₀ text s in
                onto i profiles₀ samples₀ text l.other k l.stands
                (fold-drop (read (length profiles₀ / profile_width) (length samples₀)) l.other part i h
                ∙ ap (λ (x : Read). reading profiles₀ samples₀ x (drop (i + 1) part)) l.leads
                ∙ sym (fold-drop (read (length profiles₀ / profile_width) (length samples₀)) text part i h));
          }

-- the row's id is read with the quotes about it
pub crossed_row : {part : List ℕ} {from : ℕ} {mark : Mark} {state : State} {x : Option Head} (past : Past) (n : Number) (head : Head) (l : Listed) → state ≡ Id past n → n ≡ Empty → mark ≡ Bare → Heads part from x
    → x ≡ Some head → ListAfter head.id l → CrossedTo part from mark state (record { state = Whole past l false Empty; mark = Within; next = head.next })
crossed_row {part} {from} past n head l e z m heads q after gone profiles samples = rw (e, z, m) (go (rw q at heads))
  where
    go : Heads part from (Some head) → TurnedAt gone (Id past Empty) Bare profiles samples part from (Whole past l false Empty) Within head.next profiles samples
    go (head-there h crosses) =
        let x = crosses past l after in
        record { onward = omega arith; inside = x.inside; stays = λ same. absurd (omega arith); leads = x.crosses gone profiles samples }

pub crossed_byte : {part : List ℕ} {from : ℕ} {mark : Mark} {state : State} {v : Passed} {moved : Moved} → from < length part → plain_under mark (get_or part from 0) ≡ false
    → Passes state mark (get_or part from 0) v → Skips part (from + v.step) v.state moved → CrossedTo part from mark state (record { state = moved.state; mark = v.mark; next = moved.next })
crossed_byte h y passes skips gone profiles samples = turned-passed h false (sym y) refl passes skips

-- the state and the mark by other names
pub crossed_as : {part : List ℕ} {from : ℕ} {mark : Mark} {state : State} {r : Crossed} (named : State) → state ≡ named → CrossedTo part from mark named r → CrossedTo part from mark state r
crossed_as {part} {from} {mark} {state} {r} named e crossed gone profiles samples = rw e (crossed gone profiles samples)

pub not_plain : (mark : Mark) (b : ℕ) (p : Bool) → p ≡ plain_under mark b → p ≡ false → plain_under mark b ≡ false
not_plain mark b p q y = sym q ∙ y

pub ruleset crossing = (crossed_row, crossed_byte, crossed_as)

-- less is left, or the byte is left no more
pub turned_less : {gone : ℕ} {state : State} {mark : Mark} {profiles : List ℕ} {samples : List ℤ} {part : List ℕ} {i : ℕ} {state' : State} {mark' : Mark} {j : ℕ} {profiles' : List ℕ} {samples' : List ℤ}
    → TurnedAt gone state mark profiles samples part i state' mark' j profiles' samples' → i < length part → 2 * (length part - j) + late mark' < 2 * (length part - i) + late mark
turned_less {mark = mark} {part = part} {i = i} {mark' = mark'} {j = j} t h = go (eqb j i) refl
  where
    go : (e : Bool) → eqb j i ≡ e → 2 * (length part - j) + late mark' < 2 * (length part - i) + late mark
    go true e =
        let same : j ≡ i = eqb-true j i e in
        omega (arith, late_shut mark (t.stays same).0, late_open mark' (t.stays same).1)
    go false e =
        let further : j ≡ i → ⊥ = eqb-false j i e in
        omega (arith, t.onward, t.inside, late_most mark')

-- ---- the loop

module _ {next : ℕ} {before : State} {first : Mark} {profiles₁ : List ℕ} {samples₁ : List ℤ} {part : List ℕ} {from : ℕ} {state : State} {mark : Mark} {i : ℕ} {profiles : List ℕ} {samples : List ℤ}
    (f : Fed next before first profiles₁ samples₁ part from state mark i profiles samples) where
  pub fed_next : {state' : State} {mark' : Mark} {j : ℕ} {profiles' : List ℕ} {samples' : List ℤ} → TurnedAt next state mark profiles samples part i state' mark' j profiles' samples' → length profiles' ≡ length profiles → length samples' ≡ length samples
      → Fed next before first profiles₁ samples₁ part from state' mark' j profiles' samples'
  fed_next {state'} {mark'} {j} {profiles'} {samples'} t a b =
      record {
        inside = t.inside;
        live = living (t.leads f.live.profiles₀ f.live.samples₀ _ (standing mark f.live)).stands;
        profiles_long = a ∙ f.profiles_long;
        samples_long = b ∙ f.samples_long;
        same = λ profiles₀ samples₀ text s. go profiles₀ samples₀ text (f.same profiles₀ samples₀ text s);
      }
    where
      go : (profiles₀ : List ℕ) (samples₀ : List ℤ) (text : Read)
          → Leads profiles₀ samples₀ (next + i) mark state profiles samples (drop i part) (reading profiles₀ samples₀ text (drop from part))
          → Leads profiles₀ samples₀ (next + j) mark' state' profiles' samples' (drop j part) (reading profiles₀ samples₀ text (drop from part))
      go profiles₀ samples₀ text l =
          let m = t.leads profiles₀ samples₀ l.midway l.stands in
          record { midway = m.midway; stands = m.stands; leads = m.leads ∙ l.leads }

  pub fed_last : length part ≤ i → Lined next before first profiles₁ samples₁ part from (record { next = next + i; head = length profiles_header; mark = mark; state = state }) profiles samples
  fed_last h =
      record {
        place = omega (arith, f.inside);
        head_whole = refl;
        lines = λ profiles₀ samples₀ text s. go profiles₀ samples₀ text (f.same profiles₀ samples₀ text s);
      }
    where
      go : (profiles₀ : List ℕ) (samples₀ : List ℤ) (text : Read)
          → Leads profiles₀ samples₀ (next + i) mark state profiles samples (drop i part) (reading profiles₀ samples₀ text (drop from part))
          → Stands profiles₀ samples₀ (next + i) mark state profiles samples (reading profiles₀ samples₀ text (drop from part))
      go profiles₀ samples₀ text l =
          subst (λ (r : Read). Stands profiles₀ samples₀ (next + i) mark state profiles samples r)
          (sym (fold_end (read (length profiles₀ / profile_width) (length samples₀)) l.midway part i h) ∙ l.leads)
          l.stands

-- ---- a part

pub begun-past : (state : State) (head at : ℕ) → length profiles_header ≤ head → state ≡ begun_at state head at
begun-past state head at h = rw (le-leb (length profiles_header) head h)

pub begun_first : (state : State) (head at : ℕ) → head < length profiles_header → Id (opened at) Empty ≡ begun_at state head at
begun_first state head at h = rw (lt-leb (length profiles_header) head h)

none_closed : (at : ℕ) (profiles : List ℕ) (samples : List ℤ) → Closed profiles samples (opened at) profiles []
unfolding over
none_closed at profiles samples =
    record {
      counted = refl;
      summed = refl;
      room = omega arith;
      samples_room = omega arith;
      entered = refl;
      climb = record { within = omega arith; ascending = λ i h. omega arith; top = λ h. omega arith };
    }

first_holds : (at : ℕ) (profiles : List ℕ) (samples : List ℤ) → Holds profiles samples at (Id (opened at) Empty) profiles samples (in_row at at [] start)
unfolding over
first_holds at profiles samples = in_id_lem {past = opened at} (omega arith) (none_closed at profiles samples) refl empty_near

module _ (reader : Reader) (part : List ℕ) where
  module _ (r : Result Headed Headed) (e : r ≡ compared_from profiles_header reader.mark reader.head 0 part) where
    heading : (profiles samples : ℕ) → reader.head < length profiles_header
        → Headings (contents profiles samples) (read profiles samples) part reader.mark reader.head reader.next r
    unfolding read
    heading profiles samples k = header_law (contents profiles samples) refl part reader.mark reader.head reader.next r k e

    -- what was compared, where rows came before
    past : length profiles_header ≤ reader.head → r ≡ Ok (headed 0 reader.head reader.mark)
    past k = e ∙ past_header profiles_header part reader.mark reader.head 0 k

    -- the header differs
    pub feeds_wrong : (profiles : List ℕ) (samples : List ℤ) (w : Headed) → r ≡ Err w
        → Feeds reader profiles samples part (record { next = reader.next + length part; head = length profiles_header; mark = reader.mark; state = Stopped bad_header 0 }) profiles samples
    feeds_wrong profiles samples w q = record { place = refl; reads = λ profiles₀ samples₀ text held. go profiles₀ samples₀ text held }
      where
        go : (profiles₀ : List ℕ) (samples₀ : List ℤ) (text : Read) → Held profiles₀ samples₀ reader.next reader.head reader.mark reader.state profiles samples text
            → Held profiles₀ samples₀ (reader.next + length part) (length profiles_header) reader.mark (Stopped bad_header 0) profiles samples (reading profiles₀ samples₀ text part)
        go profiles₀ samples₀ text (in_header_lem t l f p s) =
            in_rows (omega arith)
            (record {
              contents = stopped bad_header 0;
              holds = at_stop;
              under = rw t ((heading (length profiles₀ / profile_width) (length samples₀) l).differs w q);
            })
        go profiles₀ samples₀ text (in_rows k s) = let z = past k in cc

  module _ (h : Headed) (e : Ok h ≡ compared_from profiles_header reader.mark reader.head 0 part) where
    past_is : length profiles_header ≤ reader.head → h ≡ headed 0 reader.head reader.mark
    past_is k = let z = past (Ok h) e k in cc

    pub rows_live : (profiles : List ℕ) (samples : List ℤ) (first : State) → first ≡ begun_at reader.state reader.head (reader.next + h.next) → Alive reader profiles samples
        → Live (reader.next + h.next) first profiles samples
    rows_live profiles samples first b alive = rw b (go (leb (length profiles_header) reader.head) refl)
      where
        go : (t : Bool) → leb (length profiles_header) reader.head ≡ t
            → Live (reader.next + h.next) (cond t reader.state (Id (opened (reader.next + h.next)) Empty)) profiles samples
        go true q =
            let k : length profiles_header ≤ reader.head = leb-true (length profiles_header) reader.head q in
            let z : reader.next + h.next ≡ reader.next = ap (λ (x : Headed). reader.next + x.next) (past_is k) ∙ add-zero reader.next in
            subst (λ (x : ℕ). Live x reader.state profiles samples) (sym z) (alive k)
        go false q = record { profiles₀ = profiles; samples₀ = samples; reached = _; holds = first_holds (reader.next + h.next) profiles samples }

    -- it goes on
    pub feeds_heading : (profiles : List ℕ) (samples : List ℤ) → h.head < length profiles_header
        → Feeds reader profiles samples part (record { next = reader.next + length part; head = h.head; mark = h.mark; state = reader.state }) profiles samples
    feeds_heading profiles samples l = record { place = refl; reads = λ profiles₀ samples₀ text held. go profiles₀ samples₀ text held }
      where
        go : (profiles₀ : List ℕ) (samples₀ : List ℤ) (text : Read) → Held profiles₀ samples₀ reader.next reader.head reader.mark reader.state profiles samples text
            → Held profiles₀ samples₀ (reader.next + length part) h.head h.mark reader.state profiles samples (reading profiles₀ samples₀ text part)
        go profiles₀ samples₀ text (in_header_lem t k f p s) =
            in_header_lem (rw t ((heading (Ok h) e (length profiles₀ / profile_width) (length samples₀) k).goes_on h refl l)) l f p s
        go profiles₀ samples₀ text (in_rows k s) =
            let z : h.head ≡ reader.head = ap (λ (x : Headed). x.head) (past_is k) in absurd (omega arith)

    -- rows follow
    pub feeds_rows : (profiles profiles' : List ℕ) (samples samples' : List ℤ) (first : State) (r : Reader) → length profiles_header ≤ h.head
        → first ≡ begun_at reader.state reader.head (reader.next + h.next) → Lined reader.next first h.mark profiles samples part h.next r profiles' samples'
        → Feeds reader profiles samples part r profiles' samples'
    feeds_rows profiles profiles' samples samples' first r l b lined = record { place = lined.place; reads = λ profiles₀ samples₀ text held. go profiles₀ samples₀ text held }
      where
        go : (profiles₀ : List ℕ) (samples₀ : List ℤ) (text : Read) → Held profiles₀ samples₀ reader.next reader.head reader.mark reader.state profiles samples text
            → Held profiles₀ samples₀ r.next r.head r.mark r.state profiles' samples' (reading profiles₀ samples₀ text part)
        go profiles₀ samples₀ text (in_header_lem t k f p s) =
            let at : ℕ = reader.next + h.next in
            let opens : first ≡ Id (opened at) Empty = b ∙ sym (begun_first reader.state reader.head at k) in
            let behind : Read = row_at at at [] (marked h.mark start) in
            let stands : Stands profiles₀ samples₀ at h.mark first profiles samples behind =
            rw (opens, p, s) (record { contents = in_row at at [] start; holds = first_holds at profiles₀ samples₀; under = refl }) in
            let leads : reading profiles₀ samples₀ behind (drop h.next part) ≡ reading profiles₀ samples₀ text part =
            rw t ((heading (Ok h) e (length profiles₀ / profile_width) (length samples₀) k).is_over h refl l) in
            in_rows (omega (arith, lined.head_whole))
            (subst (λ (x : Read). Stands profiles₀ samples₀ r.next r.mark r.state profiles' samples' x) leads (lined.lines profiles₀ samples₀ behind stands))
        go profiles₀ samples₀ text (in_rows k s) =
            let z : h ≡ headed 0 reader.head reader.mark = past_is k in
            let opens : first ≡ reader.state = b ∙ sym (begun-past reader.state reader.head (reader.next + h.next) k) in
            let same : Stands profiles₀ samples₀ (reader.next + h.next) h.mark first profiles samples text =
            rw (opens, z) (subst (λ (x : ℕ). Stands profiles₀ samples₀ x reader.mark reader.state profiles samples text) (sym (add-zero reader.next)) s) in
            let leads : reading profiles₀ samples₀ text (drop h.next part) ≡ reading profiles₀ samples₀ text part =
            ap (λ (x : Headed). reading profiles₀ samples₀ text (drop x.next part)) z in
            in_rows (omega (arith, lined.head_whole))
            (subst (λ (x : Read). Stands profiles₀ samples₀ r.next r.mark r.state profiles' samples' x) leads (lined.lines profiles₀ samples₀ text same))

pub ruleset feeding =
    (sampling_none, sampling_count, sampling_next, sampling_after, sampling_end, skip_none, skip_stopped, quick_skip, quick-same, quick_many, quick_count, turned_plain, turned-passed, turned_less, fed_first, fed_next, fed_last, begun-past, begun_first)
