-- A whole id in quotes: its bytes one after the other, under the marks that they set. Assumes nothing.
use Rattle.std.specs.Prelude.{Option, Some}
use Prim.Native.Nat.{ℕ, suc, ◌+◌, ◌-◌, ◌/◌, ◌≤◌, ◌<◌}
use mathlib.Core.Path.{◌≡◌, refl, ap, sym, subst, ◌∙◌}
use mathlib.Core.Bool.{true, false}
use mathlib.Core.List.{List, []}
use native.Mathlib.Omega.{arith}
use lib.ListN.{length, get_or, drop}
use lib.IntN.{ℤ}
use Rattle.rules.specs.Limits.{profile_width}
use Rattle.rules.specs.Bytes.{digit_zero, digit_nine, quote, comma}
use Rattle.csv_machine.proofs.Fold.{fold-drop}
use Rattle.csv_marks.specs.declared.Mark.{Mark}
use Rattle.csv_marks.specs.declared.Mark.TheVariants.{Bare, Within, Behind}
use Rattle.csv_marks.specs.declared.Act.TheVariants.{To as Moves, Content}
use Rattle.csv_marks.specs.Turns.{takes, plain_under, turned}
use Rattle.profiles_row.specs.declared.number.Number.TheVariants.{Empty, Digits}
use Rattle.profiles_row.specs.declared.row.Past.{Past}
use Rattle.profiles_row.specs.declared.row.Listed.{Listed}
use Rattle.profiles_row.proofs.Near.{pushes_first, ends_digits}
use Rattle.profiles_state.specs.declared.state.State.{State}
use Rattle.profiles_state.specs.declared.state.State.TheVariants.{Id, Whole}
use Rattle.profiles_state.specs.Open.{Read, read}
use Rattle.profiles_state.specs.Holds.{Stands, Steps, Passes, passed, leaves, begins, reading, Leads, Jump}
use Rattle.profiles_state.proofs.Steps.{id_digits_lem, id_whole}
use Rattle.profiles_state.proofs.Marking.{turn_plain, pass_to, pass_left, other_digit}
use Rattle.profiles_state.proofs.Leaps.{jump_step}
use Rattle.profiles_sample.specs.declared.Run.{Run}
use Rattle.profiles_sample.specs.declared.Headed.{Headed}
use Rattle.profiles_sample.specs.Quick.{Runs}
use Rattle.profiles_sample.specs.Heads.{Crosses, ListAfter, Joins, apart, joined, Heads, unheaded, headed}

-- ---- ways under several marks

crosses_then : {part : List ℕ} {i j k : ℕ} {m n o : Mark} {a b c : State} → Crosses part i m a j n b → Crosses part j n b k o c → Crosses part i m a k o c
crosses_then {part} {i} {j} {k} {m} {n} {o} {a} {b} {c} f g =
    record {
      onward = omega (arith, f.onward, g.onward);
      inside = g.inside;
      crosses = λ base profiles samples profiles₀ samples₀ text s. go base profiles samples profiles₀ samples₀ text (f.crosses base profiles samples profiles₀ samples₀ text s);
    }
  where
    go : (base : ℕ) (profiles : List ℕ) (samples : List ℤ) (profiles₀ : List ℕ) (samples₀ : List ℤ) (text : Read)
        → Leads profiles₀ samples₀ (base + j) n b profiles samples (drop j part) (reading profiles₀ samples₀ text (drop i part))
        → Leads profiles₀ samples₀ (base + k) o c profiles samples (drop k part) (reading profiles₀ samples₀ text (drop i part))
    go base profiles samples profiles₀ samples₀ text l =
        let x = g.crosses base profiles samples profiles₀ samples₀ l.midway l.stands in
        record { midway = x.midway; stands = x.stands; leads = x.leads ∙ l.leads }

crosses_jump : {part : List ℕ} {i j : ℕ} {a b : State} (mark : Mark) → takes mark ≡ true → Jump part i a j b → Crosses part i mark a j mark b
crosses_jump {part} mark t jump =
    record {
      onward = (jump mark t [] []).onward;
      inside = (jump mark t [] []).inside;
      crosses = λ base profiles samples profiles₀ samples₀ text s. (jump mark t profiles samples).leaps base profiles₀ samples₀ text s;
    }

module _ {part : List ℕ} {i : ℕ} (h : i < length part) where
  -- a byte that moves the mark
  crosses_to : (state : State) (mark m : Mark) (b : ℕ) → get_or part i 0 ≡ b → Moves m ≡ turned mark b (begins state) → Crosses part i mark state (i + 1) m state
  crosses_to state mark m b e t =
      record {
        onward = omega arith;
        inside = omega arith;
        crosses = λ base profiles samples profiles₀ samples₀ text s. go base profiles samples profiles₀ samples₀ text s (pass_to state mark (get_or part i 0) (begins state) (Moves m) refl (t ∙ ap (λ (x : ℕ). turned mark x (begins state)) (sym e)) m refl);
      }
    where
      go : (base : ℕ) (profiles : List ℕ) (samples : List ℤ) (profiles₀ : List ℕ) (samples₀ : List ℤ) (text : Read) → Stands profiles₀ samples₀ (base + i) mark state profiles samples text
          → Passes state mark (get_or part i 0) (record { state = state; mark = m; step = 1 })
          → Leads profiles₀ samples₀ (base + (i + 1)) m state profiles samples (drop (i + 1) part) (reading profiles₀ samples₀ text (drop i part))
      go base profiles samples profiles₀ samples₀ text s (passed one turns) =
          let n : suc (base + i) ≡ base + (i + 1) = omega arith in
          record {
            midway = read (length profiles₀ / profile_width) (length samples₀) text (get_or part i 0);
            stands =
                subst (λ (k : ℕ). Stands profiles₀ samples₀ k m state profiles samples (read (length profiles₀ / profile_width) (length samples₀) text (get_or part i 0))) n
                (turns (base + i) profiles samples profiles₀ samples₀ text s);
            leads = sym (fold-drop (read (length profiles₀ / profile_width) (length samples₀)) text part i h);
          }
      go base profiles samples profiles₀ samples₀ text s (leaves none t shut left) = absurd (omega arith)

  -- the comma behind an id in quotes
  crosses_comma : (past : Past) (id : ℕ) (l : Listed) → ListAfter id l → get_or part i 0 ≡ comma → Crosses part i Behind (Id past (Digits id)) (i + 1) Bare (Whole past l false Empty)
  crosses_comma past id l after e =
      record {
        onward = omega arith;
        inside = omega arith;
        crosses = λ base profiles samples profiles₀ samples₀ text s. go base profiles samples profiles₀ samples₀ text s
            (pass_left (Id past (Digits id)) Behind (get_or part i 0) false (Content Bare) refl (ap (λ (x : ℕ). turned Behind x false) (sym e)) Bare refl);
      }
    where
      go : (base : ℕ) (profiles : List ℕ) (samples : List ℤ) (profiles₀ : List ℕ) (samples₀ : List ℤ) (text : Read) → Stands profiles₀ samples₀ (base + i) Behind (Id past (Digits id)) profiles samples text
          → Passes (Id past (Digits id)) Behind (get_or part i 0) (record { state = Id past (Digits id); mark = Bare; step = 0 })
          → Leads profiles₀ samples₀ (base + (i + 1)) Bare (Whole past l false Empty) profiles samples (drop (i + 1) part) (reading profiles₀ samples₀ text (drop i part))
      go base profiles samples profiles₀ samples₀ text s (passed one turns) = absurd (omega arith)
      go base profiles samples profiles₀ samples₀ text s (leaves none t shut left) =
          let n : suc (base + i) ≡ base + (i + 1) = omega arith in
          let x = left (base + i) profiles samples profiles₀ samples₀ text s in
          let steps : Steps (base + i) (Id past (Digits id)) profiles samples (get_or part i 0) (Whole past l false Empty) profiles samples =
          id_whole past (Digits id) (get_or part i 0) e (Some id) (ends_digits id refl) id refl l after (base + i) profiles samples in
          record {
            midway = read (length profiles₀ / profile_width) (length samples₀) x.other (get_or part i 0);
            stands =
                subst (λ (k : ℕ). Stands profiles₀ samples₀ k Bare (Whole past l false Empty) profiles samples (read (length profiles₀ / profile_width) (length samples₀) x.other (get_or part i 0))) n
                (turn_plain {mark = Bare} (get_or part i 0) (ap (plain_under Bare) e) steps profiles₀ samples₀ x.other x.stands);
            leads =
                ap (λ (r : Read). reading profiles₀ samples₀ r (drop (i + 1) part)) x.leads
                ∙ sym (fold-drop (read (length profiles₀ / profile_width) (length samples₀)) text part i h);
          }

-- ---- an id in quotes

-- behind its digits
crosses_join : {part : List ℕ} {from : ℕ} (past : Past) (id : ℕ) (l : Listed) → ListAfter id l → from + 3 ≤ length part → get_or part from 0 ≡ quote → get_or part (from + 1) 0 ≡ comma
    → get_or part (from + 2) 0 ≡ quote → Crosses part from Within (Id past (Digits id)) (from + 3) Within (Whole past l false Empty)
crosses_join {part} {from} past id l after h shut parted opened =
    let two : from + 1 + 1 ≡ from + 2 = omega arith in
    let three : from + 2 + 1 ≡ from + 3 = omega arith in
    let first : Crosses part from Within (Id past (Digits id)) (from + 1) Behind (Id past (Digits id)) =
    crosses_to (omega arith) (Id past (Digits id)) Within Behind quote shut refl in
    let second : Crosses part (from + 1) Behind (Id past (Digits id)) (from + 2) Bare (Whole past l false Empty) =
    subst (λ (j : ℕ). Crosses part (from + 1) Behind (Id past (Digits id)) j Bare (Whole past l false Empty)) two (crosses_comma (omega arith) past id l after parted) in
    let third : Crosses part (from + 2) Bare (Whole past l false Empty) (from + 3) Within (Whole past l false Empty) =
    subst (λ (j : ℕ). Crosses part (from + 2) Bare (Whole past l false Empty) j Within (Whole past l false Empty)) three
    (crosses_to (omega arith) (Whole past l false Empty) Bare Within quote opened (rw after.1.0)) in
    crosses_then first (crosses_then second third)

-- a quote, a first digit, more of them, and what is behind them
pub heads-at : (part : List ℕ) (from : ℕ) (run : Run) (r : Option Headed) → from + 2 ≤ length part → get_or part from 0 ≡ quote → digit_zero < get_or part (from + 1) 0 → get_or part (from + 1) 0 ≤ digit_nine
    → Runs part (from + 2) (get_or part (from + 1) 0 - digit_zero) run → Joins part run.next run.value r → Heads part from r
heads-at part from run r h opened low high runs apart = unheaded
heads-at part from run r h opened low high runs (joined k shut parted again) =
    let forward : from + 2 ≤ run.next = (runs.of_an_id (record { place = 0; profiles = 0; samples = 0; rising = 0; last = 0 }) Within refl [] []).onward in
    headed {h = record { id = run.value; next = run.next + 3 }} (omega arith)
    (λ (past : Past) (l : Listed) (after : ListAfter run.value l).
    let two : from + 1 + 1 ≡ from + 2 = omega arith in
    let first : Crosses part from Bare (Id past Empty) (from + 1) Within (Id past Empty) = crosses_to (omega arith) (Id past Empty) Bare Within quote opened refl in
    let digit : Jump part (from + 1) (Id past Empty) (from + 2) (Id past (Digits (get_or part (from + 1) 0 - digit_zero))) =
    subst (λ (j : ℕ). Jump part (from + 1) (Id past Empty) j (Id past (Digits (get_or part (from + 1) 0 - digit_zero)))) two
    (jump_step (get_or part (from + 1) 0) (other_digit (omega arith) high) (omega arith) refl
    (id_digits_lem past Empty (get_or part (from + 1) 0) (omega arith) high (Some (Digits (get_or part (from + 1) 0 - digit_zero)))
    (pushes_first (get_or part (from + 1) 0) refl (omega arith) high (λ z. omega arith)) (Digits (get_or part (from + 1) 0 - digit_zero)) refl)) in
    crosses_then first (crosses_then (crosses_jump Within refl digit) (crosses_then (crosses_jump Within refl (runs.of_an_id past)) (crosses_join past run.value l after k shut parted again))))

pub ruleset heading = (apart, joined, unheaded, heads-at)
