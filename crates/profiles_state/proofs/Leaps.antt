-- Several bytes at once: leaps compose, and a leap of one byte is a step. Assumes nothing.
use Prim.Native.Nat.{ℕ, suc, ◌+◌, ◌/◌, ◌≤◌, ◌<◌}
use mathlib.Core.Path.{◌≡◌, refl, sym, subst, ◌∙◌}
use mathlib.Core.Bool.{true}
use mathlib.Core.List.{List}
use native.Mathlib.Omega.{arith}
use lib.ListN.{length, get_or, drop}
use lib.IntN.{ℤ}
use Rattle.rules.specs.Limits.{profile_width}
use Rattle.csv_machine.proofs.Fold.{fold-drop}
use Rattle.csv_marks.specs.declared.Mark.{Mark}
use Rattle.csv_marks.specs.Turns.{takes}
use Rattle.profiles_state.specs.declared.state.State.{State}
use Rattle.profiles_state.specs.Open.{Read, read}
use Rattle.profiles_state.specs.Holds.{Stands, Steps, Free, reading, Leads, Leap, Jump}
use Rattle.profiles_state.proofs.Marking.{Other, turn_other}

pub leap_none : {part : List ℕ} {mark : Mark} {i : ℕ} {state : State} {profiles : List ℕ} {samples : List ℤ} → i ≤ length part → Leap part mark i state profiles samples i state profiles samples
leap_none h =
    record { onward = omega arith; inside = h; leaps = λ base profiles₀ samples₀ text stands. record { midway = text; stands = stands; leads = refl } }

pub leap_then : {part : List ℕ} {mark : Mark} {i j k : ℕ} {a b c : State} {p q r : List ℕ} {x y z : List ℤ} → Leap part mark i a p x j b q y → Leap part mark j b q y k c r z → Leap part mark i a p x k c r z
leap_then {part} {mark} {i} {j} {k} {a} {b} {c} {p} {q} {r} {x} {y} {z} f g =
    record {
      onward = omega (arith, f.onward, g.onward);
      inside = g.inside;
      leaps = λ base profiles₀ samples₀ text stands. go base profiles₀ samples₀ text (f.leaps base profiles₀ samples₀ text stands);
    }
  where
    go : (base : ℕ) (profiles₀ : List ℕ) (samples₀ : List ℤ) (text : Read) → Leads profiles₀ samples₀ (base + j) mark b q y (drop j part) (reading profiles₀ samples₀ text (drop i part))
        → Leads profiles₀ samples₀ (base + k) mark c r z (drop k part) (reading profiles₀ samples₀ text (drop i part))
    go base profiles₀ samples₀ text l =
        let m = g.leaps base profiles₀ samples₀ l.midway l.stands in
        record { midway = m.midway; stands = m.stands; leads = m.leads ∙ l.leads }

pub leap_step : {part : List ℕ} {mark : Mark} {i : ℕ} {a b : State} {p q : List ℕ} {x y : List ℤ} → takes mark ≡ true → Other (get_or part i 0) → i < length part
    → ((at : ℕ) → Steps at a p x (get_or part i 0) b q y) → Leap part mark i a p x (i + 1) b q y
leap_step {part} {mark} {i} {a} {b} {p} {q} {x} {y} t o h steps =
    record {
      onward = omega arith;
      inside = omega arith;
      leaps =
          λ base profiles₀ samples₀ text stands.
          let n : suc (base + i) ≡ base + (i + 1) = omega arith in
          record {
            midway = read (length profiles₀ / profile_width) (length samples₀) text (get_or part i 0);
            stands =
                subst (λ (k : ℕ). Stands profiles₀ samples₀ k mark b q y (read (length profiles₀ / profile_width) (length samples₀) text (get_or part i 0))) n
                (turn_other {mark = mark} t o (steps (base + i)) profiles₀ samples₀ text stands);
            leads = sym (fold-drop (read (length profiles₀ / profile_width) (length samples₀)) text part i h);
          };
    }

pub jump_step : {part : List ℕ} {i : ℕ} {a b : State} (byte : ℕ) → Other byte → i < length part → byte ≡ get_or part i 0 → ((at : ℕ) → Free at a byte b) → Jump part i a (i + 1) b
jump_step {part} {i} {a} {b} byte o h e f mark t profiles samples =
    leap_step t (subst Other e o) h (λ at. subst (λ (n : ℕ). Steps at a profiles samples n b profiles samples) e (f at profiles samples))
