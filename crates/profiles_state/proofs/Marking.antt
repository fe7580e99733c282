-- What a byte does to a text in its rows is what it does to the contents, under each mark. Assumes nothing.
use Prim.Native.Nat.{ℕ, suc, ◌/◌, ◌≤◌}
use mathlib.Core.Path.{◌≡◌, refl, ap, sym, subst, ◌∙◌}
use mathlib.Core.Bool.{Bool, true, false}
use mathlib.Core.List.{List, [], ◌∷◌}
use native.Mathlib.Omega.{arith}
use lib.Dec.{eqb}
use lib.ListN.{length}
use lib.IntN.{ℤ}
use borrow.Author.Tests.{ne_eqb}
use Rattle.rules.specs.Limits.{profile_width}
use Rattle.rules.specs.Answers.{bad_row, Judged, wrong, right}
use Rattle.rules.specs.Bytes.{line_feed, carriage_return, quote, comma, space, point, minus, digit_zero, digit_nine}
use Rattle.rules.specs.Profiles.{Curve, judge_form}
use Rattle.csv_machine.specs.Number.{Number as Whole}
use Rattle.csv_machine.specs.Machine.{in_row as row_at, Faulty, is_broken, is_stopped, on_byte as byte_at, on_line as line_at}
use Rattle.csv_machine.proofs.Machine.{faulty_step as stays-faulty}
use Rattle.csv_marks.specs.declared.Mark.{Mark}
use Rattle.csv_marks.specs.declared.Mark.TheVariants.{Bare}
use Rattle.csv_marks.specs.declared.Act.{Act}
use Rattle.csv_marks.specs.declared.Act.TheVariants.{To, Content, Broken}
use Rattle.csv_marks.specs.Turns.{marked, marked_step, takes, plain_under, turned}
use Rattle.csv_marks.proofs.Follow.{plain_turn, plain_other}
use Rattle.csv_marks.proofs.Moves.{left}
use Rattle.csv_marks.proofs.Rows.{RowLeads, row_leads as leads}
use Rattle.profiles_row.specs.declared.number.Number.{Number}
use Rattle.profiles_row.specs.Near.{Near, empty_near, zero_near, digits_near}
use Rattle.profiles_row.specs.Sample.{Sample, whole, fraction}
use Rattle.profiles_state.specs.declared.state.State.{State}
use Rattle.profiles_state.specs.Open.{Open, in_list, open_step, open_end, no_digit, is_fresh, open_begins, Reached, in_row, stopped, on_byte, on_line, reach, Read, contents, machine, read}
use Rattle.profiles_state.specs.Holds.{Holds, in_id_lem, in_whole, in_fraction, at_stop, Steps, Under, is_empty, list_begins, begins, broken_at, Turns, Passes, passed, leaves}
use Rattle.profiles_state.proofs.Steps.{onward}
use Rattle.std.specs.Prelude.{Option, Some, None}

-- ---- contents

-- the same contents at the next place
abbrev later : Reached → Reached
later (in_row place next before o) = in_row place (suc next) before o
later (stopped k place) = stopped k place

abbrev broken_off : Reached → Reached
broken_off (in_row place next before o) = stopped bad_row place
broken_off (stopped k place) = stopped k place

-- the byte acts so on the open row
abbrev Acts : Mark → ℕ → Act → Reached → Type 0
Acts mark b a (in_row place next before o) = a ≡ turned mark b (open_begins o)
Acts mark b a (stopped k place) = Unit {0}

-- ---- a text

module _ (profiles samples : ℕ) where
  faulty_step : {k place : ℕ} (p : Read) (b : ℕ) → Faulty k place p → Faulty k place (read profiles samples p b)
  unfolding read
  faulty_step p b f = stays-faulty (machine profiles samples) p b f

  row_leads : (place at : ℕ) (before : List Curve) (mark : Mark) (o : Open) (b : ℕ) (a : Act) → a ≡ turned mark b (open_begins o)
      → RowLeads (contents profiles samples) (read profiles samples) place at before mark o b a
  unfolding read
  row_leads place at before mark o b a t = leads (contents profiles samples) (λ before. refl) place at before mark o b a t

  -- it moves the mark
  pub under_to : (mark m : Mark) (b : ℕ) (c : Reached) (r : Read) → Acts mark b (To m) c → Under mark c r → Under m (later c) (read profiles samples r b)
  under_to mark m b (in_row place at before o) r t u = ap (λ (x : Read). read profiles samples x b) u ∙ row_leads place at before mark o b (To m) t
  under_to mark m b (stopped k place) r t u = faulty_step r b u

  -- it breaks the row
  pub under-broken : (mark : Mark) (b : ℕ) (c : Reached) (r : Read) → Acts mark b Broken c → Under mark c r → Under mark (broken_off c) (read profiles samples r b)
  under-broken mark b (in_row place at before o) r t u = subst (λ (x : Read). Faulty bad_row place (read profiles samples x b)) (sym u) (row_leads place at before mark o b Broken t)
  under-broken mark b (stopped k place) r t u = faulty_step r b u

  -- it goes to the contents
  on_line_lem : (m : Mark) (place at : ℕ) (before : List Curve) → m ≡ Bare → (j : Judged Curve) → Under m (on_line place at before j) (line_at (machine profiles samples) place at before j)
  on_line_lem m place at before e (wrong k) = is_stopped
  on_line_lem m place at before e (right row) = rw e

  on_byte_lem : (m : Mark) (place at : ℕ) (before : List Curve) (x : Option Open) → Under m (on_byte place at before x) (byte_at (machine profiles samples) place at before (marked_step m x))
  on_byte_lem m place at before None = is_broken
  on_byte_lem m place at before (Some o) = refl

  reach-at-line : (place at : ℕ) (before : List Curve) (o : Open) (b : ℕ) → eqb b line_feed ≡ true
      → reach profiles samples (in_row place at before o) b ≡ on_line place at before (judge_form profiles samples before (open_end o))
  unfolding reach
  reach-at-line place at before o b e = rw e

  reach-at-byte : (place at : ℕ) (before : List Curve) (o : Open) (b : ℕ) → eqb b line_feed ≡ false
      → reach profiles samples (in_row place at before o) b ≡ on_byte place at before (open_step o b)
  unfolding reach
  reach-at-byte place at before o b e = rw e

  moved : (m : Mark) {c c' : Reached} {r r' : Read} → c ≡ c' → r ≡ r' → Under m c' r' → Under m c r
  moved m {c} {c'} {r} {r'} e q u = subst (λ (x : Reached). Under m x r) (sym e) (subst (λ (x : Read). Under m c' x) (sym q) u)

  reach_stopped : (k place b : ℕ) → reach profiles samples (stopped k place) b ≡ stopped k place
  unfolding reach
  reach_stopped k place b = refl

  pub under_content : (mark m : Mark) (b : ℕ) (c : Reached) (r : Read) → Acts mark b (Content m) c → Under mark c r
      → Under m (reach profiles samples c b) (read profiles samples r b)
  under_content mark m b (in_row place at before o) r t u = go (eqb b line_feed) refl
    where
      f : RowLeads (contents profiles samples) (read profiles samples) place at before mark o b (Content m)
      f = row_leads place at before mark o b (Content m) t

      go : (l : Bool) → eqb b line_feed ≡ l → Under m (reach profiles samples (in_row place at before o) b) (read profiles samples r b)
      go true e =
          moved m (reach-at-line place at before o b e)
          (ap (λ (x : Read). read profiles samples x b) u ∙ (f.1 e).1)
          (on_line_lem m place at before (f.1 e).0 (judge_form profiles samples before (open_end o)))
      go false e =
          moved m (reach-at-byte place at before o b e)
          (ap (λ (x : Read). read profiles samples x b) u ∙ f.0 e)
          (on_byte_lem m place at before (open_step o b))
  under_content mark m b (stopped k place) r t u =
      moved m (reach_stopped k place b) refl (faulty_step r b u)

  -- it is left for the contents, which take it under the mark behind it
  same_read : (mark m : Mark) (b place at : ℕ) (before : List Curve) (o : Open) → Content m ≡ turned mark b (open_begins o) → Content m ≡ turned m b (open_begins o)
      → read profiles samples (row_at place at before (marked m o)) b ≡ read profiles samples (row_at place at before (marked mark o)) b
  same_read mark m b place at before o t u = go (eqb b line_feed) refl
    where
      f : RowLeads (contents profiles samples) (read profiles samples) place at before mark o b (Content m)
      f = row_leads place at before mark o b (Content m) t

      g : RowLeads (contents profiles samples) (read profiles samples) place at before m o b (Content m)
      g = row_leads place at before m o b (Content m) u

      go : (l : Bool) → eqb b line_feed ≡ l → read profiles samples (row_at place at before (marked m o)) b ≡ read profiles samples (row_at place at before (marked mark o)) b
      go true e = (g.1 e).1 ∙ sym (f.1 e).1
      go false e = g.0 e ∙ sym (f.0 e)

  pub under_left : (mark m : Mark) (b : ℕ) (c : Reached) (r : Read) → Acts mark b (Content m) c → Acts m b (Content m) c → Under mark c r
      → (other : Read) × Under m c other × (read profiles samples other b ≡ read profiles samples r b)
  under_left mark m b (in_row place at before o) r t u e =
      (row_at place at before (marked m o), refl, same_read mark m b place at before o t u ∙ ap (λ (x : Read). read profiles samples x b) (sym e))
  under_left mark m b (stopped k place) r t u e = (r, e, refl)

-- ---- where a field begins

near_empty : {n : Number} {m : Whole} → Near n m → is_empty n ≡ no_digit m
near_empty empty_near = refl
near_empty zero_near = refl
near_empty (digits_near e) = refl

list-begins : (count id : ℕ) (done : List ℤ) (negative : Bool) {n : Number} {m : Whole} → count ≡ length done → Near n m
    → list_begins count negative n ≡ open_begins (in_list id done (whole negative m))
list-begins count id [] true c k = rw c
list-begins count id [] false c k = rw c (near_empty k)
list-begins count id (kw ∷ done) negative c k = rw (ne_eqb count 0 (λ e. omega arith))

not_first : (id : ℕ) (done : List ℤ) (x : Sample) → is_fresh x ≡ false → open_begins (in_list id done x) ≡ false
not_first id [] x e = e
not_first id (kw ∷ done) x e = refl

module _ {profiles₀ : List ℕ} {samples₀ : List ℤ} {profiles : List ℕ} {samples : List ℤ} where
  acts : {at : ℕ} {state : State} {c : Reached} (mark : Mark) (b : ℕ) (a : Act) → a ≡ turned mark b (begins state) → Holds profiles₀ samples₀ at state profiles samples c
      → Acts mark b a c
  acts mark b a e (in_id_lem h c s k) = e ∙ ap (turned mark b) (near_empty k)
  acts mark b a e (in_whole {l = l} {negative = negative} {id = id} {done = done} c g k) = e ∙ ap (turned mark b) (list-begins l.count id done negative g.counted k)
  acts mark b a e (in_fraction {t = t} {id = id} {done = done} {n = n} {count = count} {value = value} c g d) =
      e ∙ ap (turned mark b) (sym (not_first id done (fraction t.negative n count value) refl))
  acts mark b a e at_stop = tt

  holds_later : {at : ℕ} {state : State} {c : Reached} → Holds profiles₀ samples₀ at state profiles samples c → Holds profiles₀ samples₀ (suc at) state profiles samples (later c)
  holds_later (in_id_lem {past = past} h c s k) = in_id_lem {past = past} (omega arith) c s k
  holds_later (in_whole {past = past} {l = l} c g k) = in_whole {past = past} {l = l} c (onward g) k
  holds_later (in_fraction {past = past} {l = l} {t = t} c g d) = in_fraction {past = past} {l = l} {t = t} c (onward g) d
  holds_later at_stop = at_stop

  holds-broken : {at : ℕ} {state : State} {c : Reached} → Holds profiles₀ samples₀ at state profiles samples c → Holds profiles₀ samples₀ (suc at) (broken_at state) profiles samples (broken_off c)
  holds-broken (in_id_lem h c s k) = at_stop
  holds-broken (in_whole c g k) = at_stop
  holds-broken (in_fraction c g d) = at_stop
  holds-broken at_stop = at_stop

-- ---- a plain byte

pub turn_plain : {at : ℕ} {state next : State} {mark : Mark} (b : ℕ) {profiles profiles' : List ℕ} {samples samples' : List ℤ} → plain_under mark b ≡ true
    → Steps at state profiles samples b next profiles' samples' → Turns at state mark profiles samples b next mark profiles' samples'
turn_plain {state = state} {mark = mark} b p steps profiles₀ samples₀ text s =
    record {
      contents = reach (length profiles₀ / profile_width) (length samples₀) s.contents b;
      holds = steps profiles₀ samples₀ s.contents s.holds;
      under =
          under_content (length profiles₀ / profile_width) (length samples₀) mark mark b s.contents text
          (acts mark b (Content mark) (plain_turn mark b (begins state) p) s.holds) s.under;
    }

-- ---- a byte that is not: the three ways

module _ (state : State) (mark : Mark) (b : ℕ) (t : Bool) (a : Act) (begins-at : t ≡ begins state) (act-is : a ≡ turned mark b t) where
  so : (x : Act) → a ≡ x → x ≡ turned mark b (begins state)
  so x e = sym e ∙ act-is ∙ ap (turned mark b) begins-at

  pub pass_to : (m : Mark) → a ≡ To m → Passes state mark b (record { state = state; mark = m; step = 1 })
  pass_to m e =
      passed refl
      (λ at profiles samples profiles₀ samples₀ text s.
      record {
        contents = later s.contents;
        holds = holds_later s.holds;
        under = under_to (length profiles₀ / profile_width) (length samples₀) mark m b s.contents text (acts mark b (To m) (so (To m) e) s.holds) s.under;
      })

  pub pass_left : (m : Mark) → a ≡ Content m → Passes state mark b (record { state = state; mark = m; step = 0 })
  pass_left m e =
      let l = left m b (begins state) mark (so (Content m) e) in
      leaves refl l.open_mark l.late
      (λ at profiles samples profiles₀ samples₀ text s.
      let u =
      under_left (length profiles₀ / profile_width) (length samples₀) mark m b s.contents text (acts mark b (Content m) (so (Content m) e) s.holds)
      (acts m b (Content m) l.again s.holds) s.under in
      record { other = u.0; stands = record { contents = s.contents; holds = s.holds; under = u.1 }; leads = u.2 })

  pub pass_broken : (next : State) → a ≡ Broken → next ≡ broken_at state → Passes state mark b (record { state = next; mark = mark; step = 1 })
  pass_broken next e q =
      passed refl
      (λ at profiles samples profiles₀ samples₀ text s.
      record {
        contents = broken_off s.contents;
        holds = rw q (holds-broken s.holds);
        under = under-broken (length profiles₀ / profile_width) (length samples₀) mark b s.contents text (acts mark b Broken (so Broken e) s.holds) s.under;
      })

-- ---- a byte within a sample goes to the contents wherever it stands

pub record Other (b : ℕ) : Type 0 where
  pub no_quote : eqb b quote ≡ false
  pub no_return : eqb b carriage_return ≡ false
  pub no_end : eqb b line_feed ≡ false
  pub no_comma : eqb b comma ≡ false

pub other_digit : {b : ℕ} → digit_zero ≤ b → b ≤ digit_nine → Other b
other_digit {b} l h =
    record {
      no_quote = ne_eqb b quote (λ e. omega arith);
      no_return = ne_eqb b carriage_return (λ e. omega arith);
      no_end = ne_eqb b line_feed (λ e. omega arith);
      no_comma = ne_eqb b comma (λ e. omega arith);
    }

pub other_point : Other point
other_point = record { no_quote = refl; no_return = refl; no_end = refl; no_comma = refl }

pub other_minus : Other minus
other_minus = record { no_quote = refl; no_return = refl; no_end = refl; no_comma = refl }

pub other_space : Other space
other_space = record { no_quote = refl; no_return = refl; no_end = refl; no_comma = refl }

pub turn_other : {at : ℕ} {state next : State} {mark : Mark} {b : ℕ} {profiles profiles' : List ℕ} {samples samples' : List ℤ} → takes mark ≡ true → Other b
    → Steps at state profiles samples b next profiles' samples' → Turns at state mark profiles samples b next mark profiles' samples'
turn_other {state = state} {mark = mark} {b = b} t o steps =
    turn_plain {state = state} {mark = mark} b (plain_other mark b t o.no_quote o.no_return o.no_end o.no_comma) steps

pub ruleset marking = (pass_to, pass_left, pass_broken)
