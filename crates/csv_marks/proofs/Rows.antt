-- What a byte does to a text whose row is open, under each mark, whatever the rows. Assumes nothing.
use Prim.Native.Nat.{ℕ, suc}
use mathlib.Core.Path.{◌≡◌, refl, ap, sym, subst, ◌∙◌}
use mathlib.Core.Bool.{Bool, true, false}
use mathlib.Core.List.{List}
use lib.Dec.{eqb}
use Rattle.rules.specs.Answers.{bad_row, wrong}
use Rattle.rules.specs.Bytes.{line_feed}
use Rattle.csv_machine.specs.Marks.{Marked, mark_step, mark_close}
use Rattle.csv_machine.specs.Machine.{in_row, Faulty, is_broken, is_stopped, on_byte, on_line, progress}
use Rattle.csv_machine.specs.Contents.{Contents, Reached, machine_of}
use Rattle.csv_marks.specs.declared.Mark.{Mark}
use Rattle.csv_marks.specs.declared.Mark.TheVariants.{Bare}
use Rattle.csv_marks.specs.declared.Act.{Act}
use Rattle.csv_marks.specs.declared.Act.TheVariants.{To, Content, Broken}
use Rattle.csv_marks.specs.Turns.{marked, marked_step, turned}
use Rattle.csv_marks.proofs.Follow.{Follows, follows-at}
use Rattle.std.specs.Prelude.{Option, Some, None}

-- it moves the mark, goes to the contents, where LF ends the row, or breaks the row
abbrev pub RowLeads : {A O : Type 0} (c : Contents A O) (step : Reached A O → ℕ → Reached A O) (place at : ℕ) (before : List A) (mark : Mark) (o : O) (b : ℕ) → Act → Type 0
RowLeads c step place at before mark o b (To m) = step (in_row place at before (marked mark o)) b ≡ in_row place (suc at) before (marked m o)
RowLeads c step place at before mark o b (Content m) =
    (eqb b line_feed ≡ false → step (in_row place at before (marked mark o)) b ≡ on_byte (machine_of c) place at before (marked_step m (c.step o b)))
    × (eqb b line_feed ≡ true → (m ≡ Bare) × (step (in_row place at before (marked mark o)) b ≡ on_line (machine_of c) place at before (c.judge before (c.close o))))
RowLeads c step place at before mark o b Broken = Faulty bad_row place (step (in_row place at before (marked mark o)) b)

module _ {A O : Type 0} (c : Contents A O) (judge-none : (before : List A) → c.judge before None ≡ wrong bad_row) where
  abbrev step : Reached A O → ℕ → Reached A O
  step = progress (machine_of c)

  module _ (place at : ℕ) (before : List A) (mark : Mark) (o : O) (b : ℕ) where
    abbrev here : Reached A O
    here = in_row place at before (marked mark o)

    at_byte : (x : Option (Marked O)) → mark_step c.step c.close c.begins (marked mark o) b ≡ x → eqb b line_feed ≡ false
        → step here b ≡ on_byte (machine_of c) place at before x
    at_byte x f e = (rw e) ∙ ap (λ (y : Option (Marked O)). on_byte (machine_of c) place at before y) f

    at-line : (x : Option A) → mark_close c.step c.close c.begins (marked mark o) ≡ x → eqb b line_feed ≡ true
        → step here b ≡ on_line (machine_of c) place at before (c.judge before x)
    at-line x f e = (rw e) ∙ ap (λ (y : Option A). on_line (machine_of c) place at before (c.judge before y)) f

    -- THE LAW, by the act that the mark takes
    pub row_leads : (a : Act) → a ≡ turned mark b (c.begins o) → RowLeads c step place at before mark o b a
    row_leads (To m) t =
        let f : Follows c.step c.close c.begins mark o b (To m) = follows-at c.step c.close c.begins mark o b (To m) t in
        at_byte (Some (marked m o)) f.1 f.0
    row_leads (Content m) t =
        let f : Follows c.step c.close c.begins mark o b (Content m) = follows-at c.step c.close c.begins mark o b (Content m) t in
        (λ e. at_byte (marked_step m (c.step o b)) (f.0 e) e, λ e. ((f.1 e).0, at-line (c.close o) (f.1 e).1 e))
    row_leads Broken t = go (eqb b line_feed) refl
      where
        f : Follows c.step c.close c.begins mark o b Broken
        f = follows-at c.step c.close c.begins mark o b Broken t

        go : (l : Bool) → eqb b line_feed ≡ l → Faulty bad_row place (step here b)
        go false e = subst (λ (p : Reached A O). Faulty bad_row place p) (sym (at_byte None (f.0 e) e)) is_broken
        go true e = subst (λ (p : Reached A O). Faulty bad_row place p) (sym (at-line None (f.1 e) e ∙ (rw (judge-none before)))) is_stopped
