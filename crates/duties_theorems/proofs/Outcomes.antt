-- Any outcomes of `check_duties`: the answer is the input's alone; accepted means that every row keeps every rule, and then the balances add up to zero; all else fills both tables. Assumes nothing.
use Prim.Native.Nat.{ℕ, ◌/◌, min}
use mathlib.Core.Path.{◌≡◌, refl, sym, ap, ap₂, ◌∙◌}
use mathlib.Core.List.{List, [], ◌∷◌, map}
use mathlib.Core.Logic.{◌↔◌}
use native.Mathlib.Omega.{arith}
use lib.ListN.{length, take, drop, length-map}
use lib.Seq.{take-append_seam}
use lib.IntN.{ℤ, pos, ◌+ℤ◌}
use Rattle.rules.specs.Limits.{node_width, unsigned_fill, signed_fill}
use Rattle.rules.specs.Lists.{over}
use Rattle.rules.specs.Answers.{Reading, refused, good}
use Rattle.rules.specs.Rows.{RowFault}
use Rattle.rules.specs.Entries.{filled}
use Rattle.rules.specs.Duties.{Event, nodes_of, broken, nothing_before, balance_from, balances, events_of, node_room, duties_from, duties_judged, DutiesChecked, duties_checked}
use Rattle.rules.specs.declared.answers.Told.{Told}
use Rattle.rules.specs.declared.answers.Told.TheVariants.{Accepted, Broken, Refused}
use Rattle.rules_theorems.specs.Sized.{sum_of_z}
use Rattle.duties_theorems.specs.Kept.{AllKeep}
use Rattle.duties_theorems.specs.Outcomes.{Outcome}
use Rattle.duties_theorems.proofs.Balance.{balanced}
use Rattle.duties_theorems.proofs.Keeping.{broken-none, kept_none}
use Rattle.std.specs.Prelude.{Option, Some, None}

-- ---- an answer is one of three, and they differ

broken-not_accepted : {b : _} {n : ℕ} {A : Type 0} → Broken b ≡ Accepted n → A
broken-not_accepted e = let z : ◌≡◌ {A = ℕ} 0 1 = cc in absurd (omega arith)

refused_not_accepted : {r : _} {n : ℕ} {A : Type 0} → Refused r ≡ Accepted n → A
refused_not_accepted e = let z : ◌≡◌ {A = ℕ} 0 1 = cc in absurd (omega arith)

abbrev IsAccepted : Told → Type 0
IsAccepted a = (n : ℕ) × (a ≡ Accepted n)

-- ---- what was read decides

module _ (text t : List ℕ) (z : List ℤ) where
  abbrev events : Reading (List Event)
  events = events_of (node_room text t z) text

  judged_answer : (t' : List ℕ) (z' : List ℤ) (r : Reading (List Event)) → (duties_from text t z r).answer ≡ (duties_from text t' z' r).answer
  judged_answer t' z' (refused r) = refl
  judged_answer t' z' (good es) = go (broken es)
    where
      go : (f : Option RowFault) → (duties_judged text t z es f).answer ≡ (duties_judged text t' z' es f).answer
      go None = refl
      go (Some f) = refl

  -- accepted: all rows are read, and none breaks a rule
  record Taken (n : ℕ) : Type 0 where
    rows : List Event
    read : events ≡ good rows
    kept : broken rows ≡ None
    count : length (nodes_of rows) ≡ n

  taken : (n : ℕ) → (duties_checked text t z).answer ≡ Accepted n → Taken n
  unfolding duties_checked
  taken n e = go events refl e
    where
      on : (es : List Event) → events ≡ good es → (f : Option RowFault) → broken es ≡ f → (duties_judged text t z es f).answer ≡ Accepted n → Taken n
      on es r None k e = record { rows = es; read = r; kept = k; count = cc }
      on es r (Some f) k e = broken-not_accepted e

      go : (r : Reading (List Event)) → events ≡ r → (duties_from text t z r).answer ≡ Accepted n → Taken n
      go (refused r) q e = refused_not_accepted e
      go (good es) q e = on es q (broken es) refl e

  from_rows : (es : List Event) → events ≡ good es → broken es ≡ None → duties_checked text t z ≡ duties_judged text t z es None
  unfolding duties_checked
  from_rows es r k = ap (duties_from text t z) r ∙ ap (duties_judged text t z es) k

  accepted_definition : IsAccepted (duties_checked text t z).answer ↔ ((es : List Event) × (events ≡ good es) × AllKeep nothing_before es)
  accepted_definition =
      let there : IsAccepted (duties_checked text t z).answer → ((es : List Event) × (events ≡ good es) × AllKeep nothing_before es) =
      λ a. let w = taken a.0 a.1 in (w.rows, w.read, broken-none w.rows w.kept) in
      let back : ((es : List Event) × (events ≡ good es) × AllKeep nothing_before es) → IsAccepted (duties_checked text t z).answer =
      λ w. (length (nodes_of w.0), ap (λ (x : DutiesChecked). x.answer) (from_rows w.0 w.1 (kept_none w.0 w.2))) in
      (there, back)

  -- the balances of the table
  sum-map : (f : List ℕ → ℤ) (ns : List (List ℕ)) → sum_of_z (λ x. x) (map f ns) ≡ sum_of_z f ns
  sum-map f [] = refl
  sum-map f (n ∷ ns) = ap (λ (x : ℤ). f n +ℤ x) (sum-map f ns)

  front : (w : List ℤ) → take (length w) (over w z) ≡ w
  unfolding over
  front w = take-append_seam w (drop (length w) z)

  table-sum : (n : ℕ) → (duties_checked text t z).answer ≡ Accepted n → sum_of_z (λ x. x) (take n (duties_checked text t z).balance) ≡ pos 0
  table-sum n e =
      let w = taken n e in
      let es = w.rows in
      let b : (duties_checked text t z).balance ≡ over (balances es) z = ap (λ (x : DutiesChecked). x.balance) (from_rows es w.read w.kept) in
      let l : n ≡ length (balances es) = sym w.count ∙ sym (length-map (nodes_of es) (balance_from None es)) in
      ap₂ (λ (k : ℕ) (x : List ℤ). sum_of_z (λ y. y) (take k x)) l b
      ∙ ap (sum_of_z (λ y. y)) (front (balances es))
      ∙ sum-map (balance_from None es) (nodes_of es)
      ∙ balanced es

  -- all but acceptance fills both
  emptied : (IsAccepted (duties_checked text t z).answer → ⊥) → ((duties_checked text t z).nodes ≡ filled unsigned_fill t) × ((duties_checked text t z).balance ≡ filled signed_fill z)
  unfolding duties_checked
  emptied n = go events n
    where
      on : (es : List Event) (f : Option RowFault) → (IsAccepted (duties_judged text t z es f).answer → ⊥)
          → ((duties_judged text t z es f).nodes ≡ filled unsigned_fill t) × ((duties_judged text t z es f).balance ≡ filled signed_fill z)
      on es None n = absurd (n (length (nodes_of es), refl))
      on es (Some f) n = (refl, refl)

      go : (r : Reading (List Event)) → (IsAccepted (duties_from text t z r).answer → ⊥)
          → ((duties_from text t z r).nodes ≡ filled unsigned_fill t) × ((duties_from text t z r).balance ≡ filled signed_fill z)
      go (refused r) n = (refl, refl)
      go (good es) n = on es (broken es) n

-- ---- THE THEOREMS, of outcomes

module _ {text : List ℕ} where
  -- any two outcomes coincide: what was lent held whatever it held
  pub one_answer : (k l : Outcome text) → length k.lent_nodes ≡ length l.lent_nodes → length k.lent_balance ≡ length l.lent_balance → k.result.answer ≡ l.result.answer
  unfolding duties_checked
  one_answer k l a b =
      k.keeps.answer
      ∙ ap₂ (λ (x y : ℕ). (duties_from text k.lent_nodes k.lent_balance (events_of (min (x / node_width) y) text)).answer) a b
      ∙ judged_answer text k.lent_nodes k.lent_balance l.lent_nodes l.lent_balance (events_of (node_room text l.lent_nodes l.lent_balance) text)
      ∙ sym l.keeps.answer

  pub one_outcome : (k l : Outcome text) → k.lent_nodes ≡ l.lent_nodes → k.lent_balance ≡ l.lent_balance → (k.result ≡ l.result) × (k.nodes ≡ l.nodes) × (k.balance ≡ l.balance)
  one_outcome k l a b = (
    ap (λ (x : Told). record { answer = x }) (one_answer k l (ap length a) (ap length b)),
    k.keeps.nodes ∙ ap₂ (λ (x : List ℕ) (y : List ℤ). (duties_checked text x y).nodes) a b ∙ sym l.keeps.nodes,
    k.keeps.balance ∙ ap₂ (λ (x : List ℕ) (y : List ℤ). (duties_checked text x y).balance) a b ∙ sym l.keeps.balance,
  )

  module _ (k : Outcome text) where
    -- accepted exactly where all rows are read, and every row keeps every rule
    pub accepted_means : IsAccepted k.result.answer ↔ ((es : List Event) × (events_of (node_room text k.lent_nodes k.lent_balance) text ≡ good es) × AllKeep nothing_before es)
    accepted_means =
        let d = accepted_definition text k.lent_nodes k.lent_balance in
        ((λ a. d.0 (a.0, sym k.keeps.answer ∙ a.1)), (λ w. let a = d.1 w in (a.0, k.keeps.answer ∙ a.1)))

    -- "over all nodes these add up to zero"
    pub balance_zero : (n : ℕ) → k.result.answer ≡ Accepted n → sum_of_z (λ x. x) (take n k.balance) ≡ pos 0
    balance_zero n e = ap (λ (x : List ℤ). sum_of_z (λ y. y) (take n x)) k.keeps.balance ∙ table-sum text k.lent_nodes k.lent_balance n (sym k.keeps.answer ∙ e)

    -- "filled unless accepted"
    pub filled_unless : (IsAccepted k.result.answer → ⊥) → (k.nodes ≡ filled unsigned_fill k.lent_nodes) × (k.balance ≡ filled signed_fill k.lent_balance)
    filled_unless n =
        let w = emptied text k.lent_nodes k.lent_balance (λ a. n (a.0, k.keeps.answer ∙ a.1)) in
        (k.keeps.nodes ∙ w.0, k.keeps.balance ∙ w.1)
