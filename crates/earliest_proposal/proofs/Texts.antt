-- The merge of a proposal with itself is the proposal's text. Assumes nothing.
use Prim.Native.Nat.{ℕ}
use mathlib.Core.Path.{◌≡◌, refl, sym, ap₂, ◌∙◌, subst}
use mathlib.Core.Bool.{Bool, true, false, cond}
use mathlib.Core.List.{List, [], ◌∷◌}
use lib.Dec.{leb}
use lib.ListN.{length, length-map}
use Rattle.rules.specs.Timetable.{Row}
use Rattle.rules.specs.Verdict.{offered}
use Rattle.rules.specs.Merge.{sooner, merge_of, chosen, text_of}
use Rattle.rules.specs.Entries.{rooms_of, written_tables, written_choices}
use Rattle.rules.specs.declared.sizes.Configuration.{Configuration}
use Rattle.rules.specs.declared.outcomes.Direction.TheVariants.{Earlier}
use Rattle.text_write.specs.Written.{Written}
use Rattle.merge_text.specs.Merges.{merged_in}
use Rattle.merge_text.proofs.Filled.{merged-fits, merged_whole}
use Rattle.earliest_theorems.proofs.OfFiles.{proposal_earliest}
use Rattle.earliest_theorems.proofs.Search.{offered_long}
use Rattle.earliest_proposal.specs.Text.{Writable, TextOf, Writes}

sooner_self : (c : Configuration) → sooner c c ≡ c
sooner_self c = go (leb c.departure c.departure)
  where
    go : (b : Bool) → ◌≡◌ {A = Configuration} (cond b c c) c
    go true = refl
    go false = refl

merge_self : (x : List Configuration) → merge_of Earlier x x ≡ x
merge_self [] = refl
merge_self (c ∷ x) = ap₂ ◌∷◌ (sooner_self c) (merge_self x)

module _ (n m : ℕ) (legs configurations constraints choices text : List ℕ) (r : ℕ) (text' : List ℕ)
    (put : Written text 0 (text_of (merged_in Earlier n legs configurations choices choices)) text' r) (k : Writable n m legs configurations constraints choices) where
  abbrev rows : List Row
  rows = k.left.files.rows

  many : length k.x ≡ length rows
  many =
      offered_long (offered rows) k.x (proposal_earliest k.left.stated k.left.texts (rooms_of k.left.lent) k.left.files k.left.read k.x k.found).solution.accepted.offered
      ∙ length-map rows (λ (q : Row). q.list)

  put_left : Written text 0
      (text_of
      (merged_in Earlier (length rows) (written_tables k.left.files k.left.lent).legs (written_tables k.left.files k.left.lent).configurations
      (written_choices k.x k.lent) (written_choices k.x k.lent))) text' r
  put_left =
      subst (λ q. Written text 0 (text_of q) text' r)
      (λ j. merged_in Earlier (sym k.left.rows_many j) (k.left.legs_are_lem j) (k.left.configurations_are_lem j) (k.choices_are j) (k.choices_are j)) put

  text_of_lem : TextOf (text_of (chosen rows k.x)) text r text'
  text_of_lem =
      subst (λ y. TextOf (text_of (chosen rows y)) text r text') (merge_self k.x)
      (record {
        fits = merged-fits rows k.left.lent.legs k.left.lent.configurations k.x k.x k.lent k.lent many many Earlier text text' r put_left;
        puts = merged_whole rows k.left.lent.legs k.left.lent.configurations k.x k.x k.lent k.lent many many Earlier text text' r put_left;
      })

pub writes : (n m : ℕ) (legs configurations constraints choices text : List ℕ) (r : ℕ) (text' : List ℕ)
    → Written text 0 (text_of (merged_in Earlier n legs configurations choices choices)) text' r → Writes n m legs configurations constraints choices text r text'
writes n m legs configurations constraints choices text r text' put = λ k. text_of_lem n m legs configurations constraints choices text r text' put k
