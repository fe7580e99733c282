-- Tables are filled by their lengths: what stood in them before does not matter. Assumes nothing.
use Prim.Native.Nat.{ℕ}
use mathlib.Core.Path.{◌≡◌, refl, ap, ◌∙◌}
use mathlib.Core.Bool.{Bool, true, false, cond}
use mathlib.Core.List.{List}
use lib.ListN.{length, replicate}
use lib.IntN.{ℤ}
use Rattle.rules.specs.Limits.{unsigned_fill, signed_fill, byte_fill}
use Rattle.rules.specs.Answers.{is_refusal, is_accepted}
use Rattle.rules.specs.Entries.{Tables, filled, filled_tables}
use Rattle.rules.specs.declared.answers.Answer.{Answer}
use Rattle.tables_lent.specs.After.{tables_after, choices_after, curves_after, text_after}

pub record SameLengths (a b : Tables) : Type 0 where
  pub legs : length a.legs ≡ length b.legs
  pub configurations : length a.configurations ≡ length b.configurations
  pub profiles : length a.profiles ≡ length b.profiles
  pub samples : length a.samples ≡ length b.samples
  pub constraints : length a.constraints ≡ length b.constraints
  pub tracks : length a.tracks ≡ length b.tracks

pub filled_alike : {A : Type 0} (fill : A) (a b : List A) → length a ≡ length b → filled fill a ≡ filled fill b
filled_alike fill a b e = ap (λ n. replicate n fill) e

pub tables-filled_alike : (a b : Tables) → SameLengths a b → filled_tables a ≡ filled_tables b
tables-filled_alike a b e j =
    record {
      legs = replicate (e.legs j) unsigned_fill;
      configurations = replicate (e.configurations j) unsigned_fill;
      profiles = replicate (e.profiles j) unsigned_fill;
      samples = replicate (e.samples j) signed_fill;
      constraints = replicate (e.constraints j) unsigned_fill;
      tracks = replicate (e.tracks j) unsigned_fill;
    }

-- ---- what an answer leaves: o is what is to stand there, '' what does

decides : {A : Type 0} (b : Bool) {x y z o : A} → z ≡ cond b x y → (b ≡ true → x ≡ o) → (b ≡ false → y ≡ o) → z ≡ o
decides true e f g = e ∙ f refl
decides false e f g = e ∙ g refl

module _ (a : Answer) where
  pub tables_after_lem : (t : Tables) {t' t'' o : Tables} → SameLengths t' t → t'' ≡ tables_after a t' → (is_refusal a ≡ true → filled_tables t ≡ o) → (is_refusal a ≡ false → t' ≡ o)
      → t'' ≡ o
  tables_after_lem t {t'} same e f g = decides (is_refusal a) e (λ h. tables-filled_alike t' t same ∙ f h) g

  pub choices-after : (c : List ℕ) {c' c'' o : List ℕ} → length c' ≡ length c → c'' ≡ choices_after a c' → (is_refusal a ≡ true → filled unsigned_fill c ≡ o)
      → (is_refusal a ≡ false → c' ≡ o) → c'' ≡ o
  choices-after c {c'} same e f g = decides (is_refusal a) e (λ h. filled_alike unsigned_fill c' c same ∙ f h) g

  pub curves-after : (p : List ℤ) {p' p'' o : List ℤ} → length p' ≡ length p → p'' ≡ curves_after a p' → (is_accepted a ≡ true → p' ≡ o)
      → (is_accepted a ≡ false → filled signed_fill p ≡ o) → p'' ≡ o
  curves-after p {p'} same e f g = decides (is_accepted a) e f (λ h. filled_alike signed_fill p' p same ∙ g h)

  pub text_after_lem : (s : List ℕ) {s' s'' o : List ℕ} → length s' ≡ length s → s'' ≡ text_after a s' → (is_accepted a ≡ true → s' ≡ o) → (is_accepted a ≡ false → filled byte_fill s ≡ o)
      → s'' ≡ o
  text_after_lem s {s'} same e f g = decides (is_accepted a) e f (λ h. filled_alike byte_fill s' s same ∙ g h)
