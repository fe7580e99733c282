-- COMPLETENESS: a text that writes a lawful value, with its lists and keys in any order and with any white space, is read as that value's document.
-- Assumes nothing.
use Prim.Native.Nat.{ℕ, ◌≤◌}
use mathlib.Core.Path.{◌≡◌, refl, sym, ap, subst, ◌∙◌}
use mathlib.Core.Bool.{true}
use mathlib.Core.List.{List, [], ◌∷◌, ◌++◌, append-nil}
use lib.ListN.{length}
use borrow.Author.Tests.{le-leb}
use Rattle.rules.specs.Limits.{most_text}
use Rattle.rules.specs.Answers.{good}
use Rattle.rules.specs.Lists.{every}
use Rattle.rules.specs.Tokens.{is_white, tokens_of}
use Rattle.rules.specs.Constraints.{Document, rules_in, constraints_of}
use Rattle.rules_theorems.proofs.DocumentWords.{and_first, and_second}
use Rattle.rules_json.specs.Value.{Value, document_of, Lawful, Fits}
use Rattle.rules_json.specs.Written.{Piece, pieces, Laid, done, white, next, spread, Writing}
use Rattle.rules_json.proofs.Same.{OkLists}
use Rattle.rules_json.proofs.Passes.{value_passes}
use Rattle.rules_json.proofs.Means.{document_means}
use Rattle.rules_json.proofs.Lists.{pieces-read}
use Rattle.rules_json.proofs.Text.{laid_said}
use Rattle.rules_json.proofs.Fine.{pieces_fine}

pub complete : (E : ℕ) (legs : List ℕ) (constraints tracks : ℕ) (s : List ℕ) (d : Document)
    → Writing E legs constraints tracks s d → constraints_of legs constraints tracks (rules_in E) s ≡ good d
unfolding constraints_of tokens_of
complete E legs constraints tracks s d w =
    let ok : OkLists legs 0 w.value = value_passes legs w.value w.lawful.lists w.lawful.records in
    let same = document_means legs w.value ok in
    rw (le-leb (length s) most_text w.short)
    (pieces-read E legs constraints tracks w.value ok (subst (Fits constraints tracks) (sym same) w.lawful.fits)
    (tokens_of s) (laid_said w.written (pieces_fine E legs w.value ok) 0)
    ∙ ap good (same ∙ w.means))

-- ---- for one: any lawful value, written with the same white bytes before each piece, or with none

blank_laid : (blank : List ℕ) → every is_white blank ≡ true → {xs : List Piece} {s : List ℕ} → Laid xs s → Laid xs (blank ++ s)
blank_laid [] all rest = rest
blank_laid (b ∷ blank) all rest =
    white (and_first (is_white b) (every is_white blank) all) (blank_laid blank (and_second (is_white b) (every is_white blank) all) rest)

pub spread-laid : (blank : List ℕ) → every is_white blank ≡ true → (xs : List Piece) → Laid xs (spread blank xs)
spread-laid blank all [] = rw (← append-nil blank) (blank_laid blank all done)
spread-laid blank all (x ∷ xs) = blank_laid blank all (next x (spread-laid blank all xs))

pub spread-read : (E : ℕ) (legs : List ℕ) (constraints tracks : ℕ) (v : Value) (blank : List ℕ) → Lawful legs constraints tracks v → every is_white blank ≡ true
    → length (spread blank (pieces E v)) ≤ most_text → constraints_of legs constraints tracks (rules_in E) (spread blank (pieces E v)) ≡ good (document_of legs v)
spread-read E legs constraints tracks v blank lawful all short =
    complete E legs constraints tracks (spread blank (pieces E v)) (document_of legs v)
    (record { value = v; lawful = lawful; written = spread-laid blank all (pieces E v); short = short; means = refl })
