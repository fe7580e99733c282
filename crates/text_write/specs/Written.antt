-- A text written at a place of a lent buffer, as far as the buffer reaches.
use Rattle.std.specs.Prelude.{ℕ, ◌+◌, min, ◌≡◌, List, length}
use Rattle.std.proofs.lemmas.List.Edits.{sets}

-- the last place that a `usize` can name: no buffer reaches it
abbrev pub last_place : ℕ
last_place = 18_446_744_073_709_551_615

-- w stored in t byte by byte from a place on, past t's end nothing; and the place after the whole of w, whether it fits or not
pub record Written (t : List ℕ) (at : ℕ) (w t' : List ℕ) (after : ℕ) : Type 0 where
  pub contents : t' ≡ sets t at w
  pub place : after ≡ min (at + length w) last_place
