-- `constraints_tokens::string_token` meets its contract: a string by what comes after its clean bytes. Assumes nothing.
use Rattle.constraints_tokens.proofs.Here.{forbidden_seen, quoted_seen, string_place, unclosed_seen}
use mathlib.Core.Path.{sym, ◌∙◌}
use native.Mathlib.Omega.{arith}
use Rattle.constraints_tokens.proofs.string_token.Goals as goal
use Rattle.constraints_tokens.proofs.string_token.Goals.{in-None, in-Some-eq34, in-Some}

pub overflow_cast-result-2 : goal.overflow_cast-result-2
overflow_cast-result-2 c =
    let h = string_place _ _ _ c.requires.0 c.requires.1 c.string_end-end.ensures in
    elim c.match-get.branch [
      | in-None w ↦ rw w.class-is (omega (arith, h, c.requires.0.short))
      | in-Some-eq34 w ↦ rw w.class-is (omega (arith, w.in-Some-eq34.ensures.lookup.3.0, c.requires.0.short))
      | in-Some w ↦ rw w.class-is (omega (arith, h, c.requires.0.short))
    ]

pub returns : goal.returns
returns c =
    let told = c.string_end-end.ensures in
    elim c.match-get.branch [
      | in-None w ↦ rw w.class-is (unclosed_seen _ _ _ c.requires.0 c.requires.1 told w.in-None.ensures.lookup.3)
      | in-Some-eq34 w ↦
          let h = w.in-Some-eq34.ensures.lookup.3 in
          rw w.class-is (quoted_seen _ _ _ c.requires.0 c.requires.1 told h.0 (sym (h.1 0) ∙ w.in-Some-eq34.field-0-test))
      | in-Some w ↦
          let h = w.in-Some.ensures.lookup.3 in
          rw w.class-is (forbidden_seen _ _ _ c.requires.0 c.requires.1 told h.0 (λ q. w.in-Some.field-0-test.1 (h.1 0 ∙ q)))
    ]

pub slice_bounds-result-end : goal.slice_bounds-result-end
slice_bounds-result-end c = omega (arith, string_place _ _ _ c.requires.0 c.requires.1 c.string_end-end.ensures)
