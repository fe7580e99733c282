-- What the desk tool's doubles ask of the figures: no energy is past the greatest that the sizes let through, so each becomes a double without loss.
use Rattle.std.specs.Prelude.{◌≤◌}
use Rattle.rules.specs.Limits.{most_kj}
use Rattle.rules.specs.declared.figures.Figures.{Figures}

pub record Exact (g : Figures) : Type 0 where
  pub before : g.before ≤ most_kj
  pub drawn : g.drawn ≤ most_kj
  pub lost : g.lost ≤ most_kj
  pub peak : g.peaks.drawn.kj ≤ most_kj
