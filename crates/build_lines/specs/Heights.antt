-- Heights that fit the field lines.
--   unknowns h — the heights of the marks 1 to n, as the unknowns of the equations
--   FitAll ls q h — the heights h over q fit every line: h_to − h_from = q·difference, and the fixed mark has height 0
--   fixed_weight ls, all_weight ls — the weights of the distinct lines at the fixed mark, and of all distinct lines, summed
use Rattle.std.specs.Prelude.{List, ◌≡◌, ℕ, ◌+◌, ℤ, pos, ◌-ℤ◌, ◌*ℤ◌}
use Rattle.linear.specs.Matrix.{Vec}
use Rattle.build_lines.specs.declared.Observation.{Observation}
use Rattle.build_lines.specs.Distinct.{distinct, total, when, touches}
use Rattle.integer.specs.Among.{Among}

abbrev pub unknowns : (ℕ → ℤ) → Vec
unknowns h i = h (i + 1)

pub record FitAll (ls : List Observation) (q : ℕ) (h : ℕ → ℤ) : Type 0 where
  pub fixed : h 0 ≡ pos 0
  pub fits : (l : Observation) → Among l ls → h l.to -ℤ h l.«from» ≡ pos q *ℤ l.difference

-- 02: "the diagonal summed, plus the weights of distinct lines at the fixed mark, is twice the weight of all distinct keys"
abbrev pub fixed_weight : List Observation → ℤ
fixed_weight ls = total (λ (l : Observation). when (touches 0 l) (pos l.weight)) (distinct ls)

abbrev pub all_weight : List Observation → ℤ
all_weight ls = total (λ (l : Observation). pos l.weight) (distinct ls)
