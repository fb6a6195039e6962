-- Which field line is refused, for calls that say it (02, Paper 3: "Lines are taken in order and the first refusal ends the build").
--   refused_from n k earlier ls — the number of the first line of ls that is refused, after the k lines `earlier`; 0 where none is
--   build_line n ls short — of a whole list, counted from 1: 0 where no line is refused, and where the list is refused before any line (8, 3 for n, 3 for the count)
use Rattle.std.specs.Prelude.{Bool, List, [], ◌∷◌, ℕ, ◌+◌, length}
use Rattle.rules.specs.Order.{verdict, if_accepted}
use Rattle.build_lines.specs.declared.Observation.{Observation}
use Rattle.build_lines.specs.Order.{observation_says, open_order}

unfoldable pub refused_from : ℕ → ℕ → List Observation → List Observation → ℕ
refused_from n k earlier [] = 0
refused_from n k earlier (l ∷ ls) = if_accepted (observation_says n earlier l) (refused_from n (k + 1) (l ∷ earlier) ls) (k + 1)

unfoldable pub build_line : ℕ → List Observation → Bool → ℕ
build_line n ls short = if_accepted (verdict (open_order n (length ls) short)) (refused_from n 0 [] ls) 0
