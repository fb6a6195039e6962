-- The contract of `build` (document 02, Papers 3 and 10).
--   short_as layout k — a matrix list of k numbers is too short for its layout: under 1,024, or under 528 where the lower half is written
--   short_for layout a b — 8: one of the lent lists a and b is too short
--   BuiltAs n ls layout a b r a' b' — r says what `build_answer` says of n, the lines and the lent lists a and b; where that is nothing, the first places
--   of the matrix list, n × n of them or n·(n + 1)/2 by the layout, row after row, and the first n of the other hold the equations of the distinct
--   lines; every other place, and on a refusal every place, is as before
use Rattle.std.specs.Prelude.{Bool, ◌||◌, List, ◌≡◌, ℕ, ℤ, length}
use Rattle.rules.specs.Order.{if_accepted}
use Rattle.rules.specs.Range.{short_matrix, short_column}
use Rattle.half_fill.specs.Half.{short_half}
use Rattle.build_lines.specs.Order.{Built, build_code, build_answer}
use Rattle.build_lines.specs.declared.Observation.{Observation}
use Rattle.build_lines.specs.Distinct.{built_matrix, built_right}
use Rattle.build_equations.specs.declared.Layout.{Layout}
use Rattle.build_equations.specs.declared.Layout.TheVariants.{Square, Lower}
use Rattle.build_equations.specs.Written.{matrix_written, right_written}

-- 02, Paper 10: "The builder of Paper 3 gains the same form. (8 for a list under 528.)"
abbrev pub short_as : Layout → ℕ → Bool
short_as Square k = short_matrix k
short_as Lower k = short_half k

abbrev pub short_for : Layout → List ℤ → List ℤ → Bool
short_for layout a b = short_as layout (length a) || short_column (length b)

-- 02, Paper 3: "The builder takes a list of field lines, at most 256, and fills matrix and right side from zero."
pub record BuiltAs (n : ℕ) (ls : List Observation) (layout : Layout) (a b : List ℤ) (r : Built) (a' b' : List ℤ) : Type 0 where
  pub says : build_code r ≡ build_answer n ls (short_for layout a b)
  pub matrix : a' ≡ if_accepted (build_answer n ls (short_for layout a b)) (matrix_written layout n (built_matrix ls) a) a
  pub right : b' ≡ if_accepted (build_answer n ls (short_for layout a b)) (right_written n (built_right ls) b) b
