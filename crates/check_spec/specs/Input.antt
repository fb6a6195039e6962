-- What is handed to a check on lists, and whether it can be used.
--   Input    — n, s, t, the six lists of numbers and the two limit lists as they come in (02, Paper 5: `tolerance` joins `right`)
--   input    — an input from its parts
--   problem  — its problem (the first n × n numbers of a matrix list, row after row, the first n of a column list)
--   any_short — a list of one of these lengths is too short
--   short I  — 8: a lent list is too short
--   sizes_in_range, lists_in_range — n, s and t, and the numbers used of the lists, are in their ranges
--   in_ranges I — all of these; 3 where they are not
use Rattle.std.specs.Prelude.{Bool, ◌&&◌, ◌||◌, List, ℕ, ◌*◌, ℤ, pos, length}
use Rattle.rules.specs.Range.{in_range, all_in_range, short_matrix, short_column}
use Rattle.rules.specs.declared.Kind.TheVariants as kind
use Rattle.linear.specs.Slice.{at}
use Rattle.enclosure.specs.Problem.{Problem, problem_of}

pub record Input : Type 0 where
  pub n : ℕ
  pub s : ℕ
  pub t : ℕ
  pub matrix : List ℤ
  pub right : List ℤ
  pub tolerance : List ℤ
  pub guess : List ℤ
  pub inverse : List ℤ
  pub weights : List ℤ
  pub solution_bounds : List ℕ
  pub inverse_bounds : List ℕ

abbrev pub input : ℕ → ℕ → ℕ → List ℤ → List ℤ → List ℤ → List ℤ → List ℤ → List ℤ → List ℕ → List ℕ → Input
input n s t matrix right tolerance guess inverse weights solution inverse_bounds = record {
  n = n;
  s = s;
  t = t;
  matrix = matrix;
  right = right;
  tolerance = tolerance;
  guess = guess;
  inverse = inverse;
  weights = weights;
  solution_bounds = solution;
  inverse_bounds = inverse_bounds;
}

abbrev pub problem : Input → Problem
problem I = problem_of I.n I.s I.t I.matrix I.right I.tolerance I.guess I.inverse I.weights

abbrev pub any_short : ℕ → ℕ → ℕ → ℕ → ℕ → ℕ → ℕ → ℕ → Bool
any_short a b d x g w e l =
    short_matrix a
    || (short_column b || (short_column d || (short_column x || (short_matrix g || (short_column w || (short_column e || short_matrix l))))))

abbrev pub short : Input → Bool
short I =
    any_short (length I.matrix) (length I.right) (length I.tolerance) (length I.guess) (length I.inverse)
    (length I.weights) (length I.solution_bounds) (length I.inverse_bounds)

abbrev pub sizes_in_range : ℕ → ℕ → ℕ → Bool
sizes_in_range n s t = in_range kind.Size (pos n) && (in_range kind.SolutionScale (pos s) && in_range kind.InverseScale (pos t))

abbrev pub lists_in_range : ℕ → List ℤ → List ℤ → List ℤ → List ℤ → List ℤ → List ℤ → Bool
lists_in_range n matrix right tolerance guess inverse weights =
    all_in_range kind.Matrix (n * n) (at matrix)
    && (all_in_range kind.Right n (at right)
    && (all_in_range kind.Tolerance n (at tolerance)
    && (all_in_range kind.Guess n (at guess) && (all_in_range kind.Inverse (n * n) (at inverse) && all_in_range kind.Weight n (at weights)))))

abbrev pub in_ranges : Input → Bool
in_ranges I =
    sizes_in_range I.n I.s I.t && lists_in_range I.n I.matrix I.right I.tolerance I.guess I.inverse I.weights
