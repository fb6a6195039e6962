-- What is handed to a search for weights (document 02, Paper 7), and whether it can be used.
--   Request   — n, t, the two matrix lists, how many lists may be tried, and the weight list as it comes in;  request — one from its parts
--   search_problem Q — its problem; no solution scale, right side, guess or weight is read
--   search_short Q — 8: a lent list is too short
--   search_sizes, search_lists — n, t and the allowance, and the numbers used of the lists, are in their ranges
--   search_in_ranges Q — all of these; 3 where they are not
use Rattle.std.specs.Prelude.{Bool, ◌&&◌, List, [], ℕ, ◌*◌, ℤ, pos, length}
use Rattle.linear.specs.Slice.{at}
use Rattle.rules.specs.Range.{in_range, all_in_range}
use Rattle.rules.specs.declared.Kind.TheVariants as kind
use Rattle.enclosure.specs.Problem.{Problem, problem_of}
use Rattle.check_spec.specs.Squares.{any_square_short}

pub record Request : Type 0 where
  pub n : ℕ
  pub t : ℕ
  pub matrix : List ℤ
  pub inverse : List ℤ
  pub allowance : ℕ
  pub weights : List ℤ

abbrev pub request : ℕ → ℕ → List ℤ → List ℤ → ℕ → List ℤ → Request
request n t matrix inverse allowance weights = record {
  n = n;
  t = t;
  matrix = matrix;
  inverse = inverse;
  allowance = allowance;
  weights = weights;
}

abbrev pub search_problem : Request → Problem
search_problem Q = problem_of Q.n 0 Q.t Q.matrix [] [] [] Q.inverse []

abbrev pub search_short : Request → Bool
search_short Q = any_square_short (length Q.matrix) (length Q.inverse) (length Q.weights)

abbrev pub search_sizes : ℕ → ℕ → ℕ → Bool
search_sizes n t allowance = in_range kind.Size (pos n) && (in_range kind.InverseScale (pos t) && in_range kind.Allowance (pos allowance))

abbrev pub search_lists : ℕ → List ℤ → List ℤ → Bool
search_lists n matrix inverse = all_in_range kind.Matrix (n * n) (at matrix) && all_in_range kind.Inverse (n * n) (at inverse)

abbrev pub search_in_ranges : Request → Bool
search_in_ranges Q = search_sizes Q.n Q.t Q.allowance && search_lists Q.n Q.matrix Q.inverse
