-- What is handed to a call for the factor, and whether it can be used.
--   Inquiry — n, t, the two matrix lists and the weight list;  inquiry — one from its parts
--   inquiry_problem Q — its problem; no solution scale, right side, tolerance or guess is read
--   inquiry_short Q — 8: a lent list is too short
--   inquiry_sizes, inquiry_lists — n and t, and the numbers used of the lists, are in their ranges
--   inquiry_in_ranges Q — all of these; 3 where they are not
use Rattle.std.specs.Prelude.{Bool, ◌&&◌, List, [], ℕ, ◌*◌, ℤ, pos, length}
use Rattle.linear.specs.Slice.{at}
use Rattle.rules.specs.Range.{in_range, all_in_range}
use Rattle.rules.specs.declared.Kind.TheVariants as kind
use Rattle.enclosure.specs.Problem.{Problem, problem_of}
use Rattle.check_spec.specs.Squares.{any_square_short}

pub record Inquiry : Type 0 where
  pub n : ℕ
  pub t : ℕ
  pub matrix : List ℤ
  pub inverse : List ℤ
  pub weights : List ℤ

abbrev pub inquiry : ℕ → ℕ → List ℤ → List ℤ → List ℤ → Inquiry
inquiry n t matrix inverse weights = record { n = n; t = t; matrix = matrix; inverse = inverse; weights = weights }

abbrev pub inquiry_problem : Inquiry → Problem
inquiry_problem Q = problem_of Q.n 0 Q.t Q.matrix [] [] [] Q.inverse Q.weights

abbrev pub inquiry_short : Inquiry → Bool
inquiry_short Q = any_square_short (length Q.matrix) (length Q.inverse) (length Q.weights)

abbrev pub inquiry_sizes : ℕ → ℕ → Bool
inquiry_sizes n t = in_range kind.Size (pos n) && in_range kind.InverseScale (pos t)

abbrev pub inquiry_lists : ℕ → List ℤ → List ℤ → List ℤ → Bool
inquiry_lists n matrix inverse weights =
    all_in_range kind.Matrix (n * n) (at matrix) && (all_in_range kind.Inverse (n * n) (at inverse) && all_in_range kind.Weight n (at weights))

abbrev pub inquiry_in_ranges : Inquiry → Bool
inquiry_in_ranges Q = inquiry_sizes Q.n Q.t && inquiry_lists Q.n Q.matrix Q.inverse Q.weights
