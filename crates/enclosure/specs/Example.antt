-- The whole file of document 01, as numbers in lists that are long enough, and its exact solution (16/11, 9/11) and inverse (3 1 / 1 4)/11; and problems
-- with tolerances.
--   padded — a list made long enough by zeros
--   matrix, right, tolerance, guess, inverse, weights — its lists; it has no tolerance
--   file   — its problem;  exact, exact_inverse — N and H, both with q = 11
--   file_defect, file_margins, file_residual, file_image — what 01 works out for it: "Here D = (1 1 / 2 −1), margins 14 and 13, r = (1, 0), p = (4, 1)"
--   FileWorked — it is what the definitions give
--   loose  — 1·x = 0 with the tolerance 3, both steps 1/16, guess 0, inverse 16/16;  far_right, far_height — 9, over 3, at the corner of that tolerance, and
--     3, over 1, its solution
--   loose_file — the whole file with the tolerances 1 and 2;  corner_right, corner_height — the right side (6, −1) at a corner of them, and (17, 2) over 11, its
--     solution
use Rattle.std.specs.Prelude.{List, [], ◌∷◌, ◌++◌, ◌≡◌, ℕ, ◌<◌, ℤ, pos, negsuc, replicate}
use Rattle.linear.specs.Matrix.{Vec, Mat}
use Rattle.linear.specs.Slice.{vector_of, matrix_of}
use Rattle.enclosure.specs.Problem.{Problem, problem_of}
use Rattle.enclosure.specs.Reckoning.{defect, margin, residual}
use Rattle.enclosure.specs.Schroeder.{image}

abbrev pub padded : List ℤ → List ℤ
padded xs = xs ++ replicate 1024 (pos 0)

abbrev pub matrix : List ℤ
matrix = padded (pos 4 ∷ negsuc 0 ∷ negsuc 0 ∷ pos 3 ∷ [])

abbrev pub right : List ℤ
right = padded (pos 5 ∷ pos 1 ∷ [])

abbrev pub tolerance : List ℤ
tolerance = padded (pos 0 ∷ pos 0 ∷ [])

abbrev pub guess : List ℤ
guess = padded (pos 23 ∷ pos 13 ∷ [])

abbrev pub inverse : List ℤ
inverse = padded (pos 4 ∷ pos 1 ∷ pos 1 ∷ pos 6 ∷ [])

abbrev pub weights : List ℤ
weights = padded (pos 1 ∷ pos 1 ∷ [])

abbrev pub file : Problem
file = problem_of 2 4 4 matrix right tolerance guess inverse weights

abbrev pub exact : Vec
exact = vector_of (pos 16 ∷ pos 9 ∷ [])

abbrev pub exact_inverse : Mat
exact_inverse = matrix_of (pos 3 ∷ pos 1 ∷ pos 1 ∷ pos 4 ∷ []) 2

abbrev pub file_defect : Mat
file_defect = matrix_of (pos 1 ∷ pos 1 ∷ pos 2 ∷ negsuc 0 ∷ []) 2

abbrev pub file_margins : Vec
file_margins = vector_of (pos 14 ∷ pos 13 ∷ [])

abbrev pub file_residual : Vec
file_residual = vector_of (pos 1 ∷ pos 0 ∷ [])

abbrev pub file_image : Vec
file_image = vector_of (pos 4 ∷ pos 1 ∷ [])

pub record FileWorked : Type 0 where
  pub D : (i j : ℕ) → i < 2 → j < 2 → defect file i j ≡ file_defect i j
  pub g : (m : ℕ) → m < 2 → margin file m ≡ file_margins m
  pub r : (k : ℕ) → k < 2 → residual file k ≡ file_residual k
  pub p : (m : ℕ) → m < 2 → image file m ≡ file_image m

abbrev pub loose : Problem
loose =
    problem_of 1 4 4 (padded (pos 1 ∷ [])) (padded (pos 0 ∷ [])) (padded (pos 3 ∷ [])) (padded (pos 0 ∷ [])) (padded (pos 16 ∷ []))
    (padded (pos 1 ∷ []))

abbrev pub far_right : Vec
far_right = vector_of (pos 9 ∷ [])

abbrev pub far_height : Vec
far_height = vector_of (pos 3 ∷ [])

abbrev pub loose_file : Problem
loose_file = problem_of 2 4 4 matrix right (padded (pos 1 ∷ pos 2 ∷ [])) guess inverse weights

abbrev pub corner_right : Vec
corner_right = vector_of (pos 6 ∷ negsuc 0 ∷ [])

abbrev pub corner_height : Vec
corner_height = vector_of (pos 17 ∷ pos 2 ∷ [])
