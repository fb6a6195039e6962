-- What the two lists of a build hold where the equations are built (document 02, Papers 3 and 10): a and b before, a' and b' after.
--   HeldSquare n ls a b a' b' — in the square layout: the equations of the distinct lines at their places, every other place as before
--   HeldHalf n ls h b h' b' — the same with the matrix by its lower half, both halves of it read there
use Rattle.std.specs.Prelude.{List, ◌≡◌, ℕ, ◌+◌, ◌*◌, ◌≤◌, ◌<◌, ℤ}
use Rattle.linear.specs.Slice.{at}
use Rattle.half_fill.specs.Half.{half_place, half_count}
use Rattle.build_lines.specs.declared.Observation.{Observation}
use Rattle.build_lines.specs.Distinct.{built_matrix, built_right}

pub record HeldSquare (n : ℕ) (ls : List Observation) (a b a' b' : List ℤ) : Type 0 where
  pub matrix : (i j : ℕ) → i < n → j < n → at a' (i * n + j) ≡ built_matrix ls i j
  pub right : (i : ℕ) → i < n → at b' i ≡ built_right ls i
  pub matrix_rest : (p : ℕ) → n * n ≤ p → at a' p ≡ at a p
  pub right_rest : (p : ℕ) → n ≤ p → at b' p ≡ at b p

pub record HeldHalf (n : ℕ) (ls : List Observation) (h b h' b' : List ℤ) : Type 0 where
  pub matrix : (i j : ℕ) → i < n → j < n → at h' (half_place i j) ≡ built_matrix ls i j
  pub right : (i : ℕ) → i < n → at b' i ≡ built_right ls i
  pub matrix_rest : (p : ℕ) → half_count n ≤ p → at h' p ≡ at h p
  pub right_rest : (p : ℕ) → n ≤ p → at b' p ≡ at b p
