-- The reckoning uses only the first n numbers of each list: what it says of two problems that agree on them.
--   columns_same — the test of 7 at a place
--   checked_same — what is said of 5, 6 and 7
--   inverse_same — the limits of the inverse
use mathlib.Core.Path.{◌≡◌, refl, ap}
use Prim.Native.Nat.{ℕ, zero, suc, ◌*◌, ◌/◌, ◌%◌, ◌<◌}
use native.Mathlib.Omega.{arith}
use native.Mathlib.Nat.{mod-lt, div-lt_iff_lt-mul}
use lib.IntN.{ℤ, pos}
use lib.Signed.{le_z}
use Rattle.integer.proofs.Search.{first_ext}
use Rattle.enclosure.specs.Problem.{Problem, column_of}
use Rattle.enclosure.specs.Reckoning.{margin_fails, exceeds, inverse_bound}
use Rattle.enclosure.proofs.Agreement.{Agreeing, over, margin_same, exceeds_same, bound_same}
use Rattle.check_spec.specs.Order.{checked_of}

module _ (P Q : Problem) (a : Agreeing P Q) where
  abbrev R : Problem
  R = over P Q

  fails_same : (m : ℕ) → m < P.n → margin_fails P m ≡ margin_fails R m
  fails_same m l = ap (λ (z : ℤ). le_z z (pos 0)) (margin_same P Q a m l)

  some_of_lem : (i : ℕ) → i < P.n * P.n → 0 < P.n
  some_of_lem i l = go P.n l
    where
      go : (n : ℕ) → i < n * n → 0 < n
      go zero l = absurd (omega arith)
      go (suc n) l = omega arith

  -- the problems of column j of the inverse agree
  in_column : (j : ℕ) → j < P.n → Agreeing (column_of P j) (column_of Q j)
  in_column j l = record {
    matrix = a.matrix;
    right = λ k lk. refl;
    tolerance = λ k lk. refl;
    guess = λ k lk. a.inverse k j lk l;
    inverse = a.inverse;
    weights = a.weights;
  }

  pub columns_same : (i : ℕ) → i < P.n * P.n → exceeds (column_of P (i / P.n)) (i % P.n) ≡ exceeds (column_of R (i / P.n)) (i % P.n)
  columns_same i l =
      let j = i / P.n in
      exceeds_same (column_of P j) (column_of Q j) (in_column j ((div-lt_iff_lt-mul (some_of_lem i l)).1 l)) (i % P.n) (mod-lt i (some_of_lem i l))

  pub checked_same : checked_of P ≡ checked_of R
  checked_same =
      rw (
        first_ext P.n (margin_fails P) (margin_fails R) fails_same,
        first_ext P.n (exceeds P) (exceeds R) (exceeds_same P Q a),
        first_ext (P.n * P.n) (λ (i : ℕ). exceeds (column_of P (i / P.n)) (i % P.n)) (λ (i : ℕ). exceeds (column_of R (i / P.n)) (i % P.n)) columns_same,
      )

  pub inverse_same : (i j : ℕ) → i < P.n → j < P.n → inverse_bound P i j ≡ inverse_bound R i j
  inverse_same i j li lj = bound_same (column_of P j) (column_of Q j) (in_column j lj) i li
