-- The place of 7, column after column: place j·n + k stands for column j and row k.
--   first_place — a test that holds at column j and row k, and nowhere before, has its first place there
--   no_place, none_placed — it has none exactly where no residual of a column exceeds
use mathlib.Core.Path.{◌≡◌, ap}
use mathlib.Core.Bool.{true, false}
use Prim.Native.Nat.{ℕ, ◌+◌, ◌*◌, ◌/◌, ◌%◌, ◌≤◌, ◌<◌}
use native.Mathlib.Omega.{arith}
use native.Mathlib.Decide.{dec_le}
use native.Mathlib.Nat.{mod-lt, div-lt_iff_lt-mul, div-add-mod'}
use Rattle.integer.proofs.Search.{first_is, first_never, first_past}
use Rattle.linear.proofs.Places.{place, place_column, place_row}
use Rattle.enclosure.specs.Sound.{Residuals}
use Rattle.enclosure.specs.Problem.{Problem, column_of}
use Rattle.enclosure.specs.Reckoning.{exceeds}
use Rattle.check_spec.specs.Order.{first_inverse_place}

column_of_lem : (i j k n : ℕ) → i < j * n + k → k < n → j ≤ i / n → i / n ≤ j
column_of_lem i j k n l m h = let x : i / n < j + 1 = (div-lt_iff_lt-mul {k = n} (omega arith)).1 (omega arith) in omega arith

module _ (P : Problem) where
  pub first_place : (j k : ℕ) → j < P.n → k < P.n → exceeds (column_of P j) k ≡ true → ((c : ℕ) → c < j → Residuals (column_of P c)) →
      ((r : ℕ) → r < k → exceeds (column_of P j) r ≡ false) → first_inverse_place P ≡ j * P.n + k
  first_place j k lj lk p q r =
      first_is (P.n * P.n) _ (j * P.n + k) (place lj lk) (rw (place_column j k P.n lk, place_row j k P.n lk) p) (λ i l. go i l (dec_le j (i / P.n)))
    where
      go : (i : ℕ) → i < j * P.n + k → Dec (j ≤ i / P.n) → exceeds (column_of P (i / P.n)) (i % P.n) ≡ false
      go i l (no h) = q (i / P.n) (omega arith) (i % P.n) (mod-lt i (omega arith))
      go i l (yes h) =
          let e : i / P.n ≡ j = omega (arith, column_of_lem i j k P.n l lk h) in
          rw e (r (i % P.n) (omega (arith, div-add-mod' i P.n, ap (λ (x : ℕ). x * P.n) e)))

  pub no_place : 0 < P.n → ((j : ℕ) → j < P.n → Residuals (column_of P j)) → first_inverse_place P ≡ P.n * P.n
  no_place n_pos h = first_never (P.n * P.n) _ (λ i l. h (i / P.n) ((div-lt_iff_lt-mul n_pos).1 l) (i % P.n) (mod-lt i n_pos))

  pub none_placed : P.n * P.n ≤ first_inverse_place P → (j : ℕ) → j < P.n → Residuals (column_of P j)
  none_placed past j lj k lk =
      let h = first_past (P.n * P.n) (λ (i : ℕ). exceeds (column_of P (i / P.n)) (i % P.n)) past (j * P.n + k) (place lj lk) in
      rw (place_column j k P.n lk, place_row j k P.n lk) at h
