-- Laws of the lowest place where u / v is largest (specs/Peak), for divisors above 0.
--   Leading n u v k — k is such a place, and every place before it has a smaller quotient
--   leading_one, leading_stays, leading_moves, leading_end — for a loop: of one place; with one place more; at the end
--   peak_is       — a leading place is the peak
--   peak_largest_ratio — there is one: the peak is a place where u / v is largest
--   peak_ext      — equal numbers have the same peak
--   largest_ratio_row  — the row of a problem whose margins are above 0
--   peak_factor, peak_least — the problem's two numbers are a factor, and none is smaller
use mathlib.Core.Path.{◌≡◌, ap}
use mathlib.Core.Bool.{true, false}
use Prim.Native.Nat.{ℕ, ◌+◌, ◌*◌, ◌≤◌, ◌<◌}
use native.Mathlib.Omega.{arith}
use native.Mathlib.Nat.{mul-le-mul_right, lt_of_mul-lt-mul_right, le_antisymm}
use borrow.Author.Tests.{lt-ltb, le-ltb, ltb-false, le-leb, lt-leb, leb-true}
use lib.Dec.{leb}
use lib.IntN.{nat_abs}
use Rattle.integer.specs.Finite.{first}
use Rattle.integer.specs.LargestRatio.{LargestRatio}
use Rattle.integer.proofs.LargestRatio.{largest_ratio_one, largest_ratio_stays, largest_ratio_moves, largest_ratio_of}
use Rattle.integer.proofs.Search.{Searched, found, nowhere, searched, clash, first_is, first_never, first_past, first_ext}
use Rattle.enclosure.specs.Problem.{Problem}
use Rattle.enclosure.specs.Reckoning.{margin}
use Rattle.enclosure.specs.Sound.{Margins}
use Rattle.enclosure.specs.Quality.{Factor}
use Rattle.enclosure.proofs.Margin.{margin_above}
use Rattle.quality_spec.specs.Peak.{spread, larger_ratio, no_larger_ratio, peak, peak_row, numerator, denominator}

pub record Leading (n : ℕ) (u v : ℕ → ℕ) (k : ℕ) : Type 0 where
  pub largest_ratio_row : LargestRatio n u v k
  pub lowest : (j : ℕ) → j < k → u j * v k < u k * v j

-- a / x is at most b / y, which is smaller than c / z
carry_strict : (a b c x y z : ℕ) → a * y ≤ b * x → b * z < c * y → 0 < x → a * z < c * x
carry_strict a b c x y z h k o =
    let l : a * z * y < c * x * y = omega (arith, mul-le-mul_right z h, mul-le-mul_right x k) in lt_of_mul-lt-mul_right y l

module _ (n : ℕ) (u v : ℕ → ℕ) where
  -- ---- for a loop
  pub leading_one : Leading 1 u v 0
  leading_one = record { largest_ratio_row = largest_ratio_one u v; lowest = λ j l. absurd (omega arith) }

  pub leading_stays : (k : ℕ) → Leading n u v k → u n * v k ≤ u k * v n → Leading (n + 1) u v k
  leading_stays k s h = record { largest_ratio_row = largest_ratio_stays u v n k s.largest_ratio_row h; lowest = s.lowest }

  pub leading_moves : (k : ℕ) → ((i : ℕ) → i < n → 0 < v i) → Leading n u v k → u k * v n < u n * v k → Leading (n + 1) u v n
  leading_moves k o s h = record {
    largest_ratio_row = largest_ratio_moves u v n k (o k s.largest_ratio_row.below) s.largest_ratio_row (omega arith);
    lowest = λ j l. carry_strict (u j) (u k) (u n) (v j) (v k) (v n) (s.largest_ratio_row.most j l) h (o j l);
  }

  -- ---- the peak
  none_larger_ratio : (k : ℕ) → LargestRatio n u v k → no_larger_ratio n u v k ≡ true
  none_larger_ratio k s =
      le-leb n (first n (larger_ratio u v k)) (omega (arith, first_never n (larger_ratio u v k) (λ m l. le-ltb (u k * v m) (u m * v k) (s.most m l))))

  some_larger_ratio : (j k : ℕ) → k < n → u j * v k < u k * v j → no_larger_ratio n u v j ≡ false
  some_larger_ratio j k l h = go (searched n (larger_ratio u v j))
    where
      go : Searched n (larger_ratio u v j) → no_larger_ratio n u v j ≡ false
      go (found i li e p r) = lt-leb n (first n (larger_ratio u v j)) (omega arith)
      go (nowhere e r) = clash (larger_ratio u v j k) (lt-ltb (u j * v k) (u k * v j) h) (r k l)

  pub peak_is : (k : ℕ) → Leading n u v k → peak n u v ≡ k
  unfolding peak
  peak_is k s =
      let l = s.largest_ratio_row.below in
      first_is n (no_larger_ratio n u v) k l (none_larger_ratio k s.largest_ratio_row) (λ j lj. some_larger_ratio j k l (s.lowest j lj))

  pub peak_largest_ratio : ((i : ℕ) → i < n → 0 < v i) → 0 < n → LargestRatio n u v (peak n u v)
  unfolding peak
  peak_largest_ratio o n_pos = go (searched n (no_larger_ratio n u v))
    where
      go : Searched n (no_larger_ratio n u v) → LargestRatio n u v (first n (no_larger_ratio n u v))
      go (found i l e p r) =
          rw e (record {
            below = l;
            most = λ m lm. ltb-false (u i * v m) (u m * v i) (first_past n (larger_ratio u v i) (leb-true n (first n (larger_ratio u v i)) p) m lm);
          })
      go (nowhere e r) = let (k, s) = largest_ratio_of u v n o n_pos in clash (no_larger_ratio n u v k) (none_larger_ratio k s) (r k s.below)

pub leading_end : {m n : ℕ} (u v : ℕ → ℕ) (k : ℕ) → m ≤ n → n ≤ m → Leading m u v k → Leading n u v k
leading_end u v k p q s = rw (← le_antisymm p q) s

pub peak_ext : (n : ℕ) (u u' v v' : ℕ → ℕ) → ((i : ℕ) → i < n → u i ≡ u' i) → ((i : ℕ) → i < n → v i ≡ v' i) → peak n u v ≡ peak n u' v'
unfolding peak
peak_ext n u u' v v' hu hv =
    first_ext n (no_larger_ratio n u v) (no_larger_ratio n u' v')
    (λ k lk. ap (leb n) (first_ext n (larger_ratio u v k) (larger_ratio u' v' k) (λ m lm. rw (hu k lk, hu m lm, hv k lk, hv m lm))))

-- ---- of a problem
module _ (P : Problem) (n_pos : 0 < P.n) (hm : Margins P) where
  pub largest_ratio_row : LargestRatio P.n (spread P) (λ (m : ℕ). nat_abs (margin P m)) (peak_row P)
  largest_ratio_row = peak_largest_ratio P.n (spread P) (λ (m : ℕ). nat_abs (margin P m)) (λ m l. margin_above P m (hm m l)) n_pos

  pub peak_factor : Factor P (numerator P) (denominator P)
  peak_factor = record {
    positive = margin_above P (peak_row P) (hm (peak_row P) largest_ratio_row.below);
    rows = λ m l. omega (arith, largest_ratio_row.most m l);
  }

  pub peak_least : (a c : ℕ) → Factor P a c → numerator P * c ≤ a * denominator P
  peak_least a c f = omega (arith, f.rows (peak_row P) largest_ratio_row.below)
