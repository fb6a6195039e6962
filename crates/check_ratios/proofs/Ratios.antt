-- The row where magnitudes / margins is largest, found by comparing quotients and then remainders, or by products.
--   product_moves, product_stays, largest_ratio_end — a search by products: with one row more, and at the end
--   Best, best_first, best_next, best_end — the loop's invariant: at the first row, with one row more, and at the end
use mathlib.Core.Path.{◌≡◌, refl, sym, ap, ◌∙◌, subst}
use mathlib.Core.Bool.{Bool, true, false, cond}
use Prim.Native.Nat.{ℕ, ◌+◌, ◌*◌, ◌/◌, ◌%◌, ◌≤◌, ◌<◌, ◌^◌}
use native.Mathlib.Omega.{arith}
use native.Mathlib.Nat.{le_antisymm, mul-le-mul, mul-le-mul_right, div-add-mod', mod-lt}
use borrow.Author.Tests.{ltb-true, ltb-false}
use lib.Dec.{ltb}
use Rattle.integer.specs.LargestRatio.{LargestRatio}
use Rattle.integer.proofs.LargestRatio.{largest_ratio_one, largest_ratio_stays, largest_ratio_moves}
use Rattle.check_ratios.specs.declared.Ratio.{Ratio}
use Rattle.check_ratios.specs.Ratio.{ratio_of, larger_ratio_of, SmallTerms}

-- by products
module _ (u v : ℕ → ℕ) where
  pub product_moves : (n k : ℕ) {r : Bool} → 0 < v k → LargestRatio n u v k → r ≡ ltb (u k * v n) (u n * v k) → r ≡ true → LargestRatio (n + 1) u v n
  product_moves n k above s e t = largest_ratio_moves u v n k above s (omega (arith, ltb-true (u k * v n) (u n * v k) (sym e ∙ t)))

  pub product_stays : (n k : ℕ) {r : Bool} → LargestRatio n u v k → r ≡ ltb (u k * v n) (u n * v k) → r ≡ false → LargestRatio (n + 1) u v k
  product_stays n k s e f = largest_ratio_stays u v n k s (ltb-false (u k * v n) (u n * v k) (sym e ∙ f))

  pub largest_ratio_end : {m n k : ℕ} → m ≤ n → n ≤ m → LargestRatio m u v k → LargestRatio n u v k
  largest_ratio_end {m} {n} {k} p q s = subst (λ (x : ℕ). LargestRatio x u v k) (le_antisymm p q) s

-- by quotients, and by remainders
quotient_less : (Q R G q r g : ℕ) → R < G → Q < q → (Q * G + R) * g ≤ (q * g + r) * G
quotient_less Q R G q r g h l = omega (arith, mul-le-mul_right (g * G) l, mul-le-mul_right g h)

quotient_same : (Q R G q r g : ℕ) → Q ≡ q → R * g ≤ r * G → (Q * G + R) * g ≤ (q * g + r) * G
quotient_same Q R G q r g e h = rw e (omega arith)

-- which of two rows has the larger ratio
module _ (k P G m p g : ℕ) (h_g : 0 < G) (hg : 0 < g) where
  whole : (x y : ℕ) → x / y * y + x % y ≡ x
  whole x y = div-add-mod' x y

  larger_ratio_outcome : (R : Ratio → Type 0) → (p * G ≤ P * g → R (ratio_of k P G)) → (P * g ≤ p * G → R (ratio_of m p g)) →
      R (larger_ratio_of (ratio_of k P G) (ratio_of m p g))
  unfolding larger_ratio_of
  larger_ratio_outcome R a b = go (ltb (P / G) (p / g)) refl (ltb (p / g) (P / G)) refl (ltb (P % G * g) (p % g * G)) refl
    where
      go : (x : Bool) → ltb (P / G) (p / g) ≡ x → (y : Bool) → ltb (p / g) (P / G) ≡ y → (z : Bool) → ltb (P % G * g) (p % g * G) ≡ z →
          R (cond x (ratio_of m p g) (cond y (ratio_of k P G) (cond z (ratio_of m p g) (ratio_of k P G))))
      go true e y f z h =
          b (rw (whole P G, whole p g) at (quotient_less (P / G) (P % G) G (p / g) (p % g) g (mod-lt P h_g) (ltb-true (P / G) (p / g) e)))
      go false e true f z h =
          a (rw (whole p g, whole P G) at (quotient_less (p / g) (p % g) g (P / G) (P % G) G (mod-lt p hg) (ltb-true (p / g) (P / G) f)))
      go false e false f true h =
          b (rw (whole P G, whole p g) at (quotient_same (P / G) (P % G) G (p / g) (p % g) g (omega (arith, ltb-false (P / G) (p / g) e, ltb-false (p / g) (P / G) f)) (omega (arith, ltb-true (P % G * g) (p % g * G) h))))
      go false e false f false h =
          a (rw (whole p g, whole P G) at (quotient_same (p / g) (p % g) g (P / G) (P % G) G (omega (arith, ltb-false (P / G) (p / g) e, ltb-false (p / g) (P / G) f)) (ltb-false (P % G * g) (p % g * G) h)))

pub record Best (magnitudes margins : ℕ → ℕ) (n : ℕ) (best : Ratio) : Type 0 where
  pub at : ℕ
  pub is : best ≡ ratio_of at (magnitudes at) (margins at)
  pub largest_ratio_row : LargestRatio n magnitudes margins at

pub best_first : (magnitudes margins : ℕ → ℕ) {best : Ratio} → best ≡ ratio_of 0 (magnitudes 0) (margins 0) → Best magnitudes margins 1 best
best_first magnitudes margins e = record { at = 0; is = e; largest_ratio_row = largest_ratio_one magnitudes margins }

pub best_next : (magnitudes margins : ℕ → ℕ) (n : ℕ) {best next new : Ratio} → ((m : ℕ) → m < n + 1 → 0 < margins m) → Best magnitudes margins n best →
    next ≡ ratio_of n (magnitudes n) (margins n) → new ≡ larger_ratio_of best next → Best magnitudes margins (n + 1) new
best_next magnitudes margins n pos b e f =
    let k : ℕ = b.at in
    let above : 0 < margins k = pos k (omega (arith, b.largest_ratio_row.below)) in
    let w : larger_ratio_of (ratio_of k (magnitudes k) (margins k)) (ratio_of n (magnitudes n) (margins n)) ≡ _ = sym (f ∙ rw (b.is, e)) in
    subst (Best magnitudes margins (n + 1)) w
    (larger_ratio_outcome k (magnitudes k) (margins k) n (magnitudes n) (margins n) above (pos n (omega arith)) (Best magnitudes margins (n + 1))
    (λ h. record { at = k; is = refl; largest_ratio_row = largest_ratio_stays magnitudes margins n k b.largest_ratio_row h })
    (λ h. record { at = n; is = refl; largest_ratio_row = largest_ratio_moves magnitudes margins n k above b.largest_ratio_row h }))

pub narrow : (m p g : ℕ) {a : Ratio} → a ≡ ratio_of m p g → 0 < g → g ≤ 2 ^ 30 → SmallTerms a
narrow m p g e h l = rw e (record { low = omega (arith, mod-lt p h); high = l })

-- each product of a remainder and a margin fits
pub products : (a b : Ratio) → SmallTerms a → SmallTerms b → (a.remainder * b.margin ≤ 2 ^ 60) × (b.remainder * a.margin ≤ 2 ^ 60)
products a b h k = (mul-le-mul h.low k.high, mul-le-mul k.low h.high)

pub best_end : (magnitudes margins : ℕ → ℕ) {m n : ℕ} (best : Ratio) → m ≤ n → n ≤ m → Best magnitudes margins m best → LargestRatio n magnitudes margins best.row
best_end magnitudes margins best p q b =
    let row : best.row ≡ b.at = ap (λ (r : Ratio). r.row) b.is in
    rw (row, ← le_antisymm p q) b.largest_ratio_row
