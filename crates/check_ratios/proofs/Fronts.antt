-- The first n numbers of an array, as a list.
--   sum_front — their sum
--   zero_front — they are all 0 where it is, and only there
--   largest_front — the largest of what a function gives for them
use mathlib.Core.Path.{◌≡◌, refl, sym, ap, ◌∙◌}
use mathlib.Core.Bool.{Bool, true, false}
use mathlib.Core.List.{List}
use Prim.Native.Nat.{ℕ, zero, suc, ◌≤◌, ◌<◌, max}
use native.Mathlib.Omega.{arith}
use native.Mathlib.Numerals.{add-one}
use lib.ListN.{get_or, length, take}
use Rattle.std.specs.List.{sum, All, fold}
use Rattle.std.specs.Prelude.{IsTrue, ◌↔◌}
use Rattle.std.proofs.lemmas.List.Sums.{sum_by_more, fold_more}
use Rattle.std.proofs.lemmas.List.{length-take-le, get_or-take}
use Rattle.std.proofs.lemmas.List.Elements.{All-get_or, All-from_get_or}
use Rattle.integer.specs.Finite.{sumℕ, largest}
use Rattle.integer.proofs.Sum.{sumℕ_next, sumℕ_ext, sumℕ_zero, sumℕ_at}
use Rattle.integer.proofs.Search.{clash}

pub sum_front : (xs : List ℕ) (n : ℕ) → n ≤ length xs → sum (take n xs) ≡ sumℕ n (λ (k : ℕ). get_or xs k 0)
unfolding sumℕ
sum_front xs zero h = refl
sum_front xs (suc n) h = rw (← add-one) (omega (arith, sum_by_more (λ (x : ℕ). x) xs n 0 (omega arith), sumℕ_next n (λ (k : ℕ). get_or xs k 0), sum_front xs n (omega arith)))

pub zero_front : {b : Bool} (xs : List ℕ) (n : ℕ) → n ≤ length xs → (IsTrue b ↔ All (λ (x : ℕ). x ≡ 0) (take n xs)) →
    (b ≡ true → sumℕ n (λ (k : ℕ). get_or xs k 0) ≡ 0) × (b ≡ false → 0 < sumℕ n (λ (k : ℕ). get_or xs k 0))
zero_front {b} xs n l h = (
  (λ e. sumℕ_ext n _ _ (λ k m. sym (get_or-take n xs k 0 m) ∙ All-get_or (λ (x : ℕ). x ≡ 0) (take n xs) k 0 (omega (arith, length-take-le n xs l)) (h.0 e)) ∙ sumℕ_zero n),
  λ e.
      let some : sumℕ n (λ (k : ℕ). get_or xs k 0) ≡ 0 → ⊥ =
      λ z. clash b (h.1 (All-from_get_or (λ (x : ℕ). x ≡ 0) (take n xs) 0 (λ k m. omega (arith, length-take-le n xs l, get_or-take n xs k 0, sumℕ_at n (λ (k : ℕ). get_or xs k 0) k)))) e in
      omega (arith, some),
)

pub largest_front : {A : Type 0} (g : A → ℕ) (d : A) (xs : List A) (n : ℕ) → n ≤ length xs → fold (λ (m : ℕ) (x : A). max m (g x)) 0 (take n xs) ≡ largest n (λ (k : ℕ). g (get_or xs k d))
unfolding largest
largest_front g d xs zero h = refl
largest_front {A} g d xs (suc n) h =
    rw (← add-one) (fold_more (λ (m : ℕ) (x : A). max m (g x)) 0 xs n d (omega arith) ∙ ap (λ (m : ℕ). max m (g (get_or xs n d))) (largest_front g d xs n (omega arith)))
