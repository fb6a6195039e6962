-- Laws of the tests of 20 and 21, and of the ends.
--   fronts_same — two fronts of lists are equal where their numbers are
--   some_wide — whether a limit is above 2^36;  fitting_of — where none is
--   larger_of, smaller_of — std's larger and smaller of two whole numbers
use Rattle.std.proofs.Common.{◌≡◌, refl, sym, ap, ◌∙◌, Bool, ◌||◌, false, ltb, List, ℕ, zero, suc, ◌+◌, ◌≤◌, ◌<◌, ◌^◌, max, ℤ, pos, length, take, get_or-take, arith, length-take}
use Rattle.std.specs.Cmp.Lexicographic.{pointwise}
use Rattle.std.specs.Int.{int_max, int_min}
use Rattle.std.specs.Ordering.{int_eq}
use Rattle.std.specs.List.{list_any}
use Rattle.std.proofs.lemmas.Bool.Decides.{same_from_decides, Decides-int_eq, nat_tests}
use Rattle.std.proofs.lemmas.Int.{ints, by_lt_z}
use Rattle.std.proofs.lemmas.List.{same_lists, get_or_default}
use Rattle.std.proofs.lemmas.List.Folds.{list_any_more}
use Rattle.std.proofs.lemmas.Slice.Eq.{slice_eq-Decides}
use borrow.Author.Tests.{ltb-false}
use Rattle.integer.specs.Finite.{largest}
use Rattle.integer.proofs.Search.{largest_at}
use Rattle.linear.specs.Reach.{ColumnList}
use Rattle.linear.specs.Slice.{at}
use Rattle.common_spec.specs.Ends.{maxℤ, minℤ}
use Rattle.common_spec.specs.Proposals.{all_same, most_steps}
use Rattle.common_spec.proofs.Equations.{all_same_lem, same_all}
use Rattle.common_ends.specs.Met.{limit_at, wide_limits, Fitting}

same_front : (xs ys : List ℤ) (n : ℕ) → n ≤ length xs → n ≤ length ys → ((k : ℕ) → k < n → at xs k ≡ at ys k) → take n xs ≡ take n ys
same_front xs ys n h m e =
    same_lists (take n xs) (take n ys) (omega (arith, length-take {A = ℤ}))
    (λ k d l.
    let below : k < n = omega (arith, length-take {A = ℤ}) in
    rw (get_or-take n xs k d below, get_or-take n ys k d below, get_or_default xs k d (pos 0) (omega arith), get_or_default ys k d (pos 0) (omega arith)) (e k below))

pub fronts_same : (xs ys : List ℤ) (n : ℕ) (r : Bool) → n ≤ length xs → n ≤ length ys → r ≡ pointwise int_eq (take n xs) (take n ys) → r ≡ all_same n (at xs) (at ys)
fronts_same xs ys n r h m e =
    same_from_decides r (all_same n (at xs) (at ys)) (slice_eq-Decides Decides-int_eq (take n xs) (take n ys) r e) (
      (λ s. same_front xs ys n h m (all_same_lem n (at xs) (at ys) s)),
      λ s. same_all n (at xs) (at ys) (λ k l. sym (get_or-take n xs k (pos 0) l) ∙ ap (λ (zs : List ℤ). at zs k) s ∙ get_or-take n ys k (pos 0) l),
    )

above_max : (a b : ℕ) → ltb most_steps (max a b) ≡ (ltb most_steps a || ltb most_steps b)
above_max a b = grind (arith, nat_tests)

pub some_wide : (E : List ℕ) (n : ℕ) → n ≤ length E → list_any (λ (e : ℕ). ltb most_steps e) (take n E) ≡ wide_limits n E
unfolding largest
some_wide E zero h = refl
some_wide E (suc n) h =
    let e : suc n ≡ n + 1 = omega arith in
    ap (λ (m : ℕ). list_any (λ (e : ℕ). ltb most_steps e) (take m E)) e
    ∙ list_any_more (λ (e : ℕ). ltb most_steps e) E n 0 (omega arith)
    ∙ ap (λ (b : Bool). b || ltb most_steps (limit_at E n)) (some_wide E n (omega arith))
    ∙ sym (above_max (largest n (limit_at E)) (limit_at E n))

pub fitting_of : (n k : ℕ) (X : List ℤ) (E : List ℕ) → k ≤ 20 → ColumnList X n (2 ^ 36) → wide_limits n E ≡ false → Fitting n k X E
fitting_of n k X E h x e = record {
  scale = h;
  guess = x;
  narrow = λ i l. omega (arith, largest_at n (limit_at E) i l, ltb-false most_steps (largest n (limit_at E)) e);
}

pub larger_of : (x y : ℤ) → int_max x y ≡ maxℤ x y
larger_of x y = by_lt_z {P = int_max x y ≡ maxℤ x y} y x (λ h. grind (arith, ints)) (λ h. grind (arith, ints))

pub smaller_of : (x y : ℤ) → int_min x y ≡ minℤ x y
smaller_of x y = by_lt_z {P = int_min x y ≡ minℤ x y} y x (λ h. grind (arith, ints)) (λ h. grind (arith, ints))
