-- The first 0 of an array's first n numbers.
--   first_zero_is — what a search through them finds, or n, is the first place where the number is 0
use mathlib.Core.Path.{◌≡◌, sym, ◌∙◌}
use mathlib.Core.List.{List}
use Prim.Native.Nat.{ℕ, ◌≤◌, ◌<◌}
use native.Mathlib.Omega.{arith}
use lib.Dec.{eqb}
use lib.ListN.{get_or, length, take}
use Rattle.std.specs.Prelude.{MatchOption}
use Rattle.std.specs.List.{All}
use Rattle.std.specs.Option.{unwrap_or}
use Rattle.std.proofs.Common.{Option, None, Some}
use Rattle.std.proofs.lemmas.Bool.{ne_eqb, eq-eqb}
use Rattle.std.proofs.lemmas.List.{length-take-le, get_or-take}
use Rattle.std.proofs.lemmas.List.Elements.{All-get_or}
use Rattle.integer.specs.Finite.{first}
use Rattle.integer.proofs.Search.{first_is, first_never}

pub first_zero_is : (r : Option ℕ) (xs : List ℕ) (n : ℕ) → n ≤ length xs →
    MatchOption r (All (λ (x : ℕ). x ≡ 0 → ⊥) (take n xs))
    (λ (k : ℕ). (k < length (take n xs)) × (get_or (take n xs) k 0 ≡ 0) × ((j : ℕ) → j < k → get_or (take n xs) j 0 ≡ 0 → ⊥)) →
    unwrap_or r n ≡ first n (λ (m : ℕ). eqb (get_or xs m 0) 0)
first_zero_is None xs n l h =
    sym (first_never n _ (λ k m. ne_eqb _ _ (λ z. All-get_or (λ (x : ℕ). x ≡ 0 → ⊥) (take n xs) k 0 (omega (arith, length-take-le n xs l)) h (get_or-take n xs k 0 m ∙ z))))
first_zero_is (Some k) xs n l h =
    let inside : k < n = omega (arith, h.0, length-take-le n xs l) in
    sym (first_is n _ k inside (eq-eqb _ _ (sym (get_or-take n xs k 0 inside) ∙ h.1)) (λ j m. ne_eqb _ _ (λ z. h.2 j m (get_or-take n xs j 0 (omega arith) ∙ z))))
