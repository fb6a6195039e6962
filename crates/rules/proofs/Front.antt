-- The first n values of a list, as a list.
--   every_front — a test that all of them pass, as a test of all places
use Rattle.std.proofs.Common.{◌≡◌, refl, sym, ◌∙◌, Bool, true, false, List, ℕ, ◌≤◌, ◌<◌, length, get_or, arith}
use lib.ListN.{take}
use Rattle.std.specs.List.{All}
use Rattle.std.specs.Prelude.{IsTrue, ◌↔◌}
use Rattle.std.proofs.lemmas.List.{length-take-le, get_or-take}
use Rattle.std.proofs.lemmas.List.Elements.{All-get_or, All-from_get_or}
use Rattle.integer.specs.Finite.{every}
use Rattle.integer.proofs.Search.{clash}
use Rattle.rules.proofs.Every.{every_in, every_at}

pub every_front : {A : Type 0} {b : Bool} (p : A → Bool) (d : A) (xs : List A) (n : ℕ) → n ≤ length xs → (IsTrue b ↔ All (λ (x : A). p x ≡ true) (take n xs)) →
    b ≡ every n (λ (i : ℕ). p (get_or xs i d))
every_front {A} {b} p d xs n l h = go b refl
  where
    each : ℕ → Bool
    each i = p (get_or xs i d)

    none : (r : Bool) → every n each ≡ r → b ≡ false → false ≡ every n each
    none true e f =
        absurd (clash b (h.1 (All-from_get_or (λ (x : A). p x ≡ true) (take n xs) d (λ k m. ap-front k (omega (arith, length-take-le n xs l)) (every_at n each e k (omega (arith, length-take-le n xs l)))))) f)
      where
        ap-front : (k : ℕ) → k < n → each k ≡ true → p (get_or (take n xs) k d) ≡ true
        ap-front k m e = rw (get_or-take n xs k d m) e
    none false e f = sym e

    go : (r : Bool) → b ≡ r → b ≡ every n each
    go true e = e ∙ sym (every_in n each (λ k m. rw (← get_or-take n xs k d m) (All-get_or (λ (x : A). p x ≡ true) (take n xs) k d (omega (arith, length-take-le n xs l)) (h.0 e))))
    go false e = e ∙ none (every n each) refl e
