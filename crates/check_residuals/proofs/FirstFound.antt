-- What a search through the places below n finds.
--   first_place — it, or n, is the first place
--   upto_column, place_in_column — where nothing is found in j columns: nothing before a place of the next, and the first place found there
use mathlib.Core.Path.{◌≡◌, sym, ◌∙◌}
use mathlib.Core.Bool.{Bool, true, false}
use Prim.Native.Nat.{ℕ, ◌+◌, ◌*◌, ◌-◌, ◌%◌, ◌≤◌, ◌<◌}
use native.Mathlib.Omega.{arith}
use native.Mathlib.Decide.{dec_le}
use Rattle.std.proofs.Common.{Option, None, Some}
use Rattle.std.specs.Option.{unwrap_or}
use Rattle.integer.specs.Finite.{first}
use Rattle.integer.proofs.Search.{first_is, first_never}
use Rattle.linear.proofs.Places.{place, place_row}
use Rattle.check_residuals.specs.Place.{FirstFound}

pub first_place : (r : Option ℕ) (n : ℕ) (f g : ℕ → Bool) → ((k : ℕ) → k < n → f k ≡ g k) → FirstFound r n f → unwrap_or r n ≡ first n g
first_place None n f g e h = sym (first_never n g (λ k l. sym (e k l) ∙ h k l))
first_place (Some k) n f g e h = sym (first_is n g k h.0 (sym (e k h.0) ∙ h.1) (λ j l. sym (e j (omega (arith, h.0))) ∙ h.2 j l))

-- the places of j columns of n, and the first b of one more
module _ (n : ℕ) (f : ℕ → ℕ → Bool) (j : ℕ) (none : (i : ℕ) → i < j * n → f (i % n) i ≡ false) where
  pub upto_column : (b : ℕ) → b ≤ n → ((k : ℕ) → k < b → f k (j * n + k) ≡ false) → (i : ℕ) → i < j * n + b → f (i % n) i ≡ false
  upto_column b most h i l = go (dec_le (j * n) i)
    where
      go : Dec (j * n ≤ i) → f (i % n) i ≡ false
      go (no m) = none i (omega arith)
      go (yes m) =
          let here : i ≡ j * n + (i - j * n) = omega arith in
          rw here (rw (place_row j (i - j * n) n (omega arith)) (h (i - j * n) (omega arith)))

  pub place_in_column : (k : ℕ) → j < n → k < n → f k (j * n + k) ≡ true → ((i : ℕ) → i < k → f i (j * n + i) ≡ false) → j * n + k ≡ first (n * n) (λ (i : ℕ). f (i % n) i)
  place_in_column k lj lk h before =
      sym (first_is (n * n) (λ (i : ℕ). f (i % n) i) (j * n + k) (place lj lk) (rw (place_row j k n lk) h) (upto_column k (omega arith) before))
