-- Places of a list, and the list from a place on.
--   by_test — what holds of both outcomes of a test
--   head_at_lem — the element at a place is the head of the list from there;  from — and the rest starts at the next place
--   inside  — a place where another element than 0 stands is below the length
--   rest_at — after w, which stands at a place, the rest starts at that place plus the length of w
use Rattle.std.proofs.Common.{◌≡◌, ℕ, ◌+◌, ◌<◌, Bool, true, false, cond, ltb, List, ◌∷◌, ◌++◌, length, get_or, drop, sym, refl, ◌∙◌, add-zero, add-one, arith, get_or-drop, drop-cons, drop-drop, ltb-false, ltb-true}
use lib.ListN.{get_or-eq_default}
use lib.Seq.{drop-append_seam}

pub by_test {ℓ} : {A : Type ℓ} (P : A → Type 0) (t : Bool) {a b : A} → (t ≡ true → P a) → (t ≡ false → P b) → P (cond t a b)
by_test P true f g = f refl
by_test P false f g = g refl

module _ (s : List ℕ) (at : ℕ) where
  pub head_at_lem : get_or s at 0 ≡ get_or (drop at s) 0 0
  head_at_lem = rw (get_or-drop at s 0 0, add-zero)

  pub from : at < length s → drop at s ≡ get_or s at 0 ∷ drop (at + 1) s
  from h = rw (drop-cons s at 0, add-one)

  -- where a byte other than NUL stands, the line has not ended
  pub inside : 0 < get_or s at 0 → at < length s
  inside h = go (ltb at (length s)) refl
    where
      go : (t : Bool) → ltb at (length s) ≡ t → at < length s
      go true e = ltb-true at (length s) e
      go false e = absurd (omega (arith, get_or-eq_default s 0 (ltb-false at (length s) e)))

  pub inside_byte : {b : ℕ} → b ≡ get_or s at 0 → 0 < b → at < length s
  inside_byte e h = inside (omega arith)

  pub rest_at : (w : List ℕ) {t : List ℕ} → drop at s ≡ w ++ t → drop (at + length w) s ≡ t
  rest_at w {t} e = sym (drop-drop (length w) at s) ∙ rw e (drop-append_seam w t)
