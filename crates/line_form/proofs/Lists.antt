-- Laws of a list of numbers: the first, and the others, each after a single space.
--   tails          — the spelling of the others
--   numerals_is    — the spelling of a list is that of its first number, and that of the others
--   others_then    — the others that are read, as a part of the line
--   others_spelled — the others that are spelled, before the two closing brackets, are read
--   others_none    — where a number stands after the space, and no bracket, there are none
use mathlib.Core.Path.{◌≡◌, refl, sym, ◌∙◌}
use mathlib.Core.Bool.{false}
use mathlib.Core.List.{List, [], ◌∷◌, ◌++◌, append-nil, append_assoc}
use Prim.Native.Nat.{ℕ, zero, suc, ◌+◌, ◌≤◌}
use native.Mathlib.Nat.{add-zero}
use native.Mathlib.Omega.{arith}
use borrow.Author.Tests.{eq-eqb, ne_eqb, eqb-true}
use lib.Dec.{eqb}
use lib.IntN.{ℤ, pos, negsuc}
use lib.ListN.{length, drop, get_or, length-append, get_or-eq_default}
use Rattle.line_numeral.specs.Decimal.{numeral}
use Rattle.line_numeral.specs.Numeral.{lost, magnitude_at, number_at}
use Rattle.line_numeral.proofs.Places.{by_test, head_at_lem, from, inside, rest_at}
use Rattle.line_numeral.proofs.Decimal.{decimal_small}
use Rattle.line_numeral.proofs.Digits.{Stops, first_digit}
use Rattle.line_numeral.proofs.Spelling.{number_spelled}
use Rattle.line_form.specs.Form.{bytes}
use Rattle.line_form.specs.Spelling.{numerals}
use Rattle.line_form.specs.Reading.{starts, word_at, Others, others_at}
use Rattle.line_form.proofs.Words.{Then, then, part, number_then}

unfoldable pub tails : List ℤ → List ℕ
tails [] = []
tails (z ∷ zs) = (bytes " " ++ numeral z) ++ tails zs

pub numerals_is : (a : ℤ) (zs : List ℤ) → numerals a zs ≡ numeral a ++ tails zs
unfolding numerals tails
numerals_is a [] = sym (append-nil (numeral a))
numerals_is a (b ∷ zs) = rw (numerals_is b zs) (simp append_assoc)

-- each of them has a byte or more
pub tails_length : (zs : List ℤ) → length zs ≤ length (tails zs)
unfolding tails
tails_length [] = omega arith
tails_length (z ∷ zs) = simp length-append (omega (arith, tails_length zs))

-- ---- what is read
module _ (s : List ℕ) where
  space_then : (at : ℕ) → get_or s at 0 ≡ 32 → Then s at (bytes " ") (at + 1)
  space_then at e = part (bytes " ") (omega arith) (λ h. from s at (inside s at (omega arith)) ∙ rw e)

  pub others_then : (f at : ℕ) → Then s at (tails (others_at s f at).values) (others_at s f at).next
  unfolding others_at tails
  others_then zero at = record { reach = λ h. (h, refl) }
  others_then (suc f) at =
      by_test (λ (o : Others). Then s at (tails o.values) o.next) (eqb (get_or s at 0) 32)
      (λ e. then (then (space_then at (eqb-true (get_or s at 0) 32 e)) (number_then s (at + 1))) (others_then f (number_at s (at + 1)).next))
      (λ _. record { reach = λ h. (h, refl) })

-- ---- what is spelled
pub stops_tails : (zs : List ℤ) → Stops (tails zs ++ bytes "))")
unfolding tails
stops_tails [] = omega arith
stops_tails (z ∷ zs) = omega arith

module _ (s : List ℕ) where
  pub others_spelled : (f at : ℕ) (zs : List ℤ) → length zs ≤ f → drop at s ≡ tails zs ++ bytes "))"
      → others_at s f at ≡ record { values = zs; next = at + length (tails zs) }
  unfolding others_at tails
  others_spelled zero at [] l e = rw add-zero
  others_spelled (suc f) at [] l e = rw (head_at_lem s at, e, add-zero)
  others_spelled zero at (z ∷ zs) l e = absurd (omega arith)
  others_spelled (suc f) at (z ∷ zs) l e =
      let r : drop (at + 1) s ≡ numeral z ++ (tails zs ++ bytes "))") = rest_at s at (bytes " ") e ∙ append_assoc (numeral z) (tails zs) (bytes "))") in
      let n : number_at s (at + 1) ≡ record { value = z; next = at + 1 + length (numeral z) } = number_spelled s (tails zs ++ bytes "))") (stops_tails zs) (at + 1) z r in
      let o = others_spelled f (at + 1 + length (numeral z)) zs (omega arith) (rest_at s (at + 1) (numeral z) r) in
      let b : at + 1 + length (numeral z) + length (tails zs) ≡ at + suc (length (numeral z ++ tails zs)) = simp length-append (omega arith) in
      rw (eq-eqb (get_or s at 0) 32 (head_at_lem s at ∙ rw e), n, o, b)

-- ---- no list
numeral_first : (z : ℤ) (t : List ℕ) → get_or (numeral z ++ t) 0 0 ≡ 40 → ⊥
unfolding numeral
numeral_first (pos zero) t e = absurd (omega (arith, rw (decimal_small 0 (omega arith)) at e))
numeral_first (pos (suc n)) t e = omega (arith, first_digit (suc n) t (omega arith))
numeral_first (negsuc n) t e = omega arith

other_start : (l : List ℕ) (b : ℕ) → (get_or l 0 0 ≡ b → ⊥) → starts (b ∷ []) l ≡ false
unfolding starts
other_start [] b n = refl
other_start (c ∷ l) b n = rw (ne_eqb c b n)

module _ (s : List ℕ) where
  number_lost : (number_at s (lost s)).next ≡ lost s
  unfolding number_at magnitude_at
  number_lost = rw (get_or-eq_default s 0 {n = lost s} (omega arith))

  others_lost : (f : ℕ) → (others_at s f (lost s)).values ≡ []
  unfolding others_at
  others_lost zero = refl
  others_lost (suc f) = rw (get_or-eq_default s 0 {n = lost s} (omega arith))

  pub others_none : (at : ℕ) (z : ℤ) (t : List ℕ) → drop at s ≡ bytes " " ++ (numeral z ++ t) → (others_at s (length s) (number_at s (word_at s at (bytes " ("))).next).values ≡ []
  unfolding word_at starts
  others_none at z t e = rw (e, other_start (numeral z ++ t) 40 (numeral_first z t), number_lost, others_lost (length s))
