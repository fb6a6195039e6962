-- 02, Paper 5: "a list of other than two numbers there is 2": no such line is a form, with one number in the list as with three, or with 33.
--   right_unread — a line (right i (a ..)) whose list has one number, or three or more, reads as no form
use mathlib.Core.Path.{◌≡◌, refl, ◌∙◌}
use mathlib.Core.List.{List, [], ◌∷◌, ◌++◌, append_assoc}
use mathlib.Core.Option.{none}
use Prim.Native.Nat.{ℕ, suc}
use native.Mathlib.Omega.{arith}
use borrow.Author.Tests.{ne_eqb}
use lib.IntN.{ℤ}
use lib.ListN.{length, get_or}
use Rattle.line_numeral.specs.Decimal.{numeral}
use Rattle.line_numeral.specs.Numeral.{lost, magnitude_at, number_at}
use Rattle.line_numeral.proofs.Places.{head_at_lem}
use Rattle.line_form.specs.declared.Word.TheVariants.{Right}
use Rattle.line_form.specs.Form.{bytes}
use Rattle.line_form.specs.Spelling.{numerals}
use Rattle.line_form.specs.Reading.{opening, second_number, end_of, reading}
use Rattle.line_form.proofs.Words.{word_lost}
use Rattle.line_form.proofs.Shapes.{headed, after, number_step, word_step, many_spelled}

-- where a bracket stands, no number does
no_number : (s : List ℕ) (at : ℕ) → get_or s at 0 ≡ 40 → (number_at s at).next ≡ lost s
unfolding number_at magnitude_at
no_number s at e = rw e

module _ (s : List ℕ) (i a : ℤ) (zs : List ℤ) (e : s ≡ opening Right ++ numeral i ++ bytes " (" ++ numerals a zs ++ bytes "))") where
  abbrev rest : List ℕ
  rest = numerals a zs ++ bytes "))"

  second_lost : (second_number s (length (opening Right))).next ≡ lost s
  second_lost =
      let p = opening Right ++ numeral i in
      let n = number_step s (opening Right) i (bytes " (" ++ rest) (omega arith) (e ∙ simp append_assoc) in
      let g = word_step s p (bytes " ") (bytes "(" ++ rest) (e ∙ simp append_assoc) in
      let b : get_or s (length (p ++ bytes " ")) 0 ≡ 40 = head_at_lem s (length (p ++ bytes " ")) ∙ rw (after s (p ++ bytes " ") (bytes "(") rest (e ∙ simp append_assoc)) in
      rw (n, g) (no_number s (length (p ++ bytes " ")) b)

  end_lost : (length zs ≡ 1 → ⊥) → (ys : List ℤ) → zs ≡ ys → end_of s Right (length (opening Right)) ≡ lost s
  end_lost other [] z = rw ((many_spelled s (opening Right) i a zs e).more, z, second_lost) (word_lost s (bytes ")") (omega arith))
  end_lost other (y ∷ []) z = absurd (other (rw z))
  end_lost other (y ∷ x ∷ ys) z =
      rw ((many_spelled s (opening Right) i a zs e).more, z, ne_eqb (suc (length (y ∷ x ∷ ys))) 1 (λ n. omega arith), ne_eqb (suc (length (y ∷ x ∷ ys))) 2 (λ n. omega arith))
      (word_lost s (bytes ")") (omega arith))

  pub right_unread : (length zs ≡ 1 → ⊥) → reading s ≡ none
  unfolding reading
  right_unread other =
      rw (headed s Right (many_spelled s (opening Right) i a zs e).rest, ne_eqb (end_of s Right (length (opening Right))) (length s) (λ n. omega (arith, end_lost other zs refl)))
