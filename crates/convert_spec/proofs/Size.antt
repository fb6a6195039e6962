-- How long the file of a problem is.
--   file_next      — the bytes of one line more
--   part_most      — the line of a part's form: so many bytes, and those of its i
--   place_saves, rising_size, part_size — the lines of a part; i has one byte below 10, and two from there on
--   old_size — at most 21,300 bytes
use mathlib.Core.Path.{◌≡◌}
use mathlib.Core.List.{List, [], ◌∷◌}
use Prim.Native.Nat.{ℕ, zero, suc, ◌+◌, ◌*◌, ◌-◌, ◌≤◌, ◌<◌, min}
use native.Mathlib.Decide.{dec_lt}
use native.Mathlib.Nat.{suc-mul}
use native.Mathlib.Omega.{arith}
use lib.IntN.{ℤ, pos}
use lib.ListN.{length, length-append}
use Rattle.rules.specs.declared.Kind.TheVariants as kind
use Rattle.enclosure.specs.Problem.{Problem}
use Rattle.line_numeral.specs.Decimal.{numeral}
use Rattle.line_form.specs.Form.{Form, problem, scale, end}
use Rattle.line_form.specs.Spelling.{spell}
use Rattle.loader_values.specs.declared.Part.{Part}
use Rattle.loader_values.specs.declared.Part.TheVariants.{Row, Right, Guess, Inverse, Weight}
use Rattle.loader_spelled.specs.Ones.{text_of}
use Rattle.loader_spelled.proofs.Length.{kind_most, numerals_most, place_small, place_most, problem_length, scale_length, row_length, right_length, guess_length, inverse_length, weight_length, end_length}
use Rattle.convert_spec.specs.File.{numbers_along, form_for, rising, parts_then, old_forms, old_file}
use Rattle.convert_spec.specs.Numbers.{NumbersInRange}
use Rattle.convert_spec.proofs.Numbers.{size_within, row_count, row_inside}

-- the most bytes of a line of the part, with its line feed, beside those of i
abbrev pub most : Part → ℕ
most Row = 297
most Right = 21
most Guess = 22
most Inverse = 301
most Weight = 15

file_next : (f : Form) (fs : List Form) → length (text_of (f ∷ fs)) ≡ length (spell f) + 1 + length (text_of fs)
unfolding text_of
file_next f fs = simp length-append (omega arith)

-- one byte below 10, two from there on
place_saves : (i : ℕ) → i < 32 → length (numeral (pos (suc i))) + min 9 (suc i) ≤ 2 + min 9 i
place_saves i l = go (dec_lt i 9)
  where
    go : Dec (i < 9) → length (numeral (pos (suc i))) + min 9 (suc i) ≤ 2 + min 9 i
    go (yes h) = omega (arith, place_small (suc i) (omega arith))
    go (no h) = omega (arith, place_most (suc i) (omega arith))

module _ (P : Problem) (w : NumbersInRange P) where
  -- the numbers of a row after the first
  abbrev others : (ℕ → ℤ) → List ℤ
  others g = numbers_along g 1 (P.n - 1)

  pub part_most : (p : Part) (i : ℕ) → i < P.n → length (spell (form_for P p i)) + 1 ≤ most p + length (numeral (pos (suc i)))
  part_most Row i l =
      omega (
        arith,
        (size_within w).1,
        row_length (pos (suc i)) (P.A i 0) (others (P.A i)),
        row_count (P.A i) P.n (size_within w).0,
        numerals_most kind.Matrix (P.A i 0) (others (P.A i)) (row_inside (P.A i) P.n (size_within w).0 kind.Matrix (λ j m. w.matrix i j l m)),
      )
  part_most Right i l = omega (arith, right_length (pos (suc i)) (P.b i), kind_most kind.Right (P.b i) (w.right i l))
  part_most Guess i l = omega (arith, guess_length (pos (suc i)) (P.X i), kind_most kind.Guess (P.X i) (w.guess i l))
  part_most Inverse i l =
      omega (
        arith,
        (size_within w).1,
        inverse_length (pos (suc i)) (P.G i 0) (others (P.G i)),
        row_count (P.G i) P.n (size_within w).0,
        numerals_most kind.Inverse (P.G i 0) (others (P.G i)) (row_inside (P.G i) P.n (size_within w).0 kind.Inverse (λ j m. w.inverse i j l m)),
      )
  part_most Weight i l = omega (arith, weight_length (pos (suc i)) (pos (P.w i)), kind_most kind.Weight (pos (P.w i)) (w.weights i l))

  rising_size : (p : Part) (rest : List Form) (c i : ℕ) → i + c ≤ P.n
      → length (text_of (rising (form_for P p) i c rest)) + min 9 (i + c) ≤ c * (most p + 2) + min 9 i + length (text_of rest)
  unfolding rising
  rising_size p rest zero i l = omega arith
  rising_size p rest (suc c) i l =
      omega (
        arith,
        (size_within w).1,
        file_next (form_for P p i) (rising (form_for P p) (suc i) c rest),
        part_most p i (omega arith),
        place_saves i (omega (arith, (size_within w).1)),
        rising_size p rest c (suc i) (omega arith),
        suc-mul c (most p + 2),
      )

  part_size : (p : Part) (rest : List Form) → length (text_of (rising (form_for P p) 0 P.n rest)) + min 9 P.n ≤ P.n * (most p + 2) + length (text_of rest)
  part_size p rest = omega (arith, rising_size p rest P.n 0 (omega arith))

  pub old_size : length (old_file P) ≤ 21300
  unfolding old_forms
  old_size =
      let z = end ∷ [] in
      let e : length (text_of z) ≡ 6 = rw (file_next end []) (unfold text_of in omega (arith, end_length)) in
      omega (
        arith,
        (size_within w).1,
        e,
        part_size Weight z,
        part_size Inverse (parts_then P (Weight ∷ []) z),
        part_size Guess (parts_then P (Inverse ∷ Weight ∷ []) z),
        part_size Right (parts_then P (Guess ∷ Inverse ∷ Weight ∷ []) z),
        part_size Row (parts_then P (Right ∷ Guess ∷ Inverse ∷ Weight ∷ []) z),
        file_next (problem (pos P.n)) (scale (pos P.s) (pos P.t) ∷ parts_then P (Row ∷ Right ∷ Guess ∷ Inverse ∷ Weight ∷ []) z),
        file_next (scale (pos P.s) (pos P.t)) (parts_then P (Row ∷ Right ∷ Guess ∷ Inverse ∷ Weight ∷ []) z),
        problem_length (pos P.n),
        scale_length (pos P.s) (pos P.t),
        kind_most kind.Size (pos P.n) w.size,
        kind_most kind.SolutionScale (pos P.s) w.solution,
        kind_most kind.InverseScale (pos P.t) w.inverse_scale,
      )
