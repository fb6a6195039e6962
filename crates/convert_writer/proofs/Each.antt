-- The file of a problem as one line after another, in the shape in which a loop writes it.
--   text_line       — a form's line, and the lines after it
--   rising_last     — the last of rising forms, taken into the rest;  rising_each — rising forms as lines
--   file_each       — the file of a problem: its first two lines, n lines of each part, and the last
--   numerals_last, along_last — the last number of a list;  numerals_each — the numbers of a row, a space before each but the first
--   value_line, row_line, problem_line, scale_line, end_line — the lines of forms as they are written
use mathlib.Core.Path.{◌≡◌, refl, sym, ap, ◌∙◌}
use mathlib.Core.List.{List, [], ◌∷◌, ◌++◌, append_assoc, append-nil}
use Prim.Native.Nat.{ℕ, zero, suc, ◌+◌, ◌-◌, ◌≤◌}
use native.Mathlib.Omega.{arith}
use lib.IntN.{ℤ, pos}
use Rattle.line_numeral.specs.Decimal.{decimal, numeral}
use Rattle.enclosure.specs.Problem.{Problem}
use Rattle.line_form.specs.Form.{Form, problem, scale, end, bytes}
use Rattle.line_form.specs.Spelling.{spell, numerals}
use Rattle.loader_values.specs.declared.Part.TheVariants.{Row, Right, Guess, Inverse, Weight}
use Rattle.loader_spelled.specs.Ones.{text_of}
use Rattle.listing_text.specs.Line.{each, gap}
use Rattle.convert_spec.specs.File.{numbers_along, form_for, rising, parts_then, old_forms, old_file}
use Rattle.convert_writer.specs.Written.{form_line, rest_of, integers, value_text, row_text}

text_line : (f : Form) (fs : List Form) → text_of (f ∷ fs) ≡ form_line f ++ text_of fs
unfolding text_of
text_line f fs = sym (append_assoc (spell f) (10 ∷ []) (text_of fs))

rising_last : (f : ℕ → Form) (c i : ℕ) (rest : List Form) → rising f i (suc c) rest ≡ rising f i c (f (i + c) ∷ rest)
unfolding rising
rising_last f zero i rest = let e : i + 0 ≡ i = omega arith in rw e
rising_last f (suc c) i rest = let e : i + suc c ≡ suc i + c = omega arith in rw e (ap (λ (fs : List Form). f i ∷ fs) (rising_last f c (suc i) rest))

rising_each : (f : ℕ → Form) (n : ℕ) (rest : List Form) → text_of (rising f 0 n rest) ≡ each n (λ (i : ℕ). form_line (f i)) ++ text_of rest
unfolding each
rising_each f zero rest = unfold rising in refl
rising_each f (suc n) rest =
    let e : 0 + n ≡ n = omega arith in
    ap text_of (rising_last f n 0 rest ∙ ap (λ (k : ℕ). rising f 0 n (f k ∷ rest)) e)
    ∙ rising_each f n (f n ∷ rest)
    ∙ ap (λ (l : List ℕ). each n (λ (i : ℕ). form_line (f i)) ++ l) (text_line (f n) rest)
    ∙ sym (append_assoc (each n (λ (i : ℕ). form_line (f i))) (form_line (f n)) (text_of rest))

module _ (P : Problem) where
  pub file_each : old_file P ≡ form_line (problem (pos P.n)) ++ (form_line (scale (pos P.s) (pos P.t)) ++ rest_of P)
  unfolding old_forms
  file_each =
      let z = end ∷ [] in
      let last : text_of z ≡ form_line end = text_line end [] ∙ unfold text_of in append-nil (form_line end) in
      rw (
        text_line (problem (pos P.n)) (scale (pos P.s) (pos P.t) ∷ parts_then P (Row ∷ Right ∷ Guess ∷ Inverse ∷ Weight ∷ []) z),
        text_line (scale (pos P.s) (pos P.t)) (parts_then P (Row ∷ Right ∷ Guess ∷ Inverse ∷ Weight ∷ []) z),
        rising_each (form_for P Row) P.n (parts_then P (Right ∷ Guess ∷ Inverse ∷ Weight ∷ []) z),
        rising_each (form_for P Right) P.n (parts_then P (Guess ∷ Inverse ∷ Weight ∷ []) z),
        rising_each (form_for P Guess) P.n (parts_then P (Inverse ∷ Weight ∷ []) z),
        rising_each (form_for P Inverse) P.n (parts_then P (Weight ∷ []) z),
        rising_each (form_for P Weight) P.n z,
        last,
      )

-- ---- the numbers of a row
numerals_last : (a : ℤ) (zs : List ℤ) (b : ℤ) → numerals a (zs ++ (b ∷ [])) ≡ numerals a zs ++ (bytes " " ++ numeral b)
unfolding numerals
numerals_last a [] b = append_assoc (numeral a) (bytes " ") (numeral b)
numerals_last a (z ∷ zs) b =
    ap (λ (l : List ℕ). numeral a ++ bytes " " ++ l) (numerals_last z zs b) ∙ sym (append_assoc (numeral a ++ bytes " ") (numerals z zs) (bytes " " ++ numeral b))

along_last : (g : ℕ → ℤ) (c j : ℕ) → numbers_along g j (suc c) ≡ numbers_along g j c ++ (g (j + c) ∷ [])
unfolding numbers_along
along_last g zero j = let e : j + 0 ≡ j = omega arith in rw e
along_last g (suc c) j = let e : j + suc c ≡ suc j + c = omega arith in rw e (ap (λ (zs : List ℤ). g j ∷ zs) (along_last g c (suc j)))

numerals_each : (g : ℕ → ℤ) (n : ℕ) → 1 ≤ n → numerals (g 0) (numbers_along g 1 (n - 1)) ≡ each n (λ (j : ℕ). gap j ++ numeral (g j))
numerals_each g zero h = absurd (omega arith)
numerals_each g (suc m) h = let e : suc m - 1 ≡ m = omega arith in rw e (go m)
  where
    go : (m : ℕ) → numerals (g 0) (numbers_along g 1 m) ≡ each (suc m) (λ (j : ℕ). gap j ++ numeral (g j))
    go zero = unfold numbers_along in unfold numerals in unfold each in refl
    go (suc m) =
        let e : 1 + m ≡ suc m = omega arith in
        ap (numerals (g 0)) (along_last g m 1) ∙ numerals_last (g 0) (numbers_along g 1 m) (g (1 + m)) ∙ rw (go m, e) (unfold each in refl)

-- ---- the line of a form
module _ (word : List ℕ) (i : ℕ) where
  pub value_line : (z : ℤ) → value_text word (i + 1) z ≡ (word ++ numeral (pos (suc i)) ++ bytes " " ++ numeral z ++ bytes ")") ++ (10 ∷ [])
  unfolding numeral
  value_line z =
      let e : i + 1 ≡ suc i = omega arith in
      rw e (sym (append_assoc (word ++ numeral (pos (suc i)) ++ bytes " " ++ numeral z) (bytes ")") (10 ∷ [])))

  pub row_line : (g : ℕ → ℤ) (n : ℕ) → 1 ≤ n → row_text word (i + 1) n g ≡ (word ++ numeral (pos (suc i)) ++ bytes " (" ++ numerals (g 0) (numbers_along g 1 (n - 1)) ++ bytes "))") ++ (10 ∷ [])
  unfolding numeral
  row_line g n h =
      let e : i + 1 ≡ suc i = omega arith in
      rw (e, numerals_each g n h) (sym (append_assoc (word ++ numeral (pos (suc i)) ++ bytes " (" ++ integers n g) (bytes "))") (10 ∷ [])))

pub problem_line : (n : ℕ) → bytes "(problem " ++ decimal n ++ bytes ")\n" ≡ form_line (problem (pos n))
unfolding spell numeral
problem_line n = sym (append_assoc (bytes "(problem " ++ decimal n) (bytes ")") (10 ∷ []))

pub scale_line : (s t : ℕ) → bytes "(scale " ++ decimal s ++ bytes " " ++ decimal t ++ bytes ")\n" ≡ form_line (scale (pos s) (pos t))
unfolding spell numeral
scale_line s t = sym (append_assoc (bytes "(scale " ++ decimal s ++ bytes " " ++ decimal t) (bytes ")") (10 ∷ []))

pub end_line : bytes "(end)\n" ≡ form_line end
unfolding spell
end_line = refl
