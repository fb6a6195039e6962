-- The three shapes of a spelled line after its opening: one number, two numbers, and a number with a list; each part is read at its place.
--   headed — the opening is read
--   one_spelled, two_spelled, many_spelled — the numbers are read, and the line ends after its last bracket
--   reads  — so the line reads as its form
use mathlib.Core.Path.{◌≡◌, sym, ap, ◌∙◌}
use mathlib.Core.List.{List, [], ◌++◌, append-nil, append_assoc}
use mathlib.Core.Option.{some}
use Prim.Native.Nat.{ℕ}
use native.Mathlib.Omega.{arith}
use borrow.Author.Tests.{eq-eqb}
use lib.IntN.{ℤ}
use lib.ListN.{length, drop, length-append}
use Rattle.line_numeral.specs.Decimal.{numeral}
use Rattle.line_numeral.specs.Numeral.{number_at}
use Rattle.line_numeral.proofs.Digits.{Stops}
use Rattle.line_numeral.proofs.Spelling.{number_spelled}
use lib.Seq.{drop-append_seam}
use Rattle.line_form.specs.declared.Word.{Word}
use Rattle.line_form.specs.Form.{bytes}
use Rattle.line_form.specs.Spelling.{numerals}
use Rattle.line_form.specs.Reading.{opening, word_at, head_at, others_at, first_number, second_number, front, others, close, end_of, form_at, reading}
use Rattle.line_form.proofs.Words.{word_spelled, head_spelled}
use Rattle.line_form.proofs.Lists.{tails, tails_length, numerals_is, stops_tails, others_spelled, others_none}

-- s starts with p
abbrev pub Starts : List ℕ → List ℕ → Type 0
Starts s p = (t : List ℕ) × (s ≡ p ++ t)

-- the three shapes of a line s after its opening p, as the reading has them
pub record One (s p : List ℕ) (i : ℤ) : Type 0 where
  pub rest : Starts s p
  pub one : (first_number s (length p)).value ≡ i
  pub ends : word_at s (first_number s (length p)).next (bytes ")") ≡ length s

pub record Two (s p : List ℕ) (i v : ℤ) : Type 0 where
  pub rest : Starts s p
  pub one : (first_number s (length p)).value ≡ i
  pub two : (second_number s (length p)).value ≡ v
  pub none : (others s (length p)).values ≡ []
  pub ends : word_at s (second_number s (length p)).next (bytes ")") ≡ length s

pub record Many (s p : List ℕ) (i a : ℤ) (zs : List ℤ) : Type 0 where
  pub rest : Starts s p
  pub one : (first_number s (length p)).value ≡ i
  pub head : (front s (length p)).value ≡ a
  pub more : (others s (length p)).values ≡ zs
  pub ends : word_at s (close s (length p)) (bytes ")") ≡ length s

module _ (s : List ℕ) where
  pub reads : (w : Word) (h : ℕ) → head_at s 0 ≡ record { word = w; next = h } → end_of s w h ≡ length s → reading s ≡ some (form_at s w h)
  unfolding reading
  reads w h p e = rw (p, eq-eqb _ (length s) e)

  pub headed : (w : Word) → Starts s (opening w) → head_at s 0 ≡ record { word = w; next = length (opening w) }
  headed w r = rw r.1 (head_spelled w r.0)

  -- each part after the bytes p, with the bytes t after it
  pub after : (p w t : List ℕ) → s ≡ p ++ w ++ t → drop (length p) s ≡ w ++ t
  after p w t e = rw (e, append_assoc) (drop-append_seam p (w ++ t))

  pub number_step : (p : List ℕ) (z : ℤ) (t : List ℕ) → Stops t → s ≡ p ++ numeral z ++ t → number_at s (length p) ≡ record { value = z; next = length (p ++ numeral z) }
  number_step p z t h e = rw length-append (number_spelled s t h (length p) z (after p (numeral z) t e))

  pub word_step : (p w t : List ℕ) → s ≡ p ++ w ++ t → word_at s (length p) w ≡ length (p ++ w)
  word_step p w t e = rw length-append (word_spelled s (length p) w t (after p w t e))

  others_step : (p : List ℕ) (zs : List ℤ) → s ≡ p ++ tails zs ++ bytes "))" → others_at s (length s) (length p) ≡ record { values = zs; next = length (p ++ tails zs) }
  others_step p zs e = rw length-append (others_spelled s (length s) (length p) zs (omega (arith, tails_length zs, simp length-append at (ap length e))) (after p (tails zs) (bytes "))") e))

  pub one_spelled : (p : List ℕ) (i : ℤ) → s ≡ p ++ numeral i ++ bytes ")" → One s p i
  one_spelled p i e =
      let n = number_step p i (bytes ")") (omega arith) e in
      let c = word_step (p ++ numeral i) (bytes ")") [] (e ∙ simp append-nil) in
      record { rest = (_, e ∙ append_assoc p (numeral i) (bytes ")")); one = rw n; ends = rw n (c ∙ ap length (sym e)) }

  pub two_spelled : (p : List ℕ) (i v : ℤ) → s ≡ p ++ numeral i ++ bytes " " ++ numeral v ++ bytes ")" → Two s p i v
  two_spelled p i v e =
      let n = number_step p i (bytes " " ++ (numeral v ++ bytes ")")) (omega arith) (e ∙ simp append_assoc) in
      let g = word_step (p ++ numeral i) (bytes " ") (numeral v ++ bytes ")") (e ∙ simp append_assoc) in
      let m = number_step (p ++ numeral i ++ bytes " ") v (bytes ")") (omega arith) e in
      let c = word_step (p ++ numeral i ++ bytes " " ++ numeral v) (bytes ")") [] (e ∙ simp append-nil) in
      record { rest = (numeral i ++ (bytes " " ++ (numeral v ++ bytes ")")), e ∙ simp append_assoc); one = rw n; two = rw (n, g, m); none = rw n (others_none s (length (p ++ numeral i)) v (bytes ")") (after (p ++ numeral i) (bytes " ") (numeral v ++ bytes ")") (e ∙ simp append_assoc))); ends = rw (n, g, m) (c ∙ ap length (sym e)) }

  pub many_spelled : (p : List ℕ) (i a : ℤ) (zs : List ℤ) → s ≡ p ++ numeral i ++ bytes " (" ++ numerals a zs ++ bytes "))" → Many s p i a zs
  many_spelled p i a zs d =
      let e : s ≡ p ++ numeral i ++ bytes " (" ++ numeral a ++ tails zs ++ bytes "))" = d ∙ rw (numerals_is a zs) (simp append_assoc) in
      let n = number_step p i (bytes " (" ++ (numeral a ++ (tails zs ++ bytes "))"))) (omega arith) (e ∙ simp append_assoc) in
      let g = word_step (p ++ numeral i) (bytes " (") (numeral a ++ (tails zs ++ bytes "))")) (e ∙ simp append_assoc) in
      let m = number_step (p ++ numeral i ++ bytes " (") a (tails zs ++ bytes "))") (stops_tails zs) (e ∙ simp append_assoc) in
      let o = others_step (p ++ numeral i ++ bytes " (" ++ numeral a) zs e in
      let q = p ++ numeral i ++ bytes " (" ++ numeral a ++ tails zs in
      let b : s ≡ q ++ bytes ")" ++ bytes ")" = e ∙ sym (append_assoc q (bytes ")") (bytes ")")) in
      let c = word_step q (bytes ")") (bytes ")") b in
      let l = word_step (q ++ bytes ")") (bytes ")") [] (b ∙ sym (append-nil (q ++ bytes ")" ++ bytes ")"))) in
      record {
        rest = (numeral i ++ (bytes " (" ++ (numeral a ++ (tails zs ++ bytes "))"))), e ∙ simp append_assoc);
        one = rw n;
        head = rw (n, g, m);
        more = rw (n, g, m, o);
        ends = rw (n, g, m, o, c) (l ∙ ap length (sym b));
      }
