-- The reading of a line and the spelling of a form are inverse to each other, for numbers and lists of any size.
--   spelled_read — a line that reads as a form is the spelling of that form
--   reads_as, read_spelled — the spelling of a form reads as that form
-- So a line is refused with 2 exactly where it is the spelling of no form (`code_2` of crate line).
use mathlib.Core.Path.{◌≡◌, refl, sym, ap, ◌∙◌}
use mathlib.Core.Bool.{Bool, true, false, cond}
use mathlib.Core.List.{List, [], ◌∷◌, ◌++◌, append_assoc}
use mathlib.Core.Option.{none, some}
use Prim.Native.Nat.{ℕ, suc}
use native.Mathlib.Omega.{arith}
use borrow.Author.Tests.{eqb-true, ne_eqb}
use lib.IntN.{ℤ}
use lib.ListN.{length}
use Rattle.line_numeral.specs.Decimal.{numeral}
use Rattle.line_numeral.specs.Numeral.{lost}
use Rattle.line_form.specs.declared.Word.{Word}
use Rattle.line_form.specs.declared.Word.TheVariants.{Problem, Scale, Row, Right, Guess, Inverse, Weight, End}
use Rattle.line_form.specs.Form.{bytes, Form, problem, scale, row, right, right_within, guess, inverse, weight, end}
use Rattle.line_form.specs.Spelling.{numerals, spell}
use Rattle.line_form.specs.Reading.{opening, word_at, head_at, first_number, second_number, front, others, close, end_of, form_of, form_at, reading}
use Rattle.line_form.proofs.Words.{Then, then, whole, word_then, word_lost, number_then, head_then}
use Rattle.line_form.proofs.Shapes.{reads, headed, word_step, one_spelled, two_spelled, many_spelled}
use Rattle.line_form.proofs.Lists.{numerals_is, others_then}

-- ---- what is read is spelled
chosen_form : (t : Bool) (g f : Form) → cond t (some g) none ≡ some f → (t ≡ true) × (g ≡ f)
chosen_form true g f e = (refl, cc)
chosen_form false g f e =
    let z : ◌≡◌ {A = ℕ} 0 1 = cc in
    absurd (omega arith)

module _ (s : List ℕ) where
  closed : {w : List ℕ} {b : ℕ} → Then s 0 w b → word_at s b (bytes ")") ≡ length s → s ≡ w ++ bytes ")"
  closed {w} {b} t e = whole (then t (word_then s b (bytes ")") (omega arith))) e

  one_then : {w : List ℕ} {h : ℕ} → Then s 0 w h → Then s 0 (w ++ numeral (first_number s h).value) (first_number s h).next
  one_then {w} {h} t = then t (number_then s h)

  two_then : {w : List ℕ} {h : ℕ} → Then s 0 w h → Then s 0 (w ++ numeral (first_number s h).value ++ bytes " " ++ numeral (second_number s h).value) (second_number s h).next
  two_then {w} {h} t = then (then (one_then t) (word_then s _ (bytes " ") (omega arith))) (number_then s _)

  list_then : {w : List ℕ} {h : ℕ} → Then s 0 w h
      → Then s 0 (w ++ numeral (first_number s h).value ++ bytes " (" ++ numerals (front s h).value (others s h).values ++ bytes ")") (close s h)
  list_then {w} {h} t =
      rw numerals_is
      (then (then (then (one_then t) (word_then s _ (bytes " (") (omega arith))) (then (number_then s _) (others_then s _ _))) (word_then s _ (bytes ")") (omega arith)))

  two_ended : {w : List ℕ} {h : ℕ} → Then s 0 w h → word_at s (second_number s h).next (bytes ")") ≡ length s
      → s ≡ w ++ numeral (first_number s h).value ++ bytes " " ++ numeral (second_number s h).value ++ bytes ")"
  two_ended t e = closed (two_then t) e

  list_ended : {w : List ℕ} {h : ℕ} → Then s 0 w h → word_at s (close s h) (bytes ")") ≡ length s
      → s ≡ w ++ numeral (first_number s h).value ++ bytes " (" ++ numerals (front s h).value (others s h).values ++ bytes "))"
  list_ended t e = closed (list_then t) e ∙ rw append_assoc

  -- by the list that stands there
  right_ended : (h : ℕ) → Then s 0 (opening Right) h → (zs : List ℤ) → (others s h).values ≡ zs → end_of s Right h ≡ length s
      → s ≡ spell (form_of Right (first_number s h).value (second_number s h).value (front s h).value zs)
  unfolding spell
  right_ended h t [] z e = two_ended t (rw z at e)
  right_ended h t (d ∷ []) z e = list_ended t (rw z at e) ∙ rw z
  right_ended h t (d ∷ c ∷ zs) z e =
      let x : word_at s (lost s) (bytes ")") ≡ length s = rw (z, ne_eqb (suc (length (d ∷ c ∷ zs))) 1 (λ n. omega arith), ne_eqb (suc (length (d ∷ c ∷ zs))) 2 (λ n. omega arith)) at e in
      absurd (omega (arith, word_lost s (bytes ")") (omega arith)))

  ended : (w : Word) (h : ℕ) → Then s 0 (opening w) h → end_of s w h ≡ length s → s ≡ spell (form_at s w h)
  unfolding spell
  ended Problem h t e = closed (one_then t) e
  ended Scale h t e = two_ended t e
  ended Row h t e = list_ended t e
  ended Right h t e = right_ended h t (others s h).values refl e
  ended Guess h t e = two_ended t e
  ended Inverse h t e = list_ended t e
  ended Weight h t e = two_ended t e
  ended End h t e = closed t e

  pub spelled_read : (f : Form) → reading s ≡ some f → s ≡ spell f
  unfolding reading
  spelled_read f e =
      let c = chosen_form _ _ f e in
      ended (head_at s 0).word (head_at s 0).next (head_then s 0) (eqb-true _ (length s) c.0) ∙ ap spell c.1

-- ---- what is spelled is read
pub reads_as : (s : List ℕ) (f : Form) → s ≡ spell f → reading s ≡ some f
unfolding spell
reads_as s (problem n) e =
    let o = one_spelled s (opening Problem) n e in
    reads s Problem _ (headed s Problem o.rest) o.ends ∙ rw o.one
reads_as s (scale a b) e =
    let o = two_spelled s (opening Scale) a b e in
    reads s Scale _ (headed s Scale o.rest) o.ends ∙ rw (o.one, o.two)
reads_as s (row i a zs) e =
    let o = many_spelled s (opening Row) i a zs e in
    reads s Row _ (headed s Row o.rest) o.ends ∙ rw (o.one, o.head, o.more)
reads_as s (right i b) e =
    let o = two_spelled s (opening Right) i b e in
    reads s Right _ (headed s Right o.rest) (rw o.none o.ends) ∙ rw (o.none, o.one, o.two)
reads_as s (right_within i b d) e =
    let o = many_spelled s (opening Right) i b (d ∷ []) e in
    reads s Right _ (headed s Right o.rest) (rw o.more o.ends) ∙ rw (o.more, o.one, o.head)
reads_as s (guess i x) e =
    let o = two_spelled s (opening Guess) i x e in
    reads s Guess _ (headed s Guess o.rest) o.ends ∙ rw (o.one, o.two)
reads_as s (inverse i g zs) e =
    let o = many_spelled s (opening Inverse) i g zs e in
    reads s Inverse _ (headed s Inverse o.rest) o.ends ∙ rw (o.one, o.head, o.more)
reads_as s (weight i w) e =
    let o = two_spelled s (opening Weight) i w e in
    reads s Weight _ (headed s Weight o.rest) o.ends ∙ rw (o.one, o.two)
reads_as s end e = reads s End _ (headed s End (bytes ")", e)) (word_step s (bytes "(end") (bytes ")") [] e ∙ ap length (sym e))

pub read_spelled : (f : Form) → reading (spell f) ≡ some f
read_spelled f = reads_as (spell f) f refl
