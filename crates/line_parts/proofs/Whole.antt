-- The parts that the code has read make the whole line.
--   line_read — what is decided from the parts is what the line is by its reading
use mathlib.Core.Path.{◌≡◌, refl}
use mathlib.Core.Bool.{Bool, true, false, cond}
use mathlib.Core.List.{List, [], ◌∷◌}
use mathlib.Core.Option.{none, some}
use Prim.Native.Nat.{ℕ, suc}
use native.Mathlib.Omega.{arith}
use borrow.Author.Tests.{ne_eqb}
use lib.Dec.{eqb}
use lib.IntN.{ℤ}
use lib.ListN.{length}
use Rattle.line_numeral.specs.Numeral.{number_at, cap}
use Rattle.line_numeral.specs.Capped.{capped_number}
use Rattle.line_numeral.specs.declared.Number.{Number}
use Rattle.rules.specs.declared.Kind.{Kind}
use Rattle.rules.specs.declared.Refusal.TheVariants.{NoForm}
use Rattle.line_form.specs.declared.Head.{Head}
use Rattle.line_form.specs.declared.Listed.{Listed}
use Rattle.line_form.specs.declared.Word.{Word}
use Rattle.line_form.specs.declared.Word.TheVariants.{Problem, Scale, Row, Right, Guess, Inverse, Weight, End}
use Rattle.line_form.specs.Form.{Form, bytes}
use Rattle.line_form.specs.Reading.{word_at, head_at, end_of, form_of, form_at, reading}
use Rattle.line_form.specs.List.{first_values, numbers_of}
use Rattle.line_form.specs.ListAt.{listed_at}
use Rattle.line_parts.specs.Line.{capped_form, numbers_in, refused, of_reading}
use Rattle.line_parts.specs.Parts.{kind_of, last_in, capped_right, capped_of, beside_of, decided}

right_form : (k : Kind) (i v a : ℤ) (zs : List ℤ) → capped_right (cap i) (cap v) (numbers_of k (a ∷ zs)) ≡ capped_form (form_of Right i v a zs)
unfolding numbers_of first_values
right_form k i v a [] = refl
right_form k i v a (d ∷ zs) = rw (ne_eqb (suc (length (d ∷ zs))) 1 (λ n. omega arith))

capped_form_lem : (w : Word) (i v a : ℤ) (zs : List ℤ) → capped_of w (cap i) (cap v) (numbers_of (kind_of w) (a ∷ zs)) ≡ capped_form (form_of w i v a zs)
capped_form_lem Problem i v a zs = refl
capped_form_lem Scale i v a zs = refl
capped_form_lem Row i v a zs = refl
capped_form_lem Right i v a zs = right_form (kind_of Right) i v a zs
capped_form_lem Guess i v a zs = refl
capped_form_lem Inverse i v a zs = refl
capped_form_lem Weight i v a zs = refl
capped_form_lem End i v a zs = refl

beside_form : (w : Word) (i v a : ℤ) (zs : List ℤ) → beside_of w (numbers_of (kind_of w) (a ∷ zs)) ≡ numbers_in (form_of w i v a zs)
beside_form Problem i v a zs = refl
beside_form Scale i v a zs = refl
beside_form Row i v a zs = refl
beside_form Right i v a [] = refl
beside_form Right i v a (d ∷ zs) = refl
beside_form Guess i v a zs = refl
beside_form Inverse i v a zs = refl
beside_form Weight i v a zs = refl
beside_form End i v a zs = refl

of_cond : (t : Bool) (f : Form) → cond t (of_reading (some f)) (refused NoForm) ≡ of_reading (cond t (some f) none)
of_cond true f = refl
of_cond false f = refl

-- ---- what is read at each place: the head, the first number, a gap and a second number, a gap and a list, the place of the last bracket, and its end
module _ (s : List ℕ) {h : Head} {i v : Number} {p q m e : ℕ} {l : Listed}
    (is-h : h ≡ head_at s 0) (is-i : i ≡ capped_number (number_at s h.next))
    (is-p : p ≡ word_at s i.next (bytes " ")) (is-v : v ≡ capped_number (number_at s p))
    (is-q : q ≡ word_at s i.next (bytes " (")) (is-l : l ≡ listed_at (kind_of h.word) s q)
    (is_m : m ≡ last_in s h i v l) (is-e : e ≡ word_at s m (bytes ")")) where
  ends : e ≡ end_of s (head_at s 0).word (head_at s 0).next
  unfolding listed_at numbers_of
  ends = rw (is-e, is_m, is-l, is-q, is-v, is-p, is-i, is-h)

  is_form : capped_of h.word i.value v.value l.numbers ≡ capped_form (form_at s (head_at s 0).word (head_at s 0).next)
  unfolding listed_at
  is_form = rw (is-l, is-q, is-v, is-p, is-i, is-h) (capped_form_lem (head_at s 0).word _ _ _ _)

  is_beside : beside_of h.word l.numbers ≡ numbers_in (form_at s (head_at s 0).word (head_at s 0).next)
  unfolding listed_at
  is_beside = rw (is-l, is-q, is-i, is-h) (beside_form (head_at s 0).word _ _ _ _)

  pub line_read : decided s h i v l e ≡ of_reading (reading s)
  unfolding decided reading
  line_read = rw (← ends, is_form, is_beside, of_cond (eqb e (length s)) (form_at s (head_at s 0).word (head_at s 0).next))
