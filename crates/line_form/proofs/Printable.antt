-- The bytes of a form's spelling (01: "ASCII lines").
--   spell_some      — there is one or more
--   spell_printable — each is 32 to 126, so that no line feed, no other control character and no byte above ASCII is among them
--   spell_no_feed   — none is a line feed;  one_no_feed, many_no_feed — the same of a line of numbers after any printable opening
use mathlib.Core.Path.{◌≡◌, refl}
use mathlib.Core.Bool.{Bool, true, ◌&&◌}
use mathlib.Core.List.{List, [], ◌∷◌, ◌++◌}
use Prim.Native.Nat.{ℕ, zero, suc, ◌+◌, ◌%◌, ◌≤◌, ◌<◌}
use native.Mathlib.Omega.{arith}
use borrow.Author.Tests.{leb-true, le-leb}
use lib.Dec.{leb}
use lib.IntN.{ℤ, pos, negsuc}
use lib.ListN.{length, get_or}
use Rattle.rules.proofs.Ranges.{both_left, both_right, both}
use Rattle.line_numeral.specs.Decimal.{decimal, numeral}
use Rattle.line_numeral.proofs.Decimal.{decimal_induction}
use Rattle.line_form.specs.declared.Word.{Word}
use Rattle.line_form.specs.declared.Word.TheVariants.{Problem, Scale, Row, Right, Guess, Inverse, Weight, End}
use Rattle.line_form.specs.Form.{bytes, Form, problem, scale, row, right, right_within, guess, inverse, weight, end}
use Rattle.line_form.specs.Spelling.{numerals, spell}
use Rattle.line_form.specs.Reading.{opening}

unfoldable pub printable : ℕ → Bool
printable b = leb 32 b && leb b 126

unfoldable pub all_printable : List ℕ → Bool
all_printable [] = true
all_printable (b ∷ bs) = printable b && all_printable bs

record Printable (l : List ℕ) : Type 0 where
  all : all_printable l ≡ true

joined_printable : (a b : List ℕ) → all_printable a ≡ true → all_printable b ≡ true → all_printable (a ++ b) ≡ true
unfolding all_printable
joined_printable [] b p q = q
joined_printable (x ∷ a) b p q = both (both_left (printable x) (all_printable a) p) (joined_printable a b (both_right (printable x) (all_printable a) p) q)

join : {a b : List ℕ} → Printable a → Printable b → Printable (a ++ b)
join {a} {b} p q = record { all = joined_printable a b p.all q.all }

-- ---- numbers
digit_printable : (n : ℕ) → n < 10 → Printable ((48 + n) ∷ [])
unfolding all_printable printable
digit_printable n h = record { all = both (both (le-leb 32 (48 + n) (omega arith)) (le-leb (48 + n) 126 (omega arith))) refl }

digits_printable : (n : ℕ) → Printable (decimal n)
digits_printable = decimal_induction (λ n l. Printable l) digit_printable (λ n h ih. join ih (digit_printable (n % 10) (omega arith)))

number_printable : (z : ℤ) → Printable (numeral z)
unfolding numeral all_printable printable
number_printable (pos n) = digits_printable n
number_printable (negsuc n) = record { all = both refl (digits_printable (suc n)).all }

-- ---- the text around them
opens : (w : Word) → Printable (opening w)
unfolding all_printable printable
opens Problem = record { all = refl }
opens Scale = record { all = refl }
opens Row = record { all = refl }
opens Right = record { all = refl }
opens Guess = record { all = refl }
opens Inverse = record { all = refl }
opens Weight = record { all = refl }
opens End = record { all = refl }

space : Printable (bytes " ")
unfolding all_printable printable
space = record { all = refl }

bracket : Printable (bytes " (")
unfolding all_printable printable
bracket = record { all = refl }

close_one : Printable (bytes ")")
unfolding all_printable printable
close_one = record { all = refl }

close_two : Printable (bytes "))")
unfolding all_printable printable
close_two = record { all = refl }

-- ---- forms
list_printable : (a : ℤ) (zs : List ℤ) → Printable (numerals a zs)
unfolding numerals
list_printable a [] = number_printable a
list_printable a (b ∷ zs) = join (join (number_printable a) space) (list_printable b zs)

two : {w : List ℕ} → Printable w → (i v : ℤ) → Printable (w ++ numeral i ++ bytes " " ++ numeral v ++ bytes ")")
two p i v = join (join (join (join p (number_printable i)) space) (number_printable v)) close_one

many_printable : {w : List ℕ} → Printable w → (i a : ℤ) (zs : List ℤ) → Printable (w ++ numeral i ++ bytes " (" ++ numerals a zs ++ bytes "))")
many_printable p i a zs = join (join (join (join p (number_printable i)) bracket) (list_printable a zs)) close_two

spelled_printable : (f : Form) → Printable (spell f)
unfolding spell
spelled_printable (problem n) = join (join (opens Problem) (number_printable n)) close_one
spelled_printable (scale s t) = two (opens Scale) s t
spelled_printable (row i a others) = many_printable (opens Row) i a others
spelled_printable (right i b) = two (opens Right) i b
spelled_printable (right_within i b d) = many_printable (opens Right) i b (d ∷ [])
spelled_printable (guess i x) = two (opens Guess) i x
spelled_printable (inverse i g others) = many_printable (opens Inverse) i g others
spelled_printable (weight i w) = two (opens Weight) i w
spelled_printable end = join (opens End) close_one

pub spell_some : (f : Form) → 0 < length (spell f)
unfolding spell
spell_some (problem n) = omega arith
spell_some (scale s t) = omega arith
spell_some (row i a others) = omega arith
spell_some (right i b) = omega arith
spell_some (right_within i b d) = omega arith
spell_some (guess i x) = omega arith
spell_some (inverse i g others) = omega arith
spell_some (weight i w) = omega arith
spell_some end = omega arith

byte_at : (l : List ℕ) → all_printable l ≡ true → (k : ℕ) → k < length l → (32 ≤ get_or l k 0) × (get_or l k 0 ≤ 126)
unfolding all_printable printable
byte_at [] e k h = absurd (omega arith)
byte_at (b ∷ l) e zero h =
    let p : printable b ≡ true = both_left _ (all_printable l) e in
    (leb-true 32 b (both_left (leb 32 b) (leb b 126) p), leb-true b 126 (both_right (leb 32 b) (leb b 126) p))
byte_at (b ∷ l) e (suc k) h = byte_at l (both_right (printable b) (all_printable l) e) k (omega arith)

pub spell_printable : (f : Form) (k : ℕ) → k < length (spell f) → (32 ≤ get_or (spell f) k 0) × (get_or (spell f) k 0 ≤ 126)
spell_printable f = byte_at (spell f) (spelled_printable f).all

-- past the end of a line the byte is 0
no_feed : (l : List ℕ) → all_printable l ≡ true → (k : ℕ) → get_or l k 0 ≡ 10 → ⊥
unfolding all_printable
no_feed [] e k h = omega arith
no_feed (b ∷ l) e zero h = omega (arith, (byte_at (b ∷ l) e 0 (omega arith)).0)
no_feed (b ∷ l) e (suc k) h = no_feed l (both_right (printable b) (all_printable l) e) k h

pub spell_no_feed : (f : Form) (k : ℕ) → get_or (spell f) k 0 ≡ 10 → ⊥
spell_no_feed f = no_feed (spell f) (spelled_printable f).all

pub one_no_feed : (w : List ℕ) → all_printable w ≡ true → (i : ℤ) (k : ℕ) → get_or (w ++ numeral i ++ bytes ")") k 0 ≡ 10 → ⊥
one_no_feed w p i = no_feed (w ++ numeral i ++ bytes ")") (join (join (record { all = p }) (number_printable i)) close_one).all

pub many_no_feed : (w : List ℕ) → all_printable w ≡ true → (i a : ℤ) (zs : List ℤ) (k : ℕ) → get_or (w ++ numeral i ++ bytes " (" ++ numerals a zs ++ bytes "))") k 0 ≡ 10 → ⊥
many_no_feed w p i a zs = no_feed (w ++ numeral i ++ bytes " (" ++ numerals a zs ++ bytes "))") (many_printable (record { all = p }) i a zs).all
