-- How long the spelling of a form is.
--   natural_most, numeral_most — a natural number below 10^(k + 1) has at most k + 1 bytes; a number of that size one more
--   bytes_of k, kind_most — the most bytes that a number of the kind k has;  natural_kind — where the numbers of the kind are natural
--   numerals_most — a list of numbers of a kind
--   place_small, place_most — the bytes of i: one below 10, two up to 32
--   one_length, two_length, many_length — the bytes of a form with one number, with two, and with a list
--   problem_length, scale_length, row_length, right_length, within_length, guess_length, inverse_length, weight_length, end_length — the bytes of each form,
--     from those of its numbers
use mathlib.Core.Path.{◌≡◌, refl, sym, subst, ◌∙◌}
use mathlib.Core.Bool.{true}
use mathlib.Core.List.{List, [], ◌∷◌, ◌++◌}
use Prim.Native.Nat.{ℕ, suc, ◌+◌, ◌*◌, ◌^◌, ◌≤◌, ◌<◌}
use native.Mathlib.Nat.{suc-mul}
use native.Mathlib.Omega.{arith}
use lib.IntN.{ℤ, pos, negsuc, nat_abs}
use lib.ListN.{length, length-append}
use Rattle.rules.specs.Range.{ranges, range_of, in_range}
use Rattle.rules.specs.declared.Kind.{Kind}
use Rattle.rules.specs.declared.Kind.TheVariants.{Size, SolutionScale, InverseScale, Matrix, Right, Guess, Inverse, Weight, Allowance, Tolerance, Key, Mark, Difference, LineWeight}
use Rattle.rules.proofs.Ranges.{both_left, both_right, range_magnitude, range_natural, matrix_range, right_range, guess_range, inverse_range, weight_range, difference_range}
use Rattle.line_numeral.specs.Decimal.{numeral}
use Rattle.listing_text.proofs.Wrote.{decimal_length}
use Rattle.line_form.specs.Form.{problem, scale, row, right, right_within, guess, inverse, weight, end, bytes}
use Rattle.line_form.specs.Spelling.{numerals, spell}
use Rattle.line_form.specs.List.{all_inside}

natural_most : (k n : ℕ) → n < 10 ^ suc k → length (numeral (pos n)) ≤ suc k
unfolding numeral
natural_most k n h = decimal_length k n h

numeral_most : (k : ℕ) (z : ℤ) → nat_abs z < 10 ^ suc k → length (numeral z) ≤ suc (suc k)
unfolding numeral
numeral_most k (pos n) h = omega (arith, decimal_length k n h)
numeral_most k (negsuc n) h = omega (arith, decimal_length k (suc n) h)

-- ---- by the kind of number
abbrev pub bytes_of : Kind → ℕ
bytes_of Size = 2
bytes_of SolutionScale = 2
bytes_of InverseScale = 2
bytes_of Matrix = 8
bytes_of Right = 11
bytes_of Guess = 12
bytes_of Inverse = 8
bytes_of Weight = 4
bytes_of Allowance = 2
bytes_of Tolerance = 7
bytes_of Key = 5
bytes_of Mark = 2
bytes_of Difference = 6
bytes_of LineWeight = 2

natural_kind : (k : Kind) (a m : ℕ) (z : ℤ) → (range_of k).lowest ≡ pos a → in_range k z ≡ true → nat_abs z < 10 ^ suc m → length (numeral z) ≤ suc m
natural_kind k a m z e h l = subst (λ (y : ℤ). length (numeral y) ≤ suc m) (sym (range_natural k a z e h).0) (natural_most m (nat_abs z) l)

pub kind_most : (k : Kind) (z : ℤ) → in_range k z ≡ true → length (numeral z) ≤ bytes_of k
unfolding range_of ranges
kind_most Size z e = natural_kind Size 1 1 z refl e (omega (arith, range_magnitude Size z e))
kind_most SolutionScale z e = natural_kind SolutionScale 0 1 z refl e (omega (arith, range_magnitude SolutionScale z e))
kind_most InverseScale z e = natural_kind InverseScale 0 1 z refl e (omega (arith, range_magnitude InverseScale z e))
kind_most Matrix z e = numeral_most 6 z (omega (arith, matrix_range z e))
kind_most Right z e = numeral_most 9 z (omega (arith, right_range z e))
kind_most Guess z e = numeral_most 10 z (omega (arith, guess_range z e))
kind_most Inverse z e = numeral_most 6 z (omega (arith, inverse_range z e))
kind_most Weight z e = natural_kind Weight 1 3 z refl e (omega (arith, (weight_range z e).1))
kind_most Allowance z e = natural_kind Allowance 1 1 z refl e (omega (arith, range_magnitude Allowance z e))
kind_most Tolerance z e = natural_kind Tolerance 0 6 z refl e (omega (arith, range_magnitude Tolerance z e))
kind_most Key z e = natural_kind Key 1 4 z refl e (omega (arith, range_magnitude Key z e))
kind_most Mark z e = natural_kind Mark 0 1 z refl e (omega (arith, range_magnitude Mark z e))
kind_most Difference z e = numeral_most 4 z (omega (arith, difference_range z e))
kind_most LineWeight z e = natural_kind LineWeight 1 1 z refl e (omega (arith, range_magnitude LineWeight z e))

-- a list of numbers of a kind, with the space before each but the first
pub numerals_most : (k : Kind) (a : ℤ) (zs : List ℤ) → all_inside k (a ∷ zs) ≡ true → length (numerals a zs) + 1 ≤ length (a ∷ zs) * suc (bytes_of k)
unfolding numerals all_inside
numerals_most k a [] e = omega (arith, kind_most k a (both_left (in_range k a) _ e))
numerals_most k a (b ∷ zs) e =
    let rest = numerals_most k b zs (both_right (in_range k a) (all_inside k (b ∷ zs)) e) in
    simp length-append (omega (arith, kind_most k a (both_left (in_range k a) _ e), rest, suc-mul (length (b ∷ zs)) (suc (bytes_of k))))

-- i: one byte below 10, two up to 32
pub place_small : (i : ℕ) → i < 10 → length (numeral (pos i)) ≤ 1
place_small i h = natural_most 0 i (omega arith)

pub place_most : (i : ℕ) → i ≤ 32 → length (numeral (pos i)) ≤ 2
place_most i h = natural_most 1 i (omega arith)

-- ---- the shapes of a form
one_length : (word : List ℕ) (v : ℤ) → length (word ++ numeral v ++ bytes ")") ≡ length word + length (numeral v) + 1
one_length word v = simp length-append (omega arith)

two_length : (word : List ℕ) (i v : ℤ) → length (word ++ numeral i ++ bytes " " ++ numeral v ++ bytes ")") ≡ length word + length (numeral i) + length (numeral v) + 2
two_length word i v = simp length-append (omega arith)

many_length : (word : List ℕ) (i a : ℤ) (zs : List ℤ) → length (word ++ numeral i ++ bytes " (" ++ numerals a zs ++ bytes "))") ≡ length word + length (numeral i) + length (numerals a zs) + 4
many_length word i a zs = simp length-append (omega arith)

-- the bytes of a form beside those of its numbers
pub problem_length : (n : ℤ) → length (spell (problem n)) ≡ length (numeral n) + 10
unfolding spell
problem_length n = one_length (bytes "(problem ") n ∙ omega arith

pub scale_length : (s t : ℤ) → length (spell (scale s t)) ≡ length (numeral s) + length (numeral t) + 9
unfolding spell
scale_length s t = two_length (bytes "(scale ") s t ∙ omega arith

pub row_length : (i a : ℤ) (zs : List ℤ) → length (spell (row i a zs)) ≡ length (numeral i) + length (numerals a zs) + 9
unfolding spell
row_length i a zs = many_length (bytes "(row ") i a zs ∙ omega arith

pub right_length : (i b : ℤ) → length (spell (right i b)) ≡ length (numeral i) + length (numeral b) + 9
unfolding spell
right_length i b = two_length (bytes "(right ") i b ∙ omega arith

pub within_length : (i b d : ℤ) → length (spell (right_within i b d)) ≡ length (numeral i) + length (numeral b) + length (numeral d) + 12
unfolding spell numerals
within_length i b d = many_length (bytes "(right ") i b (d ∷ []) ∙ simp length-append (omega arith)

pub guess_length : (i x : ℤ) → length (spell (guess i x)) ≡ length (numeral i) + length (numeral x) + 9
unfolding spell
guess_length i x = two_length (bytes "(guess ") i x ∙ omega arith

pub inverse_length : (i g : ℤ) (zs : List ℤ) → length (spell (inverse i g zs)) ≡ length (numeral i) + length (numerals g zs) + 13
unfolding spell
inverse_length i g zs = many_length (bytes "(inverse ") i g zs ∙ omega arith

pub weight_length : (i w : ℤ) → length (spell (weight i w)) ≡ length (numeral i) + length (numeral w) + 10
unfolding spell
weight_length i w = two_length (bytes "(weight ") i w ∙ omega arith

pub end_length : length (spell end) ≡ 5
unfolding spell
end_length = refl
