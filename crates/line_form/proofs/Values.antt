-- Laws of the numbers of a list.
--   add_number k l v, add_all k l zs — the numbers l, and v after them, or those of a list
--   numbers_next — one number more, capped
--   numbers_all  — the numbers that follow the first, one after another
--   numbers_at   — the value at a place is the number there, capped
use mathlib.Core.Path.{◌≡◌, refl, sym, ap, ◌∙◌}
use mathlib.Core.Bool.{Bool, true, false, ◌&&◌}
use mathlib.Core.List.{List, [], ◌∷◌, ◌++◌, append_assoc, append-nil}
use Prim.Native.Nat.{ℕ, zero, suc, ◌+◌, ◌<◌}
use native.Mathlib.Omega.{arith}
use lib.IntN.{ℤ, pos}
use lib.ListN.{length, get_or, set, length-append}
use Rattle.line_numeral.specs.Numeral.{cap}
use Rattle.line_numeral.proofs.Cap.{cap_range}
use Rattle.rules.specs.Range.{in_range}
use Rattle.rules.specs.declared.Kind.{Kind}
use Rattle.rules.proofs.Ranges.{and_true}
use Rattle.line_form.specs.declared.Numbers.{Numbers}
use Rattle.line_form.specs.List.{no_numbers, all_inside, first_values, numbers_of}

unfoldable pub add_number : Kind → Numbers → ℤ → Numbers
add_number k l v = record { count = l.count + 1; inside = l.inside && in_range k v; values = set l.values l.count v }

unfoldable pub add_all : Kind → Numbers → List ℤ → Numbers
add_all k l [] = l
add_all k l (z ∷ zs) = add_all k (add_number k l (cap z)) zs

both_assoc : (a b c : Bool) → (a && b) && c ≡ a && (b && c)
both_assoc true b c = refl
both_assoc false b c = refl

inside_next : (k : Kind) (zs : List ℤ) (z : ℤ) → all_inside k zs && in_range k z ≡ all_inside k (zs ++ (z ∷ []))
unfolding all_inside
inside_next k [] z = sym (and_true (in_range k z) refl)
inside_next k (y ∷ zs) z = both_assoc (in_range k y) (all_inside k zs) (in_range k z) ∙ ap (λ (b : Bool). in_range k y && b) (inside_next k zs z)

values_next : (n : ℕ) (zs : List ℤ) (z : ℤ) → set (first_values n zs) (length zs) (cap z) ≡ first_values n (zs ++ (z ∷ []))
unfolding first_values
values_next zero [] z = refl
values_next zero (y ∷ zs) z = refl
values_next (suc n) [] z = refl
values_next (suc n) (y ∷ zs) z = ap (λ (l : List ℤ). cap y ∷ l) (values_next n zs z)

numbers_next : (k : Kind) (zs : List ℤ) (z : ℤ) → add_number k (numbers_of k zs) (cap z) ≡ numbers_of k (zs ++ (z ∷ []))
unfolding add_number numbers_of
numbers_next k zs z = rw (values_next 32 zs z, cap_range k z, inside_next k zs z, length-append)

all_next : (k : Kind) (ys zs : List ℤ) → add_all k (numbers_of k ys) zs ≡ numbers_of k (ys ++ zs)
unfolding add_all
all_next k ys [] = rw append-nil
all_next k ys (z ∷ zs) = rw (numbers_next k ys z) (all_next k (ys ++ (z ∷ [])) zs ∙ rw append_assoc)

numbers_none : (k : Kind) → no_numbers ≡ numbers_of k []
unfolding numbers_of first_values all_inside
numbers_none k = refl

pub numbers_all : (k : Kind) (a : ℤ) (zs : List ℤ) → add_all k (add_number k no_numbers (cap a)) zs ≡ numbers_of k (a ∷ zs)
numbers_all k a zs = rw (numbers_none k, numbers_next k [] a) (all_next k (a ∷ []) zs)

values_at : (n : ℕ) (zs : List ℤ) (i : ℕ) → i < n → get_or (first_values n zs) i (pos 0) ≡ cap (get_or zs i (pos 0))
unfolding first_values cap
values_at zero zs i h = absurd (omega arith)
values_at (suc n) [] zero h = refl
values_at (suc n) [] (suc i) h = values_at n [] i (omega arith)
values_at (suc n) (z ∷ zs) zero h = refl
values_at (suc n) (z ∷ zs) (suc i) h = values_at n zs i (omega arith)

pub numbers_at : (k : Kind) (zs : List ℤ) (i : ℕ) → i < 32 → get_or (numbers_of k zs).values i (pos 0) ≡ cap (get_or zs i (pos 0))
unfolding numbers_of
numbers_at k zs i h = values_at 32 zs i h
