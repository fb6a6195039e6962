-- Laws of the test of equality.
--   same_number_lem, number_same — equal numbers, by their test;  same_bits — as the machine tests it
use mathlib.Core.Path.{◌≡◌, refl, sym, ap, subst, ◌∙◌}
use mathlib.Core.Bool.{Bool, true, false}
use borrow.Author.Tests.{eqb-true, eqb-false, eq-eqb}
use lib.Dec.{T, eqb}
use lib.IntN.{ℤ, pos, negsuc}
use mir.Syntax.{w64}
use mir.Val.{SFits, to_z, of_z}
use mir.ValLaws.{to_z-of_z}
use Rattle.integer.specs.Same.{same_number}

pub same_number_lem : (a b : ℤ) → same_number a b ≡ true → a ≡ b
same_number_lem (pos a) (pos b) e = ap pos (eqb-true a b e)
same_number_lem (pos a) (negsuc b) e = absurd (subst T (sym e) tt)
same_number_lem (negsuc a) (pos b) e = absurd (subst T (sym e) tt)
same_number_lem (negsuc a) (negsuc b) e = ap negsuc (eqb-true a b e)

pub number_same : (a : ℤ) → same_number a a ≡ true
number_same (pos a) = eq-eqb a a refl
number_same (negsuc a) = eq-eqb a a refl

pub same_bits : (a b : ℤ) → SFits w64 a → SFits w64 b → eqb (of_z w64 a) (of_z w64 b) ≡ same_number a b
same_bits a b f g = go (eqb (of_z w64 a) (of_z w64 b)) refl (same_number a b) refl
  where
    go : (x : Bool) → eqb (of_z w64 a) (of_z w64 b) ≡ x → (y : Bool) → same_number a b ≡ y → x ≡ y
    go true p true q = refl
    go false p false q = refl
    go true p false q =
        let e : a ≡ b = sym (to_z-of_z w64 a f) ∙ ap (to_z w64) (eqb-true (of_z w64 a) (of_z w64 b) p) ∙ to_z-of_z w64 b g in
        absurd (subst T (sym (number_same b) ∙ ap (λ (z : ℤ). same_number z b) (sym e) ∙ q) tt)
    go false p true q = absurd (eqb-false (of_z w64 a) (of_z w64 b) p (ap (of_z w64) (same_number_lem a b q)))
