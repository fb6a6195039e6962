-- The theorems for specs/Paper05, a theorem for each statement.
use mathlib.Core.Bool.{Bool, true, false, ◌||◌}
use mathlib.Core.Logic.{◌⊎◌, inl, inr}
use mathlib.Core.Option.{none, some}
use mathlib.Core.Path.{◌≡◌, refl, sym, ◌∙◌}
use Prim.Native.Nat.{ℕ, ◌<◌}
use native.Mathlib.Omega.{arith}
use borrow.Author.Tests.{ltb-true, lt-ltb}
use lib.Dec.{ltb}
use Rattle.rules.specs.Range.{in_range, range_of, ranges}
use Rattle.line_form.specs.Spelling.{spell}
use Rattle.line_form.proofs.Rights.{right_unread}
use Rattle.line_form.proofs.Spelling.{read_spelled}
use Rattle.enclosure.specs.Reckoning.{row_sum, exceeds}
use Rattle.promises.specs.Paper05 as paper
use Rattle.promises.proofs.Demands.{accepted_encloses}

pub tolerance_ranged : paper.ToleranceRanged
unfolding in_range range_of ranges
tolerance_ranged z = refl

pub right_means_zero : paper.RightMeansZero
right_means_zero d l i b = refl

pub other_right_is_no_form : paper.OtherRightIsNoForm
other_right_is_no_form i a others h f e =
    let read : none ≡ some f = sym (right_unread (spell f) i a others (sym e) h) ∙ read_spelled f in
    let z : ◌≡◌ {A = ℕ} 0 1 = cc in
    omega (arith, z)

either_below : (a b c d : ℕ) → ltb a b || ltb c d ≡ true → (a < b) ⊎ (c < d)
either_below a b c d e = go (ltb a b) refl
  where
    go : (t : Bool) → ltb a b ≡ t → (a < b) ⊎ (c < d)
    go true p = inl (ltb-true a b p)
    go false p = inr (ltb-true c d (rw p at e))

one_of : (a b c d : ℕ) → (a < b) ⊎ (c < d) → ltb a b || ltb c d ≡ true
one_of a b c d (inl p) = rw (lt-ltb a b p) refl
one_of a b c d (inr p) = go (ltb a b)
  where
    go : (t : Bool) → t || ltb c d ≡ true
    go true = refl
    go false = lt-ltb c d p

pub residual_with_slack : paper.ResidualWithSlack
unfolding exceeds row_sum
residual_with_slack P k = (either_below _ _ _ _, one_of _ _ _ _)

pub columns_without_slack : paper.ColumnsWithoutSlack
columns_without_slack P j k = omega arith

pub tolerance_enclosed : paper.ToleranceEnclosed
tolerance_enclosed P E L a = (accepted_encloses P E L a).solution
