-- 02, Paper 5. Right sides with a tolerance. "Differences are known to a reading limit, and offices want it inside the height's limit": `ToleranceEnclosed`.
use Rattle.std.specs.Prelude.{true, List, ◌++◌, ◌↔◌, ◌⊎◌, ◌≡◌, ℕ, ◌+◌, ◌*◌, ◌<◌, ◌^◌, ℤ, pos, nat_abs, length}
use Rattle.integer.specs.Finite.{sumℕ}
use Rattle.linear.specs.Matrix.{Vec}
use Rattle.rules.specs.declared.Kind.TheVariants as kind
use Rattle.line_numeral.specs.Decimal.{numeral}
use Rattle.line_form.specs.Form.{Form, right, right_within, bytes}
use Rattle.line_form.specs.Spelling.{spell, numerals}
use Rattle.enclosure.specs.Demand.{RightSide, ExactSolutionOf, InLimits}
use Rattle.enclosure.specs.Problem.{Problem, S, column_of}
use Rattle.enclosure.specs.Reckoning.{residual, exceeds}
use Rattle.loader_lists.specs.Lists.{Lists}
use Rattle.loader.specs.Taken.{lists_with}
use Rattle.loader.specs.declared.Loader.{Loader}
use Rattle.promises.specs.Ways.{RangeIs, Accepted}

-- "The form (right i (b d)) gives a tolerance d of 0 to 2^20"
abbrev pub ToleranceRanged : Type 0
ToleranceRanged = RangeIs kind.Tolerance (pos 0) (pos (2 ^ 20))

-- "(right i b) means d = 0, written like a given one"
abbrev pub RightMeansZero : Type 0
RightMeansZero = (d : Loader) (l : Lists) (i b : ℤ) → lists_with d (right i b) l ≡ lists_with d (right_within i b (pos 0)) l

-- "and a list of other than two numbers there is 2": it is no form (`NoFormIs2` of Lines01)
abbrev pub OtherRightIsNoForm : Type 0
OtherRightIsNoForm =
    (i a : ℤ) (others : List ℤ) → (length others ≡ 1 → ⊥) → (f : Form) → bytes "(right " ++ numeral i ++ bytes " (" ++ numerals a others ++ bytes "))" ≡ spell f → ⊥

-- "The residual of row m now comes with a slack S·d_m, and everything built on it carries both" (`exceeds`, `magnitudes_with` and `bound_with` take both); "(6 is
-- now given where size of residual plus slack is above 2^25.)" The other test is Paper 9's
abbrev pub ResidualWithSlack : Type 0
ResidualWithSlack =
    (P : Problem) (k : ℕ) →
    (exceeds P k ≡ true) ↔ ((2 ^ 25 < nat_abs (residual P k) + S P * P.d k) ⊎ (sumℕ P.n (λ (j : ℕ). nat_abs (P.A k j)) < nat_abs (residual P k)))

-- "In the limits |p_m| becomes |p_m| plus the sum over j of |G_mj|·S·d_j": `LimitIsLargest` of Document01. "Inverse columns have no slack"
abbrev pub ColumnsWithoutSlack : Type 0
ColumnsWithoutSlack = (P : Problem) (j k : ℕ) → S (column_of P j) * (column_of P j).d k ≡ 0

-- "An accepted limit then holds for the exact solution of every right side, in fractions, that differs from b by at most d in each place"
abbrev pub ToleranceEnclosed : Type 0
ToleranceEnclosed =
    (P : Problem) (E : ℕ → ℕ) (L : ℕ → ℕ → ℕ) → Accepted P E L → (β : Vec) (ρ : ℕ) → RightSide P β ρ → (N : Vec) (q : ℕ) → ExactSolutionOf P β ρ N q → InLimits P E N q

-- "The second half of demand 3 now presumes that all d are 0": `NoTolerance` in `RoundedExact` (enclosure/specs/Demand), which `CheckAccepts` of Demands asks
