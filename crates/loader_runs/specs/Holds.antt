-- What a state holds of the forms that were given; cited by the theorems on runs of lines.
--   HoldsForm f u — the state u holds what the form f gives: n; s and t; a part's numbers at their own places, all in their range, the form marked as
--                  given; the accepted end.  HoldsSize, HoldsScale, HoldsPart, HoldsItem — by the kind of form, vs being its numbers by list
--   kind_for s    — what the numbers of the list s stand for
--   cell l n s i j — its number j, from 0, for the number i, from 1, in lists of a system of n equations
--   input_of u E L — what the loader and its lists hand to a check, with the limit lists E and L
--   InRange u    — every number that a check uses is in its range
--   ComputedSays w — w is nothing, 5, 6 or 7
use Rattle.std.specs.Prelude.{true, List, [], ◌∷◌, ◌≡◌, ℕ, ◌+◌, ◌*◌, ◌-◌, ◌<◌, ℤ, pos, nat_abs, get_or}
use Rattle.rules.specs.Range.{in_range, all_in_range}
use Rattle.rules.specs.declared.Kind.{Kind}
use Rattle.rules.specs.declared.Kind.TheVariants as kind
use Rattle.check_spec.specs.Input.{Input, input}
use Rattle.line_form.specs.Form.{Form}
use Rattle.loader_values.specs.Item.{item_of, placed}
use Rattle.loader_values.specs.declared.Item.{Item}
use Rattle.loader_values.specs.declared.Item.TheVariants.{Problem, Scale, Of, End}
use Rattle.loader_values.specs.declared.Part.{Part}
use Rattle.loader_lists.specs.Slot.{Slot, Matrix, Right, Tolerance, Guess, Inverse, Weight, part_of, width, values_for}
use Rattle.loader_lists.specs.Lists.{Lists}
use Rattle.loader_lists.specs.ListOf.{list_of}
use Rattle.loader_progress.specs.Progress.{given, sized, scaled, ended}
use Rattle.loader_runs.specs.Run.{State}

abbrev pub kind_for : Slot → Kind
kind_for Matrix = kind.Matrix
kind_for Right = kind.Right
kind_for Tolerance = kind.Tolerance
kind_for Guess = kind.Guess
kind_for Inverse = kind.Inverse
kind_for Weight = kind.Weight

abbrev pub cell : Lists → ℕ → Slot → ℕ → ℕ → ℤ
cell l n s i j = get_or (list_of s l) ((i - 1) * width s n + j) (pos 0)

pub record HoldsSize (n : ℤ) (u : State) : Type 0 where
  pub stage : sized u.loader.stage ≡ true
  pub size : u.loader.n ≡ nat_abs n

pub record HoldsScale (s t : ℤ) (u : State) : Type 0 where
  pub stage : scaled u.loader.stage ≡ true
  pub solution : u.loader.s ≡ nat_abs s
  pub inverse : u.loader.t ≡ nat_abs t

pub record HoldsPart (p : Part) (i : ℤ) (vs : Slot → List ℤ) (u : State) : Type 0 where
  pub stage : scaled u.loader.stage ≡ true
  pub place : placed u.loader.n (Of p i) ≡ true
  pub mark : given u.loader.sets p (nat_abs i) ≡ true
  pub cells : (s : Slot) → part_of s ≡ p → (j : ℕ) → j < width s u.loader.n → cell u.lists u.loader.n s (nat_abs i) j ≡ get_or (vs s) j (pos 0)
  pub inside : (s : Slot) → part_of s ≡ p → (j : ℕ) → j < width s u.loader.n → in_range (kind_for s) (get_or (vs s) j (pos 0)) ≡ true

abbrev pub HoldsItem : Item → (Slot → List ℤ) → State → Type 0
HoldsItem (Problem n) vs u = HoldsSize n u
HoldsItem (Scale s t) vs u = HoldsScale s t u
HoldsItem (Of p i) vs u = HoldsPart p i vs u
HoldsItem End vs u = ended u.loader.stage ≡ true

abbrev pub HoldsForm : Form → State → Type 0
HoldsForm f u = HoldsItem (item_of f) (λ (s : Slot). values_for s f) u

abbrev pub input_of : State → List ℕ → List ℕ → Input
input_of u E L =
    input u.loader.n u.loader.s u.loader.t u.lists.matrix u.lists.right u.lists.tolerance u.lists.guess u.lists.inverse u.lists.weights E L

pub record InRange (u : State) : Type 0 where
  pub size : in_range kind.Size (pos u.loader.n) ≡ true
  pub solution : in_range kind.SolutionScale (pos u.loader.s) ≡ true
  pub inverse_scale : in_range kind.InverseScale (pos u.loader.t) ≡ true
  pub matrix : all_in_range kind.Matrix (u.loader.n * u.loader.n) (λ (k : ℕ). get_or u.lists.matrix k (pos 0)) ≡ true
  pub right : all_in_range kind.Right u.loader.n (λ (k : ℕ). get_or u.lists.right k (pos 0)) ≡ true
  pub tolerance : all_in_range kind.Tolerance u.loader.n (λ (k : ℕ). get_or u.lists.tolerance k (pos 0)) ≡ true
  pub guess : all_in_range kind.Guess u.loader.n (λ (k : ℕ). get_or u.lists.guess k (pos 0)) ≡ true
  pub inverse : all_in_range kind.Inverse (u.loader.n * u.loader.n) (λ (k : ℕ). get_or u.lists.inverse k (pos 0)) ≡ true
  pub weights : all_in_range kind.Weight u.loader.n (λ (k : ℕ). get_or u.lists.weights k (pos 0)) ≡ true

-- what a check can still say when 8, 15 and 3 do not hold
pub data ComputedSays : List ℕ → Type 0 where
  accepted : ComputedSays []
  margin : (row : ℕ) → ComputedSays (5 ∷ row ∷ [])
  residual : (row : ℕ) → ComputedSays (6 ∷ row ∷ [])
  inverse_residual : (column row : ℕ) → ComputedSays (7 ∷ column ∷ row ∷ [])
