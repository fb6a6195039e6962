-- What an accepted end leaves in the lists (02, Paper 1).
--   EndFills, end_fills — 1 at every place of the weight list, of 1 to n, whose form was not given; every other number of every list is as before
use mathlib.Core.Path.{◌≡◌, refl, sym, subst}
use mathlib.Core.Bool.{true, false}
use mathlib.Core.List.{List, []}
use mathlib.Core.Option.{some}
use Prim.Native.Nat.{ℕ, ◌-◌, ◌≤◌}
use native.Mathlib.Omega.{arith}
use lib.IntN.{pos}
use lib.ListN.{length, get_or}
use Rattle.line_form.specs.Form.{end}
use Rattle.line_form.specs.Reading.{reading}
use Rattle.loader_values.specs.declared.Item.TheVariants.{End}
use Rattle.loader_values.specs.declared.Part.TheVariants.{Weight}
use Rattle.loader_lists.specs.Lists.{Lists}
use Rattle.loader_lists.proofs.Lists.{long_lent}
use Rattle.loader_lists.proofs.Filled.{length_filled, filled_given, filled_one, filled_past}
use Rattle.loader_progress.specs.Progress.{set_of, given}
use Rattle.loader_progress.proofs.Progress.{end_size}
use Rattle.loader_order.proofs.CodeLaws.{Passed, passed}
use Rattle.loader.specs.declared.Loader.{Loader}
use Rattle.loader.specs.Answer.{case_of, line_answer}
use Rattle.loader.specs.Taken.{lists_with, lists_after}

pub record EndFills (d : Loader) (l l' : Lists) : Type 0 where
  pub one : (i : ℕ) → 1 ≤ i → i ≤ d.n → given d.sets Weight i ≡ false → get_or l'.weights (i - 1) (pos 0) ≡ pos 1
  pub kept : (i : ℕ) → given d.sets Weight i ≡ true → get_or l'.weights (i - 1) (pos 0) ≡ get_or l.weights (i - 1) (pos 0)
  pub past : (k : ℕ) → d.n ≤ k → get_or l'.weights k (pos 0) ≡ get_or l.weights k (pos 0)
  pub size : length l'.weights ≡ length l.weights
  pub matrix : l'.matrix ≡ l.matrix
  pub right : l'.right ≡ l.right
  pub tolerance : l'.tolerance ≡ l.tolerance
  pub guess : l'.guess ≡ l.guess
  pub inverse : l'.inverse ≡ l.inverse

module _ (d : Loader) (l : Lists) (n_fits : d.n ≤ length l.weights) where
  filled_so : EndFills d l (lists_with d end l)
  filled_so =
      let z = set_of d.sets Weight in
      record {
        one = λ i a b g. filled_one d.n z l.weights (i - 1) g (omega arith) n_fits;
        kept = λ i g. filled_given d.n z l.weights (i - 1) g;
        past = λ k a. filled_past d.n z l.weights k a;
        size = length_filled d.n z l.weights;
        matrix = refl;
        right = refl;
        tolerance = refl;
        guess = refl;
        inverse = refl;
      }

module _ (d : Loader) (l : Lists) (line : List ℕ) (e : line_answer d l line ≡ []) (r : reading line ≡ some end) where
  here : Passed (case_of d l line)
  unfolding line_answer
  here = passed (case_of d l line) e

  n_fits : d.n ≤ length l.weights
  n_fits = omega (arith, (end_size d.stage d.n {x = End} refl (rw r at here.early) (rw r at here.misplaced)).1, (long_lent l here.short).weights)

  after_end : lists_after d l line ≡ lists_with d end l
  unfolding lists_after
  after_end = rw (e, r)

  pub end_fills : EndFills d l (lists_after d l line)
  end_fills = subst (λ (k : Lists). EndFills d l k) (sym after_end) (filled_so d l n_fits)
