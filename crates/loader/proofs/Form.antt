-- Laws of a form as the code has it, from what is said of it to what it leaves.
--   fits_of — where nothing is said its numbers are in their ranges;  narrow_by — and there is room for them
use mathlib.Core.Path.{◌≡◌, refl, sym, ap, ◌∙◌}
use mathlib.Core.Bool.{Bool, true, false}
use Prim.Native.Nat.{ℕ}
use borrow.Author.Tests.{not-false}
use Rattle.rules.specs.Refusal.{code, Outcome}
use Rattle.std.specs.Prelude.{Ok}
use Rattle.line_parts.specs.declared.CappedForm.{CappedForm}
use Rattle.line_parts.specs.declared.CappedForm.TheVariants as form
use Rattle.loader_values.specs.Item.{placed}
use Rattle.loader_values.specs.Capped.{item_in, outside_in}
use Rattle.loader_values.specs.declared.Item.{Item}
use Rattle.loader_values.specs.declared.Item.TheVariants.{Problem, Scale, Of, End}
use Rattle.loader.specs.declared.Loader.{Loader}
use Rattle.loader_lists.specs.Span.{Narrow}
use Rattle.loader_progress.specs.Progress.{early, misplaced}
use Rattle.loader_order.proofs.CodeLaws.{Passed, passed}
use Rattle.loader.specs.Decided.{case_in, code_in, fits}
use Rattle.loader_progress.proofs.Progress.{placed_32, size_of, late}

-- ---- a form of which nothing is said
fits_by : (m : CappedForm) (inside : Bool) → placed 32 (item_in m) ≡ true → outside_in m inside ≡ false → fits (item_in m) ≡ true
fits_by (form.Problem n) b p e = not-false _ e
fits_by (form.Scale s t) b p e = not-false _ e
fits_by (form.Row i) b p e = p
fits_by (form.Right i v w) b p e = p
fits_by (form.Guess i v) b p e = p
fits_by (form.Inverse i) b p e = p
fits_by (form.Weight i v) b p e = p
fits_by form.End b p e = refl

pub narrow_by : (d : Loader) (x : Item) → early d.stage x ≡ false → misplaced d.stage d.n x ≡ false → Narrow d.n x
narrow_by d (Problem n) a b = tt
narrow_by d (Scale s t) a b = tt
narrow_by d (Of p i) a b = ((size_of d.stage d.n (Of p i) (late d.stage a) b).1, placed_32 d.stage d.n (Of p i) a b)
narrow_by d End a b = (size_of d.stage d.n End (late d.stage a) b).1

module _ (d : Loader) (m : CappedForm) (count : ℕ) (inside : Bool) {x : Item} (e : x ≡ item_in m) {o : Outcome} (s : code o ≡ code_in d m count inside) (a : o ≡ Ok tt) where
  holds : Passed (case_in d m count inside)
  unfolding code_in
  holds = passed (case_in d m count inside) (sym s ∙ ap code a)

  pub fits_of : fits x ≡ true
  fits_of = rw e (fits_by m inside (placed_32 d.stage d.n (item_in m) holds.early holds.misplaced) holds.outside)
