-- Where a call for other languages answers 0, the limits that it leaves are good (good_limits/specs/Good).
--   zero_good, half_zero_good, through_zero_good, reported_good — `kodarfi_check`, `kodarfi_check_half`, `kodarfi_loader_check`, `kodarfi_listing`
--   zero_one_step, half_zero_one_step, through_zero_one_step, reported_one_step — a rounded exact proposal with 3·Σ|A_ij| ≤ 2·T gets 0, and limits of 0 or 1
use mathlib.Core.Bool.{true, false}
use mathlib.Core.List.{List}
use mathlib.Core.Path.{◌≡◌, sym, ap, ◌∙◌}
use Prim.Native.Nat.{ℕ}
use lib.ListN.{get_or, length}
use Rattle.linear.specs.Matrix.{Vec, Mat}
use Rattle.enclosure.specs.Reckoning.{bound, inverse_bound}
use Rattle.check_spec.specs.Input.{Input, problem, short, in_ranges}
use Rattle.half_fill.specs.Half.{short_half}
use Rattle.half_check.specs.Checked.{filled_input}
use Rattle.loader_progress.specs.Progress.{ended}
use Rattle.loader_progress.specs.declared.Stage.{Stage}
use Rattle.listing.specs.Listing.{problem_in}
use Rattle.listing.specs.Complete.{Complete}
use Rattle.calls_spec.specs.Exported.{CheckExported, ListingExported, LoaderCheckExported}
use Rattle.calls_spec.specs.Half.{HalfExported}
use Rattle.calls_spec.proofs.Meaning.{zero_code, zero_answer}
use Rattle.calls_spec.proofs.Half.{half_zero}
use Rattle.good_limits.specs.Good.{FineRounded, OneStep, Good}
use Rattle.accepted_limits.specs.Lists.{GoodLists, OneStepLists}
use Rattle.accepted_limits.proofs.Lists.{checked_good, checked_one_step, half_good, half_one_step, through_good, through_one_step}
use Rattle.accepted_limits.proofs.File.{file_good, file_one_step}

first_equal : {l m : List ℕ} → l ≡ m → get_or l 0 0 ≡ get_or m 0 0
first_equal e = ap (λ (l : List ℕ). get_or l 0 0) e

module _ {I : Input} {number : ℕ} {places E L : List ℕ} (x : CheckExported I number places E L) where
  pub zero_good : number ≡ 0 → GoodLists I E L
  zero_good e = checked_good I x.outcome E L x.checked (zero_code x.outcome (sym x.status.number_is ∙ e))

  pub zero_one_step : (N : Vec) (q : ℕ) (H : Mat) (q' : ℕ) → short I ≡ false → in_ranges I ≡ true → FineRounded (problem I) N q H q' →
      (number ≡ 0) × OneStepLists I E L
  zero_one_step N q H q' s r y =
      let (a, b) = checked_one_step I x.outcome E L x.checked N q H q' s r y in (x.status.number_is ∙ first_equal a, b)

module _ {H : Input} {number : ℕ} {places E L : List ℕ} (x : HalfExported H number places E L) where
  pub half_zero_good : number ≡ 0 → GoodLists (filled_input H) E L
  half_zero_good e = half_good H x.outcome E L x.checked (half_zero x e)

  pub half_zero_one_step : (N : Vec) (q : ℕ) (G : Mat) (q' : ℕ) → short_half (length H.matrix) ≡ false → short (filled_input H) ≡ false → in_ranges (filled_input H) ≡ true →
      FineRounded (problem (filled_input H)) N q G q' → (number ≡ 0) × OneStepLists (filled_input H) E L
  half_zero_one_step N q G q' h s r y =
      let (a, b) = half_one_step H x.outcome E L x.checked N q G q' h s r y in (x.status.number_is ∙ first_equal a, b)

module _ {stage : Stage} {I : Input} {number : ℕ} {places E L : List ℕ} (x : LoaderCheckExported stage I number places E L) where
  pub through_zero_good : number ≡ 0 → GoodLists I E L
  through_zero_good e = through_good stage I x.outcome E L x.checked (zero_code x.outcome (sym x.status.number_is ∙ e))

  pub through_zero_one_step : (N : Vec) (q : ℕ) (H : Mat) (q' : ℕ) → short I ≡ false → ended stage ≡ true → in_ranges I ≡ true → FineRounded (problem I) N q H q' →
      (number ≡ 0) × OneStepLists I E L
  through_zero_one_step N q H q' s d r y =
      let (a, b) = through_one_step stage I x.outcome E L x.checked N q H q' s d r y in (x.status.number_is ∙ first_equal a, b)

module _ {file old : List ℕ} {number : ℕ} {places new : List ℕ} {written : ℕ} (x : ListingExported file old number places new written) where
  pub reported_good : number ≡ 0 → Good (problem_in file) (bound (problem_in file)) (inverse_bound (problem_in file))
  reported_good e = file_good file (zero_answer x e)

  pub reported_one_step : Complete file → (N : Vec) (q : ℕ) (H : Mat) (q' : ℕ) → FineRounded (problem_in file) N q H q' →
      (number ≡ 0) × OneStep (problem_in file).n (bound (problem_in file)) (inverse_bound (problem_in file))
  reported_one_step c N q H q' y = let (a, b) = file_one_step file c N q H q' y in (x.status.number_is ∙ first_equal a, b)
