-- Accepted checks on lists, square, by half and through a loader, leave good limits (good_limits/specs/Good).
--   written_good — good limits, once written into two lists;  check_good — those of an accepted check
--   checked_good, half_good, through_good — after an accepted check of each contract
--   checked_one_step, half_one_step, through_one_step — a rounded exact proposal with 3·Σ|A_ij| ≤ 2·T is accepted, with limits of 0 or 1
use mathlib.Core.Path.{◌≡◌, refl, sym, ◌∙◌}
use mathlib.Core.Bool.{Bool, true, false}
use mathlib.Core.List.{List, []}
use Prim.Native.Nat.{ℕ, ◌+◌, ◌*◌, ◌/◌, ◌%◌, ◌≤◌}
use native.Mathlib.Omega.{arith}
use lib.ListN.{get_or, length}
use Rattle.linear.specs.Matrix.{Vec, Mat}
use Rattle.linear.specs.Written.{written}
use Rattle.linear.proofs.Places.{place, square, place_column, place_row}
use Rattle.linear.proofs.Written.{front_at}
use Rattle.rules.specs.Refusal.{code, Outcome}
use Rattle.rules.proofs.Verdicts.{accepted_new, nothing_is_not}
use Rattle.enclosure.specs.Problem.{Problem}
use Rattle.enclosure.specs.Reckoning.{bound, inverse_bound}
use Rattle.check_spec.specs.Checked.{solution_bounds_after, inverse_bounds_after, Checked}
use Rattle.check_spec.specs.Input.{Input, problem, short, in_ranges}
use Rattle.check_spec.specs.Order.{answer}
use Rattle.check_spec.proofs.Contract.{answer_ready, code_sound}
use Rattle.check_spec.proofs.Fit.{fit_of}
use Rattle.check_spec.proofs.Statements.{accepted_usable}
use Rattle.half_fill.specs.Half.{short_half}
use Rattle.half_check.specs.Checked.{filled_input, CheckedHalf}
use Rattle.loader_progress.specs.Progress.{ended}
use Rattle.loader_progress.specs.declared.Stage.{Stage}
use Rattle.loader_order.specs.Through.{CheckedThrough}
use Rattle.loader_order.proofs.Through.{through_lists}
use Rattle.good_limits.specs.Good.{FineRounded, Good}
use Rattle.accepted_limits.specs.Lists.{GoodLists, OneStepLists}
use Rattle.good_limits.proofs.Good.{limits_good, good_as}

pub written_good : (P : Problem) (E₀ : ℕ → ℕ) (L₀ : ℕ → ℕ → ℕ) (old_e old_l : List ℕ) → P.n ≤ 32 → 32 ≤ length old_e → 1024 ≤ length old_l → {E L : List ℕ} →
    E ≡ written old_e 0 1 E₀ P.n → L ≡ written old_l 0 1 (λ (k : ℕ). L₀ (k / P.n) (k % P.n)) (P.n * P.n) →
    Good P E₀ L₀ → Good P (λ (i : ℕ). get_or E i 0) (λ (i j : ℕ). get_or L (i * P.n + j) 0)
written_good P E₀ L₀ old_e old_l n_max e l {E} {L} h_e h_l =
    good_as P E₀ (λ (i : ℕ). get_or E i 0) L₀ (λ (i j : ℕ). get_or L (i * P.n + j) 0)
    (λ i li. rw h_e (front_at old_e E₀ 0 P.n i li (omega (arith, n_max, e))))
    (λ i j li lj. rw h_l (front_at old_l (λ (k : ℕ). L₀ (k / P.n) (k % P.n)) 0 (P.n * P.n) (i * P.n + j) (place li lj) (omega (arith, square n_max, l))
    ∙ rw (place_column i j P.n lj, place_row i j P.n lj)))

-- what an accepted check leaves, whichever tests came before
pub check_good : (I : Input) → answer I ≡ [] → {E L : List ℕ} → E ≡ written I.solution_bounds 0 1 (bound (problem I)) I.n →
    L ≡ written I.inverse_bounds 0 1 (λ (k : ℕ). inverse_bound (problem I) (k / I.n) (k % I.n)) (I.n * I.n) → GoodLists I E L
check_good I e h_e h_l =
    let u = accepted_usable I e in
    let fit = fit_of I u.long u.inside in
    let P : Problem = problem I in
    written_good P (bound P) (inverse_bound P) I.solution_bounds I.inverse_bounds fit.n_max fit.solution_long fit.inverse_long h_e h_l
    (limits_good P fit.n_pos fit.heavy (code_sound P (sym (answer_ready I u.long u.inside) ∙ e)).margins)

-- ---- lists
module _ (I : Input) (r : Outcome) (E L : List ℕ) (x : Checked I r E L) where
  pub checked_good : code r ≡ [] → GoodLists I E L
  unfolding solution_bounds_after inverse_bounds_after
  checked_good e =
      let a : answer I ≡ [] = sym x.says ∙ e in
      check_good I a (x.solution_bounds ∙ accepted_new _ _ a) (x.inverse_bounds ∙ accepted_new _ _ a)

  pub checked_one_step : (N : Vec) (q : ℕ) (H : Mat) (q' : ℕ) → short I ≡ false → in_ranges I ≡ true → FineRounded (problem I) N q H q' →
      (code r ≡ []) × OneStepLists I E L
  checked_one_step N q H q' s i y =
      let a = x.accepts N q H q' s i y.rounded in (a, (checked_good a).one_step N q H q' y)

-- ---- by half
module _ (H : Input) (r : Outcome) (E L : List ℕ) (x : CheckedHalf H r E L) where
  pub half_good : code r ≡ [] → GoodLists (filled_input H) E L
  half_good e = go (short_half (length H.matrix)) refl
    where
      go : (b : Bool) → short_half (length H.matrix) ≡ b → GoodLists (filled_input H) E L
      go true s = absurd (nothing_is_not (sym (x.short_half_lem s).0 ∙ e))
      go false s = checked_good (filled_input H) r E L (x.as_square s) e

  pub half_one_step : (N : Vec) (q : ℕ) (G : Mat) (q' : ℕ) → short_half (length H.matrix) ≡ false → short (filled_input H) ≡ false → in_ranges (filled_input H) ≡ true →
      FineRounded (problem (filled_input H)) N q G q' → (code r ≡ []) × OneStepLists (filled_input H) E L
  half_one_step N q G q' s = checked_one_step (filled_input H) r E L (x.as_square s) N q G q'

-- ---- through a loader
module _ (s : Stage) (I : Input) (r : Outcome) (E L : List ℕ) (x : CheckedThrough s I r E L) where
  pub through_good : code r ≡ [] → GoodLists I E L
  through_good e = checked_good I r E L (through_lists s I x e) e

  pub through_one_step : (N : Vec) (q : ℕ) (H : Mat) (q' : ℕ) → short I ≡ false → ended s ≡ true → in_ranges I ≡ true → FineRounded (problem I) N q H q' →
      (code r ≡ []) × OneStepLists I E L
  through_one_step N q H q' h o i y =
      let a = x.accepts N q H q' h o i y.rounded in (a, (through_good a).one_step N q H q' y)
