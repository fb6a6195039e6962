-- The contract of the check by halves, case by case.
--   half_short, half_filled — where the half is too short, and from the check of a list that is the filled-out matrix
use mathlib.Core.Path.{◌≡◌, refl, subst}
use mathlib.Core.Bool.{true, false}
use mathlib.Core.List.{List}
use Prim.Native.Nat.{ℕ}
use lib.IntN.{ℤ}
use lib.ListN.{length}
use Rattle.integer.proofs.Search.{clash}
use Rattle.rules.specs.Refusal.{Outcome}
use Rattle.std.specs.Prelude.{Err}
use Rattle.rules.specs.declared.Refusal.TheVariants.{TooShort}
use Rattle.check_spec.specs.Checked.{Checked}
use Rattle.check_spec.specs.Input.{Input}
use Rattle.half_fill.specs.Half.{short_half, filled_out}
use Rattle.half_check.specs.Checked.{with_matrix, CheckedHalf}

module _ (H : Input) where
  pub half_short : short_half (length H.matrix) ≡ true → CheckedHalf H (Err TooShort) H.solution_bounds H.inverse_bounds
  half_short e = record { short_half_lem = λ _. (refl, (refl, refl)); as_square = λ f. absurd (clash (short_half (length H.matrix)) e f) }

  pub half_filled : short_half (length H.matrix) ≡ false → {A : List ℤ} {r : Outcome} {E L : List ℕ} → A ≡ filled_out H.n H.matrix →
      Checked (with_matrix H A) r E L → CheckedHalf H r E L
  half_filled long {A} {r} {E} {L} e h = record {
    short_half_lem = λ s. absurd (clash (short_half (length H.matrix)) s long);
    as_square = λ _. subst (λ (B : List ℤ). Checked (with_matrix H B) r E L) e h;
  }
