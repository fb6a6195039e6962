-- The exported check by halves, in the words of 02's Paper 10.
--   half_number — every number is said exactly in its stated case: with its places it is what `HalfStated` states
--   half_zero   — 0 is said of nothing but acceptance
--   half_zero_encloses, half_exact_zero — both halves of demand 3, for the filled-out matrix
use mathlib.Core.Bool.{true, false}
use mathlib.Core.List.{List, []}
use mathlib.Core.Path.{◌≡◌, refl, sym, ap, ◌∙◌}
use Prim.Native.Nat.{ℕ, ◌+◌, ◌*◌}
use lib.ListN.{get_or, length}
use Rattle.linear.specs.Matrix.{Vec, Mat}
use Rattle.rules.specs.Refusal.{code}
use Rattle.enclosure.specs.Demand.{Encloses, RoundedExact}
use Rattle.check_spec.specs.Input.{Input, problem, short, in_ranges}
use Rattle.half_fill.specs.Half.{short_half}
use Rattle.half_check.specs.Checked.{filled_input}
use Rattle.half_check.specs.Stated.{HalfStated}
use Rattle.half_check.proofs.Promises.{half_stated, half_encloses, half_accepts}
use Rattle.calls_spec.specs.Half.{HalfExported}
use Rattle.reply.specs.ReplyIs.{ReplyIs}
use Rattle.calls_spec.proofs.Meaning.{zero_code}

module _ {H : Input} {number : ℕ} {places E L : List ℕ} (x : HalfExported H number places E L) where
  pub half_number : (w : List ℕ) × (HalfStated H w × ReplyIs w number places)
  half_number = (code x.outcome, ((half_stated H x.outcome E L x.checked).0 refl, x.status))

  pub half_zero : number ≡ 0 → code x.outcome ≡ []
  half_zero e = zero_code x.outcome (sym x.status.number_is ∙ e)

  pub half_zero_encloses : number ≡ 0 → Encloses (problem (filled_input H)) (λ (i : ℕ). get_or E i 0) (λ (i j : ℕ). get_or L (i * H.n + j) 0)
  half_zero_encloses e = half_encloses H x.outcome E L x.checked (half_zero e)

  pub half_exact_zero : (N : Vec) (q : ℕ) (G : Mat) (q' : ℕ) → short_half (length H.matrix) ≡ false → short (filled_input H) ≡ false → in_ranges (filled_input H) ≡ true →
      RoundedExact (problem (filled_input H)) N q G q' → number ≡ 0
  half_exact_zero N q G q' e s r h = x.status.number_is ∙ ap (λ (l : List ℕ). get_or l 0 0) (half_accepts H x.outcome E L x.checked N q G q' e s r h)
