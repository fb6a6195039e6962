-- What the arrays of a call hold is what the definitions say.
--   low_is      — the first margin of 0 is the lowest row whose margin is 0 or less
--   under, full_small — a margin is at most T·w, which is at most 2^30
--   above       — where every margin is above 0, so are those of the array
--   spread_is, margin_is — T·w and the load, and the margin;  row_is — the peak of the arrays is the problem's
use mathlib.Core.Path.{◌≡◌, sym, ap, ◌∙◌}
use mathlib.Core.List.{List}
use Prim.Native.Nat.{ℕ, ◌*◌, ◌-◌, ◌≤◌, ◌<◌, ◌^◌}
use native.Mathlib.Omega.{arith}
use native.Mathlib.Nat.{mul-le-mul}
use lib.Dec.{eqb}
use lib.IntN.{nat_abs}
use lib.ListN.{get_or}
use Rattle.integer.specs.Finite.{first}
use Rattle.integer.proofs.Search.{first_ext}
use Rattle.linear.specs.Slice.{at}
use Rattle.enclosure.specs.Sound.{Margins}
use Rattle.enclosure.specs.Problem.{Problem, T}
use Rattle.enclosure.specs.Reckoning.{load, margin, margin_fails}
use Rattle.enclosure.proofs.Margin.{cut_test, margin_test, margin_sum, margin_above, margin_cut}
use Rattle.check_arrays.specs.Arrays.{PrefixIs}
use Rattle.check_arrays.specs.Parts.{cut_margin}
use Rattle.check_arrays.proofs.Magnitudes.{power_magnitude}
use Rattle.check_spec.specs.Order.{first_margin}
use Rattle.quality_spec.specs.Peak.{spread, peak, peak_row}
use Rattle.quality_spec.specs.Inquiry.{Inquiry, inquiry_problem}
use Rattle.quality_spec.proofs.Contract.{FitInquiry}
use Rattle.quality_spec.proofs.Peak.{peak_ext}

pub full_small : (Q : Inquiry) → FitInquiry Q → (m : ℕ) → m < Q.n → 2 ^ Q.t * nat_abs (at Q.weights m) ≤ 2 ^ 20 * 1024
full_small Q f m l = mul-le-mul (power_magnitude Q.t f.scale) (f.weights.within.magnitudes m l)

module _ (Q : Inquiry) {margins : List ℕ} (hm : PrefixIs 0 margins Q.n (cut_margin (inquiry_problem Q))) where
  abbrev P : Problem
  P = inquiry_problem Q

  pub low_is : {m : ℕ} → m ≡ first Q.n (λ (k : ℕ). eqb (get_or margins k 0) 0) → m ≡ first_margin P
  low_is e =
      e
      ∙ first_ext Q.n (λ (k : ℕ). eqb (get_or margins k 0) 0) (margin_fails P)
      (λ k l. ap (λ (x : ℕ). eqb x 0) (hm.each k l) ∙ cut_test (T P * P.w k) (load P k) ∙ sym (margin_test P k))

  pub under : (m : ℕ) → m < Q.n → get_or margins m 0 ≤ 2 ^ Q.t * nat_abs (at Q.weights m)
  under m l = rw (hm.each m l) (omega arith)

  module _ (h : Margins P) where
    pub margin_is : (m : ℕ) → m < Q.n → get_or margins m 0 ≡ nat_abs (margin P m)
    margin_is m l = hm.each m l ∙ sym (margin_cut P m (omega (arith, margin_sum P m (h m l))))

    pub above : (m : ℕ) → m < Q.n → 0 < get_or margins m 0
    above m l = omega (arith, margin_is m l, margin_above P m (h m l))

    module _ {spreads : List ℕ} (hs : PrefixIs 0 spreads Q.n (λ (m : ℕ). 2 * (2 ^ Q.t * nat_abs (at Q.weights m)) - get_or margins m 0)) where
      pub spread_is : (m : ℕ) → m < Q.n → get_or spreads m 0 ≡ spread P m
      spread_is m l = omega (arith, hs.each m l, margin_is m l, margin_sum P m (h m l))

      pub row_is : peak Q.n (λ (m : ℕ). get_or spreads m 0) (λ (m : ℕ). get_or margins m 0) ≡ peak_row P
      row_is = peak_ext Q.n (λ (m : ℕ). get_or spreads m 0) (spread P) (λ (m : ℕ). get_or margins m 0) (λ (m : ℕ). nat_abs (margin P m)) spread_is margin_is
