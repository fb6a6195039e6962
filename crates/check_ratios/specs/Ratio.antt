-- Comparing |p_m| / g_m without products above 2^60: by quotients, then by remainders times the other margin; cited by contracts inside.
--   ratio_of m p g  — row m with the quotient and the remainder of p by g
--   larger_ratio_of a b  — b where its ratio is larger, else a
--   WithinCaps magnitudes caps n — each of n magnitudes is at most its cap
--   Caps caps margins weights n — weights above 0, and each weight times a row's cap is at most its margin: a magnitude at most its cap has limits of at most 1
--   SmallTerms, Positive, Bounded — how large the numbers may be for the arithmetic to fit
use Rattle.std.specs.Prelude.{cond, List, ℕ, ◌*◌, ◌/◌, ◌%◌, ◌≤◌, ◌<◌, ◌^◌, ltb, ℤ, nat_abs, get_or}
use Rattle.linear.specs.Slice.{at}
use Rattle.enclosure.specs.Largest.{largest_magnitude}
use Rattle.check_ratios.specs.declared.Ratio.{Ratio}

abbrev pub ratio_of : ℕ → ℕ → ℕ → Ratio
ratio_of m p g = record { row = m; quotient = p / g; remainder = p % g; margin = g }

unfoldable pub larger_ratio_of : Ratio → Ratio → Ratio
larger_ratio_of a b =
    cond (ltb a.quotient b.quotient) b
    (cond (ltb b.quotient a.quotient) a (cond (ltb (a.remainder * b.margin) (b.remainder * a.margin)) b a))

-- remainder and margin of a ratio are at most 2^30
pub record SmallTerms (a : Ratio) : Type 0 where
  pub low : a.remainder ≤ 2 ^ 30
  pub high : a.margin ≤ 2 ^ 30

-- n margins above 0 and at most 2^30
pub record Positive (margins : List ℕ) (n : ℕ) : Type 0 where
  pub above : (m : ℕ) → m < n → 0 < get_or margins m 0
  pub most : (m : ℕ) → m < n → get_or margins m 0 ≤ 2 ^ 30

-- n magnitudes of at most 2^50
pub record Bounded (magnitudes : List ℕ) (n : ℕ) : Type 0 where
  pub most : (m : ℕ) → m < n → get_or magnitudes m 0 ≤ largest_magnitude

pub record WithinCaps (magnitudes caps : List ℕ) (n : ℕ) : Type 0 where
  pub each : (m : ℕ) → m < n → get_or magnitudes m 0 ≤ get_or caps m 0

pub record Caps (caps margins : List ℕ) (weights : List ℤ) (n : ℕ) : Type 0 where
  pub weights_pos : (i : ℕ) → i < n → 0 < nat_abs (at weights i)
  pub under : (i m : ℕ) → i < n → m < n → nat_abs (at weights i) * get_or caps m 0 ≤ get_or margins m 0
