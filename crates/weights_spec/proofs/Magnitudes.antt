-- The sums |D|·w of a problem in 01's ranges stay within 64 bits.
--   load_magnitude — u ≤ 2^60 + 2^35 for weights of at most 1,024;  tried_load — for each list of the sequence
use Prim.Native.Nat.{ℕ, ◌+◌, ◌*◌, ◌^◌, ◌≤◌, ◌<◌}
use native.Mathlib.Nat.{mul-le-mul, mul-le-mul_right, le_trans}
use lib.IntN.{nat_abs}
use Rattle.integer.proofs.Sum.{sumℕ≤}
use Rattle.enclosure.specs.Problem.{Problem}
use Rattle.enclosure.specs.Reckoning.{defect, load}
use Rattle.check_arrays.proofs.Magnitudes.{Ranged, defect_most}
use Rattle.weights_spec.specs.Sequence.{loads, tried}
use Rattle.weights_spec.proofs.Lists.{tried_high}

module _ (P : Problem) (r : Ranged P) where
  module _ (w : ℕ → ℕ) (light : (i : ℕ) → i < P.n → w i ≤ 1024) where
    pub load_magnitude : (m : ℕ) → m < P.n → loads P w m ≤ 2 ^ 60 + 2 ^ 35
    unfolding load defect
    load_magnitude m lm =
        le_trans
        (sumℕ≤ P.n ((2 ^ 45 + 2 ^ 20) * 1024) (λ (j : ℕ). nat_abs (defect P m j) * w j) (λ j lj. mul-le-mul (defect_most P r m j lm lj) (light j lj)))
        (mul-le-mul_right ((2 ^ 45 + 2 ^ 20) * 1024) r.n_max)

  pub tried_load : (k m : ℕ) → m < P.n → loads P (tried P k) m ≤ 2 ^ 60 + 2 ^ 35
  tried_load k = load_magnitude (tried P k) (tried_high P k)
