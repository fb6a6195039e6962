-- Every end of a common interval is at most 2^57 in absolute value: after 21, X ± E is at most 2^37, and a step is cut into at most 2^20.
--   stepped_magnitude — one end;  end_magnitude — those of the common interval
use mathlib.Core.Path.{◌≡◌}
use mathlib.Core.List.{[]}
use Prim.Native.Nat.{ℕ, ◌-◌, ◌≤◌, ◌<◌, ◌^◌}
use native.Mathlib.Omega.{arith}
use native.Mathlib.Nat.{mul-le-mul, pow-le-pow_right}
use lib.IntN.{ℤ, pos, nat_abs, ◌+ℤ◌, ◌-ℤ◌, ◌*ℤ◌}
use Rattle.integer.proofs.Absolute.{abs-+, abs_sub, abs-*}
use Rattle.linear.specs.Slice.{at}
use Rattle.enclosure.specs.Reckoning.{bound}
use Rattle.check_spec.specs.Input.{Input, problem}
use Rattle.check_spec.specs.Order.{answer}
use Rattle.check_spec.proofs.Fit.{fit_of}
use Rattle.check_spec.proofs.Statements.{accepted_usable}
use Rattle.common_spec.specs.Proposals.{Proposals}
use Rattle.common_spec.specs.Ends.{finer, in_steps, low_of, high_of, low_end, high_end}
use Rattle.common_spec.specs.Answer.{common_answer}
use Rattle.common_spec.specs.Stated.{NoneWide}
use Rattle.common_spec.proofs.Order.{max_either, min_either}
use Rattle.common_spec.proofs.Statements.{found_case}

pub stepped_magnitude : (k : ℕ) (z : ℤ) → k ≤ 20 → nat_abs z ≤ 2 ^ 37 → nat_abs (pos (2 ^ k) *ℤ z) ≤ 2 ^ 57
stepped_magnitude k z h l = rw (abs-* (pos (2 ^ k)) z) (omega (arith, mul-le-mul (pow-le-pow_right {n = 2} (omega arith) {i = k} {j = 20} h) l))

module _ (I : Input) (a : answer I ≡ []) (u : NoneWide I) (s : ℕ) (h : s ≤ 20) (i : ℕ) (l : i < I.n) where
  guess_magnitude : nat_abs (at I.guess i) ≤ 2 ^ 36
  guess_magnitude = let v = accepted_usable I a in (fit_of I v.long v.inside).guess.within.magnitudes i l

  steps_magnitude : (z : ℤ) → nat_abs z ≤ 2 ^ 37 → nat_abs (in_steps s I z) ≤ 2 ^ 57
  steps_magnitude z = stepped_magnitude (s - I.s) z (omega arith)

  low_magnitude : nat_abs (low_of s I i) ≤ 2 ^ 57
  low_magnitude = steps_magnitude (at I.guess i -ℤ pos (bound (problem I) i)) (omega (arith, abs_sub (at I.guess i) (pos (bound (problem I) i)), guess_magnitude, u.each i l))

  high_magnitude : nat_abs (high_of s I i) ≤ 2 ^ 57
  high_magnitude = steps_magnitude (at I.guess i +ℤ pos (bound (problem I) i)) (omega (arith, abs-+ (at I.guess i) (pos (bound (problem I) i)), guess_magnitude, u.each i l))

scale : (I : Input) → answer I ≡ [] → I.s ≤ 20
scale I a = let v = accepted_usable I a in (fit_of I v.long v.inside).solution_scale

pub end_magnitude : (Q : Proposals) → common_answer Q ≡ [] → (i : ℕ) → i < Q.first.n →
    (nat_abs (low_end Q.first Q.second i) ≤ 2 ^ 57) × (nat_abs (high_end Q.first Q.second i) ≤ 2 ^ 57)
unfolding low_end high_end
end_magnitude Q e i l =
    let c = found_case Q e in
    let I : Input = Q.first in
    let J : Input = Q.second in
    let s : ℕ = finer I J in
    let n_max : finer I J ≤ 20 = omega (arith, scale I c.first, scale J c.second) in
    let lj : i < J.n = omega (arith, c.same.n) in (
      max_either (low_of s I i) (low_of s J i) (λ (z : ℤ). nat_abs z ≤ 2 ^ 57) (low_magnitude I c.first c.first_narrow s n_max i l) (low_magnitude J c.second c.second_narrow s n_max i lj),
      min_either (high_of s I i) (high_of s J i) (λ (z : ℤ). nat_abs z ≤ 2 ^ 57) (high_magnitude I c.first c.first_narrow s n_max i l) (high_magnitude J c.second c.second_narrow s n_max i lj),
    )
