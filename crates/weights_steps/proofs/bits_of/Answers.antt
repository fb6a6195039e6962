use mathlib.Core.Path.{◌≡◌}
use Prim.Native.Nat.{ℕ, suc, ◌*◌, ◌-◌, ◌/◌, ◌^◌, ◌≤◌, ◌<◌}
use native.Mathlib.Omega.{arith}
use native.Mathlib.Nat.{two-pow-succ, div-lt_iff_lt-mul, le-div_iff_mul-le, div-mul-le_self, pow-le-pow_right}
use lib.Count.{count_leading_zeros}
use Rattle.std.proofs.lemmas.Nat.{leading_length, pow_pos}
use Rattle.weights_spec.specs.Sequence.{bits}
use Rattle.weights_spec.proofs.Bits.{bits_is}
use Rattle.weights_steps.proofs.bits_of.Goals as goal

-- the length of u / 1024 in bits is the fewest bits that bring u below 1024
length_is : (u : ℕ) → u < 2 ^ 64 → 64 - count_leading_zeros 64 (u / 1024) ≡ bits u
length_is u h =
    let l = leading_length 64 (u / 1024) (omega (arith, div-mul-le_self u 1024)) in
    let m : ℕ = l.0 in
    let below : u < 2 ^ m * 1024 = (div-lt_iff_lt-mul {k = 1024} (omega arith)).0 l.2 in
    let enough : u / 2 ^ m < 1024 = (div-lt_iff_lt-mul {k = 2 ^ m} (pow_pos m)).1 (omega arith) in
    let needed : (j : ℕ) → j < m → 1024 ≤ u / 2 ^ j =
    λ j lj.
    let p : 2 ^ suc j ≤ 2 ^ m = pow-le-pow_right {n = 2} (omega arith) {i = suc j} {j = m} lj in
    (le-div_iff_mul-le {k = 2 ^ j} (pow_pos j)).1 (omega (arith, p, two-pow-succ j, l.3, div-mul-le_self u 1024)) in
    let long : 64 - count_leading_zeros 64 (u / 1024) ≡ m = omega (arith, l.1) in
    rw long (bits_is u m (omega arith) (λ j lj. needed j lj))

pub returns : goal.returns
returns c = length_is c.args.u c.ranges.u.fits
