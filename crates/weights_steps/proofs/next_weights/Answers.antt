use mathlib.Core.Path.{◌≡◌}
use Prim.Native.Nat.{ℕ, ◌/◌, ◌^◌, ◌≤◌, ◌<◌}
use native.Mathlib.Omega.{arith}
use lib.ListN.{get_or, length-take}
use Rattle.std.proofs.lemmas.List.{get_or-take}
use Rattle.integer.specs.Finite.{largest}
use Rattle.integer.proofs.Search.{largest_at}
use Rattle.weights_spec.specs.Sequence.{bits}
use Rattle.weights_spec.proofs.Bits.{bits_fit, bits_most}
use Rattle.weights_spec.proofs.Lists.{shifted_small}
use Rattle.weights_steps.proofs.next_weights.Goals as goal
use Rattle.weights_steps.proofs.next_weights.Goals.{After-bits_of-count, Start}

module _ (c : After-bits_of-count) where
  count-is : c.bits_of-count.result ≡ bits (largest c.args.n (λ (m : ℕ). get_or c.args.loads.now m 0))
  count-is = rw c.largest_of.ensures at c.bits_of-count.ensures

  count_few : c.bits_of-count.result ≤ 54
  count_few = rw c.bits_of-count.ensures (bits_most _ (omega arith))

  small : (i : ℕ) → i < c.args.n → get_or c.args.loads.now i 0 / 2 ^ c.bits_of-count.result ≤ 1023
  small i l =
      let s = (goal.at.After-bits_of-count c).Start in
      let f : ℕ → ℕ = λ m. get_or s.args.loads.now m 0 in
      rw count-is (shifted_small (largest s.args.n f) (f i) (bits (largest s.args.n f)) (largest_at s.args.n f i l) (bits_fit (largest s.args.n f)))

pub overflow_shr-out : goal.overflow_shr-out
overflow_shr-out c = omega (arith, count_few (goal.at.overflow_shr-out c).After-bits_of-count)

pub overflow_add-out : goal.overflow_add-out
overflow_add-out c =
    let inside : c.loop-i.i < c.args.n = omega (arith, length-take {A = ℕ}) in
    rw (get_or-take c.args.n c.args.loads.now c.loop-i.i 0 inside) (omega (arith, small (goal.at.overflow_add-out c).After-bits_of-count _ inside))
