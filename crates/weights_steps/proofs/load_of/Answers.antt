use mathlib.Core.Path.{◌≡◌, sym, ap₂}
use Prim.Native.Nat.{ℕ, ◌+◌, ◌*◌, ◌≤◌, ◌<◌, ◌^◌}
use native.Mathlib.Omega.{arith}
use native.Mathlib.Nat.{mul-le-mul}
use lib.ListN.{get_or, take, length-take}
use Rattle.std.proofs.lemmas.List.{get_or-take}
use Rattle.integer.proofs.Sum.{sumℕ_none, sumℕ_next, sumℕ≤}
use Rattle.linear.proofs.Carried.{carried_first, carried_next}
use Rattle.linear.proofs.Places.{place}
use Rattle.weights_steps.proofs.load_of.Goals as goal
use Rattle.weights_steps.proofs.load_of.Goals.{In-loop-w}

-- turn j weighs number m of column j by weight j
module _ (c : In-loop-w) where
  abbrev j : ℕ
  j = c.loop-w.w-index

  inside : j < c.args.n
  inside = omega (arith, length-take {A = ℕ}, c.loop-w-test.true)

  there : c.loop-w.place ≡ j * c.args.n + c.args.m
  there = omega (arith, c.loop-w.invariant.place.is)

  weight_is : get_or (take c.args.n c.args.weights.now) j 0 ≡ get_or c.args.weights.now j 0
  weight_is = get_or-take c.args.n c.args.weights.now j 0 inside

  each_small : (k : ℕ) → k < c.args.n → get_or c.args.magnitudes.now (k * c.args.n + c.args.m) 0 * get_or c.args.weights.now k 0 ≤ 2 ^ 56
  each_small k l = mul-le-mul (c.requires.below.0.each _ (place l c.requires.n_bound.1)) (c.requires.below.1.each k l)

  term_small : get_or c.args.magnitudes.now c.loop-w.place 0 * get_or (take c.args.n c.args.weights.now) j 0 ≤ 2 ^ 56
  term_small = omega (arith, ap₂ (λ (p w : ℕ). get_or c.args.magnitudes.now p 0 * w) there weight_is, each_small j inside)

  sum_small : c.loop-w.sum ≤ 2 ^ 61
  sum_small = omega (arith, inside, c.requires.n_bound.0, c.loop-w.invariant.sum, sumℕ≤ j (2 ^ 56) _ (λ k l. each_small k (omega (arith, inside))))

pub overflow_mul-sum : goal.overflow_mul-sum
overflow_mul-sum c = omega (arith, term_small (goal.at.overflow_mul-sum c).In-loop-w)

pub overflow_add-sum : goal.overflow_add-sum
overflow_add-sum c =
    let t = (goal.at.overflow_add-sum c).In-loop-w in
    omega (arith, term_small t, sum_small t)

pub loop-w-init : goal.loop-w-init
loop-w-init c = record { place = carried_first _ _; sum = sym (sumℕ_none _) }

pub loop-w-preserved : goal.loop-w-preserved
loop-w-preserved c =
    let t = (goal.at.loop-w-preserved c).In-loop-w in
    record { place = carried_next c.loop-w.invariant.place; sum = rw (c.loop-w.invariant.sum, there t, weight_is t) (sym (sumℕ_next _ _)) }
