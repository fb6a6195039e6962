use Rattle.doubles_interval.specs.declared.Interval.{Interval}
use mathlib.Core.Path.{◌≡◌, sym, ap, ◌∙◌}
use lib.IntN.{ℤ, pos}
use lib.ListN.{take, get_or}
use Prim.Native.Nat.{◌<◌}
use native.Mathlib.Omega.{arith}
use Rattle.std.proofs.lemmas.List.{get_or-take, length-take-le}
use Rattle.std.proofs.Common.{rules, w64, to_z, of_z}
use Rattle.std.proofs.lemmas.Int.{to_z-of_z}
use Rattle.integer.proofs.Machine.{small}
use Rattle.linear.proofs.Written.{written_none, written_more}
use Rattle.doubles_interval.specs.Interval.{interval_of}
use Rattle.doubles_lists.proofs.write_intervals.Goals as goal
use Rattle.doubles_lists.proofs.write_intervals.Goals.{After-interval_of-v, In-loop-i}

within : (c : In-loop-i) → c.loop-i.i < c.args.n
within c = omega (arith, length-take-le c.args.n c.args.guess.now c.requires.n_in_bounds.0, c.loop-i-test.true)

-- the guess as it is read
guess_is : (c : In-loop-i) → to_z w64 (of_z w64 (get_or (take c.args.n c.args.guess.now) c.loop-i.i (pos 0))) ≡ get_or c.args.guess.now c.loop-i.i (pos 0)
guess_is c =
    ap (λ (z : ℤ). to_z w64 (of_z w64 z)) (get_or-take c.args.n c.args.guess.now c.loop-i.i _ (within c))
    ∙ to_z-of_z w64 _ (small _ (omega (arith, c.requires.small_intervals.guesses c.loop-i.i (within c))))

ends : (c : After-interval_of-v) →
    c.interval_of-v.result ≡ interval_of c.args.s (get_or c.args.guess.now c.loop-i.i (pos 0)) (get_or c.args.bounds.now c.loop-i.i 0)
ends c = rw (guess_is (goal.at.After-interval_of-v c).In-loop-i) at c.interval_of-v.ensures

pub loop-i-init : goal.loop-i-init
loop-i-init c = (search rules, (sym (written_none _ _ _ _), sym (written_none _ _ _ _)))

pub loop-i-preserved : goal.loop-i-preserved
loop-i-preserved c =
    let l = c.loop-i in
    (search rules, (written_more _ _ _ _ l.i l.invariant.1.0 (omega arith) (ap (λ (v : Interval). v.low) (ends c)), written_more _ _ _ _ l.i l.invariant.1.1 (omega arith) (ap (λ (v : Interval). v.high) (ends c))))
