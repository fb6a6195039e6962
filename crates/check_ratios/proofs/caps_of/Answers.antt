use Rattle.check_ratios.proofs.WithinCaps.{cap_under}
use Rattle.check_arrays.proofs.Filled.{prefix_end}
use Rattle.linear.specs.Slice.{at}
use Rattle.integer.proofs.Search.{largest_at}
use lib.IntN.{nat_abs}
use native.Mathlib.Omega.{arith}
use Prim.Native.Nat.{ℕ}
use Rattle.check_ratios.proofs.caps_of.Goals as goal
use Rattle.check_ratios.proofs.caps_of.Goals.{After-largest_weight-most, Start}

pub nonzero_div-out : goal.nonzero_div-out
nonzero_div-out c =
    let s = (goal.at.nonzero_div-out c).After-largest_weight-most in
    omega (arith, c.largest_weight-most.ensures, largest_at s.args.n (λ (i : ℕ). nat_abs (at s.args.weights.now i)) 0 s.requires.n_nonzero.0, s.requires.by_index 0 s.requires.n_nonzero.0)

pub returns : goal.returns
returns c =
    let s = (goal.at.returns c).Start in
    let h = c.loop-m.invariant in (
      h.1.0,
      record {
        weights_pos = s.requires.by_index;
        under = λ i m li lm. cap_under s.args.n _ i _ _ li ((prefix_end 0 h.0 (omega arith) h.1.1).each m lm);
      },
    )
