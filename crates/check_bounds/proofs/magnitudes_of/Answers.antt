use native.Mathlib.Omega.{arith}
use Rattle.integer.proofs.Machine.{read}
use Rattle.check_biased_rows.proofs.Unbiasing.{row_dot_magnitude}
use Rattle.check_bounds.proofs.magnitudes_of.Goals as goal
use Rattle.check_bounds.proofs.magnitudes_of.Goals.{In-loop-m, Start}

pub magnitude-requires : goal.magnitude-requires
magnitude-requires c =
    let t = (goal.at.magnitude-requires c).In-loop-m in
    let s = (goal.at.magnitude-requires c).Start in
    rw (read _ c.row_dot.type_inv, c.row_dot.ensures) (omega (arith, row_dot_magnitude s.requires.n_bound.0 (s.requires.biased_rows.0.each t.loop-m.m t.loop-m-test.true).small s.requires.biased_rows.1.small))
