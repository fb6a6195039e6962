use native.Mathlib.Omega.{arith}
use Rattle.check_ratios.proofs.WithinCaps.{within_caps_none, within_caps_some}
use Rattle.check_bounds.proofs.Column.{written_as}
use Rattle.check_bounds.proofs.store_limits.Goals as goal
use Rattle.check_bounds.proofs.store_limits.Goals.{After-store, After-store-2, After-store-then-is_within_caps, Else-all_zero, Start, Then-all_zero, Then-is_within_caps}

pub returns-then-all_zero : goal.returns-then-all_zero
returns-then-all_zero c =
    let k = (goal.at.returns-then-all_zero c).After-store in
    let t = (goal.at.returns-then-all_zero c).Then-all_zero in
    let s = (goal.at.returns-then-all_zero c).Start in
    written_as _ _ _ _ _ (within_caps_none _ s.args.magnitudes.now _ s.args.weights.now s.requires.positive s.requires.n_nonzero.1.0 (t.all_zero.ensures.0 t.if-all_zero.true)) k.store.ensures

pub returns-then-is_within_caps : goal.returns-then-is_within_caps
returns-then-is_within_caps c =
    let k = (goal.at.returns-then-is_within_caps c).After-store-then-is_within_caps in
    let e = (goal.at.returns-then-is_within_caps c).Else-all_zero in
    let t = (goal.at.returns-then-is_within_caps c).Then-is_within_caps in
    let s = (goal.at.returns-then-is_within_caps c).Start in
    written_as _ _ _ _ _ (within_caps_some _ _ _ _ s.requires.positive s.requires.caps (t.is_within_caps.ensures t.if-is_within_caps.true) s.requires.n_nonzero.1.0 (λ z. omega (arith, e.all_zero.ensures.1 e.if-all_zero.false, z))) k.store-then-is_within_caps.ensures

pub returns : goal.returns
returns c =
    let k = (goal.at.returns c).After-store-2 in
    written_as _ _ _ _ _ k.ratio_bounds-column.ensures k.store-2.ensures
