use mathlib.Core.Path.{◌≡◌}
use Prim.Native.Nat.{ℕ, ◌+◌, ◌*◌}
use native.Mathlib.Omega.{arith}
use lib.ListN.{get_or}
use Rattle.linear.specs.Slice.{at}
use Rattle.check_biased_rows.specs.Biased.{RowOf}
use Rattle.check_biased_rows.proofs.Unbiasing.{row_as}
use Rattle.enclosure.specs.Reckoning.{magnitudes_with}
use Rattle.check_arrays.specs.Arrays.{PrefixIs}
use Rattle.check_bounds.specs.Limits.{inverse_part}
use Rattle.check_bounds.proofs.Column.{image_magnitude, slack_magnitudes, magnitudes_small, bounds_of_magnitudes, written_prefix}
use Rattle.check_bounds.proofs.column_bounds.Goals as goal
use Rattle.check_bounds.proofs.column_bounds.Goals.{After-add_slacks, After-magnitudes_of, Start}

row_is : (c : After-magnitudes_of) → RowOf c.bias_row.new.out (0 * (c.args.n + 1)) c.args.n (at c.args.residuals.now)
row_is c =
    let first : 0 * (c.args.n + 1) ≡ 0 = omega arith in
    rw first (row_as _ (λ k l. let e : 0 + k * 1 ≡ k = omega arith in rw e) c.bias_row.ensures.0)

magnitudes_are : (c : After-add_slacks) →
    PrefixIs 0 c.add_slacks.new.magnitudes c.args.n (magnitudes_with (inverse_part c.args.n c.args.rows.now) (at c.args.residuals.now) (λ (k : ℕ). get_or c.args.slacks.now k 0))
magnitudes_are c =
    let z = (goal.at.After-add_slacks c).After-magnitudes_of in
    slack_magnitudes z.args.n z.requires.inverse_rows.rows (row_is z) (λ (k : ℕ). get_or z.args.slacks.now k 0) z.magnitudes_of.ensures.1 c.add_slacks.ensures

pub returns : goal.returns
returns c =
    let a = (goal.at.returns c).After-add_slacks in
    written_prefix _ _ a.requires.n_nonzero.1 (bounds_of_magnitudes _ _ _ _ _ _ _ _ (magnitudes_are (goal.at.returns c).After-add_slacks) c.store_limits.ensures)

pub add_slacks-requires-clause-by_index_2 : goal.add_slacks-requires-clause-by_index_2
add_slacks-requires-clause-by_index_2 c = let z = (goal.at.add_slacks-requires-clause-by_index_2 c).After-magnitudes_of in let s = (goal.at.add_slacks-requires-clause-by_index_2 c).Start in image_magnitude s.args.n s.requires.inverse_rows.rows (row_is (goal.at.add_slacks-requires-clause-by_index_2 c).After-magnitudes_of) s.requires.n_nonzero.1 z.magnitudes_of.ensures.1

pub store_limits-requires-clause-bounded : goal.store_limits-requires-clause-bounded
store_limits-requires-clause-bounded c = let a = (goal.at.store_limits-requires-clause-bounded c).After-add_slacks in let s = (goal.at.store_limits-requires-clause-bounded c).Start in magnitudes_small s.requires.n_nonzero.1 s.requires.inverse_rows s.requires.near (magnitudes_are (goal.at.store_limits-requires-clause-bounded c).After-add_slacks)
