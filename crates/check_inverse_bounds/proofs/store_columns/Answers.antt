use mathlib.Core.Path.{◌≡◌, refl, sym}
use Prim.Native.Nat.{ℕ, ◌+◌, ◌*◌}
use native.Mathlib.Omega.{arith}
use lib.ListN.{length}
use Rattle.linear.specs.Slice.{at}
use Rattle.linear.proofs.Carried.{carried_first, carried_next}
use Rattle.enclosure.specs.Reckoning.{magnitudes_with}
use Rattle.check_arrays.specs.Arrays.{PrefixIs}
use Rattle.check_arrays.proofs.Filled.{columns_none}
use Rattle.check_bounds.specs.Limits.{inverse_part, limits_of}
use Rattle.check_bounds.proofs.Column.{magnitudes_small, columns_near, bounds_of_magnitudes, column_more}
use Rattle.check_inverse_bounds.proofs.SymmetricRows.{known_none, magnitudes_plain}
use Rattle.std.proofs.Common.{rules}
use Rattle.check_inverse_bounds.proofs.store_columns.Goals as goal
use Rattle.check_inverse_bounds.proofs.store_columns.Goals.{After-column_magnitudes, In-loop-j, Start}

abbrev F : Start → ℕ → ℕ → ℕ
F s i k = limits_of s.args.n s.args.rows.now (λ (a : ℕ). at s.args.residuals.now (k * s.args.n + a)) (λ (a : ℕ). 0) s.args.margins.now s.args.weights.now i

-- what the magnitudes hold
magnitudes-here : (c : After-column_magnitudes) →
    PrefixIs 0 c.column_magnitudes.new.out c.args.n (magnitudes_with (inverse_part c.args.n c.args.rows.now) (λ (k : ℕ). at c.args.residuals.now (c.loop-j.j * c.args.n + k)) (λ (k : ℕ). 0))
magnitudes-here c =
    let t = (goal.at.After-column_magnitudes c).In-loop-j in
    magnitudes_plain t.args.residuals.now t.loop-j.j t.requires.inverse_rows.rows c.column_magnitudes.ensures.1.0

same_list : (c : After-column_magnitudes) → length c.column_magnitudes.new.list ≡ length c.args.list.now
same_list c = let i = c.loop-j.invariant.1.1.0 in search rules

pub loop-j-init : goal.loop-j-init
loop-j-init c =
    let s = (goal.at.loop-j-init c).Start in
    (omega arith, ((carried_first _ _, carried_first _ _), ((refl, (refl, refl)), ((λ y. known_none s.args.residuals.now), sym (columns_none _ _ _)))))

pub loop-j-preserved : goal.loop-j-preserved
loop-j-preserved c =
    let z = (goal.at.loop-j-preserved c).After-column_magnitudes in
    let l = z.loop-j in
    let s = (goal.at.loop-j-preserved c).Start in (
      omega arith,
      (
        (carried_next l.invariant.1.0.0, carried_next l.invariant.1.0.1),
        (
          (same_list (goal.at.loop-j-preserved c).After-column_magnitudes, z.column_magnitudes.ensures.0),
          (
            z.column_magnitudes.ensures.1.1,
            column_more s.args.dst.now s.args.n (F (goal.at.loop-j-preserved c).Start) l.j l.invariant.1.1.1.1 (bounds_of_magnitudes _ _ _ _ _ _ _ _ (magnitudes-here (goal.at.loop-j-preserved c).After-column_magnitudes) c.store_limits.ensures),
          ),
        ),
      ),
    )

pub store_limits-requires-clause-bounded : goal.store_limits-requires-clause-bounded
store_limits-requires-clause-bounded c = let z = (goal.at.store_limits-requires-clause-bounded c).After-column_magnitudes in let t = (goal.at.store_limits-requires-clause-bounded c).In-loop-j in let l = t.loop-j in let s = (goal.at.store_limits-requires-clause-bounded c).Start in let p = s.requires in magnitudes_small p.n_nonzero.1.0 p.inverse_rows (columns_near l.j t.loop-j-test.true p.column_list) (magnitudes-here (goal.at.store_limits-requires-clause-bounded c).After-column_magnitudes)
