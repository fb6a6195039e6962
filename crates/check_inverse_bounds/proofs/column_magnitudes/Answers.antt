use mathlib.Core.Path.{◌≡◌, ◌∙◌}
use Prim.Native.Nat.{ℕ, ◌+◌, ◌*◌}
use native.Mathlib.Omega.{arith}
use lib.ListN.{length}
use Rattle.integer.proofs.Search.{clash}
use Rattle.linear.specs.Slice.{at}
use Rattle.linear.proofs.Carried.{start_place}
use Rattle.linear.proofs.Places.{row_room}
use Rattle.check_biased_rows.specs.Biased.{RowOf}
use Rattle.check_biased_rows.proofs.Unbiasing.{row_as}
use Rattle.check_inverse_bounds.proofs.SymmetricRows.{magnitudes_in, known_across, known_more}
use Rattle.check_inverse_bounds.proofs.column_magnitudes.Goals as goal
use Rattle.check_inverse_bounds.proofs.column_magnitudes.Goals.{After-bias_row, After-read_across, After-work_out, Else-symmetric, Start}

-- the start, from the biased residuals
abbrev start : After-bias_row → Start
start r = (goal.at.After-bias_row r).Start

abbrev biased : After-read_across → After-bias_row
biased c = (goal.at.After-read_across c).After-bias_row

row_is : (r : After-bias_row) →
    let s = r.args in RowOf r.bias_row.new.out (0 * (s.n + 1)) s.n (λ (k : ℕ). at s.residuals.now (s.j * s.n + k))
row_is r =
    let s = (goal.at.After-bias_row r).Start in
    let first : 0 * (s.args.n + 1) ≡ 0 = omega arith in
    rw first (row_as _ (λ k l. let e : s.args.start + k * 1 ≡ s.args.j * s.args.n + k = omega (arith, start_place s.requires.carried.1) in rw e) r.bias_row.ensures.0)

-- the place of the diagonal
diagonal : (s : Start) → s.args.place ≡ s.args.j * s.args.n + s.args.j
diagonal s = omega (arith, start_place s.requires.carried.0)

long : (r : After-bias_row) → length r.bias_row.new.out ≡ 33
long r = r.bias_row.ensures.1.long ∙ r.requires.n_bound.1.1.1.0

pub returns-then-symmetric : goal.returns-then-symmetric
returns-then-symmetric c =
    let a = (goal.at.returns-then-symmetric c).After-read_across in
    let r = (goal.at.returns-then-symmetric c).After-bias_row in
    let s = (goal.at.returns-then-symmetric c).Start in
    let p = s.requires in
    let z = (goal.at.returns-then-symmetric c).After-work_out in (
      (z.work_out.ensures.0, long (goal.at.returns-then-symmetric c).After-bias_row),
      (
        magnitudes_in s.args.residuals.now s.args.j p.biased_rows (row_is (goal.at.returns-then-symmetric c).After-bias_row) z.work_out.ensures.1.0,
        λ y. known_more s.args.residuals.now s.args.j p.biased_rows (row_is (goal.at.returns-then-symmetric c).After-bias_row) p.n_bound.1.0 (row_room p.n_bound.1.0 p.n_bound.1.1.1.1) (p.symmetric_product y).1 (rw (diagonal (goal.at.returns-then-symmetric c).Start) at z.work_out.ensures.1.1),
      ),
    )

pub returns : goal.returns
returns c =
    let t = (goal.at.returns c).Else-symmetric in
    let r = (goal.at.returns c).After-bias_row in
    let s = (goal.at.returns c).Start in (
      (c.work_out-2.ensures.0, long (goal.at.returns c).After-bias_row),
      (magnitudes_in s.args.residuals.now s.args.j s.requires.biased_rows (row_is (goal.at.returns c).After-bias_row) c.work_out-2.ensures.1.0, λ y. clash _ y t.if-symmetric.false),
    )

pub work_out-requires-clause-prefix_is : goal.work_out-requires-clause-prefix_is
work_out-requires-clause-prefix_is c = let a = (goal.at.work_out-requires-clause-prefix_is c).After-read_across in let r = (goal.at.work_out-requires-clause-prefix_is c).After-bias_row in let s = (goal.at.work_out-requires-clause-prefix_is c).Start in let p = s.requires in let both = p.symmetric_product a.if-symmetric.true in known_across s.args.residuals.now s.args.j p.biased_rows (row_is (goal.at.work_out-requires-clause-prefix_is c).After-bias_row) p.n_bound.1.0 both.0 both.1 a.read_across.ensures.1
