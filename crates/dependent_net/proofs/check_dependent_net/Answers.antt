use mathlib.Core.Path.{◌≡◌, refl, sym, ◌∙◌}
use mathlib.Core.Bool.{true, false}
use Prim.Native.Nat.{◌*◌, ◌≤◌, ◌^◌}
use native.Mathlib.Omega.{arith}
use native.Mathlib.Nat.{mul-le-mul}
use borrow.Author.Tests.{lt-ltb, le-ltb, eq-eqb, ne_eqb}
use lib.Dec.{eqb}
use lib.ListN.{get_or, length}
use Rattle.linear.specs.Reach.{ColumnList}
use Rattle.linear.specs.Slice.{vector_of}
use Rattle.rules.proofs.Ranges.{both, both_left, not_both, not_first, neither, size_range}
use Rattle.check_spec.specs.Input.{Input, input, short, sizes_in_range, in_ranges}
use Rattle.check_spec.proofs.Fit.{Fit}
use Rattle.dependent_spec.specs.Nets.{DependentNet, dependent_by}
use Rattle.dependent_spec.specs.Order.{dependent_short}
use Rattle.dependent_spec.specs.Stated.{UsableDependent}
use Rattle.dependent_spec.proofs.Statements.{own_fit}
use Rattle.dependent_net.proofs.Handed.{HandedDependent, coupling_list, scaled_list, own_slacks, workable, computed_dependent}
use Rattle.dependent_net.proofs.Refused.{dependent_short_lem, dependent_range}
use Rattle.std.proofs.Common.{rules}
use Rattle.dependent_net.proofs.check_dependent_net.Goals as goal
use Rattle.dependent_net.proofs.check_dependent_net.Goals.{then-coupling-lt-MATRIX_LENGTH-via-then-coupling-lt-MATRIX_LENGTH, then-coupling-lt-MATRIX_LENGTH-via-else-coupling-lt-MATRIX_LENGTH+then-is_short, then-not-are_sizes_in_range-via-then-not-are_sizes_in_range, then-not-are_sizes_in_range-via-else-not-are_sizes_in_range+then-not-are_lists_in_range, then-not-are_sizes_in_range-via-else-not-are_sizes_in_range+else-not-are_lists_in_range+then-s-main_scale, then-not-are_sizes_in_range-via-else-not-are_sizes_in_range+else-not-are_lists_in_range+else-s-main_scale+then-not-all_in_range, After-allowed_of-2, After-base_of-base, After-row_sums_of, After-slacks_with-slacks, Else-is_short, Start, Else-not-all_in_range, Else-not-are_lists_in_range, Else-not-are_sizes_in_range, Else-s-main_scale}

abbrev I : Start → Input
I s =
    let a = s.args in
    input a.n a.s a.t a.matrix.now a.right.now a.tolerance.now a.guess.now a.inverse.now a.weights.now a.solution_bounds.now a.inverse_bounds.now

abbrev D : Start → DependentNet
D s = dependent_by s.args.marks s.args.main_scale (vector_of s.args.main_guess.now) (λ j. get_or s.args.main_limits j 0) s.args.coupling.now (I s)

not_short : (c : Else-is_short) → short (I (goal.at.Else-is_short c).Start) ≡ false
not_short c = sym c.is_short.ensures ∙ c.if-is_short.false

long : (c : Else-is_short) → dependent_short (D (goal.at.Else-is_short c).Start) ≡ false
long c = neither (le-ltb _ _ c.if-coupling-lt-MATRIX_LENGTH.false) (not_short c)

sizes : (c : Else-not-are_sizes_in_range) → sizes_in_range (I (goal.at.Else-not-are_sizes_in_range c).Start).n (I (goal.at.Else-not-are_sizes_in_range c).Start).s (I (goal.at.Else-not-are_sizes_in_range c).Start).t ≡ true
sizes c = sym c.are_sizes_in_range.ensures ∙ c.if-not-are_sizes_in_range.false

within : (c : Else-not-are_lists_in_range) → in_ranges (I (goal.at.Else-not-are_lists_in_range c).Start) ≡ true
within c = both (sizes (goal.at.Else-not-are_lists_in_range c).Else-not-are_sizes_in_range) (sym c.are_lists_in_range.ensures ∙ c.if-not-are_lists_in_range.false)

one_scale : (c : Else-s-main_scale) → eqb c.args.s c.args.main_scale ≡ true
one_scale c = eq-eqb _ _ c.if-s-main_scale.false

n_max : (c : Else-not-are_sizes_in_range) → c.args.n ≤ 32
n_max c = (size_range _ (both_left _ _ (sizes c))).1

usable : (c : Else-not-all_in_range) → UsableDependent (D (goal.at.Else-not-all_in_range c).Start)
usable c =
    let t = (goal.at.Else-not-all_in_range c).Else-s-main_scale in
    record {
      long = long (goal.at.Else-s-main_scale t).Else-is_short;
      inside = both (within (goal.at.Else-s-main_scale t).Else-not-are_lists_in_range) (both (one_scale t) (sym c.all_in_range.ensures ∙ c.if-not-all_in_range.false));
    }

fit : (c : Else-not-all_in_range) → Fit (I (goal.at.Else-not-all_in_range c).Start)
fit c = own_fit (D (goal.at.Else-not-all_in_range c).Start) (usable c)

coupled : (c : Else-not-all_in_range) → ColumnList c.args.coupling.now (c.args.n * c.args.marks) (2 ^ 20)
coupled c =
    coupling_list _ _ _ (fit c).n_max c.requires.marks_bound c.if-coupling-lt-MATRIX_LENGTH.false
    (sym c.all_in_range.ensures ∙ c.if-not-all_in_range.false)

base-length : (b : After-base_of-base) → length b.base_of-base.result ≡ 32
base-length b = search rules

handed : (z : After-allowed_of-2) →
    let r = (goal.at.After-allowed_of-2 z).After-row_sums_of in
    let w = (goal.at.After-row_sums_of r).After-slacks_with-slacks in
    HandedDependent z.args.marks z.args.main_guess.now z.args.main_limits z.args.coupling.now (I (goal.at.After-allowed_of-2 z).Start)
    w.scaled_right.new.out w.base_of-base.result w.slacks_of.new.out w.slacks_with-slacks.result z.allowed_of.new.out r.row_sums_of.new.out
    z.allowed_of-2.new.out
handed z =
    let r = (goal.at.After-allowed_of-2 z).After-row_sums_of in
    let w = (goal.at.After-row_sums_of r).After-slacks_with-slacks in
    record {
      scaled_long = w.scaled_right.ensures.0;
      scaled = w.scaled_right.ensures.1;
      base_long = base-length (goal.at.After-slacks_with-slacks w).After-base_of-base;
      base = w.base_of-base.ensures;
      own = w.slacks_of.ensures.1;
      slacks = w.slacks_with-slacks.ensures;
      allowed_long = z.allowed_of.ensures.0;
      allowed = z.allowed_of.ensures.1;
      sums = r.row_sums_of.ensures.1;
      in_columns_long = z.allowed_of-2.ensures.0;
      in_columns = z.allowed_of-2.ensures.1;
    }

pub all_in_range-requires : goal.all_in_range-requires
all_in_range-requires c =
    omega (arith, mul-le-mul (n_max (goal.at.all_in_range-requires c).Else-not-are_sizes_in_range) c.requires.marks_bound, c.if-coupling-lt-MATRIX_LENGTH.false)

pub allowed_of-requires : goal.allowed_of-requires
allowed_of-requires c = ((fit (goal.at.allowed_of-requires c).Else-not-all_in_range).n_max, refl)

pub compute_bounds-requires : goal.compute_bounds-requires
compute_bounds-requires c =
    let s = (goal.at.compute_bounds-requires c).Start in
    workable s.args.marks s.args.main_scale s.args.main_guess.now s.args.main_limits s.args.coupling.now (I s) s.requires.marks_bound s.requires.column_list
    (usable (goal.at.compute_bounds-requires c).Else-not-all_in_range) (handed (goal.at.compute_bounds-requires c).After-allowed_of-2)

pub are_lists_in_range-requires-clause-n_bound : goal.are_lists_in_range-requires-clause-n_bound
are_lists_in_range-requires-clause-n_bound c = n_max c

pub scaled_right-requires-clause-column_list : goal.scaled_right-requires-clause-column_list
scaled_right-requires-clause-column_list c = (fit (goal.at.scaled_right-requires-clause-column_list c).Else-not-all_in_range).right

pub scaled_right-requires-clause-s_bound : goal.scaled_right-requires-clause-s_bound
scaled_right-requires-clause-s_bound c =
    let x = fit (goal.at.scaled_right-requires-clause-s_bound c).Else-not-all_in_range in (x.solution_scale, (x.n_max, refl))

pub base_of-base-requires-clause-marks_bound : goal.base_of-base-requires-clause-marks_bound
base_of-base-requires-clause-marks_bound c = (c.requires.marks_bound, (fit (goal.at.base_of-base-requires-clause-marks_bound c).Else-not-all_in_range).n_max)

pub base_of-base-requires-clause-column_list_2 : goal.base_of-base-requires-clause-column_list_2
base_of-base-requires-clause-column_list_2 c = coupled (goal.at.base_of-base-requires-clause-column_list_2 c).Else-not-all_in_range

pub base_of-base-requires-clause-column_list : goal.base_of-base-requires-clause-column_list
base_of-base-requires-clause-column_list c =
    scaled_list (I (goal.at.base_of-base-requires-clause-column_list c).Start) (fit (goal.at.base_of-base-requires-clause-column_list c).Else-not-all_in_range) c.scaled_right.ensures.0 c.scaled_right.ensures.1

pub slacks_of-requires-clause-s_bound : goal.slacks_of-requires-clause-s_bound
slacks_of-requires-clause-s_bound c =
    let x = fit (goal.at.slacks_of-requires-clause-s_bound c).Else-not-all_in_range in (x.solution_scale, (x.n_max, refl))

pub slacks_of-requires-clause-column_list : goal.slacks_of-requires-clause-column_list
slacks_of-requires-clause-column_list c = (fit (goal.at.slacks_of-requires-clause-column_list c).Else-not-all_in_range).tolerance

pub slacks_with-slacks-requires-clause-by_index : goal.slacks_with-slacks-requires-clause-by_index
slacks_with-slacks-requires-clause-by_index c =
    own_slacks (I (goal.at.slacks_with-slacks-requires-clause-by_index c).Start) (fit (goal.at.slacks_with-slacks-requires-clause-by_index c).Else-not-all_in_range) c.slacks_of.ensures.1

pub slacks_with-slacks-requires-clause-column_list : goal.slacks_with-slacks-requires-clause-column_list
slacks_with-slacks-requires-clause-column_list c = coupled (goal.at.slacks_with-slacks-requires-clause-column_list c).Else-not-all_in_range

pub slacks_with-slacks-requires-clause-marks_bound : goal.slacks_with-slacks-requires-clause-marks_bound
slacks_with-slacks-requires-clause-marks_bound c = (c.requires.marks_bound, (fit (goal.at.slacks_with-slacks-requires-clause-marks_bound c).Else-not-all_in_range).n_max)

pub row_sums_of-requires-clause-matrix_list : goal.row_sums_of-requires-clause-matrix_list
row_sums_of-requires-clause-matrix_list c = (fit (goal.at.row_sums_of-requires-clause-matrix_list c).Else-not-all_in_range).matrix

pub row_sums_of-requires-clause-n_bound : goal.row_sums_of-requires-clause-n_bound
row_sums_of-requires-clause-n_bound c = ((fit (goal.at.row_sums_of-requires-clause-n_bound c).Else-not-all_in_range).n_max, refl)

pub allowed_of-requires-2 : goal.allowed_of-requires-2
allowed_of-requires-2 c = ((fit (goal.at.allowed_of-requires-2 c).Else-not-all_in_range).n_max, refl)

pub returns-then-coupling-lt-MATRIX_LENGTH : goal.returns-then-coupling-lt-MATRIX_LENGTH
returns-then-coupling-lt-MATRIX_LENGTH c =
    dependent_short_lem (D (goal.at.returns-then-coupling-lt-MATRIX_LENGTH c).Start)
    (elim c.then-coupling-lt-MATRIX_LENGTH.branch [
      | then-coupling-lt-MATRIX_LENGTH-via-then-coupling-lt-MATRIX_LENGTH w ↦ rw (lt-ltb _ _ w.if-coupling-lt-MATRIX_LENGTH.true)
      | then-coupling-lt-MATRIX_LENGTH-via-else-coupling-lt-MATRIX_LENGTH+then-is_short w ↦
          rw (le-ltb _ _ w.if-coupling-lt-MATRIX_LENGTH.false) (sym w.is_short.ensures ∙ w.if-is_short.true)
    ])

pub returns-then-not-are_sizes_in_range : goal.returns-then-not-are_sizes_in_range
returns-then-not-are_sizes_in_range c =
    dependent_range (D (goal.at.returns-then-not-are_sizes_in_range c).Start) (long (goal.at.returns-then-not-are_sizes_in_range c).Else-is_short)
    (elim c.then-not-are_sizes_in_range.branch [
      | then-not-are_sizes_in_range-via-then-not-are_sizes_in_range w ↦
          not_first _ (not_first _ (sym c.are_sizes_in_range.ensures ∙ w.if-not-are_sizes_in_range.true))
      | then-not-are_sizes_in_range-via-else-not-are_sizes_in_range+then-not-are_lists_in_range w ↦
          not_first _ (not_both (sym c.are_sizes_in_range.ensures ∙ w.if-not-are_sizes_in_range.false) (sym w.are_lists_in_range.ensures ∙ w.if-not-are_lists_in_range.true))
      | then-not-are_sizes_in_range-via-else-not-are_sizes_in_range+else-not-are_lists_in_range+then-s-main_scale w ↦
          not_both
          (both (sym c.are_sizes_in_range.ensures ∙ w.if-not-are_sizes_in_range.false) (sym w.are_lists_in_range.ensures ∙ w.if-not-are_lists_in_range.false))
          (not_first _ (ne_eqb _ _ w.if-s-main_scale.true))
      | then-not-are_sizes_in_range-via-else-not-are_sizes_in_range+else-not-are_lists_in_range+else-s-main_scale+then-not-all_in_range w ↦
          not_both
          (both (sym c.are_sizes_in_range.ensures ∙ w.if-not-are_sizes_in_range.false) (sym w.are_lists_in_range.ensures ∙ w.if-not-are_lists_in_range.false))
          (not_both (eq-eqb _ _ w.if-s-main_scale.false) (sym w.all_in_range.ensures ∙ w.if-not-all_in_range.true))
    ])

pub returns : goal.returns
returns c =
    let s = (goal.at.returns c).Start in
    computed_dependent s.args.marks s.args.main_scale s.args.main_guess.now s.args.main_limits s.args.coupling.now (I s) s.requires.marks_bound s.requires.column_list
    (usable (goal.at.returns c).Else-not-all_in_range) (handed (goal.at.returns c).After-allowed_of-2) c.compute_bounds.ensures
