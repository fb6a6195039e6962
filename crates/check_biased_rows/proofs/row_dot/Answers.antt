use mathlib.Core.Path.{◌≡◌, ◌∙◌}
use Prim.Native.Nat.{ℕ, ◌+◌, ◌*◌, ◌≤◌, ◌^◌}
use native.Mathlib.Omega.{arith}
use lib.ListN.{get_or}
use Rattle.integer.specs.Finite.{sumℕ}
use Rattle.integer.proofs.Machine.{read}
use Rattle.linear.proofs.Carried.{start_place}
use Rattle.check_biased_rows.specs.Biased.{BiasedRow}
use Rattle.check_biased_rows.proofs.Unbiasing.{row_sum_lem, row_products, row_dot_is, slice_small, slice_products}
use Rattle.check_biased_rows.proofs.row_dot.Goals as goal
use Rattle.check_biased_rows.proofs.row_dot.Goals.{After-low_dot, Start}

-- the rows at the places that were carried to them
module _ (s : Start) where
  left : BiasedRow s.args.a.now s.args.p s.args.n
  left = rw (start_place s.requires.carried.0) s.requires.biased_row.0

  right : BiasedRow s.args.b.now s.args.q s.args.n
  right = rw (start_place s.requires.carried.1) s.requires.biased_row.1

  sums : (get_or s.args.a.now (s.args.p + s.args.n) 0 ≤ 2 ^ 31) × (get_or s.args.b.now (s.args.q + s.args.n) 0 ≤ 2 ^ 31)
  sums = (row_sum_lem s.requires.n_bound left, row_sum_lem s.requires.n_bound right)

start : After-low_dot → Start
start c = (goal.at.After-low_dot c).Start

low : (c : After-low_dot) → let s = (goal.at.After-low_dot c).Start in
    c.low_dot.result ≡ sumℕ s.args.n (λ (k : ℕ). get_or s.args.a.now (s.args.p + k) 0 * get_or s.args.b.now (s.args.q + k) 0)
low c = let s = (goal.at.After-low_dot c).Start in c.low_dot.ensures ∙ slice_products (left s) (right s)

products : (c : After-low_dot) → c.low_dot.result ≤ 2 ^ 57
products c = let s = (goal.at.After-low_dot c).Start in rw (low c) (row_products s.requires.n_bound (left s).small (right s).small)

pub overflow_add-up : goal.overflow_add-up
overflow_add-up c = omega (arith, products c)

pub overflow_add-down-3 : goal.overflow_add-down-3
overflow_add-down-3 c = omega (arith, sums (goal.at.overflow_add-down-3 c).Start)

pub overflow_mul-down : goal.overflow_mul-down
overflow_mul-down c = omega (arith, sums (goal.at.overflow_mul-down c).Start)

pub less-requires : goal.less-requires
less-requires c = (omega (arith, products (goal.at.less-requires c).After-low_dot), omega (arith, sums (goal.at.less-requires c).Start))

pub returns : goal.returns
returns c =
    let d = (goal.at.returns c).After-low_dot in
    let s = (goal.at.returns c).Start in
    read _ c.less.type_inv ∙ (rw (low d) at c.less.ensures) ∙ row_dot_is s.args.n (left s) (right s)
    ∙ rw (start_place s.requires.carried.0, start_place s.requires.carried.1)

pub low_dot-requires-clause-small : goal.low_dot-requires-clause-small
low_dot-requires-clause-small c = slice_small (left (goal.at.low_dot-requires-clause-small c).Start)

pub low_dot-requires-clause-small_2 : goal.low_dot-requires-clause-small_2
low_dot-requires-clause-small_2 c = slice_small (right (goal.at.low_dot-requires-clause-small_2 c).Start)
