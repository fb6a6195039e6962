-- What the reckoning says and leaves, from what the arrays hold and what is judged of them.
--   WorkedOut — what the arrays hold
--   refused  — a refusal leaves both limit lists
--   positive_here, weighed_here, near_here, columns_here — where it is accepted: margins and weights above 0, residuals at most 2^25 in absolute value
--   accepted_here — and the limits that are written are the reckoning's
use mathlib.Core.Path.{◌≡◌, sym, ap, ◌∙◌}
use mathlib.Core.List.{List, []}
use Prim.Native.Nat.{ℕ, zero, suc, ◌+◌, ◌*◌, ◌-◌, ◌%◌, ◌≤◌, ◌<◌}
use native.Mathlib.Omega.{arith}
use lib.Dec.{eqb}
use lib.IntN.{ℤ, pos, nat_abs}
use lib.ListN.{get_or, length}
use Rattle.integer.specs.Finite.{first}
use Rattle.linear.specs.Slice.{at}
use Rattle.linear.specs.Reach.{ColumnList}
use Rattle.linear.specs.Written.{written}
use Rattle.linear.proofs.Written.{written_ext}
use Rattle.linear.proofs.Places.{square}
use Rattle.check_biased_rows.specs.Place.{RowsOfMatrix}
use Rattle.rules.specs.Order.{verdict}
use Rattle.rules.specs.Refusal.{code, Outcome}
use Rattle.std.specs.Prelude.{Ok, Err}
use Rattle.rules.specs.declared.Refusal.{Refusal}
use Rattle.rules.proofs.Verdicts.{accepted_new, accepted_old}
use Rattle.enclosure.specs.Reckoning.{allowed_residual, bound_with, inverse_bound}
use Rattle.check_arrays.specs.Arrays.{PrefixIs, columns_written}
use Rattle.check_arrays.specs.Parts.{cut_margin, above_allowed}
use Rattle.check_bounds.specs.Limits.{Near, limits_of}
use Rattle.check_ratios.specs.Ratio.{Positive}
use Rattle.check_spec.specs.Order.{computed}
use Rattle.check_spec.proofs.Contract.{NoPlace, accepted_places}
use Rattle.check_lists.specs.Work.{Work, work_problem, work_residual, work_slack, work_answer, Workable, ComputedAs}
use Rattle.check_lists.proofs.Rows.{work_column}
use Rattle.check_lists.proofs.Limits.{solution_limit, inverse_limit}
use Rattle.check_lists.proofs.Places.{first_margin_lem, first_residual_lem, first_column, positive, near, near_columns}
use Rattle.check_lists.proofs.Written.{written_columns}

-- a weight whose margin is above 0 is above 0
weighed : (x w c : ℕ) → 0 < x * w - c → 0 < w
weighed x zero c h = absurd (omega arith)
weighed x (suc w) c h = omega arith

-- the arrays of the reckoning, the first refused row of each, and what is judged of them
pub record WorkedOut (W : Work) (rows margins : List ℕ) (residuals columns : List ℤ) (r : Outcome) : Type 0 where
  pub biased : RowsOfMatrix rows W.n W.inverse
  pub hm : PrefixIs 0 margins W.n (cut_margin (work_problem W))
  pub hr : PrefixIs (pos 0) residuals W.n (work_residual W)
  pub hc : PrefixIs (pos 0) columns (W.n * W.n) (work_column W)
  pub m : ℕ
  pub k : ℕ
  pub i : ℕ
  pub em : m ≡ first W.n (λ (x : ℕ). eqb (get_or margins x 0) 0)
  pub ek : k ≡ first W.n (λ (x : ℕ). above_allowed (at W.allowed x) (at residuals (0 + x)))
  pub ei : i ≡ first (W.n * W.n) (λ (x : ℕ). above_allowed (at W.allowed_in_columns (x % W.n)) (at columns x))
  pub er : code r ≡ verdict (computed W.n m k i)

module _ (W : Work) (ready : Workable W) {rows margins : List ℕ} {residuals columns : List ℤ} {r : Outcome} (a : WorkedOut W rows margins residuals columns r) where
  code_is : code r ≡ work_answer W
  code_is =
      a.er
      ∙ rw (
        a.em ∙ first_margin_lem W ready margins a.hm,
        a.ek ∙ first_residual_lem W ready residuals a.hr,
        a.ei ∙ first_column W ready columns a.hc,
      )

  pub refused : (x : Refusal) → r ≡ Err x → ComputedAs W (Err x) W.solution_bounds W.inverse_bounds
  refused x e =
      let s : code (Err x) ≡ work_answer W = ap code (sym e) ∙ code_is in
      record { says = s; solution_bounds = sym (accepted_old _ _ (sym s)); inverse_bounds = sym (accepted_old _ _ (sym s)) }

  module _ (e : r ≡ Ok tt) where
    none : NoPlace W.n a.m a.k a.i
    none = accepted_places W.n a.m a.k a.i (sym a.er ∙ ap code e)

    pub positive_here : Positive margins W.n
    positive_here = positive W ready margins a.hm (omega (arith, none.margin, a.em))

    pub weighed_here : (m : ℕ) → m < W.n → 0 < nat_abs (at W.weights m)
    weighed_here m l = weighed _ _ _ (rw (a.hm.each m l) at (positive_here.above m l))

    pub near_here : Near (at residuals) (work_slack W) W.n
    near_here = near W ready residuals a.hr (omega (arith, none.residual, a.ek))

    pub columns_here : W.n * W.n ≤ length columns → ColumnList columns (W.n * W.n) allowed_residual
    columns_here long = near_columns W ready columns a.hc long (omega (arith, none.column, a.ei))

    pub accepted_here : {column E L : List ℕ} → PrefixIs 0 column W.n (limits_of W.n rows (at residuals) (work_slack W) margins W.weights) →
        E ≡ written W.solution_bounds 0 1 (λ (x : ℕ). get_or column x 0) W.n →
        L ≡ columns_written W.inverse_bounds W.n (λ (b c : ℕ). limits_of W.n rows (λ (x : ℕ). at columns (c * W.n + x)) (λ (x : ℕ). 0) margins W.weights b) W.n →
        ComputedAs W (Ok tt) E L
    accepted_here {column} {E} {L} h e_e e_l =
        let s : [] ≡ work_answer W = ap code (sym e) ∙ code_is in
        record {
          says = s;
          solution_bounds = e_e
              ∙ written_ext W.solution_bounds 0 1 (λ (x : ℕ). get_or column x 0) (bound_with (work_problem W) (work_residual W) (work_slack W)) W.n
              (λ x l. h.each x l ∙ solution_limit W a.biased margins a.hm positive_here residuals a.hr x)
              ∙ sym (accepted_new _ _ (sym s));
          inverse_bounds = e_l
              ∙ written_columns W.n (λ (b c : ℕ). limits_of W.n rows (λ (x : ℕ). at columns (c * W.n + x)) (λ (x : ℕ). 0) margins W.weights b)
              (inverse_bound (work_problem W)) W.inverse_bounds ready.n_pos (omega (arith, square ready.n_max, ready.inverse_long))
              (inverse_limit W a.biased margins a.hm positive_here columns a.hc)
              ∙ sym (accepted_new _ _ (sym s));
        }
