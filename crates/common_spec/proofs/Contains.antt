-- The common interval contains every exact height, and is never empty.
--   proposal_encloses — the limits of an accepted proposal enclose
--   finer_steps — from a proposal's own steps to finer ones
--   contains — of two accepted proposals for the same equations;  contains_as — ends that agree on the first n places contain alike
use mathlib.Core.Path.{◌≡◌, sym, ap, subst, ◌∙◌}
use mathlib.Core.List.{[]}
use Prim.Native.Nat.{ℕ, ◌+◌, ◌*◌, ◌-◌, ◌≤◌, ◌<◌, ◌^◌}
use native.Mathlib.Omega.{arith}
use lib.IntN.{ℤ, pos, nat_abs, ◌-ℤ◌, ◌*ℤ◌}
use lib.Pow.{pow-add}
use lib.Signed.{◌≤ℤ◌}
use Rattle.integer.proofs.Ring.{*-assoc}
use Rattle.linear.specs.Matrix.{Vec}
use Rattle.linear.specs.Slice.{at}
use Rattle.enclosure.specs.Demand.{ExactSolution, InLimits, Encloses}
use Rattle.enclosure.specs.Reckoning.{bound, inverse_bound}
use Rattle.enclosure.proofs.Demands.{encloses}
use Rattle.check_spec.specs.Input.{Input, problem}
use Rattle.check_spec.specs.Order.{answer}
use Rattle.check_spec.proofs.Contract.{answer_ready, code_sound}
use Rattle.check_spec.proofs.Fit.{fit_of}
use Rattle.check_spec.proofs.Statements.{accepted_usable}
use Rattle.common_spec.specs.Ends.{finer, low_of, high_of, low_end, high_end, WithinEnds, Contains}
use Rattle.common_spec.specs.Stated.{SameEquations}
use Rattle.common_spec.proofs.Equations.{right_carried, solution_carried, at_b_carried}
use Rattle.integer.proofs.Order.{low_side, high_side}
use Rattle.common_spec.proofs.Order.{between, max_either, min_either}

pub proposal_encloses : (I : Input) → answer I ≡ [] → Encloses (problem I) (bound (problem I)) (inverse_bound (problem I))
proposal_encloses I e =
    let u = accepted_usable I e in
    encloses (problem I) (fit_of I u.long u.inside).heavy
    (code_sound (problem I) (sym (answer_ready I u.long u.inside) ∙ e)).margins

pub finer_steps : (s r : ℕ) → r ≤ s → (N : ℤ) → pos (2 ^ (s - r)) *ℤ (pos (2 ^ r) *ℤ N) ≡ pos (2 ^ s) *ℤ N
finer_steps s r h N =
    let e : s - r + r ≡ s = omega arith in
    sym (*-assoc (pos (2 ^ (s - r))) (pos (2 ^ r)) N) ∙ ap (λ (k : ℕ). pos k *ℤ N) (sym (pow-add 2 (s - r) r) ∙ ap (λ (k : ℕ). 2 ^ k) e)

-- one proposal, in steps that are as fine as its own or finer
module _ (K : Input) (s : ℕ) (h : K.s ≤ s) (N : Vec) (q i : ℕ) (x : nat_abs (pos (2 ^ K.s) *ℤ N i -ℤ pos q *ℤ at K.guess i) ≤ q * bound (problem K) i) where
  above : (pos q *ℤ low_of s K i) ≤ℤ (pos (2 ^ s) *ℤ N i)
  above =
      subst (λ (z : ℤ). (pos q *ℤ low_of s K i) ≤ℤ z) (finer_steps s K.s h (N i))
      (low_side q (2 ^ (s - K.s)) (2 ^ K.s) (bound (problem K) i) (N i) (at K.guess i) x)

  below : (pos (2 ^ s) *ℤ N i) ≤ℤ (pos q *ℤ high_of s K i)
  below =
      subst (λ (z : ℤ). z ≤ℤ (pos q *ℤ high_of s K i)) (finer_steps s K.s h (N i))
      (high_side q (2 ^ (s - K.s)) (2 ^ K.s) (bound (problem K) i) (N i) (at K.guess i) x)

-- ---- two of the same size
module _ (I J : Input) (n : I.n ≡ J.n) where
  held : (N : Vec) (q : ℕ) → InLimits (problem I) (bound (problem I)) N q → InLimits (problem J) (bound (problem J)) N q → WithinEnds I J (low_end I J) (high_end I J) N q
  unfolding low_end high_end
  held N q x y i l =
      let s : ℕ = finer I J in
      let yi = y i (rw (sym n) l) in
      let a : I.s ≤ finer I J = omega arith in
      let b : J.s ≤ finer I J = omega arith in (
        max_either (low_of s I i) (low_of s J i) (λ (z : ℤ). (pos q *ℤ z) ≤ℤ (pos (2 ^ s) *ℤ N i)) (above I s a N q i (x i l)) (above J s b N q i yi),
        min_either (high_of s I i) (high_of s J i) (λ (z : ℤ). (pos (2 ^ s) *ℤ N i) ≤ℤ (pos q *ℤ z)) (below I s a N q i (x i l)) (below J s b N q i yi),
      )

module _ (I J : Input) (a : answer I ≡ []) (b : answer J ≡ []) (x : SameEquations I J) where
  here : (N : Vec) (q : ℕ) → InLimits (problem I) (bound (problem I)) N q → InLimits (problem J) (bound (problem J)) N q → WithinEnds I J (low_end I J) (high_end I J) N q
  here = held I J x.n

  own : (N : Vec) (q : ℕ) → ExactSolution (problem I) N q → WithinEnds I J (low_end I J) (high_end I J) N q
  own N q y = here N q ((proposal_encloses I a).solution_at_b N q y) ((proposal_encloses J b).solution_at_b N q (at_b_carried I J x N q y))

  pub contains : Contains I J (low_end I J) (high_end I J)
  contains =
      let e = proposal_encloses I a in
      let f = proposal_encloses J b in
      let s = e.determined.exists (problem I).b in
      record {
        height = λ β ρ y N q z. here N q (e.solution β ρ y N q z) (f.solution β ρ (right_carried I J x β ρ y) N q (solution_carried I J x β ρ N q z));
        at_b = own;
        ordered = λ i l. let w = own s.N s.q s.holds i l in between s.q (low_end I J i) (high_end I J i) (pos (2 ^ finer I J) *ℤ s.N i) s.holds.positive w.0 w.1;
      }

pub contains_as : (I J : Input) (low low' high high' : ℕ → ℤ) → ((i : ℕ) → i < I.n → low' i ≡ low i) → ((i : ℕ) → i < I.n → high' i ≡ high i) → Contains I J low high → Contains I J low' high'
contains_as I J low low' high high' e f x = record {
  height = λ β ρ y N q z i l. rw (e i l, f i l) (x.height β ρ y N q z i l);
  at_b = λ N q y i l. rw (e i l, f i l) (x.at_b N q y i l);
  ordered = λ i l. rw (e i l, f i l) (x.ordered i l);
}
