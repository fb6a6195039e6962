use mathlib.Core.Path.{◌≡◌, sym, ◌∙◌}
use mathlib.Core.Bool.{Bool, true, false}
use mathlib.Core.List.{[]}
use Rattle.std.proofs.Common.{Some}
use Prim.Native.Nat.{ℕ, ◌+◌, ◌*◌, ◌^◌, ◌<◌}
use native.Mathlib.Omega.{arith}
use borrow.Author.Count.{below_more}
use lib.Dec.{leb, eqb}
use lib.IntN.{nat_abs}
use lib.ListN.{get_or}
use Rattle.integer.specs.Finite.{first}
use Rattle.integer.proofs.Search.{first_is, first_never}
use Rattle.enclosure.specs.Problem.{Problem, problem_of}
use Rattle.enclosure.specs.Reckoning.{defect}
use Rattle.check_arrays.specs.Arrays.{PrefixIs}
use Rattle.check_arrays.proofs.Filled.{prefix_as}
use Rattle.weights_spec.specs.Sequence.{loads, tried, good, first_good}
use Rattle.weights_spec.proofs.Lists.{tried_next}
use Rattle.weights_steps.specs.Steps.{Below, stored_margin}
use Rattle.weights_steps.proofs.Stored.{magnitudes_at, magnitudes_below, below_of, load_is, good_is, next_is, ones}
use Rattle.weights_search.proofs.search.Goals as goal
use Rattle.weights_search.proofs.search.Goals.{After-defect_magnitudes-magnitudes, After-is_good, After-loads_of-loads, Else-is_good, Start}

some_same : {A : Type 0} {x y : A} → Some x ≡ Some y → x ≡ y
some_same e = cc

abbrev P : Start → Problem
P s = problem_of s.args.n 0 s.args.t s.args.matrix.now [] [] [] s.args.inverse.now []

module _ (d : After-defect_magnitudes-magnitudes) where
  magnitudes-here : (m j : ℕ) → m < d.args.n → j < d.args.n → get_or d.defect_magnitudes-magnitudes.result (j * d.args.n + m) 0 ≡ nat_abs (defect (P (goal.at.After-defect_magnitudes-magnitudes d).Start) m j)
  magnitudes-here = let s = (goal.at.After-defect_magnitudes-magnitudes d).Start in magnitudes_at s.args.n s.args.t s.args.matrix.now s.args.inverse.now s.requires.t_bound.0 s.requires.t_bound.1 s.requires.matrix_list.0 s.requires.matrix_list.1 d.defect_magnitudes-magnitudes.ensures

  small-here : Below d.defect_magnitudes-magnitudes.result (d.args.n * d.args.n) (2 ^ 46)
  small-here = let s = (goal.at.After-defect_magnitudes-magnitudes d).Start in magnitudes_below s.args.n s.args.t s.args.matrix.now s.args.inverse.now s.requires.t_bound.0 s.requires.t_bound.1 s.requires.matrix_list.0 s.requires.matrix_list.1 d.defect_magnitudes-magnitudes.ensures

-- the sums of the list that is tried
module _ (c : After-loads_of-loads) where
  abbrev list : ℕ → ℕ
  list = tried (P (goal.at.After-loads_of-loads c).Start) c.loop-passed.passed

  sums : PrefixIs 0 c.loads_of-loads.result c.args.n (loads (P (goal.at.After-loads_of-loads c).Start) list)
  sums = prefix_as 0 _ (loads (P (goal.at.After-loads_of-loads c).Start) list) (load_is (P (goal.at.After-loads_of-loads c).Start) list c.loop-passed.invariant.1.0 c.defect_magnitudes-magnitudes.result (magnitudes-here (goal.at.After-loads_of-loads c).After-defect_magnitudes-magnitudes)) c.loads_of-loads.ensures

  test-is : leb c.args.n (first c.args.n (λ (m : ℕ). eqb (stored_margin c.args.t c.loads_of-loads.result c.loop-passed.weights m) 0)) ≡ good (P (goal.at.After-loads_of-loads c).Start) list
  test-is = good_is (P (goal.at.After-loads_of-loads c).Start) list c.loop-passed.invariant.1.0 sums

-- what the test of the list says of it
module _ (c : After-is_good) where
  abbrev sums-of : After-loads_of-loads
  sums-of = (goal.at.After-is_good c).After-loads_of-loads

  told : (b : Bool) → c.is_good.result ≡ b → good (P (goal.at.After-loads_of-loads sums-of).Start) (list sums-of) ≡ b
  told b e = rw (c.is_good.ensures, test-is sums-of) at e

pub loop-passed-init : goal.loop-passed-init
loop-passed-init c = (omega arith, (ones (P (goal.at.loop-passed-init c).Start) c.requires.t_bound.1, λ k l. absurd (omega arith)))

pub returns-then-is_good : goal.returns-then-is_good
returns-then-is_good c =
    let a = (goal.at.returns-then-is_good c).After-loads_of-loads in
    let l = a.loop-passed in
    let here : l.passed ≡ first_good (P (goal.at.returns-then-is_good c).Start) a.args.allowance =
    sym (first_is _ (λ (k : ℕ). good (P (goal.at.returns-then-is_good c).Start) (tried (P (goal.at.returns-then-is_good c).Start) k)) l.passed a.loop-passed-test.true (told (goal.at.returns-then-is_good c).After-is_good true c.if-is_good.true) l.invariant.1.1) in
    record {
      found = λ r e. rw (← some_same e) record { place = here; allowed = a.loop-passed-test.true; list = l.invariant.1.0 };
      none = λ e. absurd (cc);
    }

pub loop-passed-preserved : goal.loop-passed-preserved
loop-passed-preserved c =
    let e = (goal.at.loop-passed-preserved c).Else-is_good in
    let a = (goal.at.loop-passed-preserved c).After-loads_of-loads in
    let l = a.loop-passed in (
      omega arith,
      (
        prefix_as 0 _ (tried (P (goal.at.loop-passed-preserved c).Start) (l.passed + 1)) (λ i li. next_is (P (goal.at.loop-passed-preserved c).Start) (list (goal.at.loop-passed-preserved c).After-loads_of-loads) l.invariant.1.0 (sums (goal.at.loop-passed-preserved c).After-loads_of-loads) i li ∙ sym (tried_next (P (goal.at.loop-passed-preserved c).Start) l.passed i)) c.next_weights-weights.ensures,
        below_more (λ (k : ℕ). good (P (goal.at.loop-passed-preserved c).Start) (tried (P (goal.at.loop-passed-preserved c).Start) k) ≡ false) l.passed l.invariant.1.1 (told (goal.at.loop-passed-preserved c).After-is_good false e.if-is_good.false),
      ),
    )

pub returns : goal.returns
returns c =
    let l = c.loop-passed in
    let s = (goal.at.returns c).Start in
    record {
      found = λ r e. absurd (cc);
      none = λ e. first_never s.args.allowance (λ (k : ℕ). good (P s) (tried (P s) k)) (λ k lk. l.invariant.1.1 k (omega arith));
    }

pub loads_of-loads-requires-clause-below : goal.loads_of-loads-requires-clause-below
loads_of-loads-requires-clause-below c = let l = c.loop-passed in let d = (goal.at.loads_of-loads-requires-clause-below c).After-defect_magnitudes-magnitudes in (small-here (goal.at.loads_of-loads-requires-clause-below c).After-defect_magnitudes-magnitudes, below_of (P (goal.at.loads_of-loads-requires-clause-below c).Start) l.passed l.invariant.1.0)

pub is_good-requires-clause-below : goal.is_good-requires-clause-below
is_good-requires-clause-below c = let l = c.loop-passed in let s = (goal.at.is_good-requires-clause-below c).Start in below_of (P (goal.at.is_good-requires-clause-below c).Start) l.passed l.invariant.1.0
