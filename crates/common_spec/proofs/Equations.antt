-- Two inputs of the same equations: what the test of 20 shows, and that a right side, and an exact solution, of the one is one of the other.
--   all_same_lem, same_all — the test of n numbers, and each of them
--   same_of, of_same   — the test of the equations, and its record
--   exchanged_same     — in the other order
--   right_carried, solution_carried, at_b_carried — a right side within the tolerances, an exact solution of one, and one of b itself
use mathlib.Core.Path.{◌≡◌, sym, ap, ◌∙◌}
use mathlib.Core.Bool.{true}
use mathlib.Core.List.{List}
use Prim.Native.Nat.{ℕ, ◌*◌, ◌<◌}
use borrow.Author.Tests.{eqb-true, eq-eqb}
use lib.Dec.{eqb}
use lib.IntN.{ℤ, ◌*ℤ◌}
use Rattle.integer.proofs.Sum.{sum_ext}
use Rattle.linear.specs.Matrix.{Vec, apply}
use Rattle.linear.specs.Slice.{at, matrix_of}
use Rattle.linear.proofs.Places.{place}
use Rattle.rules.proofs.Every.{every_at, every_in}
use Rattle.rules.proofs.Ranges.{both, both_left, both_right}
use Rattle.enclosure.specs.Demand.{RightSide, ExactSolution, ExactSolutionOf}
use Rattle.check_spec.specs.Input.{Input, problem}
use Rattle.integer.specs.Same.{same_number}
use Rattle.integer.proofs.Same.{same_number_lem, number_same}
use Rattle.common_spec.specs.Proposals.{all_same, same_equations}
use Rattle.common_spec.specs.Stated.{SameEquations}

-- ---- the test
pub all_same_lem : (n : ℕ) (f g : ℕ → ℤ) → all_same n f g ≡ true → (k : ℕ) → k < n → f k ≡ g k
unfolding all_same
all_same_lem n f g e k l = same_number_lem (f k) (g k) (every_at n (λ (i : ℕ). same_number (f i) (g i)) e k l)

pub same_all : (n : ℕ) (f g : ℕ → ℤ) → ((k : ℕ) → k < n → f k ≡ g k) → all_same n f g ≡ true
unfolding all_same
same_all n f g h = every_in n (λ (i : ℕ). same_number (f i) (g i)) (λ k l. ap (λ (z : ℤ). same_number z (g k)) (h k l) ∙ number_same (g k))

module _ (I J : Input) where
  pub same_of : same_equations I J ≡ true → SameEquations I J
  same_of e =
      let e1 = both_right (eqb I.n J.n) _ e in
      let e2 = both_right (all_same (I.n * I.n) (at I.matrix) (at J.matrix)) _ e1 in
      record {
        n = eqb-true I.n J.n (both_left _ _ e);
        matrix = all_same_lem (I.n * I.n) (at I.matrix) (at J.matrix) (both_left _ _ e1);
        right = all_same_lem I.n (at I.right) (at J.right) (both_left _ _ e2);
        tolerance = all_same_lem I.n (at I.tolerance) (at J.tolerance) (both_right (all_same I.n (at I.right) (at J.right)) _ e2);
      }

  pub of_same : SameEquations I J → same_equations I J ≡ true
  of_same x =
      both (eq-eqb I.n J.n x.n)
      (both (same_all (I.n * I.n) (at I.matrix) (at J.matrix) x.matrix)
      (both (same_all I.n (at I.right) (at J.right) x.right) (same_all I.n (at I.tolerance) (at J.tolerance) x.tolerance)))

  pub exchanged_same : SameEquations I J → SameEquations J I
  exchanged_same x = record {
    n = sym x.n;
    matrix = λ k l. sym (x.matrix k (rw x.n l));
    right = λ k l. sym (x.right k (rw x.n l));
    tolerance = λ k l. sym (x.tolerance k (rw x.n l));
  }

-- ---- what is solved
rows_same : (n : ℕ) (A B : List ℤ) (N : Vec) (k : ℕ) → k < n → ((p : ℕ) → p < n * n → at A p ≡ at B p) → apply n (matrix_of A n) N k ≡ apply n (matrix_of B n) N k
unfolding apply
rows_same n A B N k l h = sum_ext n (λ (j : ℕ). matrix_of A n k j *ℤ N j) (λ (j : ℕ). matrix_of B n k j *ℤ N j) (λ j lj. ap (λ (z : ℤ). z *ℤ N j) (h _ (place l lj)))

module _ (I J : Input) (x : SameEquations I J) where
  below : (k : ℕ) → k < J.n → k < I.n
  below k l = rw x.n l

  image : (N : Vec) (k : ℕ) → k < I.n → apply I.n (matrix_of I.matrix I.n) N k ≡ apply J.n (matrix_of J.matrix J.n) N k
  image N k l = rows_same I.n I.matrix J.matrix N k l x.matrix ∙ ap (λ (n : ℕ). apply n (matrix_of J.matrix n) N k) x.n

  pub right_carried : (β : Vec) (ρ : ℕ) → RightSide (problem I) β ρ → RightSide (problem J) β ρ
  right_carried β ρ y = record {
    positive = y.positive;
    near = λ k l. rw (x.right k (below k l), x.tolerance k (below k l)) at (y.near k (below k l));
  }

  pub solution_carried : (β : Vec) (ρ : ℕ) (N : Vec) (q : ℕ) → ExactSolutionOf (problem I) β ρ N q → ExactSolutionOf (problem J) β ρ N q
  solution_carried β ρ N q y = record { positive = y.positive; solves = λ k l. rw (image N k (below k l)) at (y.solves k (below k l)) }

  pub at_b_carried : (N : Vec) (q : ℕ) → ExactSolution (problem I) N q → ExactSolution (problem J) N q
  at_b_carried N q y = record { positive = y.positive; solves = λ k l. rw (image N k (below k l), x.right k (below k l)) at (y.solves k (below k l)) }
