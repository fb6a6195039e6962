-- The rest of each list is not read: inputs that agree on the places used (specs/Agree) get the same answer and the same limits.
--   like, like_is — one of two inputs that agree, by the n, s and t of the other: it is itself
--   like_ranges, like_margin, like_columns, like_bound, like_inverse — 3, the margins, 7 at each place, and the limits of both
--   same_answer — what is said;  same_solution, same_inverse — the limits that are written
use mathlib.Core.Path.{◌≡◌, refl, sym, ap, ◌∙◌}
use mathlib.Core.Bool.{Bool, true, false}
use mathlib.Core.List.{List, []}
use Prim.Native.Nat.{ℕ, ◌+◌, ◌*◌, ◌/◌, ◌%◌, ◌≤◌, ◌<◌}
use native.Mathlib.Omega.{arith}
use native.Mathlib.Nat.{mod-lt, div-lt_iff_lt-mul}
use lib.IntN.{ℤ, nat_abs}
use lib.ListN.{get_or}
use Rattle.linear.specs.Slice.{at}
use Rattle.linear.proofs.Places.{place, square}
use Rattle.linear.proofs.Written.{front_at}
use Rattle.rules.specs.declared.Kind.TheVariants as kind
use Rattle.rules.proofs.AllInRange.{all_ext}
use Rattle.enclosure.specs.Problem.{column_of}
use Rattle.enclosure.specs.Reckoning.{margin, exceeds, bound, inverse_bound}
use Rattle.enclosure.proofs.Agreement.{Agreeing, margin_same, bound_same}
use Rattle.check_spec.specs.Checked.{solution_bounds_after, inverse_bounds_after}
use Rattle.check_spec.specs.Input.{Input, input, problem, short, in_ranges}
use Rattle.check_spec.specs.Order.{checked_of, answer}
use Rattle.check_spec.specs.Agree.{Agree}
use Rattle.check_spec.proofs.Contract.{answer_range, answer_ready}
use Rattle.check_spec.proofs.Fit.{fit_of}
use Rattle.check_spec.specs.Stated.{LongEnough}
use Rattle.check_spec.proofs.Lengths.{long_of}
use Rattle.check_spec.proofs.Statements.{accepted_usable}
use Rattle.check_spec.proofs.Written.{solution_written, inverse_written}
use Rattle.check_spec.proofs.Agreement.{columns_same, checked_same, inverse_same}

-- ---- inputs of the same n, s and t
module _ (I : Input) (B b' d' x' H w' : List ℤ) (E L : List ℕ) (h_a : (k : ℕ) → k < I.n * I.n → at I.matrix k ≡ at B k) (hb : (k : ℕ) → k < I.n → at I.right k ≡ at b' k)
    (hd : (k : ℕ) → k < I.n → at I.tolerance k ≡ at d' k) (hx : (k : ℕ) → k < I.n → at I.guess k ≡ at x' k) (h_g : (k : ℕ) → k < I.n * I.n → at I.inverse k ≡ at H k) (hw : (k : ℕ) → k < I.n → at I.weights k ≡ at w' k) where
  abbrev J : Input
  J = input I.n I.s I.t B b' d' x' H w' E L

  agreeing : Agreeing (problem I) (problem J)
  agreeing = record {
    matrix = λ i j li lj. h_a (i * I.n + j) (place li lj);
    right = hb;
    tolerance = λ i l. ap nat_abs (hd i l);
    guess = hx;
    inverse = λ i j li lj. h_g (i * I.n + j) (place li lj);
    weights = λ i l. ap nat_abs (hw i l);
  }

  ranges_same : in_ranges I ≡ in_ranges J
  ranges_same =
      rw (
        all_ext kind.Matrix (I.n * I.n) (at I.matrix) (at B) h_a,
        all_ext kind.Right I.n (at I.right) (at b') hb,
        all_ext kind.Tolerance I.n (at I.tolerance) (at d') hd,
        all_ext kind.Guess I.n (at I.guess) (at x') hx,
        all_ext kind.Inverse (I.n * I.n) (at I.inverse) (at H) h_g,
        all_ext kind.Weight I.n (at I.weights) (at w') hw,
      )

  solution_here : (i : ℕ) → i < I.n → bound (problem I) i ≡ bound (problem J) i
  solution_here = bound_same (problem I) (problem J) agreeing

  inverse_here : (i j : ℕ) → i < I.n → j < I.n → inverse_bound (problem I) i j ≡ inverse_bound (problem J) i j
  inverse_here = inverse_same (problem I) (problem J) agreeing

  checked_here : checked_of (problem I) ≡ checked_of (problem J)
  checked_here = checked_same (problem I) (problem J) agreeing

  margin_here : (m : ℕ) → m < I.n → margin (problem I) m ≡ margin (problem J) m
  margin_here = margin_same (problem I) (problem J) agreeing

  columns_here : (i : ℕ) → i < I.n * I.n → exceeds (column_of (problem I) (i / I.n)) (i % I.n) ≡ exceeds (column_of (problem J) (i / I.n)) (i % I.n)
  columns_here = columns_same (problem I) (problem J) agreeing

  answer_same : short I ≡ false → short J ≡ false → answer I ≡ answer J
  answer_same e f = go (in_ranges I) refl
    where
      go : (x : Bool) → in_ranges I ≡ x → answer I ≡ answer J
      go true h = answer_ready I e h ∙ checked_here ∙ sym (answer_ready J f (sym ranges_same ∙ h))
      go false h = answer_range I e h ∙ sym (answer_range J f (sym ranges_same ∙ h))

-- ---- any two inputs that agree
module _ (I J : Input) (a : Agree I J) where
  -- J with the n, s and t of I, which are its own
  abbrev pub like : Input
  like = input I.n I.s I.t J.matrix J.right J.tolerance J.guess J.inverse J.weights J.solution_bounds J.inverse_bounds

  pub like_is : like ≡ J
  like_is = rw (a.n, a.s, a.t)

  pub like_ranges : in_ranges I ≡ in_ranges like
  like_ranges = ranges_same I J.matrix J.right J.tolerance J.guess J.inverse J.weights J.solution_bounds J.inverse_bounds a.matrix a.right a.tolerance a.guess a.inverse a.weights

  pub like_margin : (m : ℕ) → m < I.n → margin (problem I) m ≡ margin (problem like) m
  like_margin = margin_here I J.matrix J.right J.tolerance J.guess J.inverse J.weights J.solution_bounds J.inverse_bounds a.matrix a.right a.tolerance a.guess a.inverse a.weights

  pub like_columns : (i : ℕ) → i < I.n * I.n → exceeds (column_of (problem I) (i / I.n)) (i % I.n) ≡ exceeds (column_of (problem like) (i / I.n)) (i % I.n)
  like_columns = columns_here I J.matrix J.right J.tolerance J.guess J.inverse J.weights J.solution_bounds J.inverse_bounds a.matrix a.right a.tolerance a.guess a.inverse a.weights

  pub like_bound : (i : ℕ) → i < I.n → bound (problem I) i ≡ bound (problem like) i
  like_bound = solution_here I J.matrix J.right J.tolerance J.guess J.inverse J.weights J.solution_bounds J.inverse_bounds a.matrix a.right a.tolerance a.guess a.inverse a.weights

  pub like_inverse : (i j : ℕ) → i < I.n → j < I.n → inverse_bound (problem I) i j ≡ inverse_bound (problem like) i j
  like_inverse = inverse_here I J.matrix J.right J.tolerance J.guess J.inverse J.weights J.solution_bounds J.inverse_bounds a.matrix a.right a.tolerance a.guess a.inverse a.weights

  pub same_answer : answer I ≡ answer J
  same_answer =
      answer_same I J.matrix J.right J.tolerance J.guess J.inverse J.weights J.solution_bounds J.inverse_bounds a.matrix a.right a.tolerance a.guess a.inverse a.weights
      a.long a.long' ∙ ap answer like_is

  module _ (e : answer I ≡ []) where
    n_max : I.n ≤ 32
    n_max = (fit_of I a.long (accepted_usable I e).inside).n_max

    n_pos : 0 < I.n
    n_pos = (fit_of I a.long (accepted_usable I e).inside).n_pos

    long : LongEnough like
    long = long_of like a.long'

    pub same_solution : (i : ℕ) → i < I.n → get_or (solution_bounds_after I) i 0 ≡ get_or (solution_bounds_after J) i 0
    same_solution i l = here ∙ ap (λ (X : Input). get_or (solution_bounds_after X) i 0) like_is
      where
        here : get_or (solution_bounds_after I) i 0 ≡ get_or (solution_bounds_after like) i 0
        here =
            rw (solution_written I e, solution_written like (ap answer like_is ∙ sym same_answer ∙ e))
            (front_at I.solution_bounds (bound (problem I)) 0 I.n i l (omega (arith, n_max, (long_of I a.long).solution))
            ∙ like_bound i l
            ∙ sym (front_at J.solution_bounds (bound (problem like)) 0 I.n i l (omega (arith, n_max, long.solution))))

    pub same_inverse : (k : ℕ) → k < I.n * I.n → get_or (inverse_bounds_after I) k 0 ≡ get_or (inverse_bounds_after J) k 0
    same_inverse k l = here ∙ ap (λ (X : Input). get_or (inverse_bounds_after X) k 0) like_is
      where
        here : get_or (inverse_bounds_after I) k 0 ≡ get_or (inverse_bounds_after like) k 0
        here =
            rw (inverse_written I e, inverse_written like (ap answer like_is ∙ sym same_answer ∙ e))
            (front_at I.inverse_bounds (λ (x : ℕ). inverse_bound (problem I) (x / I.n) (x % I.n)) 0 (I.n * I.n) k l (omega (arith, square n_max, (long_of I a.long).inverses))
            ∙ like_inverse (k / I.n) (k % I.n) ((div-lt_iff_lt-mul n_pos).1 l) (mod-lt k n_pos)
            ∙ sym (front_at J.inverse_bounds (λ (x : ℕ). inverse_bound (problem like) (x / I.n) (x % I.n)) 0 (I.n * I.n) k l (omega (arith, square n_max, long.inverses))))
