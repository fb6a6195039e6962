-- The rest of each list is not read: requests that agree on the places used get the same answer, count and list.
--   tried_same, first_same — the lists of the sequence, and the first good place, of two problems that agree on the first n numbers
--   same_code, same_count — what is said and the tried count;  same_list — the first n weights where a list is found
--   same_weights — the whole weight list, where the same one was handed in
use mathlib.Core.Path.{◌≡◌, refl, sym, ap, ap₂, ◌∙◌}
use mathlib.Core.Bool.{false}
use mathlib.Core.List.{List, []}
use Prim.Native.Nat.{ℕ, zero, suc, ◌+◌, ◌*◌, ◌/◌, ◌^◌, ◌<◌}
use lib.Dec.{leb}
use lib.IntN.{ℤ, pos, nat_abs}
use lib.Signed.{le_z}
use Rattle.integer.proofs.Search.{first_ext, largest_ext}
use Rattle.linear.specs.Matrix.{Mat}
use Rattle.linear.specs.Slice.{at, vector_of, matrix_of}
use Rattle.linear.specs.Written.{written}
use Rattle.linear.proofs.Places.{place}
use Rattle.linear.proofs.Written.{written_ext}
use Rattle.rules.specs.Order.{if_accepted}
use Rattle.rules.specs.declared.Kind.TheVariants as kind
use Rattle.rules.proofs.AllInRange.{all_ext}
use Rattle.rules.proofs.Verdicts.{accepted_new}
use Rattle.enclosure.specs.Problem.{Problem}
use Rattle.enclosure.specs.Reckoning.{margin_fails}
use Rattle.enclosure.proofs.Agreement.{Agreeing, load_same, margin_same}
use Rattle.weights_spec.specs.Search.{Found, search_code, count_of, passed, search_answer, count_after, weights_after, FoundAs}
use Rattle.weights_spec.specs.Sequence.{weighted, loads, bits, next, tried, good, first_good}
use Rattle.weights_spec.specs.Request.{Request, request, search_problem, search_short, search_in_ranges}
use Rattle.weights_spec.specs.Promised.{AgreeingRequests}
use Rattle.weights_spec.proofs.Contract.{fit_request}
use Rattle.weights_spec.proofs.Listed.{listed_at}
use Rattle.weights_spec.proofs.Promises.{found_usable}

-- ---- problems of the same n and t
module _ (n t : ℕ) (A A' G G' : Mat) (h_a : (i j : ℕ) → i < n → j < n → A i j ≡ A' i j) (h_g : (i j : ℕ) → i < n → j < n → G i j ≡ G' i j) where
  abbrev with : Mat → Mat → Problem
  with A G = record { n = n; s = 0; t = t; A = A; b = vector_of []; d = λ (i : ℕ). nat_abs (at [] i); X = vector_of []; G = G; w = λ (i : ℕ). nat_abs (at [] i) }

  module _ (w w' : ℕ → ℕ) (h : (i : ℕ) → i < n → w i ≡ w' i) where
    agreeing : Agreeing (weighted (with A G) w) (weighted (with A' G') w')
    agreeing = record { matrix = h_a; right = λ i l. refl; tolerance = λ i l. refl; guess = λ i l. refl; inverse = h_g; weights = h }

    loads_same : (m : ℕ) → m < n → loads (with A G) w m ≡ loads (with A' G') w' m
    loads_same = load_same (weighted (with A G) w) (weighted (with A' G') w') agreeing

    next_same : (i : ℕ) → i < n → next (with A G) w i ≡ next (with A' G') w' i
    next_same i l = ap₂ (λ (x y : ℕ). x / 2 ^ bits y + 1) (loads_same i l) (largest_ext n (loads (with A G) w) (loads (with A' G') w') loads_same)

    good_same : good (with A G) w ≡ good (with A' G') w'
    unfolding good
    good_same =
        ap (leb n)
        (first_ext n (margin_fails (weighted (with A G) w)) (margin_fails (weighted (with A' G') w'))
        (λ m l. ap (λ (z : ℤ). le_z z (pos 0))
        (margin_same (weighted (with A G) w) (weighted (with A' G') w') agreeing m l)))

  tried_same : (k i : ℕ) → i < n → tried (with A G) k i ≡ tried (with A' G') k i
  unfolding tried
  tried_same zero i l = refl
  tried_same (suc k) i l = next_same (tried (with A G) k) (tried (with A' G') k) (tried_same k) i l

  first_same : (a : ℕ) → first_good (with A G) a ≡ first_good (with A' G') a
  first_same a =
      first_ext a (λ (k : ℕ). good (with A G) (tried (with A G) k)) (λ (k : ℕ). good (with A' G') (tried (with A' G') k))
      (λ k l. good_same (tried (with A G) k) (tried (with A' G') k) (tried_same k))

-- ---- requests of the same n, t and allowance
module _ (Q : Request) (matrix inverse weights : List ℤ) (long : search_short Q ≡ false)
    (h_a : (k : ℕ) → k < Q.n * Q.n → at Q.matrix k ≡ at matrix k) (h_g : (k : ℕ) → k < Q.n * Q.n → at Q.inverse k ≡ at inverse k) where
  abbrev R : Request
  R = request Q.n Q.t matrix inverse Q.allowance weights

  rows_same : (i j : ℕ) → i < Q.n → j < Q.n → matrix_of Q.matrix Q.n i j ≡ matrix_of matrix Q.n i j
  rows_same i j li lj = h_a (i * Q.n + j) (place li lj)

  inverses_same : (i j : ℕ) → i < Q.n → j < Q.n → matrix_of Q.inverse Q.n i j ≡ matrix_of inverse Q.n i j
  inverses_same i j li lj = h_g (i * Q.n + j) (place li lj)

  list_same : (k i : ℕ) → i < Q.n → tried (search_problem Q) k i ≡ tried (search_problem R) k i
  list_same = tried_same Q.n Q.t (matrix_of Q.matrix Q.n) (matrix_of matrix Q.n) (matrix_of Q.inverse Q.n) (matrix_of inverse Q.n) rows_same inverses_same

  passed_same : passed Q ≡ passed R
  passed_same = first_same Q.n Q.t (matrix_of Q.matrix Q.n) (matrix_of matrix Q.n) (matrix_of Q.inverse Q.n) (matrix_of inverse Q.n) rows_same inverses_same Q.allowance

  ranges_same : search_in_ranges Q ≡ search_in_ranges R
  ranges_same =
      rw (
        all_ext kind.Matrix (Q.n * Q.n) (at Q.matrix) (at matrix) h_a,
        all_ext kind.Inverse (Q.n * Q.n) (at Q.inverse) (at inverse) h_g,
      )

  module _ (long' : search_short R ≡ false) where
    answer_here : search_answer Q ≡ search_answer R
    unfolding search_answer
    answer_here = rw (long, long', ranges_same, passed_same)

    count_here : count_after Q ≡ count_after R
    unfolding count_after
    count_here = ap₂ (λ (x : List ℕ) (y : ℕ). if_accepted x (y + 1) 0) answer_here passed_same

    module _ (z : search_answer Q ≡ []) where
      list_here : (i : ℕ) → i < Q.n → at (weights_after Q) i ≡ at (weights_after R) i
      unfolding weights_after
      list_here i l =
          let y : search_answer R ≡ [] = sym answer_here ∙ z in
          let u = found_usable Q z in
          let v = found_usable R y in
          rw (accepted_new (written Q.weights 0 1 (λ (i : ℕ). pos (tried (search_problem Q) (passed Q) i)) Q.n) Q.weights z, accepted_new (written weights 0 1 (λ (i : ℕ). pos (tried (search_problem R) (passed R) i)) Q.n) weights y)
          (listed_at Q.n Q.t Q.matrix Q.inverse Q.weights (passed Q) (fit_request Q u.long u.inside).long i l
          ∙ ap pos (list_same (passed Q) i l ∙ ap (λ (x : ℕ). tried (search_problem R) x i) passed_same)
          ∙ sym (listed_at Q.n Q.t matrix inverse weights (passed R) (fit_request R v.long v.inside).long i l))

    weights_here : Q.weights ≡ weights → weights_after Q ≡ weights_after R
    unfolding weights_after
    weights_here e =
        rw (sym answer_here, sym e)
        (ap (λ (x : List ℤ). if_accepted (search_answer Q) x Q.weights)
        (written_ext Q.weights 0 1 (λ (i : ℕ). pos (tried (search_problem Q) (passed Q) i)) (λ (i : ℕ). pos (tried (search_problem R) (passed R) i)) Q.n
        (λ i l. ap pos (list_same (passed Q) i l ∙ ap (λ (x : ℕ). tried (search_problem R) x i) passed_same))))

-- ---- of two calls
module _ (Q R : Request) (a : AgreeingRequests Q R) (r r' : Found) (weights weights' : List ℤ) (x : FoundAs Q r weights) (y : FoundAs R r' weights') where
  abbrev K : Request
  K = request Q.n Q.t R.matrix R.inverse Q.allowance R.weights

  K_is : K ≡ R
  K_is = rw (a.n, a.t, a.allowance)

  answers : search_answer Q ≡ search_answer R
  answers = answer_here Q R.matrix R.inverse R.weights a.long a.matrix a.inverse (ap search_short K_is ∙ a.long') ∙ ap search_answer K_is

  pub same_code : search_code r ≡ search_code r'
  same_code = x.says ∙ answers ∙ sym y.says

  pub same_count : count_of r ≡ count_of r'
  same_count =
      x.count
      ∙ count_here Q R.matrix R.inverse R.weights a.long a.matrix a.inverse (ap search_short K_is ∙ a.long')
      ∙ ap count_after K_is
      ∙ sym y.count

  pub same_list : search_code r ≡ [] → (i : ℕ) → i < Q.n → at weights i ≡ at weights' i
  same_list z i l =
      ap (λ (w : List ℤ). at w i) x.weights_are
      ∙ list_here Q R.matrix R.inverse R.weights a.long a.matrix a.inverse (ap search_short K_is ∙ a.long') (sym x.says ∙ z) i l
      ∙ ap (λ (w : List ℤ). at w i) (ap weights_after K_is ∙ sym y.weights_are)

  pub same_weights : Q.weights ≡ R.weights → weights ≡ weights'
  same_weights e =
      x.weights_are
      ∙ weights_here Q R.matrix R.inverse R.weights a.long a.matrix a.inverse (ap search_short K_is ∙ a.long') e
      ∙ ap weights_after K_is
      ∙ sym y.weights_are
