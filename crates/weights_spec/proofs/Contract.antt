-- The contract of a search for weights, case by case.
--   LongRequest, long_request — lists that are not too short are long enough
--   FitRequest, fit_request — a request that passes 8 and 3: n, t and the allowance in their ranges, the numbers used in theirs, the weight
--     list long enough
--   answer_short, answer_range, answer_found, answer_none — what is said
--   found_short, found_range, found_none, found_list — the contract where 8 is said, where 3 is, where 18 is, and where a list is found
use mathlib.Core.Path.{◌≡◌, refl, sym, ap, ◌∙◌}
use mathlib.Core.Bool.{true, false}
use mathlib.Core.List.{List, [], ◌∷◌}
use Prim.Native.Nat.{ℕ, ◌+◌, ◌*◌, ◌≤◌, ◌<◌}
use native.Mathlib.Omega.{arith}
use borrow.Author.Tests.{le-leb, lt-leb, ltb-false}
use lib.IntN.{ℤ, pos}
use lib.ListN.{get_or, length}
use Rattle.linear.specs.Slice.{at}
use Rattle.linear.specs.Reach.{MatrixList}
use Rattle.linear.specs.Written.{written}
use Rattle.linear.proofs.Places.{square}
use Rattle.linear.proofs.Written.{written_ext}
use Rattle.rules.specs.Range.{in_range, all_in_range, short_matrix}
use Rattle.rules.specs.declared.Kind.TheVariants as kind
use Rattle.rules.specs.declared.Refusal.TheVariants.{TooShort, OutOfRange}
use Rattle.rules.proofs.Ranges.{both_left, both_right, neither_left, neither_right, size_range, inverse_scale_range, allowance_range, matrix_range, inverse_range}
use Rattle.rules.proofs.Verdicts.{accepted_new, accepted_old, nothing_is_not}
use Rattle.check_arrays.specs.Arrays.{PrefixIs}
use Rattle.check_spec.proofs.Fit.{squared}
use Rattle.weights_spec.specs.Search.{Found, search_code, count_of, passed, search_answer, count_after, weights_after, FoundAs}
use Rattle.weights_spec.specs.declared.SearchRefusal.TheVariants.{Refused, NoneGood}
use Rattle.std.specs.Prelude.{Ok, Err}
use Rattle.weights_spec.specs.Sequence.{tried}
use Rattle.weights_spec.specs.Request.{Request, search_problem, search_short, search_in_ranges, search_sizes, search_lists}
use Rattle.weights_spec.proofs.Listed.{listed_inside, listed_margins}

-- ---- 8 and 3
pub record LongRequest (Q : Request) : Type 0 where
  pub matrix : 1024 ≤ length Q.matrix
  pub inverse : 1024 ≤ length Q.inverse
  pub weights : 32 ≤ length Q.weights

pub long_request : (Q : Request) → search_short Q ≡ false → LongRequest Q
long_request Q h =
    let g = neither_right (short_matrix (length Q.matrix)) _ h in
    record {
      matrix = ltb-false _ 1024 (neither_left _ _ h);
      inverse = ltb-false _ 1024 (neither_left _ _ g);
      weights = ltb-false _ 32 (neither_right (short_matrix (length Q.inverse)) _ g);
    }

pub record FitRequest (Q : Request) : Type 0 where
  pub n_max : Q.n ≤ 32
  pub scale : Q.t ≤ 20
  pub allowed : Q.allowance ≤ 64
  pub matrix : MatrixList Q.matrix Q.n
  pub inverse : MatrixList Q.inverse Q.n
  pub long : Q.n ≤ length Q.weights

pub fit_request : (Q : Request) → search_short Q ≡ false → search_in_ranges Q ≡ true → FitRequest Q
fit_request Q e f =
    let long = long_request Q e in
    let sizes : search_sizes Q.n Q.t Q.allowance ≡ true = both_left _ _ f in
    let lists : search_lists Q.n Q.matrix Q.inverse ≡ true = both_right (search_sizes Q.n Q.t Q.allowance) _ f in
    let n_max : Q.n ≤ 32 = (size_range Q.n (both_left _ _ sizes)).1 in
    let rest = both_right (in_range kind.Size (pos Q.n)) _ sizes in
    record {
      n_max = n_max;
      scale = inverse_scale_range Q.t (both_left _ _ rest);
      allowed = (allowance_range Q.allowance (both_right (in_range kind.InverseScale (pos Q.t)) _ rest)).1;
      matrix = squared kind.Matrix Q.matrix Q.n matrix_range (both_left _ _ lists) (omega (arith, square n_max, long.matrix));
      inverse = squared kind.Inverse Q.inverse Q.n inverse_range (both_right (all_in_range kind.Matrix (Q.n * Q.n) (at Q.matrix)) _ lists)
          (omega (arith, square n_max, long.inverse));
      long = omega (arith, n_max, long.weights);
    }

module _ (Q : Request) where
  -- ---- what is said
  pub answer_short : search_short Q ≡ true → search_answer Q ≡ 8 ∷ []
  unfolding search_answer
  answer_short e = rw e

  pub answer_range : search_short Q ≡ false → search_in_ranges Q ≡ false → search_answer Q ≡ 3 ∷ []
  unfolding search_answer
  answer_range e f = rw (e, f)

  module _ (e : search_short Q ≡ false) (f : search_in_ranges Q ≡ true) where
    pub answer_found : passed Q < Q.allowance → search_answer Q ≡ []
    unfolding search_answer
    answer_found l = rw (e, f, lt-leb Q.allowance (passed Q) l)

    pub answer_none : Q.allowance ≤ passed Q → search_answer Q ≡ 18 ∷ []
    unfolding search_answer
    answer_none l = rw (e, f, le-leb Q.allowance (passed Q) l)

  -- ---- the contract
  refusal : (r : Found) (k : ℕ) (ks : List ℕ) → search_code r ≡ k ∷ ks → search_answer Q ≡ k ∷ ks → count_of r ≡ 0 → FoundAs Q r Q.weights
  unfolding count_after weights_after
  refusal r k ks s a c = record {
    says = s ∙ sym a;
    count = c ∙ sym (accepted_old _ _ a);
    weights_are = sym (accepted_old _ _ a);
    margins = λ z. absurd (nothing_is_not (sym s ∙ z));
    inside = λ z. absurd (nothing_is_not (sym s ∙ z));
  }

  pub found_short : search_short Q ≡ true → FoundAs Q (Err (Refused TooShort)) Q.weights
  found_short e = refusal (Err (Refused TooShort)) 8 [] refl (answer_short e) refl

  pub found_range : search_short Q ≡ false → search_in_ranges Q ≡ false → FoundAs Q (Err (Refused OutOfRange)) Q.weights
  found_range e f = refusal (Err (Refused OutOfRange)) 3 [] refl (answer_range e f) refl

  -- p lists were passed over
  module _ (e : search_short Q ≡ false) (f : search_in_ranges Q ≡ true) (p : ℕ) (h : p ≡ passed Q) where
    pub found_none : Q.allowance ≤ p → FoundAs Q (Err NoneGood) Q.weights
    found_none l = refusal (Err NoneGood) 18 [] refl (answer_none e f (omega arith)) refl

    -- the first good list is written
    first_written : passed Q < Q.allowance → FoundAs Q (Ok (passed Q + 1)) (written Q.weights 0 1 (λ (i : ℕ). pos (tried (search_problem Q) (passed Q) i)) Q.n)
    unfolding count_after weights_after
    first_written l =
        let a = answer_found e f l in
        let long = (fit_request Q e f).long in
        record {
          says = sym a;
          count = sym (accepted_new _ _ a);
          weights_are = sym (accepted_new _ _ a);
          margins = λ z. listed_margins Q.n Q.t Q.matrix Q.inverse Q.weights (passed Q) long Q.allowance refl l;
          inside = λ z. listed_inside Q.n Q.t Q.matrix Q.inverse Q.weights (passed Q) long;
        }

    pub found_list : {list : List ℕ} {weights : List ℤ} → p < Q.allowance → PrefixIs 0 list Q.n (tried (search_problem Q) p) →
        weights ≡ written Q.weights 0 1 (λ (i : ℕ). pos (get_or list i 0)) Q.n → FoundAs Q (Ok (p + 1)) weights
    found_list {list} {weights} l b w =
        let same : weights ≡ written Q.weights 0 1 (λ (i : ℕ). pos (tried (search_problem Q) (passed Q) i)) Q.n =
        w
        ∙ written_ext Q.weights 0 1 (λ (i : ℕ). pos (get_or list i 0)) (λ (i : ℕ). pos (tried (search_problem Q) (passed Q) i)) Q.n
        (λ i li. ap pos (b.each i li ∙ ap (λ (x : ℕ). tried (search_problem Q) x i) h)) in
        rw (same, h) (first_written (omega arith))
