-- What the contract of `find_weights` promises (specs/Promised).
--   search_stated, code_search — each of 8, 3 and 18 is said exactly where its stated case holds, and nothing exactly where a list is found
--   found_usable   — a list is found of a usable request alone
--   zero_found, number_none — by the number alone: 0 is said where a list is found, and 18 where none is
--   count_first    — the tried count is the place of the first good list, at most the allowance
--   none_exactly   — 18 is said exactly where neither 8 nor 3 is and none of the allowed lists is good
--   sums_fit       — of a usable request every sum |D|·w of every list of the sequence is at most 2^60 + 2^35
--   larger_allowance — a larger allowance, up to 64, changes neither the list found nor its count
use mathlib.Core.Path.{◌≡◌, refl, sym, ap, ◌∙◌, subst}
use mathlib.Core.Bool.{Bool, true, false, ◌&&◌}
use mathlib.Core.List.{List, [], ◌∷◌}
use mathlib.Core.Logic.{◌↔◌}
use Prim.Native.Nat.{ℕ, ◌+◌, ◌*◌, ◌^◌, ◌≤◌, ◌<◌}
use native.Mathlib.Omega.{arith}
use borrow.Author.Tests.{ltb-true, ltb-false}
use lib.Dec.{T, ltb}
use lib.IntN.{ℤ, pos}
use lib.ListN.{get_or}
use Rattle.linear.specs.Written.{written}
use Rattle.linear.proofs.Places.{place}
use Rattle.rules.specs.Range.{in_range}
use Rattle.rules.specs.declared.Kind.TheVariants as kind
use Rattle.rules.proofs.Ranges.{in_allowance_range}
use Rattle.rules.proofs.Verdicts.{nothing_is_not, accepted_new}
use Rattle.weights_spec.specs.Sequence.{loads, tried}
use Rattle.weights_spec.specs.Search.{Found, search_code, count_of, passed, search_answer, count_after, weights_after, FoundAs}
use Rattle.weights_spec.specs.Request.{Request, search_problem, search_short, search_in_ranges, search_lists}
use Rattle.weights_spec.specs.Promised.{UsableRequest, SearchStated, is_8, is_3, is_18, is_0, PlaceOfFirstGood, NoGood, allowing}
use Rattle.weights_spec.proofs.Contract.{fit_request, answer_short, answer_range, answer_found, answer_none}
use Rattle.weights_spec.proofs.First as first
use Rattle.weights_spec.proofs.Magnitudes.{tried_load}

-- ---- the answer decides which case it was
pub search_stated : (Q : Request) → SearchStated Q (search_answer Q)
search_stated Q = go (search_short Q) refl (search_in_ranges Q) refl (ltb (passed Q) Q.allowance) refl
  where
    go : (x : Bool) → search_short Q ≡ x → (y : Bool) → search_in_ranges Q ≡ y → (z : Bool) → ltb (passed Q) Q.allowance ≡ z → SearchStated Q (search_answer Q)
    go true e y f z g = subst (SearchStated Q) (sym (answer_short Q e)) (is_8 e)
    go false e false f z g = subst (SearchStated Q) (sym (answer_range Q e f)) (is_3 e f)
    go false e true f true g =
        let l = ltb-true (passed Q) Q.allowance g in
        subst (SearchStated Q) (sym (answer_found Q e f l)) (is_0 (record { long = e; inside = f }) l)
    go false e true f false g =
        let l = ltb-false (passed Q) Q.allowance g in
        subst (SearchStated Q) (sym (answer_none Q e f l)) (is_18 (record { long = e; inside = f }) l)

pub code_search : (Q : Request) {w : List ℕ} → SearchStated Q w → search_answer Q ≡ w
code_search Q (is_8 e) = answer_short Q e
code_search Q (is_3 e f) = answer_range Q e f
code_search Q (is_18 u l) = answer_none Q u.long u.inside l
code_search Q (is_0 u l) = answer_found Q u.long u.inside l

search_found : (Q : Request) {w : List ℕ} → SearchStated Q w → w ≡ [] → UsableRequest Q × (passed Q < Q.allowance)
search_found Q (is_8 e) z = absurd (nothing_is_not z)
search_found Q (is_3 e f) z = absurd (nothing_is_not z)
search_found Q (is_18 u l) z = absurd (nothing_is_not z)
search_found Q (is_0 u l) z = (u, l)

none_case : (Q : Request) {w : List ℕ} → SearchStated Q w → w ≡ 18 ∷ [] → UsableRequest Q × (Q.allowance ≤ passed Q)
none_case Q (is_8 e) z = let y : ◌≡◌ {A = ℕ} 8 18 = cc in absurd (omega arith)
none_case Q (is_3 e f) z = let y : ◌≡◌ {A = ℕ} 3 18 = cc in absurd (omega arith)
none_case Q (is_18 u l) z = (u, l)
none_case Q (is_0 u l) z = absurd (nothing_is_not (sym z))

pub found_usable : (Q : Request) → search_answer Q ≡ [] → UsableRequest Q
found_usable Q z = (search_found Q (search_stated Q) z).0

by_number : (Q : Request) {w : List ℕ} → SearchStated Q w → ((get_or w 0 0 ≡ 0 → w ≡ []) × (get_or w 0 0 ≡ 18 → w ≡ 18 ∷ []))
by_number Q (is_8 e) = (λ z. absurd (omega arith), λ z. absurd (omega arith))
by_number Q (is_3 e f) = (λ z. absurd (omega arith), λ z. absurd (omega arith))
by_number Q (is_18 u l) = (λ z. absurd (omega arith), λ z. refl)
by_number Q (is_0 u l) = (λ z. refl, λ z. absurd (omega arith))

pub zero_found : (Q : Request) → get_or (search_answer Q) 0 0 ≡ 0 → search_answer Q ≡ []
zero_found Q = (by_number Q (search_stated Q)).0

pub number_none : (Q : Request) → get_or (search_answer Q) 0 0 ≡ 18 → search_answer Q ≡ 18 ∷ []
number_none Q = (by_number Q (search_stated Q)).1

-- ---- the count
module _ (Q : Request) (r : Found) (weights : List ℤ) (x : FoundAs Q r weights) where
  found_here : search_code r ≡ [] → UsableRequest Q × (passed Q < Q.allowance)
  found_here z = search_found Q (search_stated Q) (sym x.says ∙ z)

  pub count_first : search_code r ≡ [] → PlaceOfFirstGood Q (count_of r)
  unfolding count_after
  count_first z =
      let l : passed Q < Q.allowance = (found_here z).1 in
      let c : count_of r ≡ passed Q + 1 = x.count ∙ accepted_new _ _ (sym x.says ∙ z) in
      record {
        before = passed Q;
        place = c;
        allowed = omega arith;
        here = first.found_good (search_problem Q) Q.allowance l;
        none_before = first.found_first (search_problem Q) Q.allowance l;
      }

  pub none_exactly : (search_code r ≡ 18 ∷ []) ↔ (UsableRequest Q × NoGood Q)
  none_exactly = (
    λ z.
        let n = none_case Q (search_stated Q) (sym x.says ∙ z) in
        (n.0, record { none = first.past_none (search_problem Q) Q.allowance n.1 }),
    λ h. x.says ∙ answer_none Q h.0.long h.0.inside (first.none_past (search_problem Q) Q.allowance h.1.none),
  )

-- ---- magnitudes
pub sums_fit : (Q : Request) → UsableRequest Q → (k m : ℕ) → m < Q.n → loads (search_problem Q) (tried (search_problem Q) k) m ≤ 2 ^ 60 + 2 ^ 35
sums_fit Q u =
    let f = fit_request Q u.long u.inside in
    tried_load (search_problem Q)
    (record {
      n_max = f.n_max;
      scale = f.scale;
      matrix = λ i j li lj. f.matrix.within.magnitudes (i * Q.n + j) (place li lj);
      inverse = λ i j li lj. f.inverse.within.magnitudes (i * Q.n + j) (place li lj);
    })

-- ---- a larger allowance
other_test : (x y z z' l : Bool) → (x && (y && z)) && l ≡ true → z' ≡ true → (x && (y && z')) && l ≡ true
other_test false y z z' l e f = e
other_test true false z z' l e f = e
other_test true true false z' l e f = absurd (subst T (sym e) tt)
other_test true true true z' l e f = rw f e

module _ (Q : Request) (b : ℕ) (more : Q.allowance ≤ b) (most : b ≤ 64) (z : search_answer Q ≡ []) where
  usable : UsableRequest Q
  usable = found_usable Q z

  below : passed Q < Q.allowance
  below = (search_found Q (search_stated Q) z).1

  same : passed (allowing Q b) ≡ passed Q
  same = first.larger_allowance (search_problem Q) Q.allowance below b more

  ranges : search_in_ranges (allowing Q b) ≡ true
  ranges =
      other_test (in_range kind.Size (pos Q.n)) (in_range kind.InverseScale (pos Q.t)) (in_range kind.Allowance (pos Q.allowance)) (in_range kind.Allowance (pos b))
      (search_lists Q.n Q.matrix Q.inverse) usable.inside (in_allowance_range b (omega (arith, below)) most)

  code_too : search_answer (allowing Q b) ≡ []
  code_too = answer_found (allowing Q b) usable.long ranges (omega (arith, same, below))

  pub same_count : count_after (allowing Q b) ≡ count_after Q
  unfolding count_after
  same_count = accepted_new _ _ code_too ∙ ap (λ (k : ℕ). k + 1) same ∙ sym (accepted_new _ _ z)

  pub same_weights : weights_after (allowing Q b) ≡ weights_after Q
  unfolding weights_after
  same_weights =
      accepted_new _ _ code_too
      ∙ ap (λ (k : ℕ). written Q.weights 0 1 (λ (i : ℕ). pos (tried (search_problem Q) k i)) Q.n) same
      ∙ sym (accepted_new _ _ z)

pub larger_allowance : (Q : Request) (b : ℕ) (r r' : Found) (weights weights' : List ℤ) → FoundAs Q r weights → FoundAs (allowing Q b) r' weights' →
    Q.allowance ≤ b → b ≤ 64 → search_code r ≡ [] → (search_code r' ≡ []) × ((count_of r' ≡ count_of r) × (weights' ≡ weights))
larger_allowance Q b r r' weights weights' x y more most z =
    let a : search_answer Q ≡ [] = sym x.says ∙ z in (
      y.says ∙ code_too Q b more most a,
      (
        y.count ∙ same_count Q b more most a ∙ sym x.count,
        y.weights_are ∙ same_weights Q b more most a ∙ sym x.weights_are,
      ),
    )
