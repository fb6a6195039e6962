-- Each refusal is said exactly where its stated case holds and nothing earlier does (specs/Stated).
--   wide_of, narrow_of, of_wide, of_narrow — the test of 21, and its two cases
--   stated — what is said has its stated case;  code_of_lem — what has its stated case is said
--   found_case — what is found: both are accepted, of the same equations, and narrow
use mathlib.Core.Path.{◌≡◌, refl, sym, subst}
use mathlib.Core.Bool.{Bool, true, false, ◌||◌}
use mathlib.Core.List.{List, [], ◌∷◌}
use Prim.Native.Nat.{ℕ, zero, suc, ◌<◌}
use native.Mathlib.Omega.{arith}
use native.Mathlib.Decide.{dec_lt}
use borrow.Author.Tests.{ltb-true, ltb-false, lt-ltb, le-ltb}
use Rattle.integer.specs.Finite.{largest}
use Rattle.integer.proofs.Search.{largest_at, largest-≤, clash}
use Rattle.rules.proofs.Ranges.{neither, or_left, or_right}
use Rattle.rules.proofs.Verdicts.{nothing_is_not}
use Rattle.enclosure.specs.Reckoning.{bound}
use Rattle.check_spec.specs.Input.{Input, problem}
use Rattle.check_spec.specs.Order.{answer}
use Rattle.check_spec.specs.Stated.{Stated}
use Rattle.check_spec.proofs.Statements as check
use Rattle.common_spec.specs.Proposals.{Proposals, short_intervals, same_equations, most_steps, is_too_wide}
use Rattle.common_spec.specs.Answer.{common_answer}
use Rattle.common_spec.specs.Stated.{SameEquations, NoneWide, Wide, BothAccepted, CommonStated, interval_short, of_first, of_second, different, first_wide, second_wide, found}
use Rattle.common_spec.proofs.Contract.{answer_short, answer_first, answer_second, answer_different, answer_wide, answer_found}
use Rattle.common_spec.proofs.Equations.{same_of, of_same}

-- ---- 21
record Above (n : ℕ) (f : ℕ → ℕ) (b : ℕ) : Type 0 where
  pub place : ℕ
  pub inside : place < n
  pub above : b < f place

above_place : (n : ℕ) (f : ℕ → ℕ) (b : ℕ) → b < largest n f → Above n f b
unfolding largest
above_place zero f b h = absurd (omega arith)
above_place (suc n) f b h = go (dec_lt b (f n)) (λ l. above_place n f b l)
  where
    go : Dec (b < f n) → (b < largest n f → Above n f b) → Above (suc n) f b
    go (yes l) before = record { place = n; inside = omega arith; above = l }
    go (no l) before = let x = before (omega arith) in record { place = x.place; inside = omega (arith, x.inside); above = x.above }

module _ (I : Input) where
  pub wide_of : is_too_wide I ≡ true → Wide I
  wide_of e =
      let x = above_place I.n (bound (problem I)) most_steps (ltb-true most_steps (largest I.n (bound (problem I))) e) in
      record { place = x.place; inside = x.inside; above = x.above }

  pub narrow_of : is_too_wide I ≡ false → NoneWide I
  narrow_of e = record {
    each = λ i l. omega (arith, largest_at I.n (bound (problem I)) i l, ltb-false most_steps (largest I.n (bound (problem I))) e);
  }

  of_wide : Wide I → is_too_wide I ≡ true
  of_wide x = lt-ltb most_steps (largest I.n (bound (problem I))) (omega (arith, x.above, largest_at I.n (bound (problem I)) x.place x.inside))

  of_narrow : NoneWide I → is_too_wide I ≡ false
  of_narrow x = le-ltb most_steps (largest I.n (bound (problem I))) (largest-≤ I.n (bound (problem I)) most_steps x.each)

-- ---- what is said has its stated case
module _ (Q : Proposals) where
  code_as : {w : List ℕ} → common_answer Q ≡ w → CommonStated Q w → CommonStated Q (common_answer Q)
  code_as e x = subst (CommonStated Q) (sym e) x

  case : {I : Input} {l : List ℕ} → answer I ≡ l → Stated I l
  case {I} e = subst (Stated I) e (check.stated I)

  module _ (e : short_intervals Q ≡ false) (a : answer Q.first ≡ []) (b : answer Q.second ≡ []) where
    ready : BothAccepted Q
    ready = record { long = e; first = case a; second = case b }

    by_width : same_equations Q.first Q.second ≡ true → CommonStated Q (common_answer Q)
    by_width s = go (is_too_wide Q.first) refl (is_too_wide Q.second) refl
      where
        same : SameEquations Q.first Q.second
        same = same_of Q.first Q.second s

        go : (x : Bool) → is_too_wide Q.first ≡ x → (y : Bool) → is_too_wide Q.second ≡ y → CommonStated Q (common_answer Q)
        go true u y v = code_as (answer_wide Q e a b s (or_left _ u)) (first_wide ready same (wide_of Q.first u))
        go false u true v = code_as (answer_wide Q e a b s (or_right (is_too_wide Q.first) v)) (second_wide ready same (wide_of Q.second v))
        go false u false v =
            code_as (answer_found Q e a b s (neither u v)) (found ready same (narrow_of Q.first u) (narrow_of Q.second v))

    by_equations : CommonStated Q (common_answer Q)
    by_equations = go (same_equations Q.first Q.second) refl
      where
        go : (x : Bool) → same_equations Q.first Q.second ≡ x → CommonStated Q (common_answer Q)
        go true s = by_width s
        go false s = code_as (answer_different Q e a b s) (different ready (λ x. clash (same_equations Q.first Q.second) (of_same Q.first Q.second x) s))

  pub stated : CommonStated Q (common_answer Q)
  stated = go (short_intervals Q) refl (answer Q.first) refl (answer Q.second) refl
    where
      go : (x : Bool) → short_intervals Q ≡ x → (l : List ℕ) → answer Q.first ≡ l → (m : List ℕ) → answer Q.second ≡ m → CommonStated Q (common_answer Q)
      go true e l a m b = code_as (answer_short Q e) (interval_short e)
      go false e (k ∷ l) a m b = code_as (answer_first Q e a) (of_first k l e (case a))
      go false e [] a (k ∷ m) b = code_as (answer_second Q e a b) (of_second k m e (case a) (case b))
      go false e [] a [] b = by_equations e a b

  -- ---- what has its stated case is said
  module _ (x : BothAccepted Q) where
    first_code : answer Q.first ≡ []
    first_code = check.code_of_lem Q.first x.first

    second_code : answer Q.second ≡ []
    second_code = check.code_of_lem Q.second x.second

    code_20 : (SameEquations Q.first Q.second → ⊥) → common_answer Q ≡ 0 ∷ 20 ∷ []
    code_20 d = answer_different Q x.long first_code second_code (go (same_equations Q.first Q.second) refl)
      where
        go : (b : Bool) → same_equations Q.first Q.second ≡ b → same_equations Q.first Q.second ≡ false
        go true s = absurd (d (same_of Q.first Q.second s))
        go false s = s

    module _ (s : SameEquations Q.first Q.second) where
      code_21 : (is_too_wide Q.first || is_too_wide Q.second) ≡ true → common_answer Q ≡ 0 ∷ 21 ∷ []
      code_21 = answer_wide Q x.long first_code second_code (of_same Q.first Q.second s)

      code_0 : (is_too_wide Q.first || is_too_wide Q.second) ≡ false → common_answer Q ≡ []
      code_0 = answer_found Q x.long first_code second_code (of_same Q.first Q.second s)

  pub code_of_lem : {w : List ℕ} → CommonStated Q w → common_answer Q ≡ w
  code_of_lem (interval_short e) = answer_short Q e
  code_of_lem (of_first k l e x) = answer_first Q e (check.code_of_lem Q.first x)
  code_of_lem (of_second k l e x y) = answer_second Q e (check.code_of_lem Q.first x) (check.code_of_lem Q.second y)
  code_of_lem (different x d) = code_20 x d
  code_of_lem (first_wide x s w) = code_21 x s (or_left _ (of_wide Q.first w))
  code_of_lem (second_wide x s w) = code_21 x s (or_right (is_too_wide Q.first) (of_wide Q.second w))
  code_of_lem (found x s u v) = code_0 x s (neither (of_narrow Q.first u) (of_narrow Q.second v))

-- ---- what is found
pub record FoundCase (Q : Proposals) : Type 0 where
  pub long : short_intervals Q ≡ false
  pub first : answer Q.first ≡ []
  pub second : answer Q.second ≡ []
  pub same : SameEquations Q.first Q.second
  pub first_narrow : NoneWide Q.first
  pub second_narrow : NoneWide Q.second

found_of : (Q : Proposals) {w : List ℕ} → CommonStated Q w → w ≡ [] → FoundCase Q
found_of Q (interval_short e) z = absurd (nothing_is_not z)
found_of Q (of_first k l e x) z = absurd (nothing_is_not z)
found_of Q (of_second k l e x y) z = absurd (nothing_is_not z)
found_of Q (different x d) z = absurd (nothing_is_not z)
found_of Q (first_wide x s w) z = absurd (nothing_is_not z)
found_of Q (second_wide x s w) z = absurd (nothing_is_not z)
found_of Q (found x s u v) z = record {
  long = x.long;
  first = first_code Q x;
  second = second_code Q x;
  same = s;
  first_narrow = u;
  second_narrow = v;
}

pub found_case : (Q : Proposals) → common_answer Q ≡ [] → FoundCase Q
found_case Q = found_of Q (stated Q)
