-- The same two proposals in the other order, a proposal with itself, and what the contract gives beside (specs/Promised).
--   low_end_exchanged, high_end_exchanged — the ends of the common interval, in either order;  own_low, own_high — of a proposal with itself
--   exchanged_code — what is said in the other order
--   low_exchanged, high_exchanged — the interval lists after the call are the same in either order, whatever is said
--   calls_exchanged — the same of two calls
--   own_code   — an accepted proposal whose limits are at most 2^36 is found with itself;  own_ends — with X − E and X + E as its ends
use mathlib.Core.Path.{◌≡◌, refl, sym, ap, subst, ◌∙◌}
use mathlib.Core.Bool.{false}
use mathlib.Core.List.{List, [], ◌∷◌}
use Prim.Native.Nat.{ℕ, ◌-◌, ◌^◌}
use native.Mathlib.Omega.{arith}
use lib.IntN.{ℤ, pos, ◌+ℤ◌, ◌-ℤ◌, ◌*ℤ◌}
use Rattle.integer.proofs.Ring.{one-*}
use Rattle.linear.specs.Slice.{at}
use Rattle.linear.specs.Written.{written}
use Rattle.linear.proofs.Written.{written_ext, front_at}
use Rattle.rules.proofs.Verdicts.{accepted_new}
use Rattle.rules.specs.Order.{if_accepted}
use Rattle.enclosure.specs.Reckoning.{bound}
use Rattle.check_spec.specs.Input.{Input, problem}
use Rattle.check_spec.specs.Order.{answer}
use Rattle.check_spec.specs.Stated.{Stated}
use Rattle.check_spec.proofs.Statements as check
use Rattle.common_spec.specs.Answer.{Common, common_code, common_answer, low_after, high_after, CommonAs}
use Rattle.common_spec.specs.Proposals.{Proposals, proposals, short_intervals}
use Rattle.common_spec.specs.Ends.{maxℤ, minℤ, finer, in_steps, low_of, high_of, low_end, high_end}
use Rattle.common_spec.specs.Stated.{SameEquations, NoneWide, BothAccepted, CommonStated, interval_short, of_first, of_second, different, first_wide, second_wide, found}
use Rattle.common_spec.specs.Promised.{exchanged, Exchanged, of_neither_lem, first_alone, second_alone, both, OwnEnds}
use Rattle.common_spec.specs.Promised as promised
use Rattle.common_spec.proofs.Equations.{exchanged_same}
use Rattle.common_spec.proofs.Contract.{answer_short, answer_first, answer_second, long_low, long_high}
use Rattle.common_spec.proofs.Order.{max_comm, min_comm, max_self, min_self}
use Rattle.common_spec.proofs.Statements.{stated, code_of_lem, found_case}

-- ---- the ends
finer_exchanged : (I J : Input) → finer J I ≡ finer I J
finer_exchanged I J = omega arith

low_end_exchanged : (I J : Input) (i : ℕ) → low_end J I i ≡ low_end I J i
unfolding low_end
low_end_exchanged I J i = max_comm (low_of (finer J I) J i) (low_of (finer J I) I i) ∙ ap (λ (s : ℕ). maxℤ (low_of s I i) (low_of s J i)) (finer_exchanged I J)

high_end_exchanged : (I J : Input) (i : ℕ) → high_end J I i ≡ high_end I J i
unfolding high_end
high_end_exchanged I J i = min_comm (high_of (finer J I) J i) (high_of (finer J I) I i) ∙ ap (λ (s : ℕ). minℤ (high_of s I i) (high_of s J i)) (finer_exchanged I J)

own_steps : (I : Input) (z : ℤ) → in_steps (finer I I) I z ≡ z
own_steps I z =
    let e : finer I I - I.s ≡ 0 = omega arith in
    ap (λ (k : ℕ). pos (2 ^ k) *ℤ z) e ∙ one-* z

pub own_low : (I : Input) (i : ℕ) → low_end I I i ≡ at I.guess i -ℤ pos (bound (problem I) i)
unfolding low_end
own_low I i = max_self (low_of (finer I I) I i) ∙ own_steps I (at I.guess i -ℤ pos (bound (problem I) i))

pub own_high : (I : Input) (i : ℕ) → high_end I I i ≡ at I.guess i +ℤ pos (bound (problem I) i)
unfolding high_end
own_high I i = min_self (high_of (finer I I) I i) ∙ own_steps I (at I.guess i +ℤ pos (bound (problem I) i))

-- ---- what is said
module _ (Q : Proposals) where
  as_code : {w w' : List ℕ} → common_answer (exchanged Q) ≡ w' → Exchanged Q w w' → Exchanged Q w (common_answer (exchanged Q))
  as_code {w} e x = subst (Exchanged Q w) (sym e) x

  -- where the first is refused
  by_second : (k : ℕ) (l : List ℕ) → short_intervals Q ≡ false → answer Q.first ≡ k ∷ l → (m : List ℕ) → answer Q.second ≡ m → Exchanged Q (1 ∷ k ∷ l) (common_answer (exchanged Q))
  by_second k l e a [] b = as_code (answer_second (exchanged Q) e b a) (first_alone k l b)
  by_second k l e a (k' ∷ l') b = as_code (answer_first (exchanged Q) e b) (both k k' l l' a b)

  other : BothAccepted Q → BothAccepted (exchanged Q)
  other x = record { long = x.long; first = x.second; second = x.first }

  turned : {w : List ℕ} → CommonStated Q w → Exchanged Q w (common_answer (exchanged Q))
  turned (interval_short e) = as_code (answer_short (exchanged Q) e) (of_neither_lem 8)
  turned (of_first k l e x) = by_second k l e (check.code_of_lem Q.first x) (answer Q.second) refl
  turned (of_second k l e x y) = as_code (answer_first (exchanged Q) e (check.code_of_lem Q.second y)) (second_alone k l (check.code_of_lem Q.first x))
  turned (different x d) = as_code (code_of_lem (exchanged Q) (different (other x) (λ s. d (exchanged_same Q.second Q.first s)))) (of_neither_lem 20)
  turned (first_wide x s w) = as_code (code_of_lem (exchanged Q) (second_wide (other x) (exchanged_same Q.first Q.second s) w)) (of_neither_lem 21)
  turned (second_wide x s w) = as_code (code_of_lem (exchanged Q) (first_wide (other x) (exchanged_same Q.first Q.second s) w)) (of_neither_lem 21)
  turned (found x s u v) = as_code (code_of_lem (exchanged Q) (found (other x) (exchanged_same Q.first Q.second s) v u)) promised.found

  pub exchanged_code : Exchanged Q (common_answer Q) (common_answer (exchanged Q))
  exchanged_code = turned (stated Q)

  -- ---- the lists
  either_way : (old new new' : List ℤ) {w w' : List ℕ} → Exchanged Q w w' → (w ≡ [] → new' ≡ new) → if_accepted w' new' old ≡ if_accepted w new old
  either_way old new new' (of_neither_lem k) e = refl
  either_way old new new' promised.found e = e refl
  either_way old new new' (first_alone k l b) e = refl
  either_way old new new' (second_alone k l a) e = refl
  either_way old new new' (both k k' l l' a b) e = refl

  module _ (f g : ℕ → ℤ) (xs : List ℤ) (h : (i : ℕ) → g i ≡ f i) where
    written_exchanged : common_answer Q ≡ [] → written xs 0 1 g Q.second.n ≡ written xs 0 1 f Q.first.n
    written_exchanged e =
        written_ext xs 0 1 g f Q.second.n (λ i l. h i) ∙ ap (written xs 0 1 f) (sym (found_case Q e).same.n)

  pub low_exchanged : low_after (exchanged Q) ≡ low_after Q
  unfolding low_after
  low_exchanged =
      either_way Q.low _ _ exchanged_code
      (written_exchanged (low_end Q.first Q.second) (low_end Q.second Q.first) Q.low (low_end_exchanged Q.first Q.second))

  pub high_exchanged : high_after (exchanged Q) ≡ high_after Q
  unfolding high_after
  high_exchanged =
      either_way Q.high _ _ exchanged_code
      (written_exchanged (high_end Q.first Q.second) (high_end Q.second Q.first) Q.high (high_end_exchanged Q.first Q.second))

pub calls_exchanged : (Q : Proposals) (r r' : Common) (low high low' high' : List ℤ) → CommonAs Q r low high → CommonAs (exchanged Q) r' low' high' →
    Exchanged Q (common_code r) (common_code r') × ((low' ≡ low) × (high' ≡ high))
calls_exchanged Q r r' low high low' high' x y = (
  rw (x.says, y.says) (exchanged_code Q),
  (y.low_is ∙ low_exchanged Q ∙ sym x.low_is, y.high_is ∙ high_exchanged Q ∙ sym x.high_is),
)

-- ---- a proposal with itself
itself : (I : Input) → SameEquations I I
itself I = record { n = refl; matrix = λ k l. refl; right = λ k l. refl; tolerance = λ k l. refl }

module _ (I : Input) (low high : List ℤ) where
  abbrev twice : Proposals
  twice = proposals I I low high

  pub own_code : short_intervals twice ≡ false → answer I ≡ [] → NoneWide I → common_answer twice ≡ []
  own_code e a u =
      let x : Stated I [] = subst (Stated I) a (check.stated I) in
      code_of_lem twice (found (record { long = e; first = x; second = x }) (itself I) u u)

  pub own_ends : (r : Common) (low' high' : List ℤ) → CommonAs twice r low' high' → common_code r ≡ [] → OwnEnds I (at low') (at high')
  unfolding low_after high_after
  own_ends r low' high' x z =
      let s : common_answer twice ≡ [] = sym x.says ∙ z in
      let c = found_case twice s in
      record {
        lower = λ i l. ap (λ (xs : List ℤ). at xs i) (x.low_is ∙ accepted_new _ _ s) ∙ front_at low (low_end I I) (pos 0) I.n i l (long_low twice c.long c.first) ∙ own_low I i;
        upper = λ i l. ap (λ (xs : List ℤ). at xs i) (x.high_is ∙ accepted_new _ _ s) ∙ front_at high (high_end I I) (pos 0) I.n i l (long_high twice c.long c.first) ∙ own_high I i;
      }
