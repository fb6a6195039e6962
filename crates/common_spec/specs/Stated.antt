-- What Paper 13 says of each refusal, with the order written out: each case holds only where no earlier one does. Places count from 0 here.
--   SameEquations I J — size, matrix, right side and tolerances of both, as far as they are used, are the same
--   NoneWide I    — no solution limit of I is above 2^36;  Wide I — one is
--   BothAccepted Q — the interval lists are long enough, and each proposal is accepted by itself
--   CommonStated Q code — the case that is stated for what is said; `Stated` (check_spec/specs/Stated) has the cases of one proposal
use Rattle.std.specs.Prelude.{true, false, List, [], ◌∷◌, ◌≡◌, ℕ, ◌*◌, ◌≤◌, ◌<◌}
use Rattle.linear.specs.Slice.{at}
use Rattle.enclosure.specs.Reckoning.{bound}
use Rattle.check_spec.specs.Input.{Input, problem}
use Rattle.check_spec.specs.Stated.{Stated}
use Rattle.common_spec.specs.Proposals.{Proposals, short_intervals, most_steps}

pub record SameEquations (I J : Input) : Type 0 where
  pub n : I.n ≡ J.n
  pub matrix : (k : ℕ) → k < I.n * I.n → at I.matrix k ≡ at J.matrix k
  pub right : (k : ℕ) → k < I.n → at I.right k ≡ at J.right k
  pub tolerance : (k : ℕ) → k < I.n → at I.tolerance k ≡ at J.tolerance k

pub record NoneWide (I : Input) : Type 0 where
  pub each : (i : ℕ) → i < I.n → bound (problem I) i ≤ most_steps

pub record Wide (I : Input) : Type 0 where
  pub place : ℕ
  pub inside : place < I.n
  pub above : most_steps < bound (problem I) place

pub record BothAccepted (Q : Proposals) : Type 0 where
  pub long : short_intervals Q ≡ false
  pub first : Stated Q.first []
  pub second : Stated Q.second []

pub data CommonStated (Q : Proposals) : List ℕ → Type 0 where
  -- 8: an interval list too short
  interval_short : short_intervals Q ≡ true → CommonStated Q (0 ∷ 8 ∷ [])
  -- a refusal of the first proposal, by its own stated case
  of_first : (k : ℕ) (l : List ℕ) → short_intervals Q ≡ false → Stated Q.first (k ∷ l) → CommonStated Q (1 ∷ k ∷ l)
  -- a refusal of the second, where the first is accepted
  of_second : (k : ℕ) (l : List ℕ) → short_intervals Q ≡ false → Stated Q.first [] → Stated Q.second (k ∷ l) →
      CommonStated Q (2 ∷ k ∷ l)
  -- 20: not of the same equations
  different : BothAccepted Q → (SameEquations Q.first Q.second → ⊥) → CommonStated Q (0 ∷ 20 ∷ [])
  -- 21: of the same equations, and a solution limit is above 2^36, of the first or of the second
  first_wide : BothAccepted Q → SameEquations Q.first Q.second → Wide Q.first → CommonStated Q (0 ∷ 21 ∷ [])
  second_wide : BothAccepted Q → SameEquations Q.first Q.second → Wide Q.second → CommonStated Q (0 ∷ 21 ∷ [])
  -- found: none of them
  found : BothAccepted Q → SameEquations Q.first Q.second → NoneWide Q.first → NoneWide Q.second → CommonStated Q []
