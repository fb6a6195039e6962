-- Two calls on two proposals that agree on the places used, and what holds of them alike: the rest of each list is not read, nor what the interval lists held.
--   AgreeingProposals Q R — n, s, t and the first numbers of every list of both proposals are the same, in lists that are long enough
--   SameCommon Q r r' .. — the same is said of both, and where nothing is said the first n numbers of both interval lists are the same
use Rattle.std.specs.Prelude.{false, List, [], ◌≡◌, ℕ, ◌<◌, ℤ}
use Rattle.linear.specs.Slice.{at}
use Rattle.check_spec.specs.Agree.{Agree}
use Rattle.common_spec.specs.Answer.{Common, common_code}
use Rattle.common_spec.specs.Proposals.{Proposals, short_intervals}

pub record AgreeingProposals (Q R : Proposals) : Type 0 where
  pub first : Agree Q.first R.first
  pub second : Agree Q.second R.second
  pub long : short_intervals Q ≡ false
  pub long' : short_intervals R ≡ false

pub record SameCommon (Q : Proposals) (r r' : Common) (low high low' high' : List ℤ) : Type 0 where
  pub says : common_code r ≡ common_code r'
  pub low_same : common_code r ≡ [] → (i : ℕ) → i < Q.first.n → at low i ≡ at low' i
  pub high_same : common_code r ≡ [] → (i : ℕ) → i < Q.first.n → at high i ≡ at high' i
