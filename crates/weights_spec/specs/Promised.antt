-- What Paper 7 promises of an answer, in its own words; theorems in proofs/Promises and proofs/Unread show each from the contract alone.
--   UsableRequest Q — no lent list is too short, and n, t, the allowance and every number used are in their ranges: neither 8 nor 3
--   SearchStated Q w — w is said, by its stated case: 8 a list is too short, 3 none is and a number is out of its range, 18 neither and none of the allowed
--     lists is good, nothing where neither and one of them is
--   PlaceOfFirstGood Q c — list c of the sequence, counted from 1, is the first good one, and c is at most the allowance
--   NoGood Q       — none of the allowed lists is good
--   allowing Q b   — the same request with another allowance
--   AgreeingRequests Q R — their lists are long enough, and they agree on n, t, the allowance and the first n × n numbers of the matrix and the inverse;
--     the weight lists that are handed in may be any
use Rattle.std.specs.Prelude.{true, false, List, [], ◌∷◌, ◌≡◌, ℕ, ◌+◌, ◌*◌, ◌≤◌, ◌<◌}
use Rattle.linear.specs.Slice.{at}
use Rattle.weights_spec.specs.Sequence.{tried, good}
use Rattle.weights_spec.specs.Request.{Request, request, search_problem, search_short, search_in_ranges}
use Rattle.weights_spec.specs.Search.{passed}

pub record UsableRequest (Q : Request) : Type 0 where
  pub long : search_short Q ≡ false
  pub inside : search_in_ranges Q ≡ true

pub data SearchStated (Q : Request) : List ℕ → Type 0 where
  is_8 : search_short Q ≡ true → SearchStated Q (8 ∷ [])
  is_3 : search_short Q ≡ false → search_in_ranges Q ≡ false → SearchStated Q (3 ∷ [])
  is_18 : UsableRequest Q → Q.allowance ≤ passed Q → SearchStated Q (18 ∷ [])
  is_0 : UsableRequest Q → passed Q < Q.allowance → SearchStated Q []

pub record PlaceOfFirstGood (Q : Request) (c : ℕ) : Type 0 where
  pub before : ℕ
  pub place : c ≡ before + 1
  pub allowed : c ≤ Q.allowance
  pub here : good (search_problem Q) (tried (search_problem Q) before) ≡ true
  pub none_before : (k : ℕ) → k < before → good (search_problem Q) (tried (search_problem Q) k) ≡ false

pub record NoGood (Q : Request) : Type 0 where
  pub none : (k : ℕ) → k < Q.allowance → good (search_problem Q) (tried (search_problem Q) k) ≡ false

abbrev pub allowing : Request → ℕ → Request
allowing Q b = request Q.n Q.t Q.matrix Q.inverse b Q.weights

pub record AgreeingRequests (Q R : Request) : Type 0 where
  pub n : Q.n ≡ R.n
  pub t : Q.t ≡ R.t
  pub allowance : Q.allowance ≡ R.allowance
  pub long : search_short Q ≡ false
  pub long' : search_short R ≡ false
  pub matrix : (k : ℕ) → k < Q.n * Q.n → at Q.matrix k ≡ at R.matrix k
  pub inverse : (k : ℕ) → k < Q.n * Q.n → at Q.inverse k ≡ at R.inverse k
