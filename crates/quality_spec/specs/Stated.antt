-- What is promised of an answer, in words of its own; theorems in proofs/Promises show each from the contract alone.
--   UsableInquiry Q — no lent list is too short, and n, t and every number used are in their ranges: neither 8 nor 3
--   QualityStated Q w — w is said, by its stated case: 8 a list is too short, 3 none is and a number is out of its range, 5 neither and a margin is 0 or less,
--     with the lowest such row, nothing where none of these
--   AgreeingInquiries Q R — their lists are long enough, and they agree on n, t, the first n × n numbers of the matrix and the inverse and the first n weights
use Rattle.std.specs.Prelude.{true, false, List, [], ◌∷◌, ◌≡◌, ℕ, ◌+◌, ◌*◌, ◌<◌}
use Rattle.linear.specs.Slice.{at}
use Rattle.enclosure.specs.Sound.{Margins}
use Rattle.enclosure.specs.Reckoning.{margin_fails}
use Rattle.quality_spec.specs.Inquiry.{Inquiry, inquiry_problem, inquiry_short, inquiry_in_ranges}

pub record UsableInquiry (Q : Inquiry) : Type 0 where
  pub long : inquiry_short Q ≡ false
  pub inside : inquiry_in_ranges Q ≡ true

pub data QualityStated (Q : Inquiry) : List ℕ → Type 0 where
  is_8 : inquiry_short Q ≡ true → QualityStated Q (8 ∷ [])
  is_3 : inquiry_short Q ≡ false → inquiry_in_ranges Q ≡ false → QualityStated Q (3 ∷ [])
  is_5 : (m : ℕ) → UsableInquiry Q → m < Q.n → margin_fails (inquiry_problem Q) m ≡ true →
      ((k : ℕ) → k < m → margin_fails (inquiry_problem Q) k ≡ false) → QualityStated Q (5 ∷ (m + 1) ∷ [])
  is_0 : UsableInquiry Q → Margins (inquiry_problem Q) → QualityStated Q []

pub record AgreeingInquiries (Q R : Inquiry) : Type 0 where
  pub n : Q.n ≡ R.n
  pub t : Q.t ≡ R.t
  pub long : inquiry_short Q ≡ false
  pub long' : inquiry_short R ≡ false
  pub matrix : (k : ℕ) → k < Q.n * Q.n → at Q.matrix k ≡ at R.matrix k
  pub inverse : (k : ℕ) → k < Q.n * Q.n → at Q.inverse k ≡ at R.inverse k
  pub weights : (k : ℕ) → k < Q.n → at Q.weights k ≡ at R.weights k
