-- What Paper 8 says of each refusal of two nets, with the order written out: each case holds only where no earlier one does. Rows and columns count from 0
-- here, and from 1 in what is said; the net comes first.
--   UsableDependent D — neither 8 nor 3 of the dependent net;  DependentResiduals D — no 6 of it
--   StatedDependent D code — the case that is stated for what is said of the dependent net
--   StatedTogether J code — the case that is stated for what is said: of the main net, what a check on lists states (check_spec/specs/Stated)
use Rattle.std.specs.Prelude.{true, false, List, [], ◌∷◌, ◌≡◌, ℕ, ◌+◌, ◌<◌}
use Rattle.enclosure.specs.Problem.{column_of}
use Rattle.enclosure.specs.Reckoning.{margin_fails, exceeds}
use Rattle.enclosure.specs.Sound.{Margins, Residuals}
use Rattle.check_spec.specs.Stated.{Stated}
use Rattle.dependent_spec.specs.Nets.{Nets, DependentNet, dependent_of}
use Rattle.dependent_spec.specs.Reckoning.{own_problem, dependent_exceeds}
use Rattle.dependent_spec.specs.Order.{dependent_short, dependent_in_ranges}

pub record UsableDependent (D : DependentNet) : Type 0 where
  pub long : dependent_short D ≡ false
  pub inside : dependent_in_ranges D ≡ true

abbrev pub DependentResiduals : DependentNet → Type 0
DependentResiduals D = (k : ℕ) → k < D.own.n → dependent_exceeds D k ≡ false

pub data StatedDependent (D : DependentNet) : List ℕ → Type 0 where
  -- 8: C or a list of this net is too short
  too_short : dependent_short D ≡ true → StatedDependent D (8 ∷ [])
  -- 3: a number of this net or of C outside its range, or another s than the main net's
  out_of_range : dependent_short D ≡ false → dependent_in_ranges D ≡ false → StatedDependent D (3 ∷ [])
  -- 5: a margin of 0 or less; the lowest such row
  margin_low : (m : ℕ) → UsableDependent D → m < D.own.n → margin_fails (own_problem D) m ≡ true →
      ((k : ℕ) → k < m → margin_fails (own_problem D) k ≡ false) → StatedDependent D (5 ∷ (m + 1) ∷ [])
  -- 6: a residual above 2^25 in absolute value, its slack added; the lowest row
  residual_large : (k : ℕ) → UsableDependent D → Margins (own_problem D) → k < D.own.n → dependent_exceeds D k ≡ true →
      ((i : ℕ) → i < k → dependent_exceeds D i ≡ false) → StatedDependent D (6 ∷ (k + 1) ∷ [])
  -- 7: as in a check on lists; the lowest column, then its lowest row
  inverse_large : (j k : ℕ) → UsableDependent D → Margins (own_problem D) → DependentResiduals D → j < D.own.n → k < D.own.n →
      exceeds (column_of (own_problem D) j) k ≡ true → ((c : ℕ) → c < j → Residuals (column_of (own_problem D) c)) →
      ((r : ℕ) → r < k → exceeds (column_of (own_problem D) j) r ≡ false) → StatedDependent D (7 ∷ (j + 1) ∷ (k + 1) ∷ [])
  -- accepted: none of them
  accepted : UsableDependent D → Margins (own_problem D) → DependentResiduals D →
      ((j : ℕ) → j < D.own.n → Residuals (column_of (own_problem D) j)) → StatedDependent D []

pub data StatedTogether (J : Nets) : List ℕ → Type 0 where
  of_main : (k : ℕ) (ks : List ℕ) → Stated J.main (k ∷ ks) → StatedTogether J (1 ∷ k ∷ ks)
  of_dependent : (k : ℕ) (ks : List ℕ) → Stated J.main [] → StatedDependent (dependent_of J) (k ∷ ks) → StatedTogether J (2 ∷ k ∷ ks)
  both_accepted : Stated J.main [] → StatedDependent (dependent_of J) [] → StatedTogether J []
