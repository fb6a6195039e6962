-- The same two proposals in the other order, and a proposal with itself; theorems in proofs/Exchanged.
--   exchanged Q — the same two in the other order, with the same interval lists
--   Exchanged Q code code' — what is said of Q, what is said of exchanged Q, and when: what is of neither stays as it is, and what is found stays found; a
--     refusal of the one that alone is refused is of the other number; where both are refused each order names the one that comes first
--   OwnEnds I low high — X − E and X + E of every height, in the proposal's own steps
use Rattle.std.specs.Prelude.{List, [], ◌∷◌, ◌≡◌, ℕ, ◌<◌, ℤ, pos, ◌+ℤ◌, ◌-ℤ◌}
use Rattle.linear.specs.Slice.{at}
use Rattle.enclosure.specs.Reckoning.{bound}
use Rattle.check_spec.specs.Input.{Input, problem}
use Rattle.check_spec.specs.Order.{answer}
use Rattle.common_spec.specs.Proposals.{Proposals, proposals}

abbrev pub exchanged : Proposals → Proposals
exchanged Q = proposals Q.second Q.first Q.low Q.high

pub data Exchanged (Q : Proposals) : List ℕ → List ℕ → Type 0 where
  of_neither_lem : (k : ℕ) → Exchanged Q (0 ∷ k ∷ []) (0 ∷ k ∷ [])
  found : Exchanged Q [] []
  first_alone : (k : ℕ) (l : List ℕ) → answer Q.second ≡ [] → Exchanged Q (1 ∷ k ∷ l) (2 ∷ k ∷ l)
  second_alone : (k : ℕ) (l : List ℕ) → answer Q.first ≡ [] → Exchanged Q (2 ∷ k ∷ l) (1 ∷ k ∷ l)
  both : (k k' : ℕ) (l l' : List ℕ) → answer Q.first ≡ k ∷ l → answer Q.second ≡ k' ∷ l' → Exchanged Q (1 ∷ k ∷ l) (1 ∷ k' ∷ l')

pub record OwnEnds (I : Input) (low high : ℕ → ℤ) : Type 0 where
  pub lower : (i : ℕ) → i < I.n → low i ≡ at I.guess i -ℤ pos (bound (problem I) i)
  pub upper : (i : ℕ) → i < I.n → high i ≡ at I.guess i +ℤ pos (bound (problem I) i)
