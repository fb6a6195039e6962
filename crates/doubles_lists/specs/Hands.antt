-- A problem's heights handed to `intervals_of`, and where they lie; cited by theorems alone.
--   Hands P E I — the call is handed n, s and the guesses of the problem P, and E as their limits
--   AllBetween n low high N q — each of the heights N_0 / q, .., N_(n − 1) / q lies between its ends in the two lists
use Rattle.std.specs.Prelude.{List, ◌≡◌, ℕ, ◌<◌, get_or, Float}
use Rattle.linear.specs.Matrix.{Vec}
use Rattle.linear.specs.Slice.{at}
use Rattle.enclosure.specs.Problem.{Problem}
use Rattle.doubles_interval.specs.Interval.{Between}
use Rattle.doubles_lists.specs.Outward.{Outgoing, ends_in}

pub record Hands (P : Problem) (E : ℕ → ℕ) (I : Outgoing) : Type 0 where
  pub n : I.n ≡ P.n
  pub s : I.s ≡ P.s
  pub guess : (i : ℕ) → i < P.n → at I.guess i ≡ P.X i
  pub bounds : (i : ℕ) → i < P.n → get_or I.bounds i 0 ≡ E i

abbrev pub AllBetween : ℕ → List Float → List Float → Vec → ℕ → Type 0
AllBetween n low high N q = (i : ℕ) → i < n → Between (ends_in low high i) (N i) q
