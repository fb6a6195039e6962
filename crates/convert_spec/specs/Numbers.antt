-- The numbers of a problem that count: the first n of every list.
--   SameNumbers P Q — n, s and t are equal, and every number that counts other than the tolerances, which a new file does not have
--   SameTolerances P Q — so are the tolerances
--   NumbersInRange P — n, s, t and every number that counts are in their ranges
use Rattle.std.specs.Prelude.{true, ◌≡◌, ℕ, ◌<◌, pos}
use Rattle.rules.specs.Range.{in_range}
use Rattle.rules.specs.declared.Kind.TheVariants as kind
use Rattle.enclosure.specs.Problem.{Problem}

pub record SameNumbers (P Q : Problem) : Type 0 where
  pub size : P.n ≡ Q.n
  pub solution : P.s ≡ Q.s
  pub inverse_scale : P.t ≡ Q.t
  pub matrix : (i j : ℕ) → i < P.n → j < P.n → P.A i j ≡ Q.A i j
  pub right : (i : ℕ) → i < P.n → P.b i ≡ Q.b i
  pub guess : (i : ℕ) → i < P.n → P.X i ≡ Q.X i
  pub inverse : (i j : ℕ) → i < P.n → j < P.n → P.G i j ≡ Q.G i j
  pub weights : (i : ℕ) → i < P.n → P.w i ≡ Q.w i

abbrev pub SameTolerances : Problem → Problem → Type 0
SameTolerances P Q = (i : ℕ) → i < P.n → P.d i ≡ Q.d i

pub record NumbersInRange (P : Problem) : Type 0 where
  pub size : in_range kind.Size (pos P.n) ≡ true
  pub solution : in_range kind.SolutionScale (pos P.s) ≡ true
  pub inverse_scale : in_range kind.InverseScale (pos P.t) ≡ true
  pub matrix : (i j : ℕ) → i < P.n → j < P.n → in_range kind.Matrix (P.A i j) ≡ true
  pub right : (i : ℕ) → i < P.n → in_range kind.Right (P.b i) ≡ true
  pub guess : (i : ℕ) → i < P.n → in_range kind.Guess (P.X i) ≡ true
  pub inverse : (i j : ℕ) → i < P.n → j < P.n → in_range kind.Inverse (P.G i j) ≡ true
  pub weights : (i : ℕ) → i < P.n → in_range kind.Weight (pos (P.w i)) ≡ true
