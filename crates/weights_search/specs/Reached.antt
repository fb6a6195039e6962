-- Where a search of the sequence stopped; cited by contracts inside.
--   FirstGoodOf P a l — l is the first good list of the sequence, one of the first a: how many lists were passed over, and the list
--   SearchedTo P a r — what the search of the first a lists found: the first good one, or nothing where none is good
use Rattle.std.specs.Prelude.{◌≡◌, ℕ, ◌<◌, Option, Some, None}
use Rattle.enclosure.specs.Problem.{Problem}
use Rattle.check_arrays.specs.Arrays.{PrefixIs}
use Rattle.weights_spec.specs.Sequence.{tried, first_good}
use Rattle.weights_search.specs.declared.FirstGood.{FirstGood}

pub record FirstGoodOf (P : Problem) (a : ℕ) (l : FirstGood) : Type 0 where
  pub place : l.passed ≡ first_good P a
  pub allowed : l.passed < a
  pub list : PrefixIs 0 l.weights P.n (tried P l.passed)

pub record SearchedTo (P : Problem) (a : ℕ) (r : Option FirstGood) : Type 0 where
  pub found : (l : FirstGood) → r ≡ Some l → FirstGoodOf P a l
  pub none : r ≡ None → first_good P a ≡ a
