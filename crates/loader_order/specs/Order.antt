-- The refusals of a line in their order (02, Paper 6: "repetition is now tested first. Order of a line from now on: 8, 14, 1, 2, 11, 3 for i, 12, 3 for values, 4, 13").
--   LineCase  — for each refusal whether its stated case holds, and the count of missing forms, which 13 gives
--   line_order — the tests in that order
use Rattle.std.specs.Prelude.{Bool, List, [], ◌∷◌, ℕ}
use Rattle.rules.specs.Order.{Test, number}

pub record LineCase : Type 0 where
  pub short : Bool  -- 8
  pub ended : Bool  -- 14
  pub long : Bool  -- 1
  pub unspelled : Bool  -- 2
  pub early : Bool  -- 11
  pub misplaced : Bool  -- 3, of i
  pub repeated : Bool  -- 12
  pub outside : Bool  -- 3, of the values
  pub miscounted : Bool  -- 4
  pub incomplete : Bool  -- 13
  pub missing : ℕ

abbrev pub line_order : LineCase → List Test
line_order c =
    number 8 c.short
    ∷ number 14 c.ended
    ∷ number 1 c.long
    ∷ number 2 c.unspelled
    ∷ number 11 c.early
    ∷ number 3 c.misplaced
    ∷ number 12 c.repeated
    ∷ number 3 c.outside
    ∷ number 4 c.miscounted
    ∷ record { says = 13 ∷ c.missing ∷ []; holds = c.incomplete }
    ∷ []
