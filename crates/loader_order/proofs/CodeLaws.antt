-- The refusals of a line, each said exactly where no case earlier in the order holds and its own does.
--   code_8, code_14, code_1, code_2, code_11, code_3, code_12, code_4, code_13, code_none;  count_13 — the count that 13 gives
--   Passed, passed — where nothing is said, no stated case holds
use mathlib.Core.Path.{◌≡◌, refl}
use mathlib.Core.Bool.{Bool, true, false, not, ◌&&◌, ◌||◌, cond}
use mathlib.Core.List.{List, [], ◌∷◌}
use mathlib.Core.Logic.{◌↔◌}
use Prim.Native.Nat.{ℕ}
use native.Mathlib.Omega.{arith}
use lib.ListN.{take, drop}
use Rattle.rules.specs.Order.{Test, number, verdict}
use Rattle.rules.proofs.Tests.{None, no_code_lem, silent, skipped, code_exactly, code_around}
use Rattle.loader_order.specs.Order.{LineCase, line_order}

module _ (c : LineCase) where
  abbrev says : List ℕ
  says = verdict (line_order c)

  -- the first k tests of the order, and those after them
  abbrev first : ℕ → List Test
  first k = take k (line_order c)

  abbrev rest : ℕ → List Test
  rest k = drop k (line_order c)

  pub code_8 : (says ≡ 8 ∷ []) ↔ (None (first 0) × (c.short ≡ true))
  code_8 = code_exactly (first 0) (number 8 c.short) (rest 1) refl refl

  pub code_14 : (says ≡ 14 ∷ []) ↔ (None (first 1) × (c.ended ≡ true))
  code_14 = code_exactly (first 1) (number 14 c.ended) (rest 2) refl refl

  pub code_1 : (says ≡ 1 ∷ []) ↔ (None (first 2) × (c.long ≡ true))
  code_1 = code_exactly (first 2) (number 1 c.long) (rest 3) refl refl

  pub code_2 : (says ≡ 2 ∷ []) ↔ (None (first 3) × (c.unspelled ≡ true))
  code_2 = code_exactly (first 3) (number 2 c.unspelled) (rest 4) refl refl

  pub code_11 : (says ≡ 11 ∷ []) ↔ (None (first 4) × (c.early ≡ true))
  code_11 = code_exactly (first 4) (number 11 c.early) (rest 5) refl refl

  -- for i; or, where it is no repetition, for the values
  pub code_3 : (says ≡ 3 ∷ []) ↔ (None (first 5) × (c.misplaced || not c.repeated && c.outside ≡ true))
  code_3 = code_around (first 5) (3 ∷ []) c.misplaced (number 12 c.repeated) c.outside (rest 8) refl refl

  pub code_12 : (says ≡ 12 ∷ []) ↔ (None (first 6) × (c.repeated ≡ true))
  code_12 = code_exactly (first 6) (number 12 c.repeated) (rest 7) refl refl

  pub code_4 : (says ≡ 4 ∷ []) ↔ (None (first 8) × (c.miscounted ≡ true))
  code_4 = code_exactly (first 8) (number 4 c.miscounted) (rest 9) refl refl

  pub code_13 : (says ≡ 13 ∷ c.missing ∷ []) ↔ (None (first 9) × (c.incomplete ≡ true))
  code_13 = code_exactly (first 9) (record { says = 13 ∷ c.missing ∷ []; holds = c.incomplete }) [] refl refl

  -- the count that it gives is that of the missing forms
  pub count_13 : {k : ℕ} → says ≡ 13 ∷ k ∷ [] → k ≡ c.missing
  count_13 {k} e = go c.incomplete (skipped (first 9) (rest 9) (13 ∷ k ∷ []) refl e).1
    where
      go : (b : Bool) → cond b (13 ∷ c.missing ∷ []) [] ≡ 13 ∷ k ∷ [] → k ≡ c.missing
      go true h = cc
      go false h = let z : ◌≡◌ {A = ℕ} 0 1 = cc in absurd (omega arith)

  pub code_none : (says ≡ []) ↔ None (line_order c)
  code_none = (no_code_lem (line_order c) [] refl, silent (line_order c))

  pub record Passed : Type 0 where
    pub short : c.short ≡ false
    pub ended : c.ended ≡ false
    pub long : c.long ≡ false
    pub unspelled : c.unspelled ≡ false
    pub early : c.early ≡ false
    pub misplaced : c.misplaced ≡ false
    pub repeated : c.repeated ≡ false
    pub outside : c.outside ≡ false
    pub miscounted : c.miscounted ≡ false
    pub incomplete : c.incomplete ≡ false

  pub passed : says ≡ [] → Passed
  passed e =
      let n = no_code_lem (line_order c) [] refl e in
      record {
        short = cc;
        ended = cc;
        long = cc;
        unspelled = cc;
        early = cc;
        misplaced = cc;
        repeated = cc;
        outside = cc;
        miscounted = cc;
        incomplete = cc;
      }
