-- What Paper 1 of 02 changes in what is said of a line, exactly: 13's count falls by the weights not given, and 13 becomes acceptance where only weights are
-- missing.
--   recounted — of every line the same is said as with 01's count, but for 13
use mathlib.Core.Path.{◌≡◌}
use mathlib.Core.Bool.{Bool, true, false, cond}
use mathlib.Core.List.{List, [], ◌∷◌}
use mathlib.Core.Option.{Option, none, some}
use Prim.Native.Nat.{ℕ, ◌+◌, ◌<◌}
use native.Mathlib.Decide.{dec_lt}
use native.Mathlib.Omega.{arith}
use borrow.Author.Tests.{lt-ltb, le-ltb}
use lib.Dec.{ltb}
use Rattle.line_form.specs.Form.{Form, problem, scale, row, right, right_within, guess, inverse, weight, end}
use Rattle.line_form.specs.Reading.{reading}
use Rattle.loader_values.specs.Item.{item_of}
use Rattle.loader_lists.specs.Lists.{Lists}
use Rattle.loader_progress.specs.Progress.{missing, incomplete}
use Rattle.loader_progress.specs.Before.{incomplete01}
use Rattle.loader_progress.specs.Ungiven.{ungiven}
use Rattle.loader_progress.proofs.Progress.{ungiven_is}
use Rattle.loader_order.specs.Order.{LineCase}
use Rattle.loader.specs.declared.Loader.{Loader}
use Rattle.loader.specs.Answer.{of_form, case_of, line_answer}
use Rattle.loader.specs.Before.{line_answer01, left_out, Recounted, not_13, fewer, only_weights}

-- a number alone is not 13 with a count
alone : {n : ℕ} → (n ≡ 13 → ⊥) → (k : ℕ) → n ∷ [] ≡ 13 ∷ k ∷ [] → ⊥
alone {n} f k e = let z : n ≡ 13 = cc in f z

empty_not_13 : (k : ℕ) → [] ≡ 13 ∷ k ∷ [] → ⊥
empty_not_13 k e = let z : ◌≡◌ {A = ℕ} 0 1 = cc in omega arith

module _ (d : Loader) where
  abbrev m : ℕ
  m = missing d.n d.sets

  abbrev now : Bool → List ℕ
  now b = cond b (13 ∷ missing d.n d.sets ∷ []) []

  abbrev then : Bool → List ℕ
  then b = cond b (13 ∷ ungiven d.n d.sets ∷ []) []

  at_end : Recounted d (then (ltb 0 (ungiven d.n d.sets))) (now (ltb 0 (missing d.n d.sets)))
  at_end = rw (ungiven_is d.n d.sets) (go (dec_lt 0 (missing d.n d.sets)) (dec_lt 0 (left_out d)))
    where
      go : Dec (0 < m) → Dec (0 < left_out d) → Recounted d (cond (ltb 0 (m + left_out d)) (13 ∷ (m + left_out d) ∷ []) []) (now (ltb 0 m))
      go (yes a) b = rw (lt-ltb 0 m a, lt-ltb 0 (m + left_out d) (omega arith)) (fewer a)
      go (no a) (yes b) = rw (le-ltb 0 m (omega arith), lt-ltb 0 (m + left_out d) (omega arith)) (only_weights (omega arith) b)
      go (no a) (no b) = rw (le-ltb 0 m (omega arith), le-ltb 0 (m + left_out d) (omega arith)) (not_13 [] empty_not_13)

  of_form_lem : (f : Form) → Recounted d (then (incomplete01 d.n d.sets (item_of f))) (now (incomplete d.n d.sets (item_of f)))
  of_form_lem (problem n) = not_13 [] empty_not_13
  of_form_lem (scale s t) = not_13 [] empty_not_13
  of_form_lem (row i a others) = not_13 [] empty_not_13
  of_form_lem (right i b) = not_13 [] empty_not_13
  of_form_lem (right_within i b e) = not_13 [] empty_not_13
  of_form_lem (guess i x) = not_13 [] empty_not_13
  of_form_lem (inverse i g others) = not_13 [] empty_not_13
  of_form_lem (weight i w) = not_13 [] empty_not_13
  of_form_lem end = at_end

  of_reading_lem : (o : Option Form)
      → Recounted d (then (of_form o false (λ (f : Form). incomplete01 d.n d.sets (item_of f)))) (now (of_form o false (λ (f : Form). incomplete d.n d.sets (item_of f))))
  of_reading_lem none = not_13 [] empty_not_13
  of_reading_lem (some f) = of_form_lem f

  -- the tests before 13
  abbrev first : Bool → Bool → Bool → Bool → Bool → Bool → Bool → Bool → Bool → List ℕ → List ℕ
  first b8 b14 b1 b2 b11 b3 b12 b3' b4 w =
      cond b8 (8 ∷ []) (cond b14 (14 ∷ []) (cond b1 (1 ∷ []) (cond b2 (2 ∷ []) (cond b11 (11 ∷ []) (cond b3 (3 ∷ []) (cond b12 (12 ∷ []) (cond b3' (3 ∷ []) (cond b4 (4 ∷ []) w))))))))

  by_tests : {w v : List ℕ} (b8 b14 b1 b2 b11 b3 b12 b3' b4 : Bool) → Recounted d w v → Recounted d (first b8 b14 b1 b2 b11 b3 b12 b3' b4 w) (first b8 b14 b1 b2 b11 b3 b12 b3' b4 v)
  by_tests true b14 b1 b2 b11 b3 b12 b3' b4 h = not_13 (8 ∷ []) (alone (λ e. omega arith))
  by_tests false true b1 b2 b11 b3 b12 b3' b4 h = not_13 (14 ∷ []) (alone (λ e. omega arith))
  by_tests false false true b2 b11 b3 b12 b3' b4 h = not_13 (1 ∷ []) (alone (λ e. omega arith))
  by_tests false false false true b11 b3 b12 b3' b4 h = not_13 (2 ∷ []) (alone (λ e. omega arith))
  by_tests false false false false true b3 b12 b3' b4 h = not_13 (11 ∷ []) (alone (λ e. omega arith))
  by_tests false false false false false true b12 b3' b4 h = not_13 (3 ∷ []) (alone (λ e. omega arith))
  by_tests false false false false false false true b3' b4 h = not_13 (12 ∷ []) (alone (λ e. omega arith))
  by_tests false false false false false false false true b4 h = not_13 (3 ∷ []) (alone (λ e. omega arith))
  by_tests false false false false false false false false true h = not_13 (4 ∷ []) (alone (λ e. omega arith))
  by_tests false false false false false false false false false h = h

pub recounted : (d : Loader) (l : Lists) (line : List ℕ) → Recounted d (line_answer01 d l line) (line_answer d l line)
unfolding line_answer line_answer01
recounted d l line =
    let c : LineCase = case_of d l line in
    by_tests d c.short c.ended c.long c.unspelled c.early c.misplaced c.repeated c.outside c.miscounted (of_reading_lem d (reading line))
