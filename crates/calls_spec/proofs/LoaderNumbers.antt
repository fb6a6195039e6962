-- No number outside the papers' is answered.
--   firsts ts     — the numbers of the tests ts
--   code_among    — what an order of tests says begins with one of them, or is nothing, which is 0
--   take_numbers, check_numbers — so of the loader's two calls, for every nine numbers and all lists
use mathlib.Core.Bool.{Bool, true, false, cond}
use mathlib.Core.List.{List, [], ◌∷◌}
use mathlib.Core.Path.{◌≡◌, sym, subst}
use Prim.Native.Nat.{ℕ}
use lib.ListN.{get_or}
use Rattle.integer.specs.Among.{Among, here, there}
use Rattle.rules.specs.Order.{Test, verdict}
use Rattle.check_spec.specs.Input.{Input}
use Rattle.loader_lists.specs.Lists.{Lists}
use Rattle.loader_progress.specs.declared.Stage.{Stage}
use Rattle.loader_order.specs.Order.{line_order}
use Rattle.loader_order.specs.Through.{order_through, answer_through}
use Rattle.loader.specs.Answer.{case_of, line_answer}
use Rattle.loader.specs.Taken.{loader_of}
use Rattle.calls_spec.specs.Exported.{LoaderTakeExported, LoaderCheckExported}
use Rattle.calls_spec.proofs.Loader.{take_status, check_status}

abbrev firsts : List Test → List ℕ
firsts [] = []
firsts (t ∷ ts) = get_or t.says 0 0 ∷ firsts ts

later : {x y : ℕ} {xs : List ℕ} → Among x (0 ∷ xs) → Among x (0 ∷ y ∷ xs)
later here = here
later (there a) = there (there a)

code_among : (ts : List Test) → Among (get_or (verdict ts) 0 0) (0 ∷ firsts ts)
code_among [] = here
code_among (t ∷ ts) = go t.holds (code_among ts)
  where
    go : (b : Bool) → Among (get_or (verdict ts) 0 0) (0 ∷ firsts ts) → Among (get_or (cond b t.says (verdict ts)) 0 0) (0 ∷ get_or t.says 0 0 ∷ firsts ts)
    go true a = there here
    go false a = later a

pub take_numbers : {w line : List ℕ} {l : Lists} {number : ℕ} {places w' : List ℕ} {l' : Lists} → LoaderTakeExported w line l number places w' l'
    → Among number (0 ∷ 8 ∷ 14 ∷ 1 ∷ 2 ∷ 11 ∷ 3 ∷ 12 ∷ 3 ∷ 4 ∷ 13 ∷ [])
unfolding line_answer
take_numbers {w} {line} {l} x = subst (λ (k : ℕ). Among k (0 ∷ 8 ∷ 14 ∷ 1 ∷ 2 ∷ 11 ∷ 3 ∷ 12 ∷ 3 ∷ 4 ∷ 13 ∷ [])) (sym (take_status x).number_is) (code_among (line_order (case_of (loader_of w) l line)))

pub check_numbers : {stage : Stage} {I : Input} {number : ℕ} {places E L : List ℕ} → LoaderCheckExported stage I number places E L → Among number (0 ∷ 8 ∷ 15 ∷ 3 ∷ 5 ∷ 6 ∷ 7 ∷ [])
unfolding answer_through
check_numbers {stage} {I} x = subst (λ (k : ℕ). Among k (0 ∷ 8 ∷ 15 ∷ 3 ∷ 5 ∷ 6 ∷ 7 ∷ [])) (sym (check_status x).number_is) (code_among (order_through stage I))
