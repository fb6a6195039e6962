-- Calls of the exported loader, one after another.
--   Turns w l lines numbers w' l' — such calls of `kodarfi_loader_take`, a line each: the loader's numbers w and the lists l before the first, w' and l' after
--     the last, and the results
--   kept_lines lines numbers — the lines whose result is 0
use Rattle.std.specs.Prelude.{cond, List, [], ◌∷◌, ℕ, eqb}
use Rattle.loader_lists.specs.Lists.{Lists}
use Rattle.calls_spec.specs.Exported.{LoaderTakeExported}

pub data Turns : List ℕ → Lists → List (List ℕ) → List ℕ → List ℕ → Lists → Type 0 where
  none : {w : List ℕ} {l : Lists} → Turns w l [] [] w l
  next : {w line : List ℕ} {l : Lists} {number : ℕ} {places w₁ : List ℕ} {l₁ : Lists} {lines : List (List ℕ)} {numbers w' : List ℕ} {l' : Lists}
      → LoaderTakeExported w line l number places w₁ l₁ → Turns w₁ l₁ lines numbers w' l' → Turns w l (line ∷ lines) (number ∷ numbers) w' l'

abbrev pub kept_lines : List (List ℕ) → List ℕ → List (List ℕ)
kept_lines [] numbers = []
kept_lines (line ∷ lines) [] = []
kept_lines (line ∷ lines) (k ∷ ks) = cond (eqb k 0) (line ∷ kept_lines lines ks) (kept_lines lines ks)
