-- Refusals in their order.
--   Test    — what is said, in 01's numbers, where a condition holds
--   number k b — a refusal that gives its number alone
--   verdict — what the first test that holds says; nothing where none holds
--   if_accepted — the new where nothing is said, the old where a refusal is
--   or_else code rest — what is said, or the rest where that is nothing
use Rattle.std.specs.Prelude.{Bool, cond, List, [], ◌∷◌, ℕ}

pub record Test : Type 0 where
  pub says : List ℕ
  pub holds : Bool

abbrev pub number : ℕ → Bool → Test
number k b = record { says = k ∷ []; holds = b }

abbrev pub verdict : List Test → List ℕ
verdict [] = []
verdict (t ∷ ts) = cond t.holds t.says (verdict ts)

abbrev pub if_accepted {ℓ} : {A : Type ℓ} → List ℕ → A → A → A
if_accepted [] new old = new
if_accepted (k ∷ ks) new old = old

abbrev pub or_else : List ℕ → List ℕ → List ℕ
or_else code rest = if_accepted code rest code
