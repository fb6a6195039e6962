-- The register entry of a guess and its limit, for whatever is handed in.
--   can_enter x s   — x is in the range of a guess and s in that of the solution scale; a limit has no range
--   entry_with v e  — the answer that is the entry v with the limit e
--   entry_code r    — 01's number for the answer: nothing where it is an entry
--   RegisteredAs   — the contract of `register_entry`: 3 where x or s is out of range, else V and its limit
use Rattle.std.specs.Prelude.{Result, Ok, Err, Bool, not, ◌&&◌, List, [], ◌∷◌, ◌≡◌, ℕ, ℤ, pos}
use Rattle.rules.specs.Order.{number, verdict}
use Rattle.rules.specs.Range.{in_range}
use Rattle.rules.specs.Refusal.{number_of, values_of}
use Rattle.rules.specs.declared.Kind.TheVariants as kind
use Rattle.entry.specs.Entry.{entry_value, entry_bound}
use Rattle.rules.specs.declared.Refusal.{Refusal}
use Rattle.entry.specs.declared.Entry.{Entry}

abbrev pub can_enter : ℤ → ℕ → Bool
can_enter x s = in_range kind.Guess x && in_range kind.SolutionScale (pos s)

abbrev pub entry_with : ℤ → ℕ → Result Entry Refusal
entry_with value limit = Ok (record { value = value; limit = limit })

abbrev pub entry_code : Result Entry Refusal → List ℕ
entry_code (Ok v) = []
entry_code (Err r) = number_of r ∷ values_of r

pub record RegisteredAs (x : ℤ) (e s : ℕ) (r : Result Entry Refusal) : Type 0 where
  pub says : entry_code r ≡ verdict (number 3 (not (can_enter x s)) ∷ [])
  pub entry : entry_code r ≡ [] → r ≡ entry_with (entry_value s x) (entry_bound s x e)
