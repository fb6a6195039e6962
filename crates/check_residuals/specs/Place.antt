-- What a search through n places finds; cited by contracts inside.
--   FirstFound r n f — the first place below n where f holds, or none
use Rattle.std.specs.Prelude.{◌≡◌, Bool, true, false, ℕ, ◌<◌, MatchOption}
use Rattle.std.proofs.Common.{Option}

abbrev pub FirstFound : Option ℕ → ℕ → (ℕ → Bool) → Type 0
FirstFound r n f = MatchOption r ((k : ℕ) → k < n → f k ≡ false) (λ (k : ℕ). (k < n) × (f k ≡ true) × ((j : ℕ) → j < k → f j ≡ false))
