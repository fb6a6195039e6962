-- Laws of the lines of a file at a loader.
--   read_none, read_accepted, read_refused — no line; a line that is accepted; one that is refused
use mathlib.Core.Path.{◌≡◌, refl}
use mathlib.Core.List.{List, [], ◌∷◌}
use Prim.Native.Nat.{ℕ, ◌+◌}
use Rattle.loader.specs.Answer.{line_answer}
use Rattle.loader_runs.specs.Run.{State, step}
use Rattle.loader_runs.specs.Read.{read_from}

pub read_none : (k : ℕ) (u : State) → read_from k u [] ≡ record { code = []; line = k; state = u }
unfolding read_from
read_none k u = refl

module _ (k : ℕ) (u : State) (line : List ℕ) (lines : List (List ℕ)) where
  pub read_accepted : line_answer u.loader u.lists line ≡ [] → read_from k u (line ∷ lines) ≡ read_from (k + 1) (step u line) lines
  unfolding read_from
  read_accepted e = rw e

  pub read_refused : {n : ℕ} {vs : List ℕ} → line_answer u.loader u.lists line ≡ n ∷ vs → read_from k u (line ∷ lines) ≡ record { code = n ∷ vs; line = k + 1; state = u }
  unfolding read_from
  read_refused e = rw e
