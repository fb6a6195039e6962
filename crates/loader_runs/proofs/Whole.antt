-- A file of which nothing is said: every line is accepted.
--   all_accepted — that;  all_run — and the state is that after the run of all lines
use mathlib.Core.Path.{◌≡◌, refl, sym, ap, ◌∙◌}
use mathlib.Core.List.{List, [], ◌∷◌}
use Prim.Native.Nat.{ℕ, ◌+◌}
use Rattle.rules.proofs.Verdicts.{nothing_is_not}
use Rattle.loader.specs.Answer.{line_answer}
use Rattle.loader_runs.specs.Run.{State, step}
use Rattle.loader_runs.specs.Accepts.{run, Accepts}
use Rattle.loader_runs.specs.Read.{Reading, read_from}
use Rattle.loader_runs.proofs.Read.{read_none, read_accepted, read_refused}

-- the first line is accepted
first_accepted : (k : ℕ) (u : State) (line : List ℕ) (lines : List (List ℕ)) → (read_from k u (line ∷ lines)).code ≡ [] → line_answer u.loader u.lists line ≡ []
first_accepted k u line lines e = go (line_answer u.loader u.lists line) refl
  where
    go : (r : List ℕ) → line_answer u.loader u.lists line ≡ r → r ≡ []
    go [] a = refl
    go (n ∷ vs) a = absurd (nothing_is_not (sym (ap (λ (R : Reading). R.code) (read_refused k u line lines a)) ∙ e))

rest_code : (k : ℕ) (u : State) (line : List ℕ) (lines : List (List ℕ)) → (read_from k u (line ∷ lines)).code ≡ [] → (read_from (k + 1) (step u line) lines).code ≡ []
rest_code k u line lines e = sym (ap (λ (R : Reading). R.code) (read_accepted k u line lines (first_accepted k u line lines e))) ∙ e

pub all_accepted : (k : ℕ) (u : State) (lines : List (List ℕ)) → (read_from k u lines).code ≡ [] → Accepts u lines
all_accepted k u [] e = tt
all_accepted k u (line ∷ lines) e = (first_accepted k u line lines e, all_accepted (k + 1) (step u line) lines (rest_code k u line lines e))

pub all_run : (k : ℕ) (u : State) (lines : List (List ℕ)) → (read_from k u lines).code ≡ [] → (read_from k u lines).state ≡ run u lines
unfolding run
all_run k u [] e = ap (λ (R : Reading). R.state) (read_none k u)
all_run k u (line ∷ lines) e =
    ap (λ (R : Reading). R.state) (read_accepted k u line lines (first_accepted k u line lines e))
    ∙ all_run (k + 1) (step u line) lines (rest_code k u line lines e)
