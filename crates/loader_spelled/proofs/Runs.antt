-- Runs of lines, one after another.
--   accepts_both, accepts_first, accepts_second, run_both — a run of lines and then of others
--   read_run — where every line is accepted, the file's reading says nothing and has the run's state
use mathlib.Core.Path.{◌≡◌, refl, ap, ◌∙◌}
use mathlib.Core.List.{List, [], ◌∷◌, ◌++◌}
use Prim.Native.Nat.{ℕ, ◌+◌}
use Rattle.loader_runs.specs.Run.{State, step}
use Rattle.loader_runs.specs.Accepts.{run, Accepts}
use Rattle.loader_runs.specs.Read.{Reading, read_from}
use Rattle.loader_runs.proofs.Read.{read_none, read_accepted}

pub run_both : (u : State) (xs ys : List (List ℕ)) → run u (xs ++ ys) ≡ run (run u xs) ys
unfolding run
run_both u [] ys = refl
run_both u (x ∷ xs) ys = run_both (step u x) xs ys

pub accepts_both : (u : State) (xs ys : List (List ℕ)) → Accepts u xs → Accepts (run u xs) ys → Accepts u (xs ++ ys)
unfolding run
accepts_both u [] ys a b = b
accepts_both u (x ∷ xs) ys a b = (a.0, accepts_both (step u x) xs ys a.1 b)

pub accepts_first : (u : State) (xs ys : List (List ℕ)) → Accepts u (xs ++ ys) → Accepts u xs
accepts_first u [] ys a = tt
accepts_first u (x ∷ xs) ys a = (a.0, accepts_first (step u x) xs ys a.1)

pub accepts_second : (u : State) (xs ys : List (List ℕ)) → Accepts u (xs ++ ys) → Accepts (run u xs) ys
unfolding run
accepts_second u [] ys a = a
accepts_second u (x ∷ xs) ys a = accepts_second (step u x) xs ys a.1

pub read_run : (k : ℕ) (u : State) (lines : List (List ℕ)) → Accepts u lines → ((read_from k u lines).code ≡ []) × ((read_from k u lines).state ≡ run u lines)
unfolding run
read_run k u [] a = (ap (λ (R : Reading). R.code) (read_none k u), ap (λ (R : Reading). R.state) (read_none k u))
read_run k u (line ∷ lines) a =
    let e = read_accepted k u line lines a.0 in
    let r = read_run (k + 1) (step u line) lines a.1 in
    (ap (λ (R : Reading). R.code) e ∙ r.0, ap (λ (R : Reading). R.state) e ∙ r.1)
