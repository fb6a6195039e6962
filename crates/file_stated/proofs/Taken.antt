-- Lines that are taken, one after another.
--   form_step — an accepted line is the spelling of a form, and leaves what that form leaves;  spelled_step — so it is of the spelling of a form
--   made_run  — the loader after a run of lines was made by `new` and `take`, where that before was
--   Runs, runs_next, taken_runs, runs_taken — lines are taken, and leave a state, exactly where every line is accepted and the run leaves it
--   AllOrFirst, all_or_first — a file's lines are all accepted, or one of them is the first that is refused
--   read_past — what is read after lines that are accepted
use mathlib.Core.Path.{◌≡◌, refl, sym, ap, subst, ◌∙◌}
use mathlib.Core.List.{List, [], ◌∷◌, ◌++◌}
use mathlib.Core.Option.{some}
use Prim.Native.Nat.{ℕ, ◌+◌}
use native.Mathlib.Omega.{arith}
use lib.ListN.{length}
use Rattle.line_form.specs.Form.{Form}
use Rattle.line_form.specs.Spelling.{spell}
use Rattle.line_form.specs.Reading.{reading}
use Rattle.line_form.proofs.Spelling.{read_spelled, spelled_read}
use Rattle.loader.specs.Answer.{line_answer}
use Rattle.loader.proofs.Accepted.{accepted_form}
use Rattle.loader_runs.specs.Read.{read_from}
use Rattle.loader_runs.specs.Run.{State, step}
use Rattle.loader_runs.specs.Accepts.{after_form, run, Accepts, Made, taken}
use Rattle.loader_runs.proofs.Read.{read_accepted}
use Rattle.loader_stated.specs.Stated.{LineStated}
use Rattle.loader_stated.proofs.Stated.{made_exactly}
use Rattle.file_stated.specs.Stated.{TakenLines, none, next}

-- ---- a line
module _ (u : State) where
  form_step : (line : List ℕ) → line_answer u.loader u.lists line ≡ [] → (f : Form) × ((line ≡ spell f) × (step u line ≡ after_form u f))
  form_step line e =
      let a = accepted_form u.loader u.lists line e in
      (a.0, (spelled_read line a.0 a.1.reads, rw (a.1.loader, a.1.lists)))

  spelled_step : (f : Form) → line_answer u.loader u.lists (spell f) ≡ [] → step u (spell f) ≡ after_form u f
  spelled_step f e =
      let a = form_step (spell f) e in
      let r : some f ≡ some a.0 = sym (read_spelled f) ∙ ap reading a.1.0 ∙ read_spelled a.0 in
      let q : a.0 ≡ f = cc in
      a.1.1 ∙ ap (after_form u) q

-- ---- lines, one after another
pub made_run : (u : State) (lines : List (List ℕ)) → Made u.loader → Made (run u lines).loader
unfolding run
made_run u [] m = m
made_run u (line ∷ lines) m = made_run (step u line) lines (taken m u.lists line)

abbrev pub Runs : State → List (List ℕ) → State → Type 0
Runs u lines v = Accepts u lines × (run u lines ≡ v)

runs_next : (u v : State) (f : Form) (lines : List (List ℕ)) → line_answer u.loader u.lists (spell f) ≡ [] → Runs (after_form u f) lines v → Runs u (spell f ∷ lines) v
unfolding run
runs_next u v f lines e r = let x = subst (λ (w : State). Runs w lines v) (sym (spelled_step u f e)) r in ((e, x.0), x.1)

pub taken_runs : {u v : State} {lines : List (List ℕ)} → Made u.loader → TakenLines u lines v → Runs u lines v
taken_runs m none = (tt, unfold run in refl)
taken_runs {u} {v} m (next f lines s t) =
    let e = (made_exactly u.loader u.lists (spell f) m []).1 s in
    runs_next u v f lines e (taken_runs (subst (λ (w : State). Made w.loader) (spelled_step u f e) (taken m u.lists (spell f))) t)

pub runs_taken : (u : State) (lines : List (List ℕ)) → Made u.loader → Accepts u lines → TakenLines u lines (run u lines)
unfolding run
runs_taken u [] m a = none
runs_taken u (line ∷ lines) m a =
    let x = form_step u line a.0 in
    let s = (made_exactly u.loader u.lists line m []).0 a.0 in
    let t = runs_taken (step u line) lines (taken m u.lists line) a.1 in
    subst (λ (b : List ℕ). TakenLines u (b ∷ lines) (run (step u line) lines)) (sym x.1.0)
    (next x.0 lines (subst (λ (b : List ℕ). LineStated u.loader u.lists b []) x.1.0 s) (subst (λ (v : State). TakenLines v lines (run (step u line) lines)) x.1.1 t))

-- ---- the first that is refused
pub data AllOrFirst (u : State) (lines : List (List ℕ)) : Type 0 where
  all : Accepts u lines → AllOrFirst u lines
  refused : (first : List (List ℕ)) (line : List ℕ) (rest : List (List ℕ)) (k : ℕ) (vs : List ℕ) → lines ≡ first ++ (line ∷ rest) → Accepts u first →
      line_answer (run u first).loader (run u first).lists line ≡ k ∷ vs → AllOrFirst u lines

pub all_or_first : (u : State) (lines : List (List ℕ)) → AllOrFirst u lines
unfolding run
all_or_first u [] = all tt
all_or_first u (line ∷ lines) = go (line_answer u.loader u.lists line) refl (all_or_first (step u line) lines)
  where
    later : line_answer u.loader u.lists line ≡ [] → AllOrFirst (step u line) lines → AllOrFirst u (line ∷ lines)
    later e (all a) = all (e, a)
    later e (refused first l rest k vs p a q) = refused (line ∷ first) l rest k vs (ap (λ (ls : List (List ℕ)). line ∷ ls) p) (e, a) q

    go : (w : List ℕ) → line_answer u.loader u.lists line ≡ w → AllOrFirst (step u line) lines → AllOrFirst u (line ∷ lines)
    go [] e h = later e h
    go (k ∷ vs) e h = refused [] line lines k vs refl tt e

pub read_past : (k : ℕ) (u : State) (first rest : List (List ℕ)) → Accepts u first → read_from k u (first ++ rest) ≡ read_from (k + length first) (run u first) rest
unfolding run
read_past k u [] rest a = let e : k + 0 ≡ k = omega arith in ap (λ (j : ℕ). read_from j u rest) (sym e)
read_past k u (line ∷ first) rest a =
    let e : (k + 1) + length first ≡ k + length (line ∷ first) = omega arith in
    read_accepted k u line (first ++ rest) a.0 ∙ read_past (k + 1) (step u line) first rest a.1 ∙ ap (λ (j : ℕ). read_from j (run (step u line) first) rest) e
