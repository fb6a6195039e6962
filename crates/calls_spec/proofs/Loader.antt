-- The exported loader in 01's words (01: desk).
--   take_status     — the number and the values are those of 01's order of tests
--   take_next     — the nine numbers afterwards stand for the loader after the line
--   take_zero, take_accepted — the number 0 is said of an accepted line, and of no other
--   take_missing  — the number 13 comes with the count of the forms still missing, and with no other;  thirteen — so in 01's order of tests
--   take_refused  — any other number leaves the nine numbers and all six lists as they were, whatever numbers they were
--   step_is       — loader and lists afterwards are a step of a run of lines
--   check_status, check_encloses, check_exact — what a check through the loader says, and both halves of demand 3
use mathlib.Core.Bool.{Bool, true, false, cond}
use mathlib.Core.List.{List, [], ◌∷◌}
use mathlib.Core.Path.{◌≡◌, refl, sym, ap, ◌∙◌}
use Prim.Native.Nat.{ℕ, ◌+◌, ◌*◌}
use native.Mathlib.Omega.{arith}
use lib.ListN.{get_or, take, drop}
use Rattle.linear.specs.Matrix.{Vec, Mat}
use Rattle.rules.specs.Order.{verdict}
use Rattle.rules.proofs.Tests.{head, without, skipped}
use Rattle.enclosure.specs.Demand.{Encloses, RoundedExact}
use Rattle.check_spec.specs.Input.{Input, problem, short, in_ranges}
use Rattle.loader_lists.specs.Lists.{Lists}
use Rattle.loader_progress.specs.Progress.{ended, missing}
use Rattle.loader_progress.specs.declared.Stage.{Stage}
use Rattle.loader_order.specs.Order.{LineCase, line_order}
use Rattle.loader_order.specs.Through.{answer_through}
use Rattle.loader.specs.declared.Loader.{Loader}
use Rattle.loader.specs.Answer.{case_of, line_answer}
use Rattle.loader.specs.Taken.{loader_after, loader_of}
use Rattle.loader_numbers.proofs.Taken.{numbers_next, numbers_refused, lists_refused}
use Rattle.loader_runs.specs.Run.{state_with, step}
use Rattle.reply.specs.ReplyIs.{ReplyIs}
use Rattle.calls_spec.specs.Exported.{LoaderTakeExported, LoaderCheckExported}
use Rattle.calls_spec.proofs.Meaning.{zero_code}

-- ---- one line
head_first : (w : List ℕ) → head w ≡ get_or w 0 0
head_first [] = refl
head_first (k ∷ ks) = refl

thirteen : (c : LineCase) → get_or (verdict (line_order c)) 0 0 ≡ 13 → verdict (line_order c) ≡ 13 ∷ c.missing ∷ []
thirteen c e =
    let code = verdict (line_order c) in
    let h : head code ≡ 13 = head_first code ∙ e in
    go c.incomplete (skipped (take 9 (line_order c)) (drop 9 (line_order c)) code (ap (λ (k : ℕ). without k (take 9 (line_order c))) h) refl).1
  where
    go : (b : Bool) → cond b (13 ∷ c.missing ∷ []) [] ≡ verdict (line_order c) → verdict (line_order c) ≡ 13 ∷ c.missing ∷ []
    go true a = sym a
    go false a = let z : ◌≡◌ {A = ℕ} 0 13 = ap (λ (w : List ℕ). get_or w 0 0) a ∙ e in absurd (omega arith)

module _ {w line : List ℕ} {l : Lists} {number : ℕ} {places w' : List ℕ} {l' : Lists} (x : LoaderTakeExported w line l number places w' l') where
  pub take_status : ReplyIs (line_answer (loader_of w) l line) number places
  take_status = rw x.taken.says at x.status

  pub take_next : loader_of w' ≡ loader_after (loader_of w) l line
  take_next = ap loader_of x.taken.numbers ∙ numbers_next w l line

  pub take_zero : number ≡ 0 → line_answer (loader_of w) l line ≡ []
  take_zero e = sym x.taken.says ∙ zero_code x.outcome (sym x.status.number_is ∙ e)

  pub take_accepted : line_answer (loader_of w) l line ≡ [] → number ≡ 0
  take_accepted e = take_status.number_is ∙ ap (λ (a : List ℕ). get_or a 0 0) e

  pub take_refused : (number ≡ 0 → ⊥) → (w' ≡ w) × (l' ≡ l)
  take_refused other = go (line_answer (loader_of w) l line) refl
    where
      go : (r : List ℕ) → line_answer (loader_of w) l line ≡ r → (w' ≡ w) × (l' ≡ l)
      go [] a = absurd (other (take_accepted a))
      go (k ∷ vs) a = (x.taken.numbers ∙ numbers_refused w l line a, x.taken.lists ∙ lists_refused w l line a)

  -- the count that 13 gives
  pub take_missing : number ≡ 13 → (line_answer (loader_of w) l line ≡ 13 ∷ missing (loader_of w).n (loader_of w).sets ∷ []) × (places ≡ missing (loader_of w).n (loader_of w).sets ∷ 0 ∷ [])
  unfolding line_answer
  take_missing e =
      let a = thirteen (case_of (loader_of w) l line) (sym take_status.number_is ∙ e) in
      (a, take_status.places_are ∙ ap (λ (r : List ℕ). get_or r 1 0 ∷ get_or r 2 0 ∷ []) a)

  pub step_is : state_with (loader_of w') l' ≡ step (state_with (loader_of w) l) line
  step_is = ap (λ (d : Loader). state_with d l') take_next ∙ ap (state_with (loader_after (loader_of w) l line)) x.taken.lists

-- ---- the check
module _ {stage : Stage} {I : Input} {number : ℕ} {places E L : List ℕ} (x : LoaderCheckExported stage I number places E L) where
  pub check_status : ReplyIs (answer_through stage I) number places
  check_status = rw x.checked.says at x.status

  pub check_encloses : number ≡ 0 → Encloses (problem I) (λ (i : ℕ). get_or E i 0) (λ (i j : ℕ). get_or L (i * I.n + j) 0)
  check_encloses e = x.checked.encloses (zero_code x.outcome (sym x.status.number_is ∙ e))

  pub check_exact : (N : Vec) (q : ℕ) (H : Mat) (q' : ℕ) → short I ≡ false → ended stage ≡ true → in_ranges I ≡ true → RoundedExact (problem I) N q H q' → number ≡ 0
  check_exact N q H q' s d r h = x.status.number_is ∙ ap (λ (a : List ℕ). get_or a 0 0) (x.checked.accepts N q H q' s d r h)
