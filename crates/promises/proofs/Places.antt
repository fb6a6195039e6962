-- Where the numbers of an accepted line stand, and what the desk holds as given.
--   Took, took — an accepted line that spells a form is taken as that form
--   lists_of — the lists after a form that is no end;  own_places — a form's own places
--   other_places, end_places, other_places_kept — all others, of a part's form, of an end, and of any form
--   taken_run — lines taken one after another are a run that is accepted
use mathlib.Core.Bool.{Bool, true, false, cond}
use mathlib.Core.List.{List, []}
use mathlib.Core.Option.{some}
use mathlib.Core.Path.{◌≡◌, refl, sym, ap, subst, ◌∙◌}
use Prim.Native.Nat.{ℕ, suc, ◌+◌, ◌-◌, ◌*◌, ◌<◌}
use native.Mathlib.Decide.{dec_lt}
use native.Mathlib.Numerals.{unary_clauses}
use native.Mathlib.Omega.{arith}
use borrow.Author.Tests.{eqb-true}
use lib.Dec.{eqb}
use lib.IntN.{ℤ, pos, nat_abs}
use lib.ListN.{get_or, length}
use lib.Seq.{sets}
use Rattle.rules.specs.Refusal.{code}
use Rattle.line_form.specs.Form.{Form}
use Rattle.line_form.specs.Spelling.{spell}
use Rattle.line_form.proofs.Spelling.{read_spelled}
use Rattle.loader_values.specs.Item.{item_of, part_index}
use Rattle.loader_values.specs.declared.Item.{Item}
use Rattle.loader_values.specs.declared.Item.TheVariants.{Problem, Scale, Of, End}
use Rattle.loader_values.specs.declared.Part.{Part}
use Rattle.loader_values.specs.declared.Part.TheVariants as part
use Rattle.loader_values.proofs.Capped.{part_same}
use Rattle.loader_lists.specs.Put.{filled, put}
use Rattle.loader_lists.proofs.Filled.{filled_given, filled_past}
use Rattle.loader_lists.specs.Lists.{Lists}
use Rattle.loader_lists.specs.ListOf.{list_of}
use Rattle.loader_lists.specs.Slot.{Slot, Matrix, Right, Tolerance, Guess, Inverse, Weight, part_of, width, values_for}
use Rattle.loader_progress.specs.Progress.{given, set_of}
use Rattle.loader.specs.Answer.{line_answer}
use Rattle.loader.specs.Taken.{TakenAs, after, lists_with}
use Rattle.loader.specs.declared.Loader.{Loader}
use Rattle.loader.specs.declared.Taken.{Taken}
use Rattle.loader.proofs.Accepted.{AcceptedLine, accepted_form}
use Rattle.loader_runs.specs.Holds.{HoldsItem, HoldsPart}
use Rattle.loader_runs.specs.Run.{State, step}
use Rattle.loader_runs.specs.Accepts.{after_form, run, Accepts, Made}
use Rattle.loader_runs.proofs.Cells.{sets_before, sets_after}
use Rattle.loader_runs.proofs.Collected as collected
use Rattle.loader_runs.proofs.Sound.{made_sound}
use Rattle.loader_runs.proofs.View.{View, a_problem, a_scale, a_part, an_end, view}
use Rattle.promises.specs.Lines01.{Own, of_form_lem, of_end, TakenAll, none, next}

-- ---- an accepted line is its form
pub record Took (d : Loader) (f : Form) (l l' : Lists) : Type 0 where
  pub accepted : AcceptedLine d l (spell f) f
  pub lists : l' ≡ lists_with d f l

pub took : (d : Loader) (f : Form) (l : Lists) (r : Taken) (l' : Lists) → TakenAs d (spell f) l r l' → code r.outcome ≡ [] → Took d f l l'
took d f l r l' x e =
    let a = accepted_form d l (spell f) (sym x.says ∙ e) in
    let read : some a.0 ≡ some f = sym a.1.reads ∙ read_spelled f in
    let same : a.0 ≡ f = cc in
    let b : AcceptedLine d l (spell f) f = subst (λ (g : Form). AcceptedLine d l (spell f) g) same a.1 in
    record { accepted = b; lists = x.lists ∙ b.lists }

-- ---- the lists after a form
module _ (d : Loader) (f : Form) (l : Lists) where
  -- but for an end, each list is what the form puts there
  lists_of : (item_of f ≡ End → ⊥) → (s : Slot) → list_of s (lists_with d f l) ≡ put s d.n f (list_of s l)
  lists_of h s = go (item_of f) refl s
    where
      go : (x : Item) → item_of f ≡ x → (s : Slot) → list_of s (lists_with d f l) ≡ put s d.n f (list_of s l)
      go (Problem m) e Matrix = refl
      go (Problem m) e Right = refl
      go (Problem m) e Tolerance = refl
      go (Problem m) e Guess = refl
      go (Problem m) e Inverse = refl
      go (Problem m) e Weight = rw e
      go (Scale u v) e Matrix = refl
      go (Scale u v) e Right = refl
      go (Scale u v) e Tolerance = refl
      go (Scale u v) e Guess = refl
      go (Scale u v) e Inverse = refl
      go (Scale u v) e Weight = rw e
      go (Of q i) e Matrix = refl
      go (Of q i) e Right = refl
      go (Of q i) e Tolerance = refl
      go (Of q i) e Guess = refl
      go (Of q i) e Inverse = refl
      go (Of q i) e Weight = rw e
      go End e s = absurd (h e)

  -- a form of a part: its own places, and the others
  module _ {q : Part} {i : ℤ} (e : item_of f ≡ Of q i) (count : (s : Slot) → part_of s ≡ q → length (values_for s f) ≡ width s d.n) where
    other_places : (s : Slot) (k : ℕ) → (Own d f s k → ⊥) → get_or (put s d.n f (list_of s l)) k (pos 0) ≡ get_or (list_of s l) k (pos 0)
    other_places s k h = rw e (go (eqb (part_index (part_of s)) (part_index q)) refl)
      where
        go : (b : Bool) → eqb (part_index (part_of s)) (part_index q) ≡ b
            → get_or (cond b (sets (list_of s l) ((nat_abs i - 1) * width s d.n) (values_for s f)) (list_of s l)) k (pos 0) ≡ get_or (list_of s l) k (pos 0)
        go false t = refl
        go true t =
            let same : part_of s ≡ q = part_same (part_of s) q (eqb-true (part_index (part_of s)) (part_index q) t) in
            let mine : item_of f ≡ Of (part_of s) i = rw same e in
            side same mine (dec_lt k ((nat_abs i - 1) * width s d.n)) (dec_lt k ((nat_abs i - 1) * width s d.n + width s d.n))
          where
            side : part_of s ≡ q → item_of f ≡ Of (part_of s) i → Dec (k < (nat_abs i - 1) * width s d.n) → Dec (k < (nat_abs i - 1) * width s d.n + width s d.n)
                → get_or (sets (list_of s l) ((nat_abs i - 1) * width s d.n) (values_for s f)) k (pos 0) ≡ get_or (list_of s l) k (pos 0)
            side same mine (yes a) b = sets_before (values_for s f) (list_of s l) ((nat_abs i - 1) * width s d.n) k a
            side same mine (no a) (yes b) = absurd (h (of_form_lem i mine (omega (arith, a)) b))
            side same mine (no a) (no b) = sets_after (values_for s f) (list_of s l) ((nat_abs i - 1) * width s d.n) k (omega (arith, b, count s same))

pub own_places : (d : Loader) (f : Form) (l l' : Lists) → Took d f l l' → Made d → (s : Slot) (i : ℤ) → item_of f ≡ Of (part_of s) i → (j : ℕ) → j < width s d.n →
    get_or (list_of s l') ((nat_abs i - 1) * width s d.n + j) (pos 0) ≡ get_or (values_for s f) j (pos 0)
own_places d f l l' t m s i e j h =
    let u : State = record { loader = d; lists = l } in
    let same : (after_form u f).loader.n ≡ d.n = ap (λ (x : Item). (after d x).n) e in
    let own = collected.holds_own u (made_sound m) f t.accepted.fine t.accepted.long in
    let part : HoldsPart (part_of s) i (λ (k : Slot). values_for k f) (after_form u f) =
    subst (λ (x : Item). HoldsItem x (λ (k : Slot). values_for k f) (after_form u f)) e own in
    ap (λ (k : Lists). get_or (list_of s k) ((nat_abs i - 1) * width s d.n + j) (pos 0)) t.lists ∙ (rw same at ((part).cells s refl j (rw same h)))

-- ---- all other places
end_places : (d : Loader) (f : Form) (l : Lists) → item_of f ≡ End → (s : Slot) (k : ℕ) → (Own d f s k → ⊥) → get_or (list_of s (lists_with d f l)) k (pos 0) ≡ get_or (list_of s l) k (pos 0)
end_places d f l e Matrix k h = rw e refl
end_places d f l e Right k h = rw e refl
end_places d f l e Tolerance k h = rw e refl
end_places d f l e Guess k h = rw e refl
end_places d f l e Inverse k h = rw e refl
end_places d f l e Weight k h = rw e (go (dec_lt k d.n) (given d.sets part.Weight (suc k)) refl)
  where
    go : Dec (k < d.n) → (b : Bool) → given d.sets part.Weight (suc k) ≡ b → get_or (filled d.n (set_of d.sets part.Weight) l.weights) k (pos 0) ≡ get_or l.weights k (pos 0)
    go (no q) b g = filled_past d.n (set_of d.sets part.Weight) l.weights k (omega (arith, q))
    go (yes q) true g = filled_given d.n (set_of d.sets part.Weight) l.weights k (simp unary_clauses at g)
    go (yes q) false g = absurd (h (of_end e refl q g))

pub other_places_kept : (d : Loader) (f : Form) (l l' : Lists) → Took d f l l' → (s : Slot) (k : ℕ) → (Own d f s k → ⊥) → get_or (list_of s l') k (pos 0) ≡ get_or (list_of s l) k (pos 0)
other_places_kept d f l l' t s k h =
    ap (λ (x : Lists). get_or (list_of s x) k (pos 0)) t.lists ∙ go (view d.n f t.accepted.fine.outside t.accepted.fine.miscounted)
  where
    not_end : {x : Item} → item_of f ≡ x → (x ≡ End → ⊥) → item_of f ≡ End → ⊥
    not_end e n q = n (sym e ∙ q)

    put_places : (item_of f ≡ End → ⊥) → get_or (put s d.n f (list_of s l)) k (pos 0) ≡ get_or (list_of s l) k (pos 0) → get_or (list_of s (lists_with d f l)) k (pos 0) ≡ get_or (list_of s l) k (pos 0)
    put_places n q = ap (λ (x : List ℤ). get_or x k (pos 0)) (lists_of d f l n s) ∙ q

    go : View d.n f → get_or (list_of s (lists_with d f l)) k (pos 0) ≡ get_or (list_of s l) k (pos 0)
    go (a_problem m e) = put_places (not_end e (λ q. let z : ◌≡◌ {A = ℕ} 0 1 = cc in omega (arith, z))) (rw e refl)
    go (a_scale a b e) = put_places (not_end e (λ q. let z : ◌≡◌ {A = ℕ} 0 1 = cc in omega (arith, z))) (rw e refl)
    go (a_part q i e count inside) = put_places (not_end e (λ q. let z : ◌≡◌ {A = ℕ} 0 1 = cc in omega (arith, z))) (other_places d f l e count s k h)
    go (an_end e) = end_places d f l e s k h

-- ---- lines, one after another
pub taken_run : (d : Loader) (l : Lists) (lines : List (List ℕ)) (d' : Loader) (l' : Lists) → TakenAll d l lines d' l' →
    Accepts (record { loader = d; lists = l }) lines × (run (record { loader = d; lists = l }) lines ≡ record { loader = d'; lists = l' })
unfolding run
taken_run d l lines d' l' none = (tt, refl)
taken_run d l lines d' l' (next {line = line} {lines = rest} x e t) =
    let r = taken_run _ _ rest d' l' t in
    let here : line_answer d l line ≡ [] = sym x.says ∙ e in
    let same : step (record { loader = d; lists = l }) line ≡ record { loader = _; lists = _ } = λ i. record { loader = sym x.loader i; lists = sym x.lists i } in
    let both : Accepts (step (record { loader = d; lists = l }) line) rest × (run (step (record { loader = d; lists = l }) line) rest ≡ record { loader = d'; lists = l' }) =
    subst (λ (u : State). Accepts u rest × (run u rest ≡ record { loader = d'; lists = l' })) (sym same) r in
    ((here, both.0), both.1)
