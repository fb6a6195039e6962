-- Where no line gives a weight, lines that give 1 for every i from 1 to n can stand before the end: all lines are accepted still.
--   weight_form — a form of the part of weights is a weight form
--   OpenWeights, open_next, open_all — a loader at which nothing is missing and the weights above i were not given; (weight i + 1 1) is accepted there, and so are all
--     the others
--   end_form    — the line that brings a loader to its end is an end;  end_again — where nothing is missing it is accepted again
--   with_ones_lem   — so the lines before the end, the weights, and the end
use mathlib.Core.Path.{◌≡◌, refl, sym, ap, subst, ◌∙◌}
use mathlib.Core.Bool.{Bool, true, false}
use mathlib.Core.List.{List, [], ◌∷◌, ◌++◌}
use mathlib.Core.Option.{some}
use Prim.Native.Nat.{ℕ, zero, suc, ◌+◌, ◌≤◌, ◌<◌}
use native.Mathlib.Omega.{arith}
use borrow.Author.Tests.{not-false, ltb-false, le-leb}
use lib.Dec.{ltb}
use lib.IntN.{ℤ, pos}
use lib.ListN.{length}
use Rattle.integer.proofs.Search.{clash}
use Rattle.rules.specs.Range.{in_range}
use Rattle.rules.specs.declared.Kind.TheVariants as kind
use Rattle.rules.proofs.Ranges.{both, one_weight}
use Rattle.line_form.specs.Form.{Form, problem, scale, row, right, right_within, guess, inverse, weight, end}
use Rattle.line_form.specs.Spelling.{spell}
use Rattle.line_form.specs.Reading.{reading}
use Rattle.loader_values.specs.Item.{item_of, placed, part_index}
use Rattle.loader_values.specs.declared.Item.TheVariants.{Of}
use Rattle.loader_values.specs.declared.Part.{Part}
use Rattle.loader_values.specs.declared.Part.TheVariants as part
use Rattle.loader_lists.specs.Lists.{Lists, short_lists}
use Rattle.loader_progress.specs.Progress.{given, missing, scaled, ended}
use Rattle.loader_progress.proofs.Progress.{late}
use Rattle.loader_order.proofs.CodeLaws.{Passed, passed}
use Rattle.loader.specs.declared.Loader.{Loader}
use Rattle.loader.specs.Answer.{case_of, line_answer}
use Rattle.loader.specs.Taken.{after, loader_after}
use Rattle.loader.proofs.Exact.{form_case, answer_form}
use Rattle.loader.proofs.Accepted.{accepted_form}
use Rattle.loader_runs.specs.Run.{State, from_new, step, forms}
use Rattle.loader_runs.specs.Accepts.{run, Accepts}
use Rattle.integer.specs.Among.{Among}
use Rattle.loader_runs.proofs.Sound.{SoundLoader, fresh_sound, fresh_empty, line_sound}
use Rattle.loader_runs.proofs.Marks.{given_else, missing_kept}
use Rattle.loader_runs.proofs.Runs.{found}
use Rattle.loader_runs.proofs.End.{run_sound}
use Rattle.loader_runs.proofs.Check.{run_long}
use Rattle.loader_runs.proofs.Passing.{spelled, step_long}
use Rattle.loader_spelled.specs.Ones.{ones_from}
use Rattle.loader_spelled.proofs.Accepts.{code_nothing, accepts_spelled, spelled_accepted}
use Rattle.loader_spelled.proofs.Forms.{passed_part, passed_end}
use Rattle.loader_spelled.proofs.Runs.{run_both, accepts_both, accepts_first, accepts_second}

-- ---- a weight form
parts_apart {ℓ} : {A : Type ℓ} (p q : Part) {i k : ℤ} → Of p i ≡ Of q k → (part_index p ≡ part_index q → ⊥) → A
parts_apart p q e n = absurd (n (let s : p ≡ q = cc in ap (λ (r : Part). part_index r) s))

weight_form : (f : Form) {i : ℤ} → item_of f ≡ Of part.Weight i → (k : ℤ) × (w : ℤ) × (f ≡ weight k w)
weight_form (problem n) e = let z : ◌≡◌ {A = ℕ} 0 1 = cc in absurd (omega arith)
weight_form (scale s t) e = let z : ◌≡◌ {A = ℕ} 0 1 = cc in absurd (omega arith)
weight_form (row i a others) e = parts_apart part.Row part.Weight e (λ z. omega arith)
weight_form (right i b) e = parts_apart part.Right part.Weight e (λ z. omega arith)
weight_form (right_within i b c) e = parts_apart part.Right part.Weight e (λ z. omega arith)
weight_form (guess i x) e = parts_apart part.Guess part.Weight e (λ z. omega arith)
weight_form (inverse i g others) e = parts_apart part.Inverse part.Weight e (λ z. omega arith)
weight_form (weight i w) e = (i, w, refl)
weight_form end e = let z : ◌≡◌ {A = ℕ} 0 1 = cc in absurd (omega arith)

-- ---- one weight after another
pub record OpenWeights (n i : ℕ) (u : State) : Type 0 where
  pub sound : SoundLoader u.loader
  pub size : u.loader.n ≡ n
  pub ready : scaled u.loader.stage ≡ true
  pub going : ended u.loader.stage ≡ false
  pub complete : missing n u.loader.sets ≡ 0
  pub clear : (k : ℕ) → i < k → k ≤ n → given u.loader.sets part.Weight k ≡ false
  pub long : short_lists u.lists ≡ false

module _ (n i : ℕ) (u : State) (h : OpenWeights n i u) (l : i < n) where
  abbrev form : Form
  form = weight (pos (suc i)) (pos 1)

  own : in_range kind.Size (pos u.loader.n) ≡ true
  own = h.sound.size (late u.loader.stage (rw h.ready))

  in_place : placed u.loader.n (Of part.Weight (pos (suc i))) ≡ true
  in_place = both (le-leb 1 (suc i) (omega arith)) (le-leb (suc i) u.loader.n (rw h.size (omega arith)))

  passes : Passed (form_case u.loader form)
  passes = passed_part u.loader own h.ready form refl in_place (rw one_weight) refl (h.clear (suc i) (omega arith) (omega arith))

  next_accepted : line_answer u.loader u.lists (spell form) ≡ []
  next_accepted = accepts_spelled u.loader u.lists h.long h.going form passes

  abbrev next : Loader
  next = after u.loader (Of part.Weight (pos (suc i)))

  next_loader : (step u (spell form)).loader ≡ next
  next_loader = (spelled_accepted u.loader u.lists h.long h.going form passes).loader

  open_next : OpenWeights n (suc i) (step u (spell form))
  open_next = record {
    sound = line_sound u.loader u.lists (spell form) h.sound;
    size = rw next_loader h.size;
    ready = rw next_loader h.ready;
    going = rw next_loader h.going;
    complete = rw next_loader (missing_kept n u.loader.sets h.sound.five (suc i) ∙ h.complete);
    clear = λ k a b. rw next_loader (given_else u.loader.sets h.sound.five part.Weight (suc i) part.Weight k (omega arith) (omega arith) (λ x y. omega arith) ∙ h.clear k (omega arith) b);
    long = step_long u (spell form) next_accepted h.long;
  }

open_all : (n c i : ℕ) (u : State) → OpenWeights n i u → i + c ≡ n → Accepts u (spelled (ones_from i c)) × OpenWeights n n (run u (spelled (ones_from i c)))
unfolding ones_from run
open_all n zero i u h e = let j : i ≡ n = omega arith in (tt, subst (λ (k : ℕ). OpenWeights n k u) j h)
open_all n (suc c) i u h e =
    let r = open_all n c (suc i) (step u (spell (weight (pos (suc i)) (pos 1)))) (open_next n i u h (omega arith)) (omega arith) in
    ((next_accepted n i u h (omega arith), r.0), r.1)

-- ---- the end
end_item : (d : Loader) (f : Form) → ended d.stage ≡ false → ended (after d (item_of f)).stage ≡ true → f ≡ end
end_item d (problem n) g e = clash false e refl
end_item d (scale s t) g e = clash false e refl
end_item d (row i a others) g e = clash (ended d.stage) e g
end_item d (right i b) g e = clash (ended d.stage) e g
end_item d (right_within i b c) g e = clash (ended d.stage) e g
end_item d (guess i x) g e = clash (ended d.stage) e g
end_item d (inverse i x others) g e = clash (ended d.stage) e g
end_item d (weight i w) g e = clash (ended d.stage) e g
end_item d end g e = refl

module _ (u : State) (sound : SoundLoader u.loader) (line : List ℕ) (a : line_answer u.loader u.lists line ≡ []) (e : ended (step u line).loader.stage ≡ true) where
  end_form : reading line ≡ some end
  end_form =
      let r = accepted_form u.loader u.lists line a in
      let f : r.0 ≡ end = end_item u.loader r.0 r.1.going (rw r.1.loader at e) in
      r.1.reads ∙ ap some f

  fine : Passed (form_case u.loader end)
  fine =
      let r = accepted_form u.loader u.lists line a in
      let f : r.0 ≡ end = end_item u.loader r.0 r.1.going (rw r.1.loader at e) in
      subst (λ (g : Form). Passed (form_case u.loader g)) f r.1.fine

  pub end_size : (step u line).loader.n ≡ u.loader.n
  unfolding loader_after
  end_size = rw (a, end_form)

  short_line : ltb 320 (length line) ≡ false
  unfolding line_answer
  short_line = (passed (case_of u.loader u.lists line) a).long

  end_open : (n : ℕ) → u.loader.n ≡ n → short_lists u.lists ≡ false → ((k : ℕ) → 0 < k → k ≤ n → given u.loader.sets part.Weight k ≡ false) → OpenWeights n 0 u
  end_open n z l c = record {
    sound = sound;
    size = z;
    ready = not-false _ fine.early;
    going = (accepted_form u.loader u.lists line a).1.going;
    complete = rw (← z) (omega (arith, ltb-false 0 (missing u.loader.n u.loader.sets) fine.incomplete));
    clear = c;
    long = l;
  }

  end_again : (n : ℕ) (v : State) → OpenWeights n n v → (line_answer v.loader v.lists line ≡ []) × (ended (step v line).loader.stage ≡ true)
  unfolding loader_after
  end_again n v h =
      let p = passed_end v.loader (h.sound.size (late v.loader.stage (rw h.ready))) h.ready (rw h.size h.complete) in
      let q : line_answer v.loader v.lists line ≡ [] = answer_form v.loader v.lists line end h.long h.going short_line end_form ∙ code_nothing v.loader end p in
      (q, rw (q, end_form))

-- ---- all lines
module _ (l : Lists) (lines : List (List ℕ)) (line : List ℕ) (a : Accepts (from_new l) (lines ++ (line ∷ []))) (e : ended (run (from_new l) (lines ++ (line ∷ []))).loader.stage ≡ true)
    (long : short_lists l ≡ false) (none : (i w : ℤ) → Among (weight i w) (forms lines) → ⊥) where
  abbrev last : State
  last = run (from_new l) lines

  accepts : Accepts (from_new l) lines
  accepts = accepts_first (from_new l) lines (line ∷ []) a

  accepted : line_answer last.loader last.lists line ≡ []
  accepted = (accepts_second (from_new l) lines (line ∷ []) a).0

  stops : ended (step last line).loader.stage ≡ true
  unfolding run
  stops = rw (run_both (from_new l) lines (line ∷ [])) at e

  no_weight : (k : ℕ) → 0 < k → k ≤ last.loader.n → given last.loader.sets part.Weight k ≡ false
  no_weight k f t = go (given last.loader.sets part.Weight k) refl
    where
      go : (b : Bool) → given last.loader.sets part.Weight k ≡ b → b ≡ false
      go false g = refl
      go true g =
          let r = found part.Weight k f (from_new l) fresh_sound lines accepts (fresh_empty part.Weight k) g in
          let w = weight_form r.form r.item in
          absurd (none w.0 w.1 (subst (λ (h : Form). Among h (forms lines)) w.2 r.among))

  -- n, once all lines are taken
  abbrev n : ℕ
  n = (run (from_new l) (lines ++ (line ∷ []))).loader.n

  size_is : last.loader.n ≡ n
  unfolding run
  size_is = sym (ap (λ (v : State). v.loader.n) (run_both (from_new l) lines (line ∷ [])) ∙ end_size last (run_sound (from_new l) fresh_sound lines) line accepted stops)

  abbrev ones : List (List ℕ)
  ones = spelled (ones_from 0 n)

  pub with_ones_lem : Accepts (from_new l) (lines ++ (ones ++ (line ∷ []))) × (ended (run (from_new l) (lines ++ (ones ++ (line ∷ [])))).loader.stage ≡ true)
  unfolding run
  with_ones_lem =
      let s = run_sound (from_new l) fresh_sound lines in
      let o = end_open last s line accepted stops n size_is (run_long (from_new l) lines accepts long) (λ k f t. no_weight k f (rw size_is t)) in
      let r = open_all n n 0 last o (omega arith) in
      let x = end_again last s line accepted stops n (run last ones) r.1 in (
        accepts_both (from_new l) lines (ones ++ (line ∷ [])) accepts (accepts_both last ones (line ∷ []) r.0 (x.0, tt)),
        rw (run_both (from_new l) lines (ones ++ (line ∷ [])), run_both last ones (line ∷ [])) x.1,
      )
