-- The check through a loader, case by case.
--   answer_ended — after an accepted end it says what the check on lists says
--   has_ended, without_code — where nothing is said the end was accepted, and the check on lists says nothing
--   through_ended, through_open — the contract where the check on lists decides, and where 8 or 15 is said
--   through_lists — an accepted check through a loader is an accepted check on lists
--   check_8, check_15, check_3 — each said exactly in its case
use mathlib.Core.Path.{◌≡◌, refl, sym, ◌∙◌}
use mathlib.Core.Bool.{Bool, true, false, not, cond}
use mathlib.Core.List.{List, [], ◌∷◌}
use mathlib.Core.Logic.{◌↔◌}
use Prim.Native.Nat.{ℕ}
use lib.ListN.{take, drop}
use Rattle.integer.proofs.Search.{clash}
use Rattle.rules.specs.Order.{Test, number, verdict}
use Rattle.rules.specs.Refusal.{code, Outcome}
use Rattle.rules.proofs.Verdicts.{nothing_is_not}
use Rattle.rules.proofs.Tests.{None, code_exactly}
use Rattle.check_spec.specs.Input.{Input, short, in_ranges}
use Rattle.check_spec.specs.Order.{answer}
use Rattle.check_spec.specs.Checked.{Checked, solution_bounds_after, inverse_bounds_after}
use Rattle.loader_progress.specs.Progress.{ended}
use Rattle.loader_progress.specs.declared.Stage.{Stage}
use Rattle.loader_order.specs.Through.{order_through, answer_through, solution_bounds_through, inverse_bounds_through, CheckedThrough}

module _ (s : Stage) (I : Input) where
  pub answer_ended : ended s ≡ true → answer_through s I ≡ answer I
  unfolding answer_through answer
  answer_ended e = rw e

  pub through_ended : ended s ≡ true → {r : Outcome} {E L : List ℕ} → Checked I r E L → CheckedThrough s I r E L
  unfolding solution_bounds_through inverse_bounds_through solution_bounds_after inverse_bounds_after
  through_ended e h = record {
    says = h.says ∙ sym (answer_ended e);
    solution_bounds = rw (answer_ended e) h.solution_bounds;
    inverse_bounds = rw (answer_ended e) h.inverse_bounds;
    encloses = h.encloses;
    accepts = λ N q H q' long _ inside rounded. h.accepts N q H q' long inside rounded;
  }

  -- before an accepted end 8 or 15 is said, and both limit lists are left
  module _ (open-still : ended s ≡ false) {r : Outcome} where
    refused : {k : ℕ} → code r ≡ k ∷ [] → answer_through s I ≡ k ∷ [] → CheckedThrough s I r I.solution_bounds I.inverse_bounds
    unfolding solution_bounds_through inverse_bounds_through
    refused t a = record {
      says = t ∙ sym a;
      solution_bounds = rw a;
      inverse_bounds = rw a;
      encloses = λ e. absurd (nothing_is_not (sym t ∙ e));
      accepts = λ N q H q' long end inside rounded. clash (ended s) end open-still;
    }

    pub through_open : {b : Bool} → b ≡ short I → code r ≡ cond b (8 ∷ []) (15 ∷ []) → CheckedThrough s I r I.solution_bounds I.inverse_bounds
    unfolding answer_through
    through_open {b} e t = go b e t
      where
        go : (b : Bool) → b ≡ short I → code r ≡ cond b (8 ∷ []) (15 ∷ []) → CheckedThrough s I r I.solution_bounds I.inverse_bounds
        go true e t = refused t (rw (← e))
        go false e t = refused t (rw (← e, open-still))

  -- ---- where nothing is said
  open_code : ended s ≡ false → answer_through s I ≡ [] → ⊥
  unfolding answer_through
  open_code e h = go (short I) (rw e at h)
    where
      go : (b : Bool) → verdict (record { says = 8 ∷ []; holds = b } ∷ record { says = 15 ∷ []; holds = true } ∷ []) ≡ [] → ⊥
      go true z = nothing_is_not z
      go false z = nothing_is_not z

  pub has_ended : answer_through s I ≡ [] → ended s ≡ true
  has_ended h = go (ended s) refl
    where
      go : (b : Bool) → ended s ≡ b → b ≡ true
      go true e = refl
      go false e = absurd (open_code e h)

  pub without_code : answer_through s I ≡ [] → answer I ≡ []
  without_code h = sym (answer_ended (has_ended h)) ∙ h

  pub through_lists : {r : Outcome} {E L : List ℕ} → CheckedThrough s I r E L → code r ≡ [] → Checked I r E L
  unfolding solution_bounds_through inverse_bounds_through solution_bounds_after inverse_bounds_after
  through_lists x e =
      let end = has_ended (sym x.says ∙ e) in
      let same = answer_ended end in
      record {
        says = x.says ∙ same;
        solution_bounds = rw (← same) x.solution_bounds;
        inverse_bounds = rw (← same) x.inverse_bounds;
        encloses = x.encloses;
        accepts = λ N q H q' long inside rounded. x.accepts N q H q' long end inside rounded;
      }

-- each said exactly where no case earlier in the order holds and its own does; after an accepted end 5, 6 and 7 are those of the check on lists
module _ (s : Stage) (I : Input) where
  abbrev first : ℕ → List Test
  first k = take k (order_through s I)

  abbrev rest : ℕ → List Test
  rest k = drop k (order_through s I)

  pub check_8 : (answer_through s I ≡ 8 ∷ []) ↔ (None (first 0) × (short I ≡ true))
  unfolding answer_through
  check_8 = code_exactly (first 0) (number 8 (short I)) (rest 1) refl refl

  pub check_15 : (answer_through s I ≡ 15 ∷ []) ↔ (None (first 1) × (not (ended s) ≡ true))
  unfolding answer_through
  check_15 = code_exactly (first 1) (number 15 (not (ended s))) (rest 2) refl refl

  pub check_3 : (answer_through s I ≡ 3 ∷ []) ↔ (None (first 2) × (not (in_ranges I) ≡ true))
  unfolding answer_through
  check_3 = code_exactly (first 2) (number 3 (not (in_ranges I))) (rest 3) refl refl
