-- A tolerance of an earlier use of the list does not stay (02, Paper 5: "(right i b) means d = 0, written like a given one").
--   right_clears — after an accepted (right i b) the tolerance of i is 0, whatever stood there;  within_writes — after (right i (b d)) it is d
use mathlib.Core.Path.{◌≡◌, refl, sym, subst, ◌∙◌}
use mathlib.Core.List.{List, []}
use mathlib.Core.Option.{some}
use Prim.Native.Nat.{ℕ, ◌+◌, ◌*◌, ◌-◌}
use native.Mathlib.Omega.{arith}
use lib.IntN.{ℤ, pos, nat_abs}
use lib.ListN.{get_or}
use Rattle.line_form.specs.Form.{Form, right, right_within}
use Rattle.line_form.specs.Reading.{reading}
use Rattle.loader_lists.specs.Slot.{Tolerance}
use Rattle.loader_lists.specs.Lists.{Lists}
use Rattle.loader.specs.Answer.{line_answer}
use Rattle.loader.proofs.Accepted.{accepted_form}
use Rattle.loader_runs.specs.Run.{State, step}
use Rattle.loader_runs.specs.Holds.{HoldsForm}
use Rattle.loader_runs.proofs.Sound.{SoundLoader}
use Rattle.loader_runs.specs.Accepts.{after_form}
use Rattle.loader_runs.proofs.Collected.{holds_own}

module _ (u : State) (sound : SoundLoader u.loader) (line : List ℕ) (a : line_answer u.loader u.lists line ≡ []) where
  taken : (f : Form) → reading line ≡ some f → HoldsForm f (after_form u f) × ((step u line).lists ≡ (after_form u f).lists)
  taken f r =
      let x = accepted_form u.loader u.lists line a in
      let e : x.0 ≡ f = let o : some x.0 ≡ some f = sym x.1.reads ∙ r in cc in
      subst (λ (g : Form). HoldsForm g (after_form u g) × ((step u line).lists ≡ (after_form u g).lists)) e (holds_own u sound x.0 x.1.fine x.1.long, x.1.lists)

  at_place : (i : ℤ) (l : Lists) {z : ℤ} → get_or l.tolerance ((nat_abs i - 1) * 1 + 0) (pos 0) ≡ z → (step u line).lists ≡ l → get_or (step u line).lists.tolerance (nat_abs i - 1) (pos 0) ≡ z
  at_place i l {z} h e =
      let p : (nat_abs i - 1) * 1 + 0 ≡ nat_abs i - 1 = omega arith in
      rw e (rw p at h)

  pub right_clears : (i b : ℤ) → reading line ≡ some (right i b) → get_or (step u line).lists.tolerance (nat_abs i - 1) (pos 0) ≡ pos 0
  right_clears i b r =
      let t = taken (right i b) r in
      at_place i (after_form u (right i b)).lists (t.0.cells Tolerance refl 0 (omega arith)) t.1

  pub within_writes : (i b d : ℤ) → reading line ≡ some (right_within i b d) → get_or (step u line).lists.tolerance (nat_abs i - 1) (pos 0) ≡ d
  within_writes i b d r =
      let t = taken (right_within i b d) r in
      at_place i (after_form u (right_within i b d)).lists (t.0.cells Tolerance refl 0 (omega arith)) t.1
