-- Laws of the shared words.
--   refused_old  — where something is said, the old is left
--   half_lists   — an accepted check by half the matrix is one of the matrix filled out
--   accepted_sound — an accepted problem is sound, whichever way it came
use mathlib.Core.Bool.{Bool, true, false}
use mathlib.Core.List.{List, [], ◌∷◌}
use mathlib.Core.Path.{◌≡◌, refl, sym, ◌∙◌}
use Prim.Native.Nat.{ℕ}
use lib.ListN.{length}
use Rattle.rules.specs.Order.{if_accepted}
use Rattle.rules.specs.Refusal.{code, Outcome}
use Rattle.rules.proofs.Verdicts.{nothing_is_not}
use Rattle.enclosure.specs.Sound.{Sound}
use Rattle.enclosure.specs.Problem.{Problem}
use Rattle.check_spec.specs.Input.{Input, problem}
use Rattle.check_spec.specs.Checked.{Checked}
use Rattle.check_spec.proofs.Contract.{answer_ready, code_sound}
use Rattle.check_spec.proofs.Statements.{accepted_usable}
use Rattle.half_fill.specs.Half.{short_half}
use Rattle.half_check.specs.Checked.{filled_input, CheckedHalf}
use Rattle.loader_order.proofs.Through.{through_lists}
use Rattle.listing.proofs.Demand.{accepted_parts}
use Rattle.listing.proofs.Meaning.{answered_none, listed_none}
use Rattle.promises.specs.Ways.{Refused, Accepted, on_lists, through_loader, by_half, of_file, of_listing}

pub refused_old : {A : Type 0} (w : List ℕ) (new old : A) → Refused w → if_accepted w new old ≡ old
refused_old [] new old h = absurd (h refl)
refused_old (k ∷ ks) new old h = refl

sound : (I : Input) (r : Outcome) (E L : List ℕ) → Checked I r E L → code r ≡ [] → Sound (problem I)
sound I r E L x e = let u = accepted_usable I (sym x.says ∙ e) in code_sound (problem I) (sym (answer_ready I u.long u.inside) ∙ sym x.says ∙ e)

pub half_lists : (H : Input) (r : Outcome) (E L : List ℕ) → CheckedHalf H r E L → code r ≡ [] → Checked (filled_input H) r E L
half_lists H r E L x e = go (short_half (length H.matrix)) refl
  where
    go : (b : Bool) → short_half (length H.matrix) ≡ b → Checked (filled_input H) r E L
    go true p = absurd (nothing_is_not (sym (x.short_half_lem p).0 ∙ e))
    go false p = x.as_square p

pub accepted_sound : (P : Problem) (E : ℕ → ℕ) (L : ℕ → ℕ → ℕ) → Accepted P E L → Sound P
accepted_sound P E L (on_lists I r E' L' x e) = sound I r E' L' x e
accepted_sound P E L (through_loader s I r E' L' x e) = sound I r E' L' (through_lists s I x e) e
accepted_sound P E L (by_half H r E' L' x e) = sound (filled_input H) r E' L' (half_lists H r E' L' x e) e
accepted_sound P E L (of_file file old new r x z) = code_sound P (accepted_parts file (answered_none x z)).quiet
accepted_sound P E L (of_listing file old new count x b) = code_sound P (accepted_parts file (listed_none x b)).quiet
