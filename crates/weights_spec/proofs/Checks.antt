-- A check with the weights that a search for weights hands back is never refused with 5.
--   no_five    — a check whose margins are all above 0 is never refused with 5
--   never_five — nor is one with these weights, whatever its scale, right side, tolerances and guess
use mathlib.Core.Path.{◌≡◌, sym}
use mathlib.Core.List.{List, [], ◌∷◌}
use Prim.Native.Nat.{ℕ}
use native.Mathlib.Omega.{arith}
use lib.IntN.{ℤ}
use Rattle.integer.proofs.Search.{clash}
use Rattle.rules.proofs.Verdicts.{nothing_is_not}
use Rattle.enclosure.specs.Sound.{Margins}
use Rattle.enclosure.specs.Reckoning.{margin_fails}
use Rattle.check_spec.specs.Input as check
use Rattle.check_spec.specs.Order as checking
use Rattle.check_spec.specs.Stated.{Stated, too_short, out_of_range, margin_low, residual_large, inverse_large, accepted}
use Rattle.check_spec.proofs.Statements.{stated}
use Rattle.weights_spec.specs.Search.{Found, search_code, FoundAs}
use Rattle.weights_spec.specs.Request.{Request}

five : (I : check.Input) {w : List ℕ} → Stated I w → Margins (check.problem I) → (l : List ℕ) → w ≡ 5 ∷ l → ⊥
five I (too_short e) h l z = let y : ◌≡◌ {A = ℕ} 8 5 = cc in omega arith
five I (out_of_range e f) h l z = let y : ◌≡◌ {A = ℕ} 3 5 = cc in omega arith
five I (margin_low m u lm p q) h l z = clash (margin_fails (check.problem I) m) p (h m lm)
five I (residual_large k u m lk p q) h l z = let y : ◌≡◌ {A = ℕ} 6 5 = cc in omega arith
five I (inverse_large j k u m r lj lk p q o) h l z = let y : ◌≡◌ {A = ℕ} 7 5 = cc in omega arith
five I (accepted u s) h l z = nothing_is_not (sym z)

pub no_five : (I : check.Input) → Margins (check.problem I) → (l : List ℕ) → checking.answer I ≡ 5 ∷ l → ⊥
no_five I = five I (stated I)

pub never_five : (Q : Request) (r : Found) (weights : List ℤ) → FoundAs Q r weights → search_code r ≡ [] →
    (s : ℕ) (right tolerance guess : List ℤ) (E L l : List ℕ) →
    checking.answer (check.input Q.n s Q.t Q.matrix right tolerance guess Q.inverse weights E L) ≡ 5 ∷ l → ⊥
never_five Q r weights x z s right tolerance guess E L =
    no_five (check.input Q.n s Q.t Q.matrix right tolerance guess Q.inverse weights E L) (x.margins z s right tolerance guess)
