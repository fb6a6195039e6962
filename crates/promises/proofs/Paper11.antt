-- The theorems for specs/Paper11, a theorem for each statement.
use mathlib.Core.List.{List}
use mathlib.Core.Logic.{◌↔◌}
use mathlib.Core.Path.{◌≡◌, sym, ◌∙◌}
use mathlib.Core.Bool.{true}
use Prim.Native.Nat.{ℕ}
use lib.Ieee.{fin}
use lib.IntN.{pos}
use Rattle.doubles_guess.proofs.Exact.{minus_zero}
use Rattle.doubles_guess.proofs.Steps.{guess_zero}
use Rattle.doubles_lists.specs.Inward.{guesses_after}
use Rattle.doubles_lists.specs.Outward.{lows_after, highs_after}
use Rattle.doubles_lists.proofs.Enclosed.{encloses_between}
use Rattle.doubles_lists.proofs.Inward as inward
use Rattle.doubles_lists.proofs.Outward as outward
use Rattle.doubles_lists.proofs.Promises.{guess_at, no_double_between}
use Rattle.promises.specs.Paper11 as paper
use Rattle.promises.specs.Ways.{Refused}
use Rattle.promises.proofs.Demands.{accepted_encloses}
use Rattle.promises.proofs.Ways.{refused_old}

-- what is said of a call is what is said of its input
carried_over : {A : Type 0} {a b w : List ℕ} → a ≡ b → (b ≡ w) ↔ A → (a ≡ w) ↔ A
carried_over e f = (λ h. f.0 (sym e ∙ h), λ y. e ∙ f.1 y)

pub guess_nearest : paper.GuessNearest
guess_nearest I r guess x e i l = (x.doubles e i l, x.nearest e i l, guess_at I x e i l)

pub minus_zero_gives_0 : paper.MinusZeroGives0
minus_zero_gives_0 s = guess_zero s (fin true 0 (pos 0)) minus_zero

pub ends_outward : paper.EndsOutward
ends_outward I r low high x e = x.outward e

pub height_between : paper.HeightBetween
height_between P E L a I h r low high x e = encloses_between P E I h x e (accepted_encloses P E L a)

pub no_double_lies_between : paper.NoDoubleBetween
no_double_lies_between I r low high x e i l = no_double_between I x e i l

pub inward_refusals : paper.InwardRefusals
inward_refusals I r guess x = (carried_over x.says (inward.code_8 I), carried_over x.says (inward.code_3 I), carried_over x.says (inward.code_19 I))

pub inward_accepted : paper.InwardAccepted
inward_accepted I r guess x = carried_over x.says (inward.code_nothing I)

pub refused_inward_leaves : paper.RefusedInwardLeaves
unfolding guesses_after
refused_inward_leaves I r guess x h =
    let k : Refused _ = rw x.says at h in
    x.guesses ∙ refused_old _ _ _ k

pub outward_refusals : paper.OutwardRefusals
outward_refusals I r low high x = (carried_over x.says (outward.code_8 I), carried_over x.says (outward.code_3 I), carried_over x.says (outward.code_nothing I))

pub refused_outward_leaves : paper.RefusedOutwardLeaves
unfolding lows_after highs_after
refused_outward_leaves I r low high x h =
    let k : Refused _ = rw x.says at h in
    (x.lows ∙ refused_old _ _ _ k, x.highs ∙ refused_old _ _ _ k)
