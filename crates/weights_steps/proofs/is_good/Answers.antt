use mathlib.Core.Path.{ap, ◌∙◌}
use Prim.Native.Nat.{ℕ}
use lib.Dec.{leb, eqb}
use Rattle.integer.proofs.Search.{first_ext}
use Rattle.weights_steps.proofs.is_good.Goals as goal

pub returns : goal.returns
returns c = ap (leb _) (c.first_zero.ensures ∙ first_ext _ _ _ (λ m l. ap (λ (x : ℕ). eqb x 0) (c.margins_from.ensures.each m l)))
