-- An accepted check through a loader: for every right side within the tolerances there is exactly one height, as a fraction, and it lies within the limit that
-- the call wrote (02, Papers 5 and 12).
use mathlib.Core.List.{List, []}
use mathlib.Core.Path.{◌≡◌}
use Prim.Native.Nat.{ℕ, ◌+◌, ◌*◌}
use lib.ListN.{get_or}
use Rattle.rules.specs.Refusal.{code, Outcome}
use Rattle.enclosure.specs.Height.{OneHeight}
use Rattle.enclosure.proofs.Demands.{one_height}
use Rattle.check_spec.specs.Input.{Input, problem}
use Rattle.loader_progress.specs.declared.Stage.{Stage}
use Rattle.loader_order.specs.Through.{CheckedThrough}

pub through_height : (s : Stage) (I : Input) (r : Outcome) (E L : List ℕ) → CheckedThrough s I r E L → code r ≡ [] →
    OneHeight (problem I) (λ (i : ℕ). get_or E i 0)
through_height s I r E L x e = one_height (problem I) (λ i. get_or E i 0) (λ i j. get_or L (i * I.n + j) 0) (x.encloses e)
