use mathlib.Core.Path.{◌≡◌, ap, ◌∙◌}
use Prim.Native.Nat.{◌+◌}
use native.Mathlib.Omega.{arith}
use lib.IntN.{pos}
use lib.ListN.{length}
use Rattle.std.specs.List.{between}
use Rattle.std.proofs.lemmas.List.Edits.{length-between, get_or-between}
use Rattle.linear.specs.Slice.{at}
use Rattle.check_arrays.specs.Parts.{above_allowed}
use Rattle.check_residuals.proofs.FirstFound.{first_place}
use Rattle.check_residuals.proofs.first_above.Goals as goal

pub returns : goal.returns
returns c =
    let s = c.args.start in
    let n = c.args.n in
    let long : length (between s (s + n) c.args.residuals.now) ≡ n = omega (arith, length-between c.args.residuals.now s (s + n), c.requires.n_bound.1.0) in
    c.unwrap_or.ensures
    ∙ first_place c.position_above.result n _ _ (λ k l. ap (above_allowed (at c.args.allowed.now k)) (get_or-between c.args.residuals.now s (s + n) k (pos 0) (omega arith)))
    (rw long at c.position_above.ensures)
