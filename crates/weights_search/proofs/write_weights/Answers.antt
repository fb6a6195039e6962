use mathlib.Core.Path.{◌≡◌, sym, ◌∙◌}
use Prim.Native.Nat.{ℕ, ◌≤◌, ◌<◌}
use native.Mathlib.Omega.{arith}
use lib.ListN.{length, get_or}
use mir.Syntax.{w64}
use mir.ValLaws.{to_z_pos}
use Rattle.std.proofs.Common.{ap}
use Rattle.std.proofs.lemmas.List.{get_or-take, length-take}
use Rattle.linear.proofs.Written.{written_none, written_more, written_length}
use Rattle.weights_search.proofs.write_weights.Goals as goal

pub loop-i-init : goal.loop-i-init
loop-i-init c = (omega arith, sym (written_none _ _ _ _))

pub loop-i-preserved : goal.loop-i-preserved
loop-i-preserved c =
    let l = c.loop-i in
    let in_range : l.i < c.args.n = omega (arith, length-take {A = ℕ}) in
    let small : get_or c.args.list.now l.i 0 ≤ 1024 = c.requires.below.each _ in_range in
    let same : length l.dst ≡ length c.args.dst.now = ap length l.invariant.1 ∙ written_length _ _ _ _ l.i in (
      omega arith,
      rw (get_or-take c.args.n c.args.list.now l.i 0 in_range)
          (written_more _ _ _ _ l.i l.invariant.1 (omega arith) (to_z_pos w64 _ (omega (arith, small)))),
    )
