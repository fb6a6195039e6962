use mir.Syntax.{w64}
use mir.Val.{SFits}
use mir.Facts.{to_z-of_z}
use Prim.Native.Nat.{◌<◌}
use lib.IntN.{ℤ, pos}
use lib.ListN.{get_or, length, take, length-set}
use lib.Seq.{paste-suc}
use native.Mathlib.Omega.{arith}
use native.Mathlib.Numerals.{add-one}
use mathlib.Core.Path.{◌≡◌}
use Rattle.std.proofs.Common.{rules}
use Rattle.std.proofs.lemmas.List.{get_or-take, length-take}
use Rattle.loader_lists.proofs.write_values.Goals as goal

pub loop-j-preserved : goal.loop-j-preserved
loop-j-preserved c =
    let l = c.loop-j in
    let a = c.args in
    let in_range : l.j < a.count = omega (arith, length-take {A = ℤ}) in
    let f : SFits w64 (get_or (take a.count a.values.now) l.j (pos 0)) = record { sfits = search rules } in
    let len : length a.values.now ≡ 32 = search rules in (
      search rules,
      simp length-set l.invariant.1,
      rw (to_z-of_z f, get_or-take a.count a.values.now l.j (pos 0) in_range, l.invariant.2, add-one) (paste-suc a.l.now a.at a.values.now l.j (pos 0) (omega arith) (omega arith)),
    )
