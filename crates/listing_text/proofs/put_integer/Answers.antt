use native.Mathlib.Omega.{arith}
use lib.ListN.{length-set}
use Rattle.integer.proofs.Machine.{read}
use Rattle.listing_text.proofs.Wrote.{wrote_room, minus, wrote_unsigned}
use Rattle.listing_text.proofs.put_integer.Goals as goal
use Rattle.listing_text.proofs.put_integer.Goals.{Else-z-lt0, Start, Then-z-lt0}

pub put_digits-requires : goal.put_digits-requires
put_digits-requires c =
    let s = (goal.at.put_digits-requires c).Start in
    simp length-set (omega (arith, wrote_room s.args.z (rw (read s.args.z s.ranges.z.sfits) at c.magnitude-magnitude.ensures) s.requires.0))

pub returns-then-z-lt0 : goal.returns-then-z-lt0
returns-then-z-lt0 c =
    let t = (goal.at.returns-then-z-lt0 c).Then-z-lt0 in
    let s = (goal.at.returns-then-z-lt0 c).Start in
    let e = read s.args.z s.ranges.z.sfits in
    minus s.args.z (rw e at t.if-z-lt0.true) (rw e at t.magnitude-magnitude.ensures) s.requires.0 c.put_digits.ensures

pub put_digits-requires-2 : goal.put_digits-requires-2
put_digits-requires-2 c =
    let s = (goal.at.put_digits-requires-2 c).Start in
    omega (arith, wrote_room s.args.z (rw (read s.args.z s.ranges.z.sfits) at c.magnitude-magnitude.ensures) s.requires.0)

pub returns : goal.returns
returns c =
    let t = (goal.at.returns c).Else-z-lt0 in
    let s = (goal.at.returns c).Start in
    let e = read s.args.z s.ranges.z.sfits in
    wrote_unsigned s.args.z (rw e at t.if-z-lt0.false) (rw e at t.magnitude-magnitude.ensures) s.requires.0 c.put_digits-2.ensures
