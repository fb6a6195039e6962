use Prim.Native.Nat.{◌+◌, ◌-◌}
use native.Mathlib.Omega.{arith}
use Rattle.std.proofs.Common.{rules}
use Rattle.file.proofs.Feeds.{one_byte_more, block_byte}
use Rattle.file.proofs.has_feed.Goals as goal

pub loop-byte-preserved : goal.loop-byte-preserved
loop-byte-preserved c =
    let l = c.loop-byte in
    let a = c.args in
    rw (block_byte a.file.now a.at (a.at + 16 - a.at) l.byte-index (search rules)) (one_byte_more a.file.now a.at l.byte-index l.found (omega arith) l.invariant)
