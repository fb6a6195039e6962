use mathlib.Core.Path.{ap, ◌∙◌}
use mathlib.Core.List.{List}
use Prim.Native.Nat.{ℕ, ◌+◌}
use native.Mathlib.Omega.{arith}
use lib.ListN.{get_or, set, length-set}
use Rattle.listing_text.proofs.Wrote.{copied}
use Rattle.listing_text.proofs.put_bytes.Goals as goal

pub loop-i-preserved : goal.loop-i-preserved
loop-i-preserved c =
    let l = c.loop-i in
    let a = c.args in
    (omega arith, simp length-set l.invariant.1, ap (λ (t : List ℕ). set t (a.at + l.i) (get_or a.src.now l.i 0)) l.invariant.2 ∙ copied a.out.now a.src.now a.at l.i (omega arith))
