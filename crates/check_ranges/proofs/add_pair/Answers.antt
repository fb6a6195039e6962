use mathlib.Core.Path.{sym}
use native.Mathlib.Nat.{le_of_eq, le_trans}
use lib.Bits.{bit_or}
use Rattle.integer.proofs.Machine.{read}
use Rattle.integer.proofs.Union.{union_left, union_right}
use Rattle.check_ranges.proofs.add_pair.Goals as goal
use Rattle.check_ranges.proofs.add_pair.Goals.{Start}

pub returns : goal.returns
returns c =
    let s = (goal.at.returns c).Start in
    let x = c.folded.result in
    let y = c.folded-2.result in (
      union_left s.args.all (bit_or x y),
      (
        le_trans (le_of_eq (sym (rw (read _ s.ranges.x.sfits) at c.folded.ensures))) (le_trans (union_left x y) (union_right s.args.all (bit_or x y))),
        le_trans (le_of_eq (sym (rw (read _ s.ranges.y.sfits) at c.folded-2.ensures))) (le_trans (union_right x y) (union_right s.args.all (bit_or x y))),
      ),
    )
