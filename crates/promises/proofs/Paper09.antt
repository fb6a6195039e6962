-- The theorems for specs/Paper09, a theorem for each statement.
use borrow.Author.Tests.{ltb-false}
use Rattle.enclosure.specs.Problem.{column_of}
use Rattle.enclosure.specs.Reckoning.{row_sum}
use Rattle.enclosure.proofs.Tighter.{near_meets, near_column_meets}
use Rattle.check_spec.proofs.Answers01.{cases_01, cases_05}
use Rattle.check_spec.proofs.Table.{check_cases_hold}
use Rattle.check_spec.proofs.Tightened.{still_true}
use Rattle.promises.specs.Paper09 as paper
use Rattle.promises.proofs.Ways.{accepted_sound}
use Rattle.promises.proofs.Document01.{within}

pub column_residuals_small : paper.ColumnResidualsSmall
unfolding row_sum
column_residuals_small P E L a j k lj lk = (within (column_of P j) k ((accepted_sound P E L a).columns j lj k lk)).1

pub near_meets_sum : paper.NearMeets
unfolding row_sum
near_meets_sum P N q x h k l = ltb-false _ _ (near_meets P N q x h k l)

pub near_column_meets_sum : paper.NearColumnMeets
unfolding row_sum
near_column_meets_sum P H q x j lj h k l = ltb-false _ _ (near_column_meets P H q x j lj h k l)

pub cases_become : paper.CasesBecome
cases_become = (check_cases_hold, cases_01, cases_05)

pub old_limits_true : paper.OldLimitsTrue
old_limits_true = still_true
