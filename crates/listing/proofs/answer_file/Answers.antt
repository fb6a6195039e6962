use mathlib.Core.Path.{refl}
use Rattle.loader_runs.specs.Read.{zeros}
use Rattle.listing.proofs.Entire.{refusal_answered, check_answered, as_answered}
use Rattle.std.proofs.Common.{rules}
use Rattle.listing.proofs.answer_file.Goals as goal

pub returns-in-Err : goal.returns-in-Err
returns-in-Err c =
    let file = c.args.file.now in
    as_answered file (search rules) (refusal_answered file c.take_lines-taken.ensures (unfold zeros in refl) _ c.in-Err.is c.put_refusal.ensures)

pub returns-in-Ok : goal.returns-in-Ok
returns-in-Ok c =
    let file = c.args.file.now in
    as_answered file (search rules) (check_answered file c.take_lines-taken.ensures (unfold zeros in refl) c.in-Ok.is c.put_checked.ensures)
