use Rattle.file_check.proofs.Shown.{shown_accepted, report_ready}
use Rattle.file_check.proofs.put_checked.Goals as goal

pub returns-in-Ok : goal.returns-in-Ok
returns-in-Ok c =
    shown_accepted _ _ c.check.ensures c.in-Ok.is c.size-n.ensures c.solution_scale-s.ensures c.no_refusal.ensures c.put_report-length.ensures

pub put_report-length-requires-clause-reportable : goal.put_report-length-requires-clause-reportable
put_report-length-requires-clause-reportable c = report_ready _ _ c.check.ensures c.in-Ok.is c.size-n.ensures c.solution_scale-s.ensures
