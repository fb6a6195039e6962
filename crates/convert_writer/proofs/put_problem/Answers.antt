use Rattle.listing_text.proofs.Wrote.{then, called}
use Rattle.convert_writer.proofs.Each.{problem_line}
use Rattle.convert_writer.proofs.put_problem.Goals as goal

pub returns : goal.returns
returns c = called (problem_line _) (then (then c.put_bytes-a.ensures c.put_natural-b.ensures) c.put_bytes.ensures)
