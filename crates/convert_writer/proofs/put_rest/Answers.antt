use Rattle.convert_writer.proofs.Whole.{rest_written}
use Rattle.convert_writer.proofs.put_rest.Goals as goal

pub returns : goal.returns
returns c =
    let e = c.requires.n_value.0 in
    rest_written c.args.c.now (rw (← e) c.requires.n_value.1.0) (rw e at c.put_part-d.ensures) (rw e at c.put_part-e.ensures) (rw e at c.put_part-f.ensures) (rw e at c.put_part-g.ensures)
    (rw e at c.put_part-h.ensures) c.put_bytes.ensures
