use Rattle.std.proofs.Common.{◌∙◌, arith}
use Rattle.convert_writer.proofs.Held.{size}
use Rattle.convert_writer.proofs.Whole.{file_written}
use Rattle.convert_writer.proofs.put_file.Goals as goal

pub returns : goal.returns
returns c =
    file_written c.args.c c.size-n.ensures (c.from-s.ensures ∙ c.solution_scale.ensures) (c.from-t.ensures ∙ c.inverse_scale.ensures) c.put_problem-a.ensures c.put_scale-b.ensures c.put_rest.ensures

pub put_rest-requires-clause-n_value : goal.put_rest-requires-clause-n_value
put_rest-requires-clause-n_value c =
    let n_max = (size c.args.c c.requires.in_range).1 in (
      c.size-n.ensures,
      (
        omega (arith, c.size-n.ensures, n_max),
        omega (arith, c.requires.in_bounds, c.put_problem-a.ensures.end_max, c.put_problem-a.auto.out, c.put_scale-b.ensures.end_max, c.put_scale-b.auto.out),
      ),
    )
