use Rattle.converter.proofs.Held.{ready, file_delivered, file_refused}
use Rattle.converter.proofs.convert_file.Goals as goal

pub deliver-requires : goal.deliver-requires
deliver-requires c = ready c.args.file.now c.read_file-collected.ensures c.in-Ok.is

pub returns-in-Err : goal.returns-in-Err
returns-in-Err c = file_refused c.args.file.now c.read_file-collected.ensures _ c.in-Err.is _

pub returns-in-Ok : goal.returns-in-Ok
returns-in-Ok c = file_delivered c.args.file.now c.read_file-collected.ensures c.in-Ok.is c.deliver.ensures
