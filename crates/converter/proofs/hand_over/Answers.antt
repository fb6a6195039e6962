use Rattle.converter.proofs.Handed.{handed}
use Rattle.std.proofs.Common.{rules}
use Rattle.converter.proofs.hand_over.Goals as goal

pub returns : goal.returns
returns c = handed c.args.tolerance _ _ (search rules) c.put_bytes.ensures
