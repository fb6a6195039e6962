use Rattle.std.proofs.Common.{rules}
use Rattle.loader.proofs.Form.{fits_of}
use Rattle.loader.proofs.Loader.decide_form.Goals as goal

pub advance-requires : goal.advance-requires
advance-requires c = fits_of c.args.self c.args.form c.args.numbers.count c.args.numbers.inside c.item_of-item.ensures c.judge_form.ensures (search rules)
