use Rattle.std.proofs.Common.{◌∙◌, rules, tests, ℤ, nat_abs, ltb, take}
use Rattle.std.proofs.lemmas.Iterator.{YieldsList-from_slice}
use Rattle.std.proofs.lemmas.Iterator.Search.{any_from_yields_List}
use Rattle.convert_writer.proofs.Held.{any_above}
use Rattle.convert_writer.proofs.has_other.Goals as goal

pub returns : goal.returns
returns c =
    any_from_yields_List (λ (z : ℤ). ltb 0 (nat_abs z)) _ _ _ c.any.ensures.ran (YieldsList-from_slice (take c.args.n c.args.values.now) cc) (λ x b q k. search (rules, tests))
    ∙ any_above c.args.n c.args.values.now (search rules)
