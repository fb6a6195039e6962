use Rattle.std.proofs.Common.{◌≡◌, ◌∙◌, ℕ, ltb, take, rules, arith}
use Rattle.std.specs.List.{list_any}
use Rattle.std.proofs.lemmas.Iterator.{YieldsList-from_slice}
use Rattle.std.proofs.lemmas.Iterator.Search.{any_from_yields_List}
use borrow.Author.Tests.{tests}
use Rattle.common_spec.specs.Proposals.{most_steps}
use Rattle.common_ends.proofs.Tests.{some_wide}
use Rattle.common_ends.proofs.is_wide.Goals as goal

pub returns : goal.returns
returns c =
    let some : c.any.result ≡ list_any (λ (e : ℕ). ltb most_steps e) (take c.args.n c.args.limits.now) =
    any_from_yields_List (λ (e : ℕ). ltb most_steps e) _ _ c.any.result c.any.ensures.ran (YieldsList-from_slice {s = c.iter.result} (take c.args.n c.args.limits.now) cc) (λ x b q k. search (rules, tests)) in
    some ∙ some_wide c.args.limits.now c.args.n (omega arith)
