use Rattle.std.proofs.Common.{◌≡◌, ◌∙◌, ap, replicate, arith}
use Rattle.std.proofs.lemmas.List.{length-take}
use Rattle.check_defects.proofs.Sums.{cleared, other_length}
use Rattle.check_defects.proofs.clear.Goals as goal

pub returns : goal.returns
returns c =
    let first : c.fill.new.self ≡ replicate c.args.n 0 = c.fill.ensures.after (λ y h. h) ∙ ap (λ n. replicate n 0) (length-take c.args.n c.args.sums.now ∙ omega arith) in
    cleared _ _ c.fill-2.new.self c.args.n c.requires.0 c.requires.1 first
    (c.fill-2.ensures.after (λ y h. h) ∙ ap (λ n. replicate n 0) (other_length _ _ c.fill-2.new.self c.args.n c.requires.0 c.requires.1 first))
