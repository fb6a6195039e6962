-- The theorems for specs/Beyond, a theorem for each statement.
use mathlib.Core.Path.{sym, ◌∙◌}
use Rattle.quality_spec.proofs.Limits.{factor_far_at_b}
use Rattle.accepted_limits.proofs.File.{answered_good, listed_good}
use Rattle.accepted_limits.proofs.Lists.{checked_good, through_good, half_good}
use Rattle.accepted_limits.proofs.TwoNets.{together_good}
use Rattle.file_shape.proofs.Answers.{shape_says}
use Rattle.file_shape.proofs.Same.{same_listing}
use Rattle.listing.specs.Listing.{answer_of}
use Rattle.promises.specs.Beyond as beyond
use Rattle.promises.specs.Ways.{on_lists, through_loader, by_half, of_file, of_listing}

pub accepted_good : beyond.AcceptedGood
accepted_good P E L (on_lists I r E' L' x e) = checked_good I r E' L' x e
accepted_good P E L (through_loader s I r E' L' x e) = through_good s I r E' L' x e
accepted_good P E L (by_half H r E' L' x e) = half_good H r E' L' x e
accepted_good P E L (of_file file old new r x z) = answered_good x z
accepted_good P E L (of_listing file old new count x b) = listed_good x b

pub both_accepted_good : beyond.BothAcceptedGood
both_accepted_good J r E₁ L₁ E₂ L₂ x e = together_good J r E₁ L₁ E₂ L₂ x e

pub factor_serves : beyond.FactorServes
factor_serves Q r x e s right tolerance guess E L a = factor_far_at_b Q r x e s right tolerance guess E L (accepted_good _ E L a)

pub factor_least : beyond.FactorLeast
factor_least Q r x e = x.least e

pub shaped_answers : beyond.ShapedAnswers
shaped_answers file old new r x h = (answer_of file, (shape_says h.shape h.spells, x.reply))

pub any_order_same : beyond.AnyOrderSame
any_order_same file file' c c' same old new old' new' count count' x y = x.bytes ∙ same_listing file file' c c' same ∙ sym y.bytes
