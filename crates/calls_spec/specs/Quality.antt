-- What the exported call for the factor says and leaves.
--   QualityExported — the contract of `kodarfi_quality`: the number of an answer that `QualityAs`, the contract of `quality::quality`, holds of, with its
--                     places; numerator and denominator where there is a factor, and as before where the call is refused
use Rattle.std.specs.Prelude.{List, ◌≡◌, ℕ}
use Rattle.rules.specs.Order.{if_accepted}
use Rattle.quality_spec.specs.Answer.{Quality, quality_code, numerator_of, denominator_of, QualityAs}
use Rattle.quality_spec.specs.Inquiry.{Inquiry}
use Rattle.reply.specs.ReplyIs.{ReplyIs}

pub record QualityExported (Q : Inquiry) (old_numerator old_denominator number : ℕ) (places : List ℕ) (numerator denominator : ℕ) : Type 0 where
  pub answer : Quality
  pub holds : QualityAs Q answer
  pub status : ReplyIs (quality_code answer) number places
  pub numerator_is : numerator ≡ if_accepted (quality_code answer) (numerator_of answer) old_numerator
  pub denominator_is : denominator ≡ if_accepted (quality_code answer) (denominator_of answer) old_denominator
