-- What the exported call on two proposals says and leaves.
--   CommonExported — the contract of `kodarfi_common`: the number and the values of an answer that `CommonAs`, the contract of
--                    `common_interval::common_interval`, holds of, with the interval lists as there; and of which proposal the refusal is, 0 where it is of
--                    neither and where nothing is refused
use Rattle.std.specs.Prelude.{List, ◌≡◌, ℕ, ℤ}
use Rattle.rules.specs.Which.{which_of, refusal_of}
use Rattle.common_spec.specs.Answer.{Common, common_code, CommonAs}
use Rattle.common_spec.specs.Proposals.{Proposals}
use Rattle.reply.specs.ReplyIs.{ReplyIs}

pub record CommonExported (Q : Proposals) (number proposal : ℕ) (places : List ℕ) (low high : List ℤ) : Type 0 where
  pub answer : Common
  pub found : CommonAs Q answer low high
  pub status : ReplyIs (refusal_of (common_code answer)) number places
  pub proposal_is : proposal ≡ which_of (common_code answer)
