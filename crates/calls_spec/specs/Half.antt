-- What the exported check by halves says and leaves (document 02, Paper 10).
--   HalfExported — the contract of `kodarfi_check_half`: its result and its places are the number and the values of an outcome that `CheckedHalf`, the
--                  contract of `half_check::check_half`, holds of, with the two limit lists as there
use Rattle.std.specs.Prelude.{List, ℕ}
use Rattle.rules.specs.Refusal.{code, Outcome}
use Rattle.check_spec.specs.Input.{Input}
use Rattle.half_check.specs.Checked.{CheckedHalf}
use Rattle.reply.specs.ReplyIs.{ReplyIs}

pub record HalfExported (H : Input) (number : ℕ) (places E L : List ℕ) : Type 0 where
  pub outcome : Outcome
  pub checked : CheckedHalf H outcome E L
  pub status : ReplyIs (code outcome) number places
