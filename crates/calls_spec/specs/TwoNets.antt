-- What the exported check of two nets says and leaves.
--   DependentExported — the contract of `kodarfi_check_dependent`: the net, the number and the values of an answer that `CheckedTogether`, the contract of
--                       `dependent_check::check_dependent`, holds of, 0 where nothing is refused; the four limit lists as there
use Rattle.std.specs.Prelude.{List, ◌≡◌, ℕ}
use Rattle.rules.specs.Which.{which_of, refusal_of}
use Rattle.dependent_spec.specs.Order.{CheckedNets, nets_code}
use Rattle.dependent_spec.specs.Nets.{Nets}
use Rattle.dependent_spec.specs.Together.{CheckedTogether}
use Rattle.reply.specs.ReplyIs.{ReplyIs}

pub record DependentExported (J : Nets) (number net : ℕ) (places E₁ L₁ E₂ L₂ : List ℕ) : Type 0 where
  pub answer : CheckedNets
  pub checked : CheckedTogether J answer E₁ L₁ E₂ L₂
  pub net_is : net ≡ which_of (nets_code answer)
  pub status : ReplyIs (refusal_of (nets_code answer)) number places
