-- What the exported search for weights says and leaves.
--   SearchExported — the contract of `kodarfi_find_weights`: the number of an answer that `FoundAs`, the contract of `weights_search::find_weights`, holds of,
--                    with the weight list as there; the tried count where a list is found, and as before where the search is refused
use Rattle.std.specs.Prelude.{List, ◌≡◌, ℕ, ℤ}
use Rattle.rules.specs.Order.{if_accepted}
use Rattle.weights_spec.specs.Search.{Found, search_code, count_of, FoundAs}
use Rattle.weights_spec.specs.Request.{Request}
use Rattle.reply.specs.ReplyIs.{ReplyIs}

pub record SearchExported (Q : Request) (old_tried number : ℕ) (places : List ℕ) (tried : ℕ) (weights : List ℤ) : Type 0 where
  pub answer : Found
  pub found : FoundAs Q answer weights
  pub status : ReplyIs (search_code answer) number places
  pub tried_is : tried ≡ if_accepted (search_code answer) (count_of answer) old_tried
