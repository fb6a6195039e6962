-- What an exported call says and leaves.
--   CheckExported   — the contract of `kodarfi_check`: its result and its places are the number and the values of an outcome that `Checked`,
--                     the contract of `check_lists::check`, holds of, with the two limit lists as there
--   ListingExported — the contract of `kodarfi_listing`: the number and the values of the line of the refusal, 0 where the file is accepted; the listing and
--                     its length as `ListedAs`, the contract of `listing::listing`, has them
--   EntryExported   — the contract of `kodarfi_entry`: the number of an answer that `RegisteredAs`, the contract of `entry::register_entry`, holds of;
--                     V and its limit where it is an entry, and both as before where it is refused
-- What the exported loader says and leaves (01: desk). Its state is nine numbers that the caller lends, any numbers; `loader_of` is the loader they stand for.
--   LoaderTakeExported  — the contract of `kodarfi_loader_take`: its result and its places are the number and the values of an outcome that `LoaderTaken`, the
--                       contract of `loader_numbers::take`, holds of, with the nine numbers and the six lists as there
--   LoaderCheckExported — the contract of `kodarfi_loader_check`: the number and the values of an outcome that `CheckedThrough`, the contract of `Loader::check`,
--                       holds of, with the two limit lists as there
use Rattle.std.specs.Prelude.{Result, List, ◌≡◌, ℕ, ℤ}
use Rattle.rules.specs.Order.{if_accepted}
use Rattle.rules.specs.Refusal.{code, Outcome}
use Rattle.rules.specs.declared.Refusal.{Refusal}
use Rattle.check_spec.specs.Input.{Input}
use Rattle.check_spec.specs.Checked.{Checked}
use Rattle.entry.specs.Entry.{entry_value, entry_bound}
use Rattle.listing.specs.Listing.{answer_of, ListedAs}
use Rattle.entry.specs.Register.{RegisteredAs}
use Rattle.entry.specs.Register as entry
use Rattle.entry.specs.declared.Entry.{Entry}
use Rattle.reply.specs.ReplyIs.{ReplyIs}
use Rattle.loader_lists.specs.Lists.{Lists}
use Rattle.loader_progress.specs.declared.Stage.{Stage}
use Rattle.loader_order.specs.Through.{CheckedThrough}
use Rattle.loader_numbers.specs.Taken.{LoaderTaken}

pub record CheckExported (I : Input) (number : ℕ) (places E L : List ℕ) : Type 0 where
  pub outcome : Outcome
  pub checked : Checked I outcome E L
  pub status : ReplyIs (code outcome) number places

pub record ListingExported (file old : List ℕ) (number : ℕ) (places new : List ℕ) (written : ℕ) : Type 0 where
  pub status : ReplyIs (answer_of file) number places
  pub listed : ListedAs file old new written

pub record EntryExported (x : ℤ) (e s : ℕ) (old_value : ℤ) (old_bound number : ℕ) (places : List ℕ) (value : ℤ) (bound : ℕ) : Type 0 where
  pub answer : Result Entry Refusal
  pub registered : RegisteredAs x e s answer
  pub status : ReplyIs (entry.entry_code answer) number places
  pub value_is : value ≡ if_accepted (entry.entry_code answer) (entry_value s x) old_value
  pub bound_is : bound ≡ if_accepted (entry.entry_code answer) (entry_bound s x e) old_bound

pub record LoaderTakeExported (w line : List ℕ) (l : Lists) (number : ℕ) (places w' : List ℕ) (l' : Lists) : Type 0 where
  pub outcome : Outcome
  pub taken : LoaderTaken w line l outcome w' l'
  pub status : ReplyIs (code outcome) number places

pub record LoaderCheckExported (stage : Stage) (I : Input) (number : ℕ) (places E L : List ℕ) : Type 0 where
  pub outcome : Outcome
  pub checked : CheckedThrough stage I outcome E L
  pub status : ReplyIs (code outcome) number places
