-- What a line leaves of a loader in nine numbers.
--   numbers_after w l line — the numbers afterwards: those of the next loader where the line is accepted; where it is refused the same numbers, also where
--                           no loader is written with them
--   LoaderTaken             — the contract of `take`: what `TakenAs`, the contract of `Loader::take`, has of the loader that the numbers stand for
use Rattle.std.specs.Prelude.{List, ◌≡◌, ℕ}
use Rattle.rules.specs.Order.{if_accepted}
use Rattle.rules.specs.Refusal.{code, Outcome}
use Rattle.loader_lists.specs.Lists.{Lists}
use Rattle.loader.specs.Answer.{line_answer}
use Rattle.loader.specs.Taken.{loader_after, lists_after, loader_of, numbers_of_loader}

unfoldable pub numbers_after : List ℕ → Lists → List ℕ → List ℕ
numbers_after w l line = if_accepted (line_answer (loader_of w) l line) (numbers_of_loader (loader_after (loader_of w) l line)) w

pub record LoaderTaken (w line : List ℕ) (l : Lists) (r : Outcome) (w' : List ℕ) (l' : Lists) : Type 0 where
  pub says : code r ≡ line_answer (loader_of w) l line
  pub numbers : w' ≡ numbers_after w l line
  pub lists : l' ≡ lists_after (loader_of w) l line
