-- What the exported calls of 02's Paper 11 say and leave.
--   GuessesExported   — the contract of `kodarfi_guesses`: the number of an answer that `GuessesOf`, the contract of `doubles_lists::guesses_of`, holds of, with the
--                       guess list as there
--   IntervalsExported — the contract of `kodarfi_intervals`: the number of an outcome that `IntervalsOf`, the contract of `doubles_lists::intervals_of`, holds of,
--                       with the two lists of ends as there
use Rattle.std.specs.Prelude.{List, ℕ, ℤ, Float}
use Rattle.rules.specs.Refusal.{code, Outcome}
use Rattle.doubles_lists.specs.Inward.{Guessed, guesses_code, Incoming, GuessesOf}
use Rattle.doubles_lists.specs.Outward.{Outgoing, IntervalsOf}
use Rattle.reply.specs.ReplyIs.{ReplyIs}

pub record GuessesExported (I : Incoming) (number : ℕ) (places : List ℕ) (guess : List ℤ) : Type 0 where
  pub answer : Guessed
  pub guessed : GuessesOf I answer guess
  pub status : ReplyIs (guesses_code answer) number places

pub record IntervalsExported (I : Outgoing) (number : ℕ) (places : List ℕ) (low high : List Float) : Type 0 where
  pub outcome : Outcome
  pub ends : IntervalsOf I outcome low high
  pub status : ReplyIs (code outcome) number places
