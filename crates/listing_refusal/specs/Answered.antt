-- What a function says that writes a text.
--   Answered numbers text — its contract: what is said in it, and its bytes from the start of the buffer on
use Rattle.std.specs.Prelude.{List, ◌≡◌, ℕ}
use Rattle.listing_text.specs.Wrote.{Wrote}
use Rattle.listing_refusal.specs.declared.FileAnswer.{FileAnswer}
use Rattle.listing_refusal.specs.Reply.{reply_of}

pub record Answered (numbers text old new : List ℕ) (r : FileAnswer) : Type 0 where
  pub reply : r.reply ≡ reply_of numbers
  pub wrote : Wrote 32768 old 0 text new r.length
