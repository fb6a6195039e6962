-- What is said, as numbers for the caller.
--   reply_of numbers — of a number and those after it: the number, how many follow, and the first two; 0 where there is none
use Rattle.std.specs.Prelude.{List, [], ◌∷◌, ℕ, length, get_or}
use Rattle.listing_refusal.specs.declared.Reply.{Reply}

abbrev pub reply_of : List ℕ → Reply
reply_of [] = record { number = 0; count = 0; first = 0; second = 0 }
reply_of (k ∷ vs) = record { number = k; count = length vs; first = get_or vs 0 0; second = get_or vs 1 0 }
