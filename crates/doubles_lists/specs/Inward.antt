-- Doubles in: what `guesses_of` says and leaves. Document 02, Paper 11: "A double becomes a guess by rounding its exact value times S to a nearest whole
-- number, halves away from zero; minus zero gives 0. [..] (8 and 3 first, then new 19, for a double that is not finite or whose guess leaves its range; the
-- guess list is untouched. [..])"
--   Guessed        — the answer: nothing beside it where the guesses are written, or a refusal
--   guesses_code r — what an answer says: nothing where it is accepted, else the number of the refusal and its values
--   Incoming, incoming — n, s, the doubles, and the guess list as it comes in
--   short_incoming I — 8: a lent list is too short
--   all_have_guess I — each of the first n doubles is finite and gives a guess in its range; 19 where not
--   inward_order I — the tests in their order, 8, 3, 19;  inward_answer I — what is said of them
--   guesses_after I — the guess list after the call: the first n guesses where nothing is said, the rest as before; all as before on a refusal
--   GuessesOf — the contract of `guesses_of`: what is said, the list, and where nothing is said each guess in 02's words, of a finite double, so that `whole`
--     is its exact value
use Rattle.std.specs.Prelude.{Bool, not, ◌||◌, List, [], ◌∷◌, ◌≡◌, ℕ, ◌<◌, ℤ, length, Float, Result, Ok, Err, ⊤}
use Rattle.integer.specs.Finite.{every}
use Rattle.linear.specs.Slice.{at}
use Rattle.linear.specs.Written.{written}
use Rattle.rules.specs.Order.{Test, number, verdict, if_accepted}
use Rattle.rules.specs.Range.{short_column}
use Rattle.rules.specs.Refusal.{number_of, values_of}
use Rattle.doubles_guess.specs.Guess.{guess_for, has_guess, Nearest}
use Rattle.doubles_lists.specs.Lists.{double_at, exchange_sizes}
use Rattle.doubles_guess.specs.Units.{Double}
use Rattle.doubles_lists.specs.declared.GuessRefusal.{GuessRefusal}
use Rattle.doubles_lists.specs.declared.GuessRefusal.TheVariants.{Refused, NoGuess}

abbrev pub Guessed : Type 0
Guessed = Result ⊤ GuessRefusal

abbrev pub guesses_code : Guessed → List ℕ
guesses_code (Ok tt) = []
guesses_code (Err (Refused r)) = number_of r ∷ values_of r
guesses_code (Err NoGuess) = 19 ∷ []

pub record Incoming : Type 0 where
  pub n : ℕ
  pub s : ℕ
  pub values : List Float
  pub guess : List ℤ

abbrev pub incoming : ℕ → ℕ → List Float → List ℤ → Incoming
incoming n s values guess = record { n = n; s = s; values = values; guess = guess }

abbrev pub short_incoming : Incoming → Bool
short_incoming I = short_column (length I.values) || short_column (length I.guess)

abbrev pub all_have_guess : Incoming → Bool
all_have_guess I = every I.n (λ (i : ℕ). has_guess I.s (double_at I.values i))

abbrev pub inward_order : Incoming → List Test
inward_order I =
    number 8 (short_incoming I)
    ∷ number 3 (not (exchange_sizes I.n I.s))
    ∷ number 19 (not (all_have_guess I))
    ∷ []

unfoldable pub inward_answer : Incoming → List ℕ
inward_answer I = verdict (inward_order I)

unfoldable pub guesses_after : Incoming → List ℤ
guesses_after I = if_accepted (inward_answer I) (written I.guess 0 1 (λ (i : ℕ). guess_for I.s (double_at I.values i)) I.n) I.guess

pub record GuessesOf (I : Incoming) (r : Guessed) (guess : List ℤ) : Type 0 where
  pub says : guesses_code r ≡ inward_answer I
  pub guesses : guess ≡ guesses_after I
  pub doubles : guesses_code r ≡ [] → (i : ℕ) → i < I.n → Double (double_at I.values i)
  pub nearest : guesses_code r ≡ [] → (i : ℕ) → i < I.n → Nearest I.s (double_at I.values i) (at guess i)
