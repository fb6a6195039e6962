-- Doubles by their bits, and the guesses that they give: rows of a table that one theorem covers (proofs/Table).
--   GuessRow, guess_row — s, the bits of a double, and its guess: nothing where it gives none
--   guess_given s b, same_guess — the guess as a list of none or one, and that two such lists are equal
--   guess_rows_hold rows — each row is as it says;  guess_rows — the table
use Rattle.std.specs.Prelude.{Bool, true, false, ◌&&◌, cond, List, [], ◌∷◌, ℕ, ◌^◌, ℤ, pos, negsuc}
use Rattle.std.specs.Float.{binary64}
use Rattle.std.specs.Float.Ieee.{of_bits}
use Rattle.std.specs.Int.Signed.{le_z}
use Rattle.doubles_guess.specs.Guess.{guess_for, has_guess}

pub record GuessRow : Type 0 where
  pub s : ℕ
  pub bits : ℕ
  pub guess : List ℤ

abbrev pub guess_row : ℕ → ℕ → List ℤ → GuessRow
guess_row s bits guess = record { s = s; bits = bits; guess = guess }

abbrev pub guess_given : ℕ → ℕ → List ℤ
guess_given s bits = cond (has_guess s (of_bits binary64 bits)) (guess_for s (of_bits binary64 bits) ∷ []) []

abbrev pub same_guess : List ℤ → List ℤ → Bool
same_guess [] [] = true
same_guess [] (y ∷ ys) = false
same_guess (x ∷ xs) [] = false
same_guess (x ∷ xs) (y ∷ ys) = le_z x y && (le_z y x && same_guess xs ys)

abbrev pub guess_rows_hold : List GuessRow → Bool
guess_rows_hold [] = true
guess_rows_hold (r ∷ rs) = same_guess (guess_given r.s r.bits) r.guess && guess_rows_hold rs

unfoldable pub guess_rows : List GuessRow
guess_rows =
    guess_row 0 0 (pos 0 ∷ [])  -- 0
    ∷ guess_row 0 9223372036854775808 (pos 0 ∷ [])  -- minus zero
    ∷ guess_row 20 1 (pos 0 ∷ [])  -- 2^-1074, the smallest subnormal
    ∷ guess_row 0 4602678819172646912 (pos 1 ∷ [])  -- 0.5
    ∷ guess_row 0 4602678819172646911 (pos 0 ∷ [])  -- the double below it
    ∷ guess_row 0 13826050856027422720 (negsuc 0 ∷ [])  -- -0.5
    ∷ guess_row 0 4612811918334230528 (pos 3 ∷ [])  -- 2.5: not the even neighbour
    ∷ guess_row 0 13836183955189006336 (negsuc 2 ∷ [])  -- -2.5
    ∷ guess_row 20 4512606826625236992 (pos 1 ∷ [])  -- 2^-21: half a step
    ∷ guess_row 0 4769312005385355264 (pos (2 ^ 36) ∷ [])  -- 2^36
    ∷ guess_row 0 4769312005385388032 []  -- 2^36 + 1/2
    ∷ guess_row 0 9218868437227405312 []  -- infinity
    ∷ guess_row 0 9221120237041090560 []  -- not a number
    ∷ []
