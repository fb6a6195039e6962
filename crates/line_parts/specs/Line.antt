-- What a line is, as the code has it: the exact reading, its numbers capped; or 01's refusals 1 and 2.
--   capped_form f — the form with its numbers capped; 02, Paper 5: "(right i b) means d = 0"
--   numbers_in f  — the numbers of its list, beside it
--   refused r    — the line that is refused with r;  of_reading o — what a line is by its reading: 2 where it is no form
--   line_of s     — what the line s is: 1 above 320 bytes, else by its reading
--   line_code a — 01's number for an answer; nothing where it is a form
use Rattle.std.specs.Prelude.{cond, List, [], ◌∷◌, ℕ, ltb, pos, length, Result, Ok, Err}
use Rattle.std.proofs.Math.Option.{Option, none, some}
use Rattle.line_numeral.specs.Numeral.{cap}
use Rattle.rules.specs.Refusal.{number_of, values_of}
use Rattle.rules.specs.declared.Kind.TheVariants as kind
use Rattle.rules.specs.declared.Refusal.{Refusal}
use Rattle.rules.specs.declared.Refusal.TheVariants.{TooLong, NoForm}
use Rattle.line_parts.specs.declared.CappedForm.{CappedForm}
use Rattle.line_parts.specs.declared.CappedForm.TheVariants.{Problem, Scale, Row, Right, Guess, Inverse, Weight, End}
use Rattle.line_parts.specs.declared.Line.{Line}
use Rattle.line_form.specs.declared.Numbers.{Numbers}
use Rattle.line_form.specs.Form.{Form, problem, scale, row, right, right_within, guess, inverse, weight, end}
use Rattle.line_form.specs.Reading.{reading}
use Rattle.line_form.specs.List.{no_numbers, numbers_of}

abbrev pub capped_form : Form → CappedForm
capped_form (problem n) = Problem (cap n)
capped_form (scale s t) = Scale (cap s) (cap t)
capped_form (row i a others) = Row (cap i)
capped_form (right i b) = Right (cap i) (cap b) (pos 0)
capped_form (right_within i b d) = Right (cap i) (cap b) (cap d)
capped_form (guess i x) = Guess (cap i) (cap x)
capped_form (inverse i g others) = Inverse (cap i)
capped_form (weight i w) = Weight (cap i) (cap w)
capped_form end = End

abbrev pub numbers_in : Form → Numbers
numbers_in (problem n) = no_numbers
numbers_in (scale s t) = no_numbers
numbers_in (row i a others) = numbers_of kind.Matrix (a ∷ others)
numbers_in (right i b) = no_numbers
numbers_in (right_within i b d) = no_numbers
numbers_in (guess i x) = no_numbers
numbers_in (inverse i g others) = numbers_of kind.Inverse (g ∷ others)
numbers_in (weight i w) = no_numbers
numbers_in end = no_numbers

abbrev pub refused : Refusal → Line
refused r = record { answer = Err r; numbers = no_numbers }

abbrev pub of_reading : Option Form → Line
of_reading none = refused NoForm
of_reading (some f) = record { answer = Ok (capped_form f); numbers = numbers_in f }

unfoldable pub line_of : List ℕ → Line
line_of s = cond (ltb 320 (length s)) (refused TooLong) (of_reading (reading s))

abbrev pub line_code : Result CappedForm Refusal → List ℕ
line_code (Ok f) = []
line_code (Err r) = number_of r ∷ values_of r
