-- What the inner functions of the crate answer. `line_of` is the whole of them, which proofs/ shows; nothing of it rests on this file.
--   kind_of w       — the kind against whose range the numbers of a list are tested, in a row and in a row of the inverse; any kind for the other words, of
--     which no such test is kept: beside_of drops it, and the two numbers of a right side are tested with its values
--   last_in s ..    — the place of the last bracket of the line s, from its head, a first number, a second one, and a list
--   capped_right i v l — the form of the word right: with the second number where the list has one number, else with the first two of the list
--   capped_of w i v l — the form of the word w with the number i and a second one, or a list
--   has_list w      — whether the numbers of its list stand beside it;  beside_of w l — the numbers beside it
--   decided s ..   — what the line s is by its reading, from its head, a first number, a second one, a list, and the place after its last bracket
use Rattle.std.specs.Prelude.{Bool, true, false, cond, List, ℕ, eqb, ℤ, pos, length, get_or, Ok}
use Rattle.line_numeral.specs.Numeral.{lost}
use Rattle.line_numeral.specs.declared.Number.{Number}
use Rattle.rules.specs.declared.Kind.{Kind}
use Rattle.rules.specs.declared.Kind.TheVariants as kind
use Rattle.rules.specs.declared.Refusal.TheVariants.{NoForm}
use Rattle.line_parts.specs.declared.CappedForm.{CappedForm}
use Rattle.line_parts.specs.declared.CappedForm.TheVariants as capped
use Rattle.line_parts.specs.declared.Line.{Line}
use Rattle.line_form.specs.declared.Head.{Head}
use Rattle.line_form.specs.declared.Listed.{Listed}
use Rattle.line_form.specs.declared.Numbers.{Numbers}
use Rattle.line_form.specs.declared.Word.{Word}
use Rattle.line_form.specs.declared.Word.TheVariants.{Problem, Scale, Row, Right, Guess, Inverse, Weight, End}
use Rattle.line_form.specs.Form.{bytes}
use Rattle.line_form.specs.List.{no_numbers}
use Rattle.line_form.specs.Reading.{word_at, right_last, last_of}
use Rattle.line_parts.specs.Line.{refused}

abbrev pub kind_of : Word → Kind
kind_of Problem = kind.Matrix
kind_of Scale = kind.Matrix
kind_of Row = kind.Matrix
kind_of Right = kind.Matrix
kind_of Guess = kind.Matrix
kind_of Inverse = kind.Inverse
kind_of Weight = kind.Matrix
kind_of End = kind.Matrix

abbrev pub last_in : List ℕ → Head → Number → Number → Listed → ℕ
last_in s h i v l =
    last_of h.word h.next i.next v.next (word_at s l.next (bytes ")")) (right_last l.numbers.count v.next (word_at s l.next (bytes ")")) (lost s))

abbrev pub capped_right : ℤ → ℤ → Numbers → CappedForm
capped_right i v l = cond (eqb l.count 1) (capped.Right i v (pos 0)) (capped.Right i (get_or l.values 0 (pos 0)) (get_or l.values 1 (pos 0)))

abbrev pub capped_of : Word → ℤ → ℤ → Numbers → CappedForm
capped_of Problem i v l = capped.Problem i
capped_of Scale i v l = capped.Scale i v
capped_of Row i v l = capped.Row i
capped_of Right i v l = capped_right i v l
capped_of Guess i v l = capped.Guess i v
capped_of Inverse i v l = capped.Inverse i
capped_of Weight i v l = capped.Weight i v
capped_of End i v l = capped.End

abbrev pub has_list : Word → Bool
has_list Problem = false
has_list Scale = false
has_list Row = true
has_list Right = false
has_list Guess = false
has_list Inverse = true
has_list Weight = false
has_list End = false

abbrev pub beside_of : Word → Numbers → Numbers
beside_of w l = cond (has_list w) l no_numbers

unfoldable pub decided : List ℕ → Head → Number → Number → Listed → ℕ → Line
decided s h i v l e = cond (eqb e (length s)) (record { answer = Ok (capped_of h.word i.value v.value l.numbers); numbers = beside_of h.word l.numbers }) (refused NoForm)
