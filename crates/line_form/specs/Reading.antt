-- The exact reading of a line, from left to right, by places: each part is read at the place after the part before it.
--   opening w       — how a form of the word w starts
--   starts w l      — the list l starts with the bytes w
--   word_at s at w   — the place after the bytes w, where they stand at the place
--   or_word s at h w o — h, or the word w with the opening o where h is none;  first_of s at h ws — h, or the first of the words ws where h is none
--   head_at s at     — the first of the eight words whose opening stands at the place
--   Others, others_at s f at — the further numbers of a list, each after a single space (32), at most f, and the place after them
--   first_number, second_number — by the place h after the opening: the number there, and the number after a single space
--   front, others, close — the first number of a list there, the others, and the place after the list's bracket
--   right_last c ..  — the place of the last bracket of a form of the word right, by the count c of the numbers in the list that stands there
--   last_of w ..     — the place of a form's last bracket, by its word;  end_of — the place after it
--   form_of w i v a zs — the form of the word w from a first number, a second one, and a list;  form_at s w h — that whose opening ends at the place h
--   reading s       — the form that the line s is, if it is one; it is one where the line ends after its last bracket
use Rattle.std.specs.Prelude.{Bool, true, false, ◌&&◌, cond, List, [], ◌∷◌, ℕ, zero, suc, ◌+◌, eqb, leb, ℤ, length, drop, get_or}
use Rattle.std.proofs.Math.Option.{Option, none, some}
use Rattle.line_numeral.specs.Numeral.{lost, number_at}
use Rattle.line_numeral.specs.declared.Number.{Number}
use Rattle.line_form.specs.declared.Head.{Head}
use Rattle.line_form.specs.declared.Word.{Word}
use Rattle.line_form.specs.declared.Word.TheVariants.{Problem, Scale, Row, Right, Guess, Inverse, Weight, End}
use Rattle.line_form.specs.Form.{bytes, Form, problem, scale, row, right, right_within, guess, inverse, weight, end}

abbrev pub opening : Word → List ℕ
opening Problem = bytes "(problem "
opening Scale = bytes "(scale "
opening Row = bytes "(row "
opening Right = bytes "(right "
opening Guess = bytes "(guess "
opening Inverse = bytes "(inverse "
opening Weight = bytes "(weight "
opening End = bytes "(end"

unfoldable pub starts : List ℕ → List ℕ → Bool
starts [] l = true
starts (w ∷ ws) [] = false
starts (w ∷ ws) (b ∷ bs) = eqb b w && starts ws bs

unfoldable pub word_at : List ℕ → ℕ → List ℕ → ℕ
word_at s at w = cond (starts w (drop at s)) (at + length w) (lost s)

unfoldable pub or_word : List ℕ → ℕ → Head → Word → List ℕ → Head
or_word s at h w o = cond (leb h.next (length s)) h (record { word = w; next = word_at s at o })

unfoldable pub first_of : List ℕ → ℕ → Head → List Word → Head
first_of s at h [] = h
first_of s at h (w ∷ ws) = first_of s at (or_word s at h w (opening w)) ws

unfoldable pub head_at : List ℕ → ℕ → Head
head_at s at = first_of s at (record { word = End; next = lost s }) (Problem ∷ Scale ∷ Row ∷ Right ∷ Guess ∷ Inverse ∷ Weight ∷ End ∷ [])

pub record Others : Type 0 where
  pub values : List ℤ
  pub next : ℕ

unfoldable pub others_at : List ℕ → ℕ → ℕ → Others
others_at s zero at = record { values = []; next = at }
others_at s (suc f) at =
    cond (eqb (get_or s at 0) 32)
    (record {
      values = (number_at s (at + 1)).value ∷ (others_at s f (number_at s (at + 1)).next).values;
      next = (others_at s f (number_at s (at + 1)).next).next;
    })
    (record { values = []; next = at })

abbrev pub first_number : List ℕ → ℕ → Number
first_number s h = number_at s h

abbrev pub second_number : List ℕ → ℕ → Number
second_number s h = number_at s (word_at s (first_number s h).next (bytes " "))

abbrev pub front : List ℕ → ℕ → Number
front s h = number_at s (word_at s (first_number s h).next (bytes " ("))

abbrev pub others : List ℕ → ℕ → Others
others s h = others_at s (length s) (front s h).next

abbrev pub close : List ℕ → ℕ → ℕ
close s h = word_at s (others s h).next (bytes ")")

-- 02, Paper 5: "a list of other than two numbers there is 2". Where no list stands there, or one of a single number, it is the place after the
-- second number, which is lost where there is none; after a list of two numbers it is the place after the list; after more it is lost.
abbrev pub right_last : ℕ → ℕ → ℕ → ℕ → ℕ
right_last c v l other = cond (eqb c 1) v (cond (eqb c 2) l other)

abbrev pub last_of : Word → ℕ → ℕ → ℕ → ℕ → ℕ → ℕ
last_of Problem h i v l r = i
last_of Scale h i v l r = v
last_of Row h i v l r = l
last_of Right h i v l r = r
last_of Guess h i v l r = v
last_of Inverse h i v l r = l
last_of Weight h i v l r = v
last_of End h i v l r = h

abbrev pub end_of : List ℕ → Word → ℕ → ℕ
end_of s w h =
    word_at s (last_of w h (first_number s h).next (second_number s h).next (close s h) (right_last (suc (length (others s h).values)) (second_number s h).next (close s h) (lost s))) (bytes ")")

abbrev pub form_of : Word → ℤ → ℤ → ℤ → List ℤ → Form
form_of Problem i v a zs = problem i
form_of Scale i v a zs = scale i v
form_of Row i v a zs = row i a zs
form_of Right i v a [] = right i v
form_of Right i v a (d ∷ zs) = right_within i a d
form_of Guess i v a zs = guess i v
form_of Inverse i v a zs = inverse i a zs
form_of Weight i v a zs = weight i v
form_of End i v a zs = end

abbrev pub form_at : List ℕ → Word → ℕ → Form
form_at s w h = form_of w (first_number s h).value (second_number s h).value (front s h).value (others s h).values

unfoldable pub reading : List ℕ → Option Form
reading s = cond (eqb (end_of s (head_at s 0).word (head_at s 0).next) (length s)) (some (form_at s (head_at s 0).word (head_at s 0).next)) none
