-- The order of a line before Paper 6 of 02, which is document 01's: "Order for a line: 8, 14, 1, 2, 11, 3, 4, 12, 13". Only theorems that compare the two orders cite it (proofs/Changed.antt).
--   order_before c — the tests in that order;  answer_before d l line — what was said of a line
--   loader_before, lists_before — what was left of it;  step_before — the state after it
--   read_before k u lines — the lines at the state u, after k others;  refused_before u lines — the first of them that was refused
--   Becomes12 d x w — w, said before of the form x at the loader d, becomes 12 (02: "exactly each 3 or 4 for a kind and i given already, i in range, and each 3
--     for a second problem or scale form");  ThreeOrFour w — w is 3 or 4
use Rattle.std.specs.Prelude.{true, List, [], ◌∷◌, ◌≡◌, ℕ, ◌+◌, ℤ, nat_abs}
use Rattle.rules.specs.Order.{Test, number, verdict, if_accepted}
use Rattle.line_form.specs.Form.{Form}
use Rattle.line_form.specs.Reading.{reading}
use Rattle.loader_values.specs.Item.{item_of, placed}
use Rattle.loader_values.specs.declared.Item.{Item}
use Rattle.loader_values.specs.declared.Item.TheVariants.{Problem, Scale, Of}
use Rattle.loader_values.specs.declared.Part.{Part}
use Rattle.loader_lists.specs.Lists.{Lists}
use Rattle.loader_progress.specs.Progress.{given, sized, scaled}
use Rattle.loader_order.specs.Order.{LineCase}
use Rattle.loader.specs.declared.Loader.{Loader}
use Rattle.loader.specs.Answer.{case_of, of_form}
use Rattle.loader.specs.Taken.{after, lists_with}
use Rattle.loader_runs.specs.Run.{State}
use Rattle.loader_runs.specs.Read.{Reading}

abbrev pub order_before : LineCase → List Test
order_before c =
    number 8 c.short
    ∷ number 14 c.ended
    ∷ number 1 c.long
    ∷ number 2 c.unspelled
    ∷ number 11 c.early
    ∷ number 3 c.misplaced
    ∷ number 3 c.outside
    ∷ number 4 c.miscounted
    ∷ number 12 c.repeated
    ∷ record { says = 13 ∷ c.missing ∷ []; holds = c.incomplete }
    ∷ []

unfoldable pub answer_before : Loader → Lists → List ℕ → List ℕ
answer_before d l line = verdict (order_before (case_of d l line))

unfoldable pub loader_before : Loader → Lists → List ℕ → Loader
loader_before d l line = if_accepted (answer_before d l line) (of_form (reading line) d (λ (f : Form). after d (item_of f))) d

unfoldable pub lists_before : Loader → Lists → List ℕ → Lists
lists_before d l line = if_accepted (answer_before d l line) (of_form (reading line) l (λ (f : Form). lists_with d f l)) l

abbrev pub step_before : State → List ℕ → State
step_before u line = record { loader = loader_before u.loader u.lists line; lists = lists_before u.loader u.lists line }

unfoldable pub read_before : ℕ → State → List (List ℕ) → Reading
read_before k u [] = record { code = []; line = k; state = u }
read_before k u (line ∷ lines) =
    let code = answer_before u.loader u.lists line in
    if_accepted code (read_before (k + 1) (step_before u line) lines) (record { code = code; line = k + 1; state = u })

unfoldable pub refused_before : State → List (List ℕ) → List ℕ
refused_before u [] = []
refused_before u (line ∷ lines) = if_accepted (answer_before u.loader u.lists line) (refused_before (step_before u line) lines) line

pub data ThreeOrFour : List ℕ → Type 0 where
  three : ThreeOrFour (3 ∷ [])
  four : ThreeOrFour (4 ∷ [])

pub data Becomes12 (d : Loader) : Item → List ℕ → Type 0 where
  part : {p : Part} {i : ℤ} {w : List ℕ} → given d.sets p (nat_abs i) ≡ true → placed d.n (Of p i) ≡ true → ThreeOrFour w → Becomes12 d (Of p i) w
  second_problem : {n : ℤ} → sized d.stage ≡ true → Becomes12 d (Problem n) (3 ∷ [])
  second_scale : {s t : ℤ} → scaled d.stage ≡ true → Becomes12 d (Scale s t) (3 ∷ [])
