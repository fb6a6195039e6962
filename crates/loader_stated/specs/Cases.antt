-- Lines and what is said of them: each refusal of a line has one, some with a later refusal that holds too.
--   LineRow         — forms that a new loader was given; a line; what is said of it then
--   after_forms d fs — the loader d after the forms fs
--   two_equations    — problem, scale and row 1 of two equations;  one_equation — all of one equation, with its end
--   line_rows        — such lines, and what is said of them
--   RowsStated      — with whatever lists that are long enough, what is said has its stated case
--   short_ones       — lists that are too short;  forged — a loader that `new` and `take` never make, its own n out of range
use Rattle.std.specs.Prelude.{List, [], ◌∷◌, ℕ, ℤ, pos, negsuc, replicate}
use Rattle.line_form.specs.Form.{Form, problem, scale, row, right, guess, inverse, end, bytes}
use Rattle.loader_values.specs.Item.{item_of}
use Rattle.loader_lists.specs.Lists.{Lists, lists}
use Rattle.loader_progress.specs.declared.Stage.TheVariants.{Scaled}
use Rattle.loader.specs.declared.Loader.{Loader}
use Rattle.loader.specs.Taken.{fresh, after}
use Rattle.loader_stated.specs.Stated.{LineStated}

pub record LineRow : Type 0 where
  pub before : List Form
  pub line : List ℕ
  pub says : List ℕ

abbrev pub after_forms : Loader → List Form → Loader
after_forms d [] = d
after_forms d (f ∷ fs) = after_forms (after d (item_of f)) fs

abbrev pub two_equations : List Form
two_equations = problem (pos 2) ∷ scale (pos 4) (pos 4) ∷ row (pos 1) (pos 4) (negsuc 0 ∷ []) ∷ []

abbrev pub one_equation : List Form
one_equation = problem (pos 1) ∷ scale (pos 4) (pos 4) ∷ row (pos 1) (pos 4) [] ∷ right (pos 1) (pos 0) ∷ guess (pos 1) (pos 0) ∷ inverse (pos 1) (pos 4) [] ∷ end ∷ []

abbrev pub line_rows : List LineRow
line_rows =
    -- 14, be it too long as well
    record { before = one_equation; line = bytes "(end)"; says = 14 ∷ [] }
    ∷ record { before = one_equation; line = replicate 321 40; says = 14 ∷ [] }
    -- 1
    ∷ record { before = []; line = replicate 321 40; says = 1 ∷ [] }
    -- 2: a space too many, an empty line
    ∷ record { before = two_equations; line = bytes "(row  2 (-1 3))"; says = 2 ∷ [] }
    ∷ record { before = []; line = []; says = 2 ∷ [] }
    -- 11, whatever i is
    ∷ record { before = []; line = bytes "(scale 4 4)"; says = 11 ∷ [] }
    ∷ record { before = problem (pos 2) ∷ []; line = bytes "(row 3 (4 -1))"; says = 11 ∷ [] }
    -- 3 for i
    ∷ record { before = two_equations; line = bytes "(row 3 (4 -1))"; says = 3 ∷ [] }
    ∷ record { before = two_equations; line = bytes "(row 0 (4))"; says = 3 ∷ [] }
    -- 12, whatever the values and their count
    ∷ record { before = two_equations; line = bytes "(row 1 (4 -1))"; says = 12 ∷ [] }
    ∷ record { before = two_equations; line = bytes "(row 1 (1048577))"; says = 12 ∷ [] }
    ∷ record { before = two_equations; line = bytes "(problem 33)"; says = 12 ∷ [] }
    -- 3 for values, whatever their count
    ∷ record { before = two_equations; line = bytes "(row 2 (1048577))"; says = 3 ∷ [] }
    ∷ record { before = []; line = bytes "(problem 33)"; says = 3 ∷ [] }
    -- 4
    ∷ record { before = two_equations; line = bytes "(row 2 (-1 3 0))"; says = 4 ∷ [] }
    -- 13: row 2, two right sides, two guesses, two inverse rows
    ∷ record { before = two_equations; line = bytes "(end)"; says = 13 ∷ 7 ∷ [] }
    -- accepted
    ∷ record { before = two_equations; line = bytes "(row 2 (-1 3))"; says = [] }
    ∷ []

abbrev pub RowsStated : Lists → List LineRow → Type 0
RowsStated l [] = Unit
RowsStated l (c ∷ cs) = LineStated (after_forms fresh c.before) l c.line c.says × RowsStated l cs

abbrev pub short_ones : Lists
short_ones = let none : List ℤ = [] in lists none none none none none none

abbrev pub forged : Loader
forged = record { n = 33; s = 4; t = 4; stage = Scaled; sets = replicate 5 0 }
