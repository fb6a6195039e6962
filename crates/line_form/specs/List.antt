-- The numbers of a list, as the code has them: beside a form, since there may be any count of them.
--   no_numbers       — of no list
--   all_inside k zs  — all numbers are in the range of the kind k
--   first_values n zs — the first n of them, capped; 0 where there are fewer
--   numbers_of k zs  — how many, whether all are in range, and the first 32, capped
use Rattle.std.specs.Prelude.{Bool, true, ◌&&◌, List, [], ◌∷◌, ℕ, zero, suc, ℤ, pos, length, replicate}
use Rattle.line_numeral.specs.Numeral.{cap}
use Rattle.rules.specs.Range.{in_range}
use Rattle.rules.specs.declared.Kind.{Kind}
use Rattle.line_form.specs.declared.Numbers.{Numbers}

abbrev pub no_numbers : Numbers
no_numbers = record { count = 0; inside = true; values = replicate 32 (pos 0) }

unfoldable pub all_inside : Kind → List ℤ → Bool
all_inside k [] = true
all_inside k (z ∷ zs) = in_range k z && all_inside k zs

unfoldable pub first_values : ℕ → List ℤ → List ℤ
first_values zero zs = []
first_values (suc n) [] = pos 0 ∷ first_values n []
first_values (suc n) (z ∷ zs) = cap z ∷ first_values n zs

unfoldable pub numbers_of : Kind → List ℤ → Numbers
numbers_of k zs = record { count = length zs; inside = all_inside k zs; values = first_values 32 zs }
