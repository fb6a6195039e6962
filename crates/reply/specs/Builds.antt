-- What the last step of a build says in numbers; cited by the contract of `finish_status` alone.
--   FinishedStatus — the number of an answer that `Finished` holds of, with both lists as there; and the line that was refused while the
--                  lines were gathered, 0 where none was
use Rattle.std.specs.Prelude.{List, ◌≡◌, ℕ, ℤ, get_or}
use Rattle.build_lines.specs.Order.{Built, build_code}
use Rattle.build_gathering.specs.declared.Gathered.{Gathered}
use Rattle.build_gathering.specs.Gathered.{line_number_of}
use Rattle.build_equations.specs.declared.Layout.{Layout}
use Rattle.build.specs.Finished.{Finished}

pub record FinishedStatus (g : Gathered) (layout : Layout) (a b : List ℤ) (number : ℕ) (a' b' : List ℤ) (line : ℕ) : Type 0 where
  pub answer : Built
  pub finished : Finished g layout a b answer a' b'
  pub number_is : number ≡ get_or (build_code answer) 0 0
  pub line_is : line ≡ line_number_of g
