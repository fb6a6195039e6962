-- What the exported builder says and leaves.
--   BuildExported — the contract of `kodarfi_build` and `kodarfi_build_half`, each with its layout: the number of an answer that `BuiltAs`, the contract of
--                   `build::build`, holds of, 0 where the equations are built; both lists as there
--   BuildLineExported — that of `kodarfi_build_line` and `kodarfi_build_half_line`: the same, and the line that is refused
use Rattle.std.specs.Prelude.{List, ◌≡◌, ℕ, ℤ, get_or}
use Rattle.build_lines.specs.Order.{Built, build_code}
use Rattle.build_lines.specs.declared.Observation.{Observation}
use Rattle.build_lines.specs.Refused.{build_line}
use Rattle.build_equations.specs.declared.Layout.{Layout}
use Rattle.build.specs.BuiltAs.{short_for, BuiltAs}

pub record BuildExported (n : ℕ) (ls : List Observation) (layout : Layout) (matrix right : List ℤ) (number : ℕ) (new_matrix new_right : List ℤ) : Type 0 where
  pub answer : Built
  pub built : BuiltAs n ls layout matrix right answer new_matrix new_right
  pub number_is : number ≡ get_or (build_code answer) 0 0

pub record BuildLineExported (n : ℕ) (ls : List Observation) (layout : Layout) (matrix right : List ℤ) (number : ℕ) (new_matrix new_right : List ℤ) (line : ℕ) : Type 0 where
  pub exported : BuildExported n ls layout matrix right number new_matrix new_right
  pub line_is : line ≡ build_line n ls (short_for layout matrix right)
