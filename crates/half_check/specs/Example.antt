-- Document 01's whole file by its lower half.
--   file_half  — the half of its matrix (4 −1 / −1 3), in a list of 528 numbers, which is just long enough
--   file_halved — its numbers in lists, the matrix by its half
use Rattle.std.specs.Prelude.{List, ◌∷◌, ℤ, pos, negsuc, replicate}
use Rattle.check_spec.specs.Cases.{case_input, e}
use Rattle.check_spec.specs.Input.{Input}
use Rattle.half_check.specs.Checked.{with_matrix}

abbrev pub file_half : List ℤ
file_half = pos 4 ∷ negsuc 0 ∷ pos 3 ∷ replicate 525 (pos 0)

abbrev pub file_halved : Input
file_halved = with_matrix (case_input e) file_half
