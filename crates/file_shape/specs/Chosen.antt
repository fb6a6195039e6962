-- 02, Paper 1: "makes the weight form optional". Forms of which some weights are left out.
--   stays keep f   — f is no weight, or a weight with an i for which `keep` holds
--   chosen keep fs — the forms fs without the other weights;  unweighted fs — without any weight
use Rattle.std.specs.Prelude.{Bool, true, false, cond, List, [], ◌∷◌, ℤ}
use Rattle.line_form.specs.Form.{Form, problem, scale, row, right, right_within, guess, inverse, weight, end}

abbrev pub stays : (ℤ → Bool) → Form → Bool
stays keep (problem n) = true
stays keep (scale s t) = true
stays keep (row i a others) = true
stays keep (right i b) = true
stays keep (right_within i b d) = true
stays keep (guess i x) = true
stays keep (inverse i g others) = true
stays keep (weight i w) = keep i
stays keep end = true

unfoldable pub chosen : (ℤ → Bool) → List Form → List Form
chosen keep [] = []
chosen keep (f ∷ fs) = cond (stays keep f) (f ∷ chosen keep fs) (chosen keep fs)

abbrev pub unweighted : List Form → List Form
unweighted fs = chosen (λ (i : ℤ). false) fs
