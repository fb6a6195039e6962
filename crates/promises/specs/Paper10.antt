-- 02, Paper 10. Half the matrix. "Levelling equations are symmetric, and phones send only the lower half" is its reason. Rows, columns and places count from 0
-- here.
use Rattle.std.specs.Prelude.{false, List, [], ◌∷◌, ◌≡◌, ℕ, ◌+◌, ◌-◌, ◌*◌, ◌/◌, ◌≤◌, ◌<◌, ℤ, length}
use Rattle.linear.specs.Slice.{at}
use Rattle.rules.specs.Refusal.{code, Outcome}
use Rattle.check_spec.specs.Checked.{Checked}
use Rattle.check_spec.specs.Input.{Input}
use Rattle.half_fill.specs.Half.{filled_out}
use Rattle.half_check.specs.Checked.{filled_input, CheckedHalf}
use Rattle.build_lines.specs.Order.{build_code, Built}
use Rattle.build_lines.specs.declared.Observation.{Observation}
use Rattle.build_equations.specs.declared.Layout.TheVariants.{Square, Lower}
use Rattle.build.specs.BuiltAs.{short_for, BuiltAs}

-- "A second entry takes A as rows of 1, 2, .. n numbers, row i and column j (j up to i) at place i(i − 1)/2 + j from 1, in a list of at least 528
-- (`ShortHalfIs8`)": so the filled-out matrix, on both sides
abbrev pub FilledOutIs : Type 0
FilledOutIs =
    (n : ℕ) (half : List ℤ) → n ≤ 32 → (i j : ℕ) → i < n → j ≤ i →
    let stands : ℤ = at half ((i + 1) * ((i + 1) - 1) / 2 + (j + 1) - 1) in (at (filled_out n half) (i * n + j) ≡ stands) × (at (filled_out n half) (j * n + i) ≡ stands)

-- "Where the lent lists are long enough, its outcome for every input equals that of the square entry on the filled-out matrix, refusals and written limits
-- included"
abbrev pub HalfIsSquare : Type 0
HalfIsSquare = (H : Input) (r : Outcome) (E L : List ℕ) → CheckedHalf H r E L → 528 ≤ length H.matrix → Checked (filled_input H) r E L

-- "(8 for a list under 528.)"
abbrev pub ShortHalfIs8 : Type 0
ShortHalfIs8 =
    (H : Input) (r : Outcome) (E L : List ℕ) → CheckedHalf H r E L → length H.matrix < 528 → (code r ≡ 8 ∷ []) × (E ≡ H.solution_bounds) × (L ≡ H.inverse_bounds)

-- "The builder of Paper 3 gains the same form"
abbrev pub HalfBuilt : Type 0
HalfBuilt =
    (n : ℕ) (ls : List Observation) (h b a c : List ℤ) (r s : Built) (h' b' a' c' : List ℤ) → BuiltAs n ls Lower h b r h' b' → BuiltAs n ls Square a c s a' c' →
    short_for Lower h b ≡ false → short_for Square a c ≡ false →
    (build_code r ≡ build_code s) × (build_code r ≡ [] → ((k : ℕ) → k < n * n → at (filled_out n h') k ≡ at a' k) × ((i : ℕ) → i < n → at b' i ≡ at c' i))
