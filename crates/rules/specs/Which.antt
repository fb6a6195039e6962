-- Of two, nets or proposals, a refusal says which one it is of: 1 or 2, or 0 where it is of neither, stands before its number.
--   is_code l    — something is said
--   of_one i l   — the test of the one with the number i, of which l is said;  of_neither k b — that of a refusal k that is of neither
--   which_of l   — of which one the refusal is; 0 where it is of neither, and where nothing is said
--   refusal_of l — its number and values; none where nothing is said
use Rattle.std.specs.Prelude.{Bool, true, false, List, [], ◌∷◌, ℕ}
use Rattle.rules.specs.Order.{Test}

abbrev pub is_code : List ℕ → Bool
is_code [] = false
is_code (k ∷ l) = true

abbrev pub of_one : ℕ → List ℕ → Test
of_one i l = record { says = i ∷ l; holds = is_code l }

abbrev pub of_neither : ℕ → Bool → Test
of_neither k b = record { says = 0 ∷ k ∷ []; holds = b }

abbrev pub which_of : List ℕ → ℕ
which_of [] = 0
which_of (i ∷ l) = i

abbrev pub refusal_of : List ℕ → List ℕ
refusal_of [] = []
refusal_of (i ∷ l) = l
