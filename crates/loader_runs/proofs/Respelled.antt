-- Lines that differ only in how a right side without tolerance is spelled are read alike, at every state.
--   respelled_read
use mathlib.Core.Path.{◌≡◌, refl}
use mathlib.Core.List.{List, ◌∷◌}
use Prim.Native.Nat.{ℕ, ◌+◌, ◌≤◌}
use native.Mathlib.Omega.{arith}
use lib.IntN.{ℤ, pos}
use lib.ListN.{length, length-append}
use Rattle.line_form.specs.Form.{right, right_within}
use Rattle.line_form.specs.Spelling.{numerals, spell}
use Rattle.line_form.proofs.Spelling.{read_spelled}
use Rattle.loader.proofs.Alike.{Alike, alike}
use Rattle.loader_runs.specs.Run.{State, step}
use Rattle.loader_runs.specs.Read.{read_from}
use Rattle.loader_runs.specs.Respelled.{Respelled, none, same, alone}

-- the shorter spelling is no longer than the other
shorter : (i b : ℤ) → length (spell (right_within i b (pos 0))) ≤ 320 → length (spell (right i b)) ≤ 320
unfolding spell numerals
shorter i b h = simp length-append (omega (arith, simp length-append at h))

either_spelling : (u : State) (i b : ℤ) → length (spell (right_within i b (pos 0))) ≤ 320 → Alike u.loader u.lists (spell (right i b)) (spell (right_within i b (pos 0)))
either_spelling u i b h =
    alike u.loader u.lists i b (spell (right i b)) (spell (right_within i b (pos 0))) (shorter i b h) h (read_spelled (right i b)) (read_spelled (right_within i b (pos 0)))

-- two lines that are taken alike, at the front of lines that are read alike
respelled_front : (k : ℕ) (u : State) (line line' : List ℕ) (lines lines' : List (List ℕ)) → Alike u.loader u.lists line line' →
    ((j : ℕ) (v : State) → read_from j v lines ≡ read_from j v lines') → read_from k u (line ∷ lines) ≡ read_from k u (line' ∷ lines')
unfolding read_from
respelled_front k u line line' lines lines' a h = rw (a.says, a.loader, a.lists, h (k + 1) (step u line'))

pub respelled_read : (k : ℕ) (u : State) {lines lines' : List (List ℕ)} → Respelled lines lines' → read_from k u lines ≡ read_from k u lines'
respelled_read k u none = refl
respelled_read k u (same {lines} {lines'} line h) = respelled_front k u line line lines lines' (record { says = refl; loader = refl; lists = refl }) (λ j v. respelled_read j v h)
respelled_read k u (alone {lines} {lines'} i b length_max h) = respelled_front k u (spell (right i b)) (spell (right_within i b (pos 0))) lines lines' (either_spelling u i b length_max) (λ j v. respelled_read j v h)
