-- The theorems for specs/Paper04.
use mathlib.Core.List.{List}
use mathlib.Core.Path.{◌≡◌, ap, ◌∙◌}
use Prim.Native.Nat.{ℕ, ◌+◌, ◌*◌, ◌<◌}
use native.Mathlib.Nat.{mul-one, add_comm}
use native.Mathlib.Omega.{arith}
use lib.ListN.{get_or}
use Rattle.std.specs.List.{between}
use Rattle.std.proofs.lemmas.List.Edits.{get_or-between}
use Rattle.linear.specs.Place.{Carried, place_of}
use Rattle.promises.specs.Paper04 as paper

pub carried_is_place : paper.CarriedIsPlace
carried_is_place n i j k place = (λ c. c.is ∙ rw (mul-one k), λ c. c.is ∙ add_comm j (k * n))

part_read : {A : Type 0} (w n i k row : ℕ) → Carried 0 w i row → k < n → (xs : List A) (d : A) → get_or (between row (row + n) xs) k d ≡ get_or xs (place_of w i k) d
part_read w n i k row c l xs d =
    let e : row + k ≡ place_of w i k = omega (arith, c.is) in
    get_or-between xs row (row + n) k d (omega arith) ∙ ap (λ p. get_or xs p d) e

pub part_is_place : paper.PartIsPlace
part_is_place w n i k row c l = (part_read w n i k row c l, part_read w n i k row c l)
