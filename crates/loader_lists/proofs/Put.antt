-- Laws of writing a form's numbers into a list, in the shape in which the code meets them.
--   narrow_of — what is known of an item of a part
--   span_fits  — they are inside a list that has room for them
use mathlib.Core.Path.{◌≡◌}
use mathlib.Core.Bool.{Bool, true, false, ◌&&◌, cond}
use Prim.Native.Nat.{ℕ, suc, ◌+◌, ◌*◌, ◌-◌, ◌≤◌}
use native.Mathlib.Nat.{mul-le-mul_right, suc-mul}
use native.Mathlib.Omega.{arith}
use lib.Dec.{eqb}
use lib.IntN.{ℤ, pos, nat_abs}
use lib.Signed.{le_z}
use Rattle.loader_values.specs.Item.{part_index}
use Rattle.loader_values.specs.declared.Item.{Item}
use Rattle.loader_values.specs.declared.Item.TheVariants.{Problem, Scale, Of, End}
use Rattle.loader_values.specs.declared.Part.{Part}
use Rattle.loader_values.proofs.Between.{from_to_lem}
use Rattle.loader_lists.specs.declared.Span.{Span}
use Rattle.loader_lists.specs.Span.{Narrow, Room, nowhere, span_of}

pub narrow_of : (w k : ℕ) (x : Item) → Room w k x → Narrow w x
narrow_of w k (Problem n) h = h
narrow_of w k (Scale s t) h = h
narrow_of w k (Of p i) h = (h.0, h.2)
narrow_of w k End h = h

pub stride : (k w : ℕ) → 1 ≤ k → k ≤ 32 → (k - 1) * w + w ≤ 32 * w
stride k w p q = omega (arith, suc-mul (k - 1) w, mul-le-mul_right {m = suc (k - 1)} {n = 32} w (omega arith))

-- at most 32 places, which end inside the list
pub record InSpan (s : Span) (k : ℕ) : Type 0 where
  pub count_max : s.count ≤ 32
  pub end : s.at + s.count ≤ k

by_part : (w k : ℕ) (i : ℤ) (b : Bool) → (w ≤ 32) × (32 * w ≤ k) × (le_z (pos 1) i && le_z i (pos 32) ≡ true) → InSpan (cond b (record { at = (nat_abs i - 1) * w; count = w }) nowhere) k
by_part w k i true h =
    let b = from_to_lem 1 32 i h.2 in
    record { count_max = h.0; end = omega (arith, stride (nat_abs i) w b.from b.to, h.1) }
by_part w k i false h = record { count_max = omega arith; end = omega arith }

pub span_fits : (p : Part) (w k : ℕ) (x : Item) → Room w k x → InSpan (span_of p x w) k
span_fits p w k (Problem n) h = record { count_max = omega arith; end = omega arith }
span_fits p w k (Scale s t) h = record { count_max = omega arith; end = omega arith }
span_fits p w k (Of q i) h = by_part w k i (eqb (part_index p) (part_index q)) h
span_fits p w k End h = record { count_max = omega arith; end = omega arith }
