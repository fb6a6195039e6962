-- The capped form and the exact one.
--   placed_capped, outside_capped, miscounted_capped — the tests say the same of both
--   within_alone — 0 is a tolerance in range, so 3 is said alike of (right i (b 0)) and (right i b)
--   item_exact — a form of which they do not hold is its capped form
--   part_same  — parts at the same place are the same;  part_below — there are five
use mathlib.Core.Path.{◌≡◌, refl, sym, ap, ap₂, ◌∙◌}
use mathlib.Core.Bool.{true, false, ◌&&◌}
use Prim.Native.Nat.{ℕ, zero, suc, ◌<◌}
use native.Mathlib.Omega.{arith}
use borrow.Author.Tests.{not-false}
use lib.IntN.{ℤ, pos}
use lib.Signed.{le_z}
use Rattle.rules.specs.Range.{in_range}
use Rattle.rules.specs.declared.Kind.TheVariants as kind
use Rattle.rules.proofs.Ranges.{both_left, both_right, and_true, zero_tolerance}
use Rattle.line_numeral.specs.Numeral.{cap, cap_at}
use Rattle.line_numeral.proofs.Cap.{cap_between, cap_range, cap_small, cap_in}
use Rattle.line_form.specs.Form.{Form, problem, scale, row, right, right_within, guess, inverse, weight, end}
use Rattle.line_form.specs.List.{numbers_of}
use Rattle.line_parts.specs.Line.{capped_form, numbers_in}
use Rattle.loader_values.specs.declared.Item.TheVariants.{Problem, Scale, Of}
use Rattle.loader_values.specs.declared.Part.{Part}
use Rattle.loader_values.specs.declared.Part.TheVariants.{Row, Right, Guess, Inverse, Weight}
use Rattle.loader_values.specs.Item.{item_of, part_index, placed, outside, miscounted}
use Rattle.loader_values.specs.Capped.{item_in, outside_in, miscounted_in}
use Rattle.loader_values.proofs.Between.{from_to_lem}

-- ---- the tests
placed_cap : (n : ℕ) (i : ℤ) → n < cap_at → le_z (pos 1) (cap i) && le_z (cap i) (pos n) ≡ le_z (pos 1) i && le_z i (pos n)
placed_cap n i l = cap_between (pos 1) (pos n) i (omega arith) l

pub placed_capped : (n : ℕ) (f : Form) → n < cap_at → placed n (item_in (capped_form f)) ≡ placed n (item_of f)
placed_capped n (problem m) l = refl
placed_capped n (scale s t) l = refl
placed_capped n (row i a others) l = placed_cap n i l
placed_capped n (right i b) l = placed_cap n i l
placed_capped n (right_within i b d) l = placed_cap n i l
placed_capped n (guess i x) l = placed_cap n i l
placed_capped n (inverse i g others) l = placed_cap n i l
placed_capped n (weight i w) l = placed_cap n i l
placed_capped n end l = refl

-- where no tolerance is given it is 0, which is in range
pub within_alone : (i b : ℤ) → outside (right_within i b (pos 0)) ≡ outside (right i b)
within_alone i b = rw (zero_tolerance, and_true (in_range kind.Right b) refl)

pub outside_capped : (f : Form) → outside_in (capped_form f) (numbers_in f).inside ≡ outside f
unfolding numbers_of
outside_capped (problem n) = rw (cap_range kind.Size n)
outside_capped (scale s t) = rw (cap_range kind.SolutionScale s, cap_range kind.InverseScale t)
outside_capped (row i a others) = refl
outside_capped (right i b) = rw (cap_range kind.Right b) (within_alone i b)
outside_capped (right_within i b d) = rw (cap_range kind.Right b, cap_range kind.Tolerance d)
outside_capped (guess i x) = rw (cap_range kind.Guess x)
outside_capped (inverse i g others) = refl
outside_capped (weight i w) = rw (cap_range kind.Weight w)
outside_capped end = refl

pub miscounted_capped : (n : ℕ) (f : Form) → miscounted_in n (capped_form f) (numbers_in f).count ≡ miscounted n f
unfolding numbers_of
miscounted_capped n (problem m) = refl
miscounted_capped n (scale s t) = refl
miscounted_capped n (row i a others) = refl
miscounted_capped n (right i b) = refl
miscounted_capped n (right_within i b d) = refl
miscounted_capped n (guess i x) = refl
miscounted_capped n (inverse i g others) = refl
miscounted_capped n (weight i w) = refl
miscounted_capped n end = refl

-- ---- a form that is not refused for its numbers
of_exact : (p : Part) (n : ℕ) (i : ℤ) → n < cap_at → le_z (pos 1) i && le_z i (pos n) ≡ true → Of p (cap i) ≡ Of p i
of_exact p n i l h = ap (Of p) (cap_small i (omega (arith, (from_to_lem 1 n i h).to)))

scale_exact : (s t : ℤ) → in_range kind.SolutionScale s && in_range kind.InverseScale t ≡ true → Scale (cap s) (cap t) ≡ Scale s t
scale_exact s t h =
    ap₂ Scale (cap_in kind.SolutionScale s (both_left (in_range kind.SolutionScale s) (in_range kind.InverseScale t) h)) (cap_in kind.InverseScale t (both_right (in_range kind.SolutionScale s) (in_range kind.InverseScale t) h))

pub item_exact : (n : ℕ) (f : Form) → n < cap_at → placed n (item_of f) ≡ true → outside f ≡ false → item_in (capped_form f) ≡ item_of f
item_exact n (problem m) l h o = ap Problem (cap_in kind.Size m (not-false _ o))
item_exact n (scale s t) l h o = scale_exact s t (not-false _ o)
item_exact n (row i a others) l h o = of_exact Row n i l h
item_exact n (right i b) l h o = of_exact Right n i l h
item_exact n (right_within i b d) l h o = of_exact Right n i l h
item_exact n (guess i x) l h o = of_exact Guess n i l h
item_exact n (inverse i g others) l h o = of_exact Inverse n i l h
item_exact n (weight i w) l h o = of_exact Weight n i l h
item_exact n end l h o = refl

-- ---- a part by its place among the five
part_at : ℕ → Part
part_at zero = Row
part_at (suc zero) = Right
part_at (suc (suc zero)) = Guess
part_at (suc (suc (suc zero))) = Inverse
part_at (suc (suc (suc (suc k)))) = Weight

part_at_lem : (p : Part) → part_at (part_index p) ≡ p
unfolding part_at
part_at_lem Row = refl
part_at_lem Right = refl
part_at_lem Guess = refl
part_at_lem Inverse = refl
part_at_lem Weight = refl

pub part_same : (p q : Part) → part_index p ≡ part_index q → p ≡ q
part_same p q e = sym (part_at_lem p) ∙ ap part_at e ∙ part_at_lem q

pub part_below : (p : Part) → part_index p < 5
part_below Row = omega arith
part_below Right = omega arith
part_below Guess = omega arith
part_below Inverse = omega arith
part_below Weight = omega arith
