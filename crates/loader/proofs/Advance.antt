-- Laws of the loader after an accepted form, in the shape in which the code meets them.
--   size_small, scale_small, time_small — n, s and t in their ranges are 0 to 32
--   after_problem, after_scale, after_part, after_end — the loader that the code makes
use mathlib.Core.Path.{◌≡◌, refl, sym, subst}
use mathlib.Core.Bool.{true, ◌&&◌}
use mathlib.Core.List.{List}
use Prim.Native.Nat.{ℕ, ◌≤◌}
use native.Mathlib.Omega.{arith}
use borrow.Author.Tests.{le-leb}
use lib.IntN.{ℤ, pos, nat_abs}
use lib.Signed.{le_z}
use Rattle.rules.specs.Range.{in_range, range_of, ranges}
use Rattle.rules.specs.declared.Kind.{Kind}
use Rattle.rules.specs.declared.Kind.TheVariants.{Size, SolutionScale, InverseScale}
use Rattle.rules.proofs.Ranges.{both, both_left, both_right, range_magnitude, range_natural, magnitude_of}
use Rattle.loader_values.specs.declared.Item.{Item}
use Rattle.loader_values.specs.declared.Item.TheVariants.{Problem, Scale, Of, End}
use Rattle.loader_values.specs.declared.Part.{Part}
use Rattle.loader_progress.specs.Progress.{marked}
use Rattle.loader_progress.specs.declared.Stage.TheVariants.{Sized, Scaled, Ended}
use Rattle.loader.specs.declared.Loader.{Loader}
use Rattle.loader.specs.Taken.{after}
use Rattle.loader.specs.Decided.{fits}

within_32 : (z : ℤ) → z ≡ pos (nat_abs z) → nat_abs z ≤ 32 → le_z (pos 0) z && le_z z (pos 32) ≡ true
within_32 z e l = subst (λ (y : ℤ). le_z (pos 0) y && le_z y (pos 32) ≡ true) (sym e) (both (le-leb 0 (nat_abs z) (omega arith)) (le-leb (nat_abs z) 32 l))

small_natural : (k : Kind) (a : ℕ) → (range_of k).lowest ≡ pos a → magnitude_of k ≤ 32 → (z : ℤ) → in_range k z ≡ true → le_z (pos 0) z && le_z z (pos 32) ≡ true
small_natural k a e l z h = within_32 z (range_natural k a z e h).0 (omega (arith, range_magnitude k z h))

module _ {x : Item} where
  pub size_small : {n : ℤ} → x ≡ Problem n → fits x ≡ true → le_z (pos 0) n && le_z n (pos 32) ≡ true
  unfolding range_of ranges
  size_small {n} e h = small_natural Size 1 refl (omega arith) n (rw e at h)

  scales : {s t : ℤ} → x ≡ Scale s t → fits x ≡ true → in_range SolutionScale s && in_range InverseScale t ≡ true
  scales e h = rw e at h

  pub scale_small : {s t : ℤ} → x ≡ Scale s t → fits x ≡ true → le_z (pos 0) s && le_z s (pos 32) ≡ true
  unfolding range_of ranges
  scale_small {s} {t} e h = small_natural SolutionScale 0 refl (omega arith) s (both_left (in_range SolutionScale s) (in_range InverseScale t) (scales e h))

  pub time_small : {s t : ℤ} → x ≡ Scale s t → fits x ≡ true → le_z (pos 0) t && le_z t (pos 32) ≡ true
  unfolding range_of ranges
  time_small {s} {t} e h = small_natural InverseScale 0 refl (omega arith) t (both_right (in_range SolutionScale s) (in_range InverseScale t) (scales e h))

  module _ (d : Loader) where
    pub after_problem : {n : ℤ} {m : ℕ} → x ≡ Problem n → m ≡ nat_abs n → record { n = m; s = d.s; t = d.t; stage = Sized; sets = d.sets } ≡ after d x
    after_problem e f = rw (e, f)

    pub after_scale : {s t : ℤ} {u v : ℕ} → x ≡ Scale s t → u ≡ nat_abs s → v ≡ nat_abs t → record { n = d.n; s = u; t = v; stage = Scaled; sets = d.sets } ≡ after d x
    after_scale e f g = rw (e, f, g)

    pub after_part : {p : Part} {i : ℤ} {j : ℕ} {z : List ℕ} → x ≡ Of p i → j ≡ nat_abs i → z ≡ marked d.sets p j → record { n = d.n; s = d.s; t = d.t; stage = d.stage; sets = z } ≡ after d x
    after_part e f g = rw (e, g, f)

    pub after_end : x ≡ End → record { n = d.n; s = d.s; t = d.t; stage = Ended; sets = d.sets } ≡ after d x
    after_end e = rw e
