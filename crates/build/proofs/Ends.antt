-- Laws of the ends of `finish`.
--   finish_done, finish_refused — the equations written, and what was said before
--   matrix_room, long_right — lists that are not too short have room for the equations
use mathlib.Core.Path.{◌≡◌, refl, sym, ap}
use mathlib.Core.Bool.{false}
use mathlib.Core.List.{List, ◌∷◌}
use Prim.Native.Nat.{ℕ, ◌≤◌}
use borrow.Author.Tests.{ltb-false}
use lib.IntN.{ℤ}
use lib.ListN.{length}
use Rattle.rules.specs.Range.{short_column}
use Rattle.rules.proofs.Ranges.{neither_left, neither_right}
use Rattle.half_fill.proofs.Places.{count_few}
use Rattle.std.specs.Prelude.{Ok}
use Rattle.build_gathering.specs.declared.Gathered.{Gathered}
use Rattle.build_lines.specs.Order.{build_code}
use Rattle.build_equations.specs.declared.Layout.{Layout}
use Rattle.build_equations.specs.declared.Layout.TheVariants.{Square, Lower}
use Rattle.build_equations.specs.Written.{width_of, matrix_written, right_written}
use Rattle.build_equations.proofs.Layouts.{square_start, lower_start}
use Rattle.integer.specs.Finite.{sumℕ}
use Rattle.linear.proofs.Places.{square}
use native.Mathlib.Omega.{arith}
use Rattle.build_equations.specs.Kept.{kept_matrix, kept_right}
use Rattle.build.specs.BuiltAs.{short_as, short_for}
use Rattle.build.specs.Finished.{Finished}

pub long_right : (layout : Layout) (a b : List ℤ) → short_for layout a b ≡ false → 32 ≤ length b
long_right layout a b e = ltb-false (length b) 32 (neither_right (short_as layout (length a)) (short_column (length b)) e)

room_as : (layout : Layout) (n k : ℕ) → n ≤ 32 → short_as layout k ≡ false → sumℕ n (width_of layout n) ≤ k
room_as Square n k n_max e = omega (arith, square_start n n, square n_max, ltb-false k 1024 e)
room_as Lower n k n_max e = omega (arith, lower_start n n, count_few n_max, ltb-false k 528 e)

pub matrix_room : (layout : Layout) (n : ℕ) (a b : List ℤ) → n ≤ 32 → short_for layout a b ≡ false → sumℕ n (width_of layout n) ≤ length a
matrix_room layout n a b n_max e = room_as layout n (length a) n_max (neither_left (short_as layout (length a)) (short_column (length b)) e)

module _ (g : Gathered) (layout : Layout) (a b : List ℤ) where
  pub finish_done : g.progress.status ≡ Ok tt → {a' b' : List ℤ} → a' ≡ matrix_written layout g.progress.n (kept_matrix g) a → b' ≡ right_written g.progress.n (kept_right g) b → Finished g layout a b (Ok tt) a' b'
  finish_done d p q = record { says = sym (ap build_code d); matrix = p; right = q }

  pub finish_refused : {k : ℕ} {ks : List ℕ} → build_code g.progress.status ≡ k ∷ ks → Finished g layout a b g.progress.status a b
  finish_refused d = record { says = refl; matrix = rw d; right = rw d }
