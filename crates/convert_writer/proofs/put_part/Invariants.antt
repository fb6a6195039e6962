use mathlib.Core.Path.{◌≡◌}
use Prim.Native.Nat.{ℕ, ◌*◌, ◌≤◌}
use lib.ListN.{length}
use Rattle.listing_text.specs.Wrote.{Wrote}
use Rattle.listing_text.specs.Line.{each}
use Rattle.convert_spec.specs.File.{form_for}
use Rattle.convert_writer.specs.Written.{held_by, form_line, most_for}
use Rattle.convert_writer.proofs.put_part.Given as goal

abbrev pub invariant-loop-i : goal.invariant-loop-i
invariant-loop-i l = (l.i ≤ l.n) × (length l.out ≡ length l.initial.out) × Wrote (l.i * most_for l.part) l.initial.out l.at (each l.i (λ (k : ℕ). form_line (form_for (held_by l.c) l.part k))) l.out l.index
