-- A text handed over: 22, or the text at the start of the buffer.
--   handed_none, handed_room, handed — where it is unfit, that there is room where it is not, and what is then in the buffer
--   taken_text, counted — what was written from the start of a buffer on is its first bytes, as many as are counted
--   held_delivered, open_delivered — what is delivered for collected numbers, where the end was accepted and where it was not
use mathlib.Core.Path.{◌≡◌, refl, sym, ap, ◌∙◌}
use mathlib.Core.Bool.{Bool, true, false, ◌||◌}
use mathlib.Core.List.{List, ◌++◌}
use Prim.Native.Nat.{ℕ, ◌+◌, ◌≤◌}
use native.Mathlib.Omega.{arith}
use borrow.Author.Tests.{ltb-false}
use lib.Dec.{ltb}
use lib.ListN.{length, take, drop}
use lib.Seq.{sets-eq, take_at}
use Rattle.rules.specs.declared.Refusal.TheVariants.{NotEnded}
use Rattle.rules.proofs.Ranges.{neither_right}
use Rattle.loader_progress.specs.Progress.{ended}
use Rattle.listing_text.specs.Wrote.{Wrote}
use Rattle.file.specs.declared.Collected.{Collected}
use Rattle.convert_spec.specs.Converted.{Converted, some_tolerance, Delivered}
use Rattle.convert_spec.specs.declared.ConversionRefusal.TheVariants.{Refused, NotConvertible}
use Rattle.std.specs.Prelude.{Ok, Err}
use Rattle.convert_spec.specs.File.{old_file}
use Rattle.convert_writer.specs.Written.{held_by}
use Rattle.converter.specs.Held.{unfit, held_answer}

-- what was written from the start on, and the rest as before
from_start : {most end : ℕ} {o t p : List ℕ} → Wrote most o 0 t p end → length t ≤ length o → p ≡ t ++ drop (length t) o
from_start {most} {end} {o} {t} {p} w h = let z : 0 + length t ≡ length t = omega arith in w.stored ∙ sets-eq t o 0 (omega arith) ∙ rw z

module _ (tolerance : Bool) (o t : List ℕ) where
  pub handed_none : tolerance || ltb (length o) (length t) ≡ true → Delivered (unfit tolerance (length o) (length t)) t o o (Err NotConvertible)
  handed_none e = rw e (record { says = refl; size = refl; bytes = refl })

  module _ (e : tolerance || ltb (length o) (length t) ≡ false) where
    pub handed_room : 0 + length t ≤ length o
    handed_room = omega (arith, ltb-false (length o) (length t) (neither_right tolerance (ltb (length o) (length t)) e))

    pub handed : {p : List ℕ} {most end : ℕ} → Wrote most o 0 t p end → Delivered (unfit tolerance (length o) (length t)) t o p (Ok end)
    handed w = rw e (record { says = refl; size = omega (arith, w.end_is); bytes = from_start w (omega (arith, handed_room)) })

-- ---- the first bytes of a buffer
module _ {o t p : List ℕ} {end : ℕ} (w : Wrote 32768 o 0 t p end) (h : 32768 ≤ length o) where
  length_is : end ≡ length t
  length_is = omega (arith, w.end_is)

  pub taken_text : take end p ≡ t
  taken_text = rw (from_start w (omega (arith, length_is, w.end_max))) (take_at t (drop (length t) o) end (sym length_is))

  pub counted : end ≡ length (take end p)
  counted = length_is ∙ ap length (sym taken_text)

-- ---- what is delivered
module _ (c : Collected) {o p : List ℕ} {r : Converted} where
  pub held_delivered : {b : Bool} {t : List ℕ} → ended c.loader.stage ≡ true → t ≡ old_file (held_by c) → b ≡ some_tolerance (held_by c) → Delivered (unfit b (length o) (length t)) t o p r
      → Delivered (held_answer c (length o)) (old_file (held_by c)) o p r
  held_delivered z e f x = rw z (rw (e, f) at x)

pub open_delivered : (c : Collected) (o : List ℕ) → ended c.loader.stage ≡ false → Delivered (held_answer c (length o)) (old_file (held_by c)) o o (Err (Refused NotEnded))
open_delivered c o z = rw z (record { says = refl; size = refl; bytes = refl })
