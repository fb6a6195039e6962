-- Laws of the adder: what is left at each of its ends.
--   taken_outside, taken_same, taken_clash, taken_again, taken_new — 3, 16, 17, a line met before, a line with a new key
--   added_done, added_refused — where nothing is said yet, and where something is
--   opened_short, opened_as_lem — what is said before any line: where a lent list is too short, and else
use mathlib.Core.Path.{◌≡◌, ap, ◌∙◌}
use mathlib.Core.Bool.{Bool, true, false, cond, ◌&&◌}
use Prim.Native.Nat.{ℕ, ◌+◌, ◌<◌, ◌≤◌, min}
use borrow.Author.Tests.{lt-ltb, le-ltb, eq-eqb, ne_eqb}
use lib.Dec.{eqb, leb}
use lib.IntN.{pos}
use Rattle.integer.specs.Finite.{first}
use Rattle.rules.specs.Range.{in_range}
use Rattle.rules.specs.declared.Kind.TheVariants as kind
use Rattle.rules.specs.declared.Refusal.TheVariants.{OutOfRange, TooShort}
use Rattle.build_lines.specs.Order.{Built}
use Rattle.build_lines.specs.declared.BuildRefusal.TheVariants.{Refused, SameMark, OtherContents}
use Rattle.std.specs.Prelude.{Ok, Err}
use Rattle.build_gathering.specs.declared.Gathered.{Gathered}
use Rattle.build_lines.specs.declared.Observation.{Observation}
use Rattle.build_lines.specs.Line.{outside_range, same_contents}
use Rattle.build_gathering.specs.Gathered.{places, key_at, line_at, with_lines, refused_as, kept, taken, added, opened_as, is_refused}

module _ (g : Gathered) (l : Observation) {r : Gathered} where
  pub taken_outside : outside_range g.progress.n l ≡ true → r ≡ refused_as g (Err (Refused OutOfRange)) → r ≡ taken g l
  unfolding taken
  taken_outside o e = rw o e

  pub taken_same : outside_range g.progress.n l ≡ false → l.«from» ≡ l.to → r ≡ refused_as g (Err SameMark) → r ≡ taken g l
  unfolding taken
  taken_same o s e = rw (o, eq-eqb _ _ s) e

  module _ {end at : ℕ} (o : outside_range g.progress.n l ≡ false) (s : l.«from» ≡ l.to → ⊥) (p : end ≡ places g.progress.count) (q : at ≡ first end (λ (i : ℕ). eqb (key_at g.seen i) l.key)) where
    pub taken_again : at < end → same_contents (line_at g.seen at) l ≡ true → r ≡ g → r ≡ taken g l
    unfolding taken
    taken_again m c e = rw (o, ne_eqb _ _ s, ← p, ← q, lt-ltb at end m, c) e

    pub taken_clash : at < end → same_contents (line_at g.seen at) l ≡ false → r ≡ refused_as g (Err OtherContents) → r ≡ taken g l
    unfolding taken
    taken_clash m c e = rw (o, ne_eqb _ _ s, ← p, ← q, lt-ltb at end m, c) e

    pub taken_new : end ≤ at → r ≡ kept g l → r ≡ taken g l
    unfolding taken
    taken_new m e = rw (o, ne_eqb _ _ s, ← p, ← q, le-ltb at end m) e

  pub added_done : is_refused g.progress.status ≡ false → {k : ℕ} → k ≡ min (g.progress.lines + 1) 256 → r ≡ taken (with_lines g k) l → r ≡ added g l
  unfolding added
  added_done d h e = rw d (e ∙ ap (λ (j : ℕ). taken (with_lines g j) l) h)

pub added_refused : (g : Gathered) (l : Observation) → is_refused g.progress.status ≡ true → g ≡ added g l
unfolding added
added_refused g l d = rw d

pub opened_short : (n k : ℕ) {short : Bool} → short ≡ true → Err (Refused TooShort) ≡ opened_as n k short
unfolding opened_as
opened_short n k s = rw s

pub opened_as_lem : (n k : ℕ) {short b : Bool} {t : Built} → short ≡ false → b ≡ in_range kind.Size (pos n) → cond (b && leb k 256) (Ok tt) (Err (Refused OutOfRange)) ≡ t → t ≡ opened_as n k short
unfolding opened_as
opened_as_lem n k s e d = rw (s, ← e, d)
