-- One line more: which of the steps it is.
--   step — refused or followed
use mathlib.Core.Path.{◌≡◌, refl, sym, ap, ◌∙◌}
use mathlib.Core.Bool.{Bool, true, false}
use mathlib.Core.List.{List, []}
use Prim.Native.Nat.{ℕ, ◌<◌}
use native.Mathlib.Omega.{arith}
use borrow.Author.Tests.{eqb-true, eqb-false, eq-eqb, ne_eqb}
use lib.Dec.{eqb}
use Rattle.integer.proofs.Search.{Searched, found, nowhere, searched, clash}
use Rattle.rules.specs.declared.Refusal.TheVariants.{OutOfRange}
use Rattle.build_lines.specs.declared.BuildRefusal.TheVariants.{Refused, SameMark, OtherContents}
use Rattle.std.specs.Prelude.{Err}
use Rattle.build_gathering.specs.declared.Gathered.{Gathered}
use Rattle.build_lines.specs.declared.Observation.{Observation}
use Rattle.build_lines.specs.Line.{outside_range, same_mark, same_contents, has_key}
use Rattle.build_gathering.specs.Gathered.{key_at, counted, is_refused, taken, added, kept_at}
use Rattle.build_lines.specs.Stated.{Passes}
use Rattle.build_gathering.proofs.Adding.{taken_outside, taken_same, taken_clash, taken_again, taken_new, added_done}
use Rattle.build_lines.proofs.Members.{same_line, line_same, has_line, clash_here}
use Rattle.build_gathering.proofs.Follows.{Follows, LineStep, refused, all, kept_as, again, new}

module _ (n : ℕ) (es : List Observation) (g : Gathered) (l : Observation) (fol : Follows n es g) (room : g.progress.count < 256) (early : g.progress.lines < 256) where
  -- ---- which of them
  abbrev test : ℕ → Bool
  test i = eqb (key_at g.seen i) l.key

  key_of : (i : ℕ) → i < g.progress.count → {e : Observation} → kept_at g i ≡ e → key_at g.seen i ≡ e.key
  key_of i b p = fol.keyed i b ∙ ap (λ (z : Observation). z.key) p

  pub step : LineStep n es g l
  step = at (outside_range n l) refl (same_mark l) refl
    where
      own : {b : Bool} → outside_range n l ≡ b → outside_range g.progress.n l ≡ b
      own p = rw fol.size p

      taken_is : {r : Gathered} → r ≡ taken (counted g) l → added g l ≡ r
      taken_is e = sym (added_done g l (ap is_refused fol.done) refl e)

      search : Passes n l → Searched g.progress.count test → LineStep n es g l
      search good (found i b e p h) = contents (same_contents (kept_at g i) l) refl
        where
          key : (kept_at g i).key ≡ l.key
          key = sym (key_of i b refl) ∙ eqb-true (key_at g.seen i) l.key p

          contents : (c : Bool) → same_contents (kept_at g i) l ≡ c → LineStep n es g l
          contents true c = again n es g l fol room early i b (same_line (kept_at g i) l key c) good (taken_is (taken_again (counted g) l (own good.inside) good.apart (all n es g l fol room early) (sym e) b c refl))
          contents false c =
              refused (Err OtherContents) 17 [] refl (taken_is (taken_clash (counted g) l (own good.inside) good.apart (all n es g l fol room early) (sym e) b c refl))
              (rw (good.inside, ne_eqb l.«from» l.to good.apart, clash_here es l (kept_at g i) (fol.among i b) key (λ q. clash (same_contents l l) (line_same l) (rw q at c))))
      search good (nowhere e h) =
          new n es g l fol room early good (none (has_key es l.key) refl) (taken_is (sym (kept_as n es g l fol room early) ∙ taken_new (counted g) l (own good.inside) good.apart (all n es g l fol room early) refl (omega arith) refl))
        where
          none : (c : Bool) → has_key es l.key ≡ c → c ≡ false
          none false c = refl
          none true c =
              let x = has_line es l.key c in
              let m = fol.met x.line x.among in
              absurd (clash (test m.index) (eq-eqb (key_at g.seen m.index) l.key (key_of m.index m.below m.is ∙ x.key)) (h m.index m.below))

      at : (o : Bool) → outside_range n l ≡ o → (s : Bool) → same_mark l ≡ s → LineStep n es g l
      at true o s p = refused (Err (Refused OutOfRange)) 3 [] refl (taken_is (taken_outside (counted g) l (own o) refl)) (rw o)
      at false o true p = refused (Err SameMark) 16 [] refl (taken_is (taken_same (counted g) l (own o) (eqb-true l.«from» l.to p) refl)) (rw (o, p))
      at false o false p = search (record { inside = o; apart = eqb-false l.«from» l.to p }) (searched g.progress.count test)
