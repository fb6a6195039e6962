-- The lines before a line.
--   onto xs es — the lines es and then xs, the last first;  onto_cases, onto_front — its members;  skip_lines — lines that pass are skipped
--   Other, clash_line — the earlier line that a line with other contents clashes with
use mathlib.Core.Path.{◌≡◌, refl, sym, ap, subst, ◌∙◌}
use mathlib.Core.Bool.{Bool, true, false, not, ◌&&◌, ◌||◌}
use mathlib.Core.List.{List, [], ◌∷◌, ◌++◌}
use Prim.Native.Nat.{ℕ}
use borrow.Author.Tests.{eqb-true}
use lib.Dec.{T, eqb}
use Rattle.rules.proofs.Verdicts.{else_none}
use Rattle.rules.proofs.Ranges.{both_left, both_right}
use Rattle.build_lines.specs.declared.Observation.{Observation}
use Rattle.build_lines.specs.Line.{same_contents, clashes}
use Rattle.build_lines.specs.Order.{observation_says, observations_say}
use Rattle.integer.specs.Among.{Among, here, there}
use Rattle.build_lines.proofs.Members.{line_same}

-- ---- the lines before a line
unfoldable pub onto : List Observation → List Observation → List Observation
onto [] es = es
onto (x ∷ xs) es = onto xs (x ∷ es)

either_among : {C : Type 0} {e x : Observation} (es xs : List Observation) → Among e (x ∷ es) → (Among e (x ∷ xs) → C) → (Among e es → C) → C
either_among es xs here f g = f here
either_among es xs (there j) f g = g j

pub onto_cases : {C : Type 0} {e : Observation} (xs es : List Observation) → Among e (onto xs es) → (Among e xs → C) → (Among e es → C) → C
unfolding onto
onto_cases [] es i f g = g i
onto_cases (x ∷ xs) es i f g = onto_cases xs (x ∷ es) i (λ j. f (there j)) (λ j. either_among es xs j f g)

onto_back : {e : Observation} (xs es : List Observation) → Among e es → Among e (onto xs es)
unfolding onto
onto_back [] es i = i
onto_back (x ∷ xs) es i = onto_back xs (x ∷ es) (there i)

pub onto_front : {e : Observation} (xs es : List Observation) → Among e xs → Among e (onto xs es)
unfolding onto
onto_front {e = e} [] es x' = elim x' [ ]
onto_front (x ∷ xs) es here = onto_back xs (x ∷ es) here
onto_front (x ∷ xs) es (there i) = onto_front xs (x ∷ es) i

pub skip_lines : (n : ℕ) (es xs zs : List Observation) → observations_say n es xs ≡ [] → observations_say n es (xs ++ zs) ≡ observations_say n (onto xs es) zs
unfolding observations_say onto
skip_lines n es [] zs e = refl
skip_lines n es (x ∷ xs) zs e = let t = else_none (observation_says n es x) (observations_say n (x ∷ es) xs) e in rw t.0 (skip_lines n (x ∷ es) xs zs t.1)

pub record Other (es : List Observation) (l : Observation) : Type 0 where
  pub line : Observation
  pub among : Among line es
  pub key : line.key ≡ l.key
  pub other : line ≡ l → ⊥

pub clash_line : (es : List Observation) (l : Observation) → clashes es l ≡ true → Other es l
unfolding clashes
clash_line [] l h = absurd (subst T (sym h) tt)
clash_line (e ∷ es) l h = go (eqb e.key l.key && not (same_contents e l)) refl (clash_line es l) h
  where
    go : (b : Bool) → eqb e.key l.key && not (same_contents e l) ≡ b → (clashes es l ≡ true → Other es l) → b || clashes es l ≡ true → Other (e ∷ es) l
    go false p ih q = let r = ih q in record { line = r.line; among = there r.among; key = r.key; other = r.other }
    go true p ih q = record {
      line = e;
      among = here;
      key = eqb-true e.key l.key (both_left (eqb e.key l.key) (not (same_contents e l)) p);
      other = λ r. subst T (sym (both_right (eqb e.key l.key) (not (same_contents e l)) p) ∙ ap (λ (d : Observation). not (same_contents d l)) r ∙ ap not (line_same l)) tt;
    }
