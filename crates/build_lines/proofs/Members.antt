-- Laws of the tests that look at earlier lines.
--   same_line     — lines of one key and the same contents are equal;  line_same — a line has its own contents
--   key_here, key_none, has_line — a key is met exactly where a line has it
--   no_clash, clash_free, clash_here — 17 is tested exactly where an earlier line of the key is another
--   nobody        — no list without lines has a member
--   either        — a member of x ∷ xs is x or one of xs
--   joined        — a member of xs ++ l ∷ ys is l or one of xs ++ ys
use mathlib.Core.Path.{◌≡◌, refl, sym, ap, subst, ◌∙◌}
use mathlib.Core.Bool.{Bool, true, false, not, ◌&&◌, ◌||◌}
use mathlib.Core.List.{List, [], ◌∷◌, ◌++◌}
use Prim.Native.Nat.{ℕ}
use borrow.Author.Tests.{eqb-true, eq-eqb}
use lib.Dec.{T, eqb}
use Rattle.integer.proofs.Search.{clash}
use Rattle.rules.proofs.Ranges.{both_left, both_right, neither, neither_left, neither_right, or_right}
use Rattle.build_lines.specs.declared.Observation.{Observation}
use Rattle.integer.specs.Same.{same_number}
use Rattle.build_lines.specs.Line.{same_contents, has_key, clashes}
use Rattle.integer.specs.Among.{Among, here, there}
use Rattle.integer.proofs.Same.{same_number_lem, number_same}

pub same_line : (l m : Observation) → l.key ≡ m.key → same_contents l m ≡ true → l ≡ m
unfolding same_contents
same_line l m k e =
    let f = eqb l.«from» m.«from» in
    let t = eqb l.to m.to in
    let d = same_number l.difference m.difference in
    let e₁ = both_right f _ e in
    let e₂ = both_right t _ e₁ in
    let pf = eqb-true l.«from» m.«from» (both_left f _ e) in
    let pt = eqb-true l.to m.to (both_left t _ e₁) in
    let pd = same_number_lem l.difference m.difference (both_left d _ e₂) in
    let pw = eqb-true l.weight m.weight (both_right d _ e₂) in
    λ i. record { key = k i; «from» = pf i; to = pt i; difference = pd i; weight = pw i }

pub line_same : (l : Observation) → same_contents l l ≡ true
unfolding same_contents
line_same l = rw (eq-eqb l.«from» l.«from» refl, eq-eqb l.to l.to refl, number_same l.difference, eq-eqb l.weight l.weight refl)

-- ---- keys
pub key_here : {e : Observation} (es : List Observation) → Among e es → has_key es e.key ≡ true
unfolding has_key
key_here {e = e} [] x' = elim x' [ ]
key_here (e ∷ es) here = rw (eq-eqb e.key e.key refl)
key_here {e} (d ∷ es) (there i) = rw (key_here es i) (or_right (eqb d.key e.key) refl)

pub key_none : {k : ℕ} (es : List Observation) (e : Observation) → has_key es k ≡ false → Among e es → e.key ≡ k → ⊥
key_none es e h i p = clash (has_key es e.key) (key_here es i) (ap (has_key es) p ∙ h)

pub record Has (es : List Observation) (k : ℕ) : Type 0 where
  pub line : Observation
  pub among : Among line es
  pub key : line.key ≡ k

pub has_line : (es : List Observation) (k : ℕ) → has_key es k ≡ true → Has es k
unfolding has_key
has_line [] k h = absurd (subst T (sym h) tt)
has_line (e ∷ es) k h = go (eqb e.key k) refl (has_line es k) h
  where
    go : (b : Bool) → eqb e.key k ≡ b → (has_key es k ≡ true → Has es k) → b || has_key es k ≡ true → Has (e ∷ es) k
    go true p ih q = record { line = e; among = here; key = eqb-true e.key k p }
    go false p ih q = let h = ih q in record { line = h.line; among = there h.among; key = h.key }

-- ---- other contents
pub no_clash : (es : List Observation) (l e : Observation) → clashes es l ≡ false → Among e es → e.key ≡ l.key → e ≡ l
unfolding clashes
no_clash [] l e h x3 k = elim x3 [ ]
no_clash (d ∷ es) l e h here k = same_line e l k (go (same_contents e l) (rw (eq-eqb e.key l.key k) at (neither_left (eqb e.key l.key && not (same_contents e l)) (clashes es l) h)))
  where
    go : (b : Bool) → not b ≡ false → b ≡ true
    go true p = refl
    go false p = absurd (subst T p tt)
no_clash (d ∷ es) l e h (there i) k = no_clash es l e (neither_right (eqb d.key l.key && not (same_contents d l)) (clashes es l) h) i k

pub clash_free : (es : List Observation) (l : Observation) → ((e : Observation) → Among e es → e.key ≡ l.key → e ≡ l) → clashes es l ≡ false
unfolding clashes
clash_free [] l h = refl
clash_free (e ∷ es) l h = rw (clash_free es l (λ d i. h d (there i))) (neither (go (eqb e.key l.key) refl) refl)
  where
    go : (b : Bool) → eqb e.key l.key ≡ b → b && not (same_contents e l) ≡ false
    go true p = let q = h e here (eqb-true e.key l.key p) in ap (λ (d : Observation). not (same_contents d l)) q ∙ ap not (line_same l)
    go false p = refl

pub clash_here : (es : List Observation) (l e : Observation) → Among e es → e.key ≡ l.key → (e ≡ l → ⊥) → clashes es l ≡ true
clash_here es l e i k h = go (clashes es l) refl
  where
    go : (b : Bool) → clashes es l ≡ b → b ≡ true
    go true p = refl
    go false p = absurd (h (no_clash es l e p i k))

-- ---- parts of a list
module _ {A : Type 0} where
  filled : List A → Type 0
  filled [] = ⊥
  filled (x ∷ xs) = Unit

  is_filled : {m : A} {xs : List A} → Among m xs → filled xs
  unfolding filled
  is_filled here = tt
  is_filled (there i) = tt

  pub nobody : {C : Type 0} {m : A} → Among m [] → C
  unfolding filled
  nobody i = absurd (is_filled i)

  pub either : {C : Type 0} {m x : A} {xs : List A} → Among m (x ∷ xs) → (m ≡ x → C) → (Among m xs → C) → C
  either here f g = f refl
  either (there i) f g = g i

  pub joined : {C : Type 0} {m l : A} (xs ys : List A) → Among m (xs ++ l ∷ ys) → (m ≡ l → C) → (Among m (xs ++ ys) → C) → C
  joined [] ys here f g = f refl
  joined [] ys (there i) f g = g i
  joined (x ∷ xs) ys here f g = g here
  joined (x ∷ xs) ys (there i) f g = joined xs ys i f (λ j. g (there j))
