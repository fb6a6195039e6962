-- Sums over the distinct lines: a copy of a line at any place changes none of them.
--   share, first — what a line adds after other lines, and that a sum is that and the rest
--   repeated_total — no sum over the distinct lines changes
use mathlib.Core.Path.{◌≡◌, refl, sym, ap, ◌∙◌}
use mathlib.Core.Bool.{Bool, true, false, cond, ◌||◌}
use mathlib.Core.List.{List, [], ◌∷◌, ◌++◌}
use Prim.Native.Nat.{ℕ}
use borrow.Author.Tests.{eqb-true, eqb-false, eq-eqb, ne_eqb}
use lib.Dec.{eqb}
use lib.IntN.{ℤ, pos, ◌+ℤ◌, +ℤ_idl}
use Rattle.integer.proofs.Difference.{+-left_comm}
use Rattle.integer.proofs.Search.{clash}
use Rattle.build_lines.specs.declared.Observation.{Observation}
use Rattle.build_lines.specs.Line.{has_key}
use Rattle.build_lines.specs.Distinct.{distinct_after, total}
use Rattle.integer.specs.Among.{Among, here, there}
use Rattle.build_lines.proofs.Members.{nobody, either}

added_up : {a b c d : ℤ} → a ≡ b → c ≡ d → a +ℤ c ≡ b +ℤ d
added_up p q = rw (p, q)

sum_more : (a : ℤ) {c d : ℤ} → c ≡ d → a +ℤ c ≡ a +ℤ d
sum_more a q = rw q

instead : {a b : ℤ} (c : ℤ) → a ≡ b → a +ℤ c ≡ b +ℤ c
instead c p = rw p

module _ (f : Observation → ℤ) where
  -- what a line adds after the lines es
  pub share : List Observation → Observation → ℤ
  share es l = cond (has_key es l.key) (pos 0) (f l)

  abbrev after : List Observation → List Observation → ℤ
  after es ls = total f (distinct_after es ls)

  pub first : (es : List Observation) (l : Observation) (ls : List Observation) → after es (l ∷ ls) ≡ share es l +ℤ after (l ∷ es) ls
  unfolding distinct_after total share
  first es l ls = go (has_key es l.key)
    where
      go : (b : Bool) → total f (cond b (distinct_after (l ∷ es) ls) (l ∷ distinct_after (l ∷ es) ls)) ≡ cond b (pos 0) (f l) +ℤ total f (distinct_after (l ∷ es) ls)
      go true = sym (+ℤ_idl (total f (distinct_after (l ∷ es) ls)))
      go false = refl

  share_same : (es ds : List Observation) (l : Observation) → has_key es l.key ≡ has_key ds l.key → share es l ≡ share ds l
  unfolding share
  share_same es ds l e = rw e

  pub share_met : (es : List Observation) (l : Observation) → has_key es l.key ≡ true → share es l ≡ pos 0
  unfolding share
  share_met es l e = rw e

  pub share_new : (es : List Observation) (l : Observation) → has_key es l.key ≡ false → share es l ≡ f l
  unfolding share
  share_new es l e = rw e

  -- only the keys of the lines before count
  same_before : (ls es ds : List Observation) → ((k : ℕ) → has_key es k ≡ has_key ds k) → after es ls ≡ after ds ls
  unfolding distinct_after
  same_before [] es ds h = refl
  same_before (l ∷ ls) es ds h = first es l ls ∙ added_up (share_same es ds l (h l.key)) (same_before ls (l ∷ es) (l ∷ ds) (λ k. unfold has_key in rw (h k))) ∙ sym (first ds l ls)

  key_more : (es : List Observation) (x : Observation) (k : ℕ) → has_key es k ≡ true → has_key (x ∷ es) k ≡ true
  unfolding has_key
  key_more es x k e = rw e (go (eqb x.key k))
    where
      go : (b : Bool) → b || true ≡ true
      go true = refl
      go false = refl

  key_first : (es : List Observation) (l : Observation) → has_key (l ∷ es) l.key ≡ true
  unfolding has_key
  key_first es l = rw (eq-eqb l.key l.key refl)

  -- a line whose key is met adds no key
  met_again : (es : List Observation) (l : Observation) → has_key es l.key ≡ true → (k : ℕ) → has_key (l ∷ es) k ≡ has_key es k
  unfolding has_key
  met_again es l e k = go (eqb l.key k) refl
    where
      go : (b : Bool) → eqb l.key k ≡ b → b || has_key es k ≡ has_key es k
      go true p = sym (ap (has_key es) (sym (eqb-true l.key k p)) ∙ e)
      go false p = refl

  unlike : (es : List Observation) (y l : Observation) → eqb y.key l.key ≡ false → has_key (l ∷ es) y.key ≡ has_key es y.key
  unfolding has_key
  unlike es y l p = rw (ne_eqb l.key y.key (λ e. eqb-false y.key l.key p (sym e)))

  turned : (es : List Observation) (x y : Observation) (k : ℕ) → has_key (x ∷ y ∷ es) k ≡ has_key (y ∷ x ∷ es) k
  unfolding has_key
  turned es x y k = go (eqb x.key k) (eqb y.key k)
    where
      go : (a b : Bool) → a || (b || has_key es k) ≡ b || (a || has_key es k)
      go true true = refl
      go true false = refl
      go false true = refl
      go false false = refl

  -- a line whose key is met before may be repeated later
  passed : (l : Observation) (xs ys es : List Observation) → has_key es l.key ≡ true → after es (xs ++ l ∷ ys) ≡ after es (xs ++ ys)
  passed l [] ys es h = first es l ys ∙ instead (after (l ∷ es) ys) (share_met es l h) ∙ +ℤ_idl (after (l ∷ es) ys) ∙ same_before ys (l ∷ es) es (met_again es l h)
  passed l (x ∷ xs) ys es h = first es x (xs ++ l ∷ ys) ∙ sum_more (share es x) (passed l xs ys (x ∷ es) (key_more es x l.key h)) ∙ sym (first es x (xs ++ ys))

  -- a line that comes later is drawn to the front
  drawn : (l : Observation) (ys es : List Observation) → has_key es l.key ≡ false → Among l ys → ((y : Observation) → Among y ys → y.key ≡ l.key → y ≡ l) →
      after es ys ≡ f l +ℤ after (l ∷ es) ys
  drawn l [] es h i one = nobody i
  drawn l (y ∷ ys) es h i one = go (eqb y.key l.key) refl (drawn l ys (y ∷ es))
    where
      go : (b : Bool) → eqb y.key l.key ≡ b →
          (has_key (y ∷ es) l.key ≡ false → Among l ys → ((z : Observation) → Among z ys → z.key ≡ l.key → z ≡ l) → after (y ∷ es) ys ≡ f l +ℤ after (l ∷ y ∷ es) ys) →
          after es (y ∷ ys) ≡ f l +ℤ after (l ∷ es) (y ∷ ys)
      go true p ih =
          let q = one y here (eqb-true y.key l.key p) in
          ap (λ (z : Observation). after es (z ∷ ys)) q ∙ first es l ys ∙ added_up (share_new es l h) (sym (passed l [] ys (l ∷ es) (key_first es l)))
          ∙ ap (λ (z : Observation). f l +ℤ after (l ∷ es) (z ∷ ys)) (sym q)
      go false p ih =
          let j = either i (λ e. clash (eqb y.key l.key) (eq-eqb y.key l.key (ap (λ (z : Observation). z.key) (sym e))) p) (λ k. k) in
          let hk : has_key (y ∷ es) l.key ≡ false = unfold has_key in rw (p, h) in
          first es y ys ∙ sum_more (share es y) (ih hk j (λ z k. one z (there k))) ∙ +-left_comm (share es y) (f l) (after (l ∷ y ∷ es) ys)
          ∙ sum_more (f l) (added_up (share_same es (l ∷ es) y (sym (unlike es y l p))) (same_before ys (l ∷ y ∷ es) (y ∷ l ∷ es) (turned es l y)) ∙ sym (first (l ∷ es) y ys))

  -- a line that stands anywhere in a list without clashes may be repeated anywhere
  pub repeated_total : (l : Observation) (xs ys es : List Observation) → Among l (xs ++ ys) → ((y : Observation) → Among y (xs ++ ys) → y.key ≡ l.key → y ≡ l) →
      after es (xs ++ l ∷ ys) ≡ after es (xs ++ ys)
  repeated_total l [] ys es i one = go (has_key es l.key) refl
    where
      go : (b : Bool) → has_key es l.key ≡ b → after es (l ∷ ys) ≡ after es ys
      go true p = passed l [] ys es p
      go false p = first es l ys ∙ instead (after (l ∷ es) ys) (share_new es l p) ∙ sym (drawn l ys es p i one)
  repeated_total l (x ∷ xs) ys es i one =
      first es x (xs ++ l ∷ ys) ∙ sum_more (share es x) (either i (λ e. passed l xs ys (x ∷ es) (ap (λ (z : Observation). has_key (x ∷ es) z.key) e ∙ key_first es x))
      (λ j. repeated_total l xs ys (x ∷ es) j (λ y k. one y (there k)))) ∙ sym (first es x (xs ++ ys))
