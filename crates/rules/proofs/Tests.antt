-- Laws of an ordered list of tests (specs/Order).
--   None ts       — no test of ts holds
--   head w        — the number that w starts with; 0 where nothing is said
--   without k ts  — no test of ts has the number k
--   no_code_lem     — where a number is said that no test has, or nothing, no test holds;  silent — and the converse: nothing is said
--   skip_tests, skipped — tests that do not hold before others are passed over, and tests without the number that is said do not hold
--   code_exactly  — what starts with a test's number, which no other test has, is said exactly then;  code_around — the same of two tests with one number around another
--   some_of ts     — some test of ts holds;  some_code — one of them is reported then
--   Moved, moved  — a test moved up over others: the same is said, or no test before holds, it does, and so does one of the others
use mathlib.Core.Path.{◌≡◌, refl, sym, ap, subst, ◌∙◌}
use mathlib.Core.Bool.{Bool, true, false, not, ◌&&◌, ◌||◌, cond}
use mathlib.Core.List.{List, [], ◌∷◌, ◌++◌}
use mathlib.Core.Logic.{◌↔◌}
use Prim.Native.Nat.{ℕ}
use borrow.Author.Tests.{eq-eqb, not-true}
use lib.Dec.{T, eqb}
use Rattle.integer.proofs.Search.{clash}
use Rattle.rules.specs.Order.{Test, verdict}
use Rattle.rules.proofs.Ranges.{both_left, both_right, neither_left, neither_right}

abbrev pub None : List Test → Type 0
None [] = Unit
None (t ∷ ts) = (t.holds ≡ false) × None ts

abbrev pub head : List ℕ → ℕ
head [] = 0
head (k ∷ ks) = k

abbrev pub without : ℕ → List Test → Bool
without k [] = true
without k (t ∷ ts) = not (eqb (head t.says) k) && without k ts

pub no_code_lem : (ts : List Test) (w : List ℕ) → without (head w) ts ≡ true → verdict ts ≡ w → None ts
no_code_lem [] w d e = tt
no_code_lem (t ∷ ts) w d e = go t.holds refl e (no_code_lem ts w (both_right (not (eqb (head t.says) (head w))) (without (head w) ts) d))
  where
    go : (b : Bool) → t.holds ≡ b → cond b t.says (verdict ts) ≡ w → (verdict ts ≡ w → None ts) → None (t ∷ ts)
    go false p q rest = (p, rest q)
    go true p q rest = clash (eqb (head t.says) (head w)) (eq-eqb (head t.says) (head w) (ap head q)) (not-true _ (both_left (not (eqb (head t.says) (head w))) (without (head w) ts) d))

pub skip_tests : (before after : List Test) → None before → verdict (before ++ after) ≡ verdict after
skip_tests [] after n = refl
skip_tests (t ∷ ts) after n = rw n.0 (skip_tests ts after n.1)

pub skipped : (before after : List Test) (w : List ℕ) → without (head w) before ≡ true → verdict (before ++ after) ≡ w → None before × (verdict after ≡ w)
skipped [] after w d e = (tt, e)
skipped (t ∷ ts) after w d e = go t.holds refl e (skipped ts after w (both_right (not (eqb (head t.says) (head w))) (without (head w) ts) d))
  where
    go : (b : Bool) → t.holds ≡ b → cond b t.says (verdict (ts ++ after)) ≡ w → (verdict (ts ++ after) ≡ w → None ts × (verdict after ≡ w)) → None (t ∷ ts) × (verdict after ≡ w)
    go false p q rest = let r = rest q in ((p, r.0), r.1)
    go true p q rest = clash (eqb (head t.says) (head w)) (eq-eqb (head t.says) (head w) (ap head q)) (not-true _ (both_left (not (eqb (head t.says) (head w))) (without (head w) ts) d))

pub silent : (ts : List Test) → None ts → verdict ts ≡ []
silent [] n = refl
silent (t ∷ ts) n = rw n.0 (silent ts n.1)

-- what is said is not left to tests that have another number
not_after : (after : List Test) (w : List ℕ) → without (head w) after ≡ true → eqb (head w) 0 ≡ false → verdict after ≡ w → ⊥
not_after after w d h e =
    let z : head w ≡ 0 = ap head (sym e ∙ silent after (no_code_lem after w d e)) in
    subst T (sym (eq-eqb (head w) 0 z) ∙ h) tt

-- what a test says is said exactly where no test before it holds and it does; its number is its own
module _ (before : List Test) (t : Test) (after : List Test) (own : without (head t.says) before && without (head t.says) after ≡ true) (heard : eqb (head t.says) 0 ≡ false) where
  pub code_exactly : (verdict (before ++ t ∷ after) ≡ t.says) ↔ (None before × (t.holds ≡ true))
  code_exactly = (
    λ e.
        let s = skipped before (t ∷ after) t.says (both_left (without (head t.says) before) (without (head t.says) after) own) e in
        (s.0, here t.holds s.1),
    λ h. skip_tests before (t ∷ after) h.0 ∙ rw h.1,
  )
    where
      here : (b : Bool) → cond b t.says (verdict after) ≡ t.says → b ≡ true
      here true e = refl
      here false e = absurd (not_after after t.says (both_right (without (head t.says) before) (without (head t.says) after) own) heard e)

-- the same of two tests that say the same, with one that says something else between them
module _ (before : List Test) (w : List ℕ) (a : Bool) (t : Test) (b : Bool) (after : List Test) (own : without (head w) before && without (head w) (t ∷ after) ≡ true) (heard : eqb (head w) 0 ≡ false) where
  abbrev around : List Test
  around = record { says = w; holds = a } ∷ t ∷ record { says = w; holds = b } ∷ after

  own_after : without (head w) (t ∷ after) ≡ true
  own_after = both_right (without (head w) before) (without (head w) (t ∷ after)) own

  pub code_around : (verdict (before ++ around) ≡ w) ↔ (None before × (a || not t.holds && b ≡ true))
  code_around = (
    λ e.
        let s = skipped before around w (both_left (without (head w) before) (without (head w) (t ∷ after)) own) e in
        (s.0, here a t.holds b s.1),
    λ h. skip_tests before around h.0 ∙ back a t.holds b h.1,
  )
    where
      here : (a h b : Bool) → cond a w (cond h t.says (cond b w (verdict after))) ≡ w → a || not h && b ≡ true
      here true h b e = refl
      here false true b e = clash (eqb (head t.says) (head w)) (eq-eqb (head t.says) (head w) (ap head e)) (not-true _ (both_left (not (eqb (head t.says) (head w))) (without (head w) after) own_after))
      here false false true e = refl
      here false false false e = absurd (not_after after w (both_right (not (eqb (head t.says) (head w))) (without (head w) after) own_after) heard e)

      back : (a h b : Bool) → a || not h && b ≡ true → cond a w (cond h t.says (cond b w (verdict after))) ≡ w
      back true h b e = refl
      back false true b e = absurd (subst T (sym e) tt)
      back false false true e = refl
      back false false false e = absurd (subst T (sym e) tt)

-- ---- a test moved up over others
abbrev pub some_of : List Test → Bool
some_of [] = false
some_of (t ∷ ts) = t.holds || some_of ts

pub some_code : (ts after : List Test) → some_of ts ≡ true → verdict (ts ++ after) ≡ verdict ts
some_code [] after e = absurd (subst T (sym e) tt)
some_code (t ∷ ts) after e = go t.holds e (some_code ts after)
  where
    go : (b : Bool) → b || some_of ts ≡ true → (some_of ts ≡ true → verdict (ts ++ after) ≡ verdict ts) → cond b t.says (verdict (ts ++ after)) ≡ cond b t.says (verdict ts)
    go true h rest = refl
    go false h rest = rest h

none_of : (ts : List Test) → some_of ts ≡ false → None ts
none_of [] e = tt
none_of (t ∷ ts) e = (neither_left t.holds (some_of ts) e, none_of ts (neither_right t.holds (some_of ts) e))

module _ (t : Test) where
  told : (rest : List Test) → t.holds ≡ true → verdict (t ∷ rest) ≡ t.says
  told rest e = rw e

  passed_over : t.holds ≡ false → (ts rest : List Test) → verdict (ts ++ rest) ≡ verdict (ts ++ t ∷ rest)
  passed_over e [] rest = sym (skip_tests (t ∷ []) rest (e, tt))
  passed_over e (u ∷ us) rest = rw (passed_over e us rest)

module _ (before : List Test) (t : Test) (over after : List Test) where
  abbrev pub moved_up : List Test
  moved_up = t ∷ (over ++ after)

  abbrev pub not_moved : List Test
  not_moved = over ++ t ∷ after

  pub data Moved : Type 0 where
    same : verdict (before ++ moved_up) ≡ verdict (before ++ not_moved) → Moved
    other : None before → t.holds ≡ true → some_of over ≡ true → Moved

  pub moved : Moved
  moved = go (some_of before) refl t.holds refl (some_of over) refl
    where
      past : None before → verdict moved_up ≡ verdict not_moved → Moved
      past n e = same (skip_tests before moved_up n ∙ e ∙ sym (skip_tests before not_moved n))

      go : (a : Bool) → some_of before ≡ a → (b : Bool) → t.holds ≡ b → (c : Bool) → some_of over ≡ c → Moved
      go true p b q c r = same (some_code before moved_up p ∙ sym (some_code before not_moved p))
      go false p false q c r = past (none_of before p) (skip_tests (t ∷ []) (over ++ after) (q, tt) ∙ passed_over t q over after)
      go false p true q false r = past (none_of before p) (told t (over ++ after) q ∙ sym (skip_tests over (t ∷ after) (none_of over r) ∙ told t after q))
      go false p true q true r = other (none_of before p) q r
