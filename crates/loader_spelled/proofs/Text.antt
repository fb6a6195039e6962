-- The lines of texts, one after another.
--   whole_lines s — every line of the text s has its line feed
--   lines_whole  — the lines of such a text and of another after it
--   lines_feed, lines_text, lines_of_lem — the lines of forms written one after another are their spellings
--   last_line    — every text that is not empty is whole lines and then one line
use mathlib.Core.Path.{◌≡◌, refl, sym, ap, subst, ◌∙◌}
use mathlib.Core.Bool.{Bool, true, false, cond}
use mathlib.Core.List.{List, [], ◌∷◌, ◌++◌, append-nil}
use Prim.Native.Nat.{ℕ, suc}
use borrow.Author.Tests.{ne_eqb}
use lib.Dec.{T, eqb}
use lib.ListN.{get_or}
use Rattle.line_form.specs.Form.{Form}
use Rattle.line_form.specs.Spelling.{spell}
use Rattle.line_form.proofs.Printable.{spell_no_feed}
use Rattle.loader_runs.specs.Lines.{before, lines_of}
use Rattle.loader_runs.proofs.Passing.{spelled}
use Rattle.loader_spelled.specs.Ones.{text_of}

abbrev pub whole_lines : List ℕ → Bool
whole_lines [] = true
whole_lines (b ∷ []) = eqb b 10
whole_lines (b ∷ c ∷ s) = whole_lines (c ∷ s)

-- a text that is not empty has a line
abbrev is_some : List (List ℕ) → Bool
is_some [] = false
is_some (l ∷ ls) = true

some_line : (b : ℕ) (s : List ℕ) → is_some (lines_of (b ∷ s)) ≡ true
unfolding lines_of
some_line b s = go (eqb b 10) (lines_of s)
  where
    go : (t : Bool) (ls : List (List ℕ)) → is_some (cond t ([] ∷ ls) (before b ls)) ≡ true
    go true ls = refl
    go false [] = refl
    go false (l ∷ ls) = refl

before_both : (b : ℕ) (xs ys : List (List ℕ)) → is_some xs ≡ true → before b (xs ++ ys) ≡ before b xs ++ ys
before_both b [] ys e = absurd (subst T (sym e) tt)
before_both b (x ∷ xs) ys e = refl

pub lines_whole : (s rest : List ℕ) → whole_lines s ≡ true → lines_of (s ++ rest) ≡ lines_of s ++ lines_of rest
unfolding lines_of
lines_whole [] rest h = refl
lines_whole (b ∷ []) rest h = rw h
lines_whole (b ∷ c ∷ s) rest h = go (eqb b 10) (lines_whole (c ∷ s) rest h)
  where
    go : (t : Bool) → lines_of (c ∷ s ++ rest) ≡ lines_of (c ∷ s) ++ lines_of rest
        → cond t ([] ∷ lines_of (c ∷ s ++ rest)) (before b (lines_of (c ∷ s ++ rest))) ≡ cond t ([] ∷ lines_of (c ∷ s)) (before b (lines_of (c ∷ s))) ++ lines_of rest
    go true e = ap (λ (ls : List (List ℕ)). [] ∷ ls) e
    go false e = ap (before b) e ∙ before_both b (lines_of (c ∷ s)) (lines_of rest) (some_line c s)

-- ---- forms as a text
pub lines_feed : (l rest : List ℕ) → ((k : ℕ) → get_or l k 0 ≡ 10 → ⊥) → lines_of (l ++ (10 ∷ rest)) ≡ l ∷ lines_of rest
unfolding lines_of
lines_feed [] rest h = refl
lines_feed (b ∷ l) rest h = rw (ne_eqb b 10 (h 0)) (ap (before b) (lines_feed l rest (λ k. h (suc k))))

append_assoc : (a b c : List ℕ) → (a ++ b) ++ c ≡ a ++ (b ++ c)
append_assoc [] b c = refl
append_assoc (x ∷ a) b c = ap (λ (s : List ℕ). x ∷ s) (append_assoc a b c)

pub lines_text : (fs : List Form) (rest : List ℕ) → lines_of (text_of fs ++ rest) ≡ spelled fs ++ lines_of rest
unfolding text_of
lines_text [] rest = refl
lines_text (f ∷ fs) rest =
    ap lines_of (append_assoc (spell f) (10 ∷ text_of fs) rest)
    ∙ lines_feed (spell f) (text_of fs ++ rest) (spell_no_feed f)
    ∙ ap (λ (ls : List (List ℕ)). spell f ∷ ls) (lines_text fs rest)

pub lines_of_lem : (fs : List Form) → lines_of (text_of fs) ≡ spelled fs
lines_of_lem fs = ap lines_of (sym (append-nil (text_of fs))) ∙ lines_text fs [] ∙ unfold lines_of in append-nil (spelled fs)

-- ---- the last line
pub record LastLine (s : List ℕ) : Type 0 where
  pub front : List ℕ
  pub tail : List ℕ
  pub line : List ℕ
  pub parts : s ≡ front ++ tail
  pub whole : whole_lines front ≡ true
  pub last : lines_of tail ≡ line ∷ []

one_byte : (b : ℕ) → LastLine (b ∷ [])
unfolding lines_of
one_byte b = go (eqb b 10) refl
  where
    go : (t : Bool) → eqb b 10 ≡ t → LastLine (b ∷ [])
    go true e = record { front = []; tail = b ∷ []; line = []; parts = refl; whole = refl; last = rw e }
    go false e = record { front = []; tail = b ∷ []; line = b ∷ []; parts = refl; whole = refl; last = rw e }

last_line_more : (b : ℕ) (s front tail line : List ℕ) → s ≡ front ++ tail → whole_lines front ≡ true → lines_of tail ≡ line ∷ [] → LastLine (b ∷ s)
unfolding lines_of
last_line_more b s (c ∷ front) tail line p w e =
    record { front = b ∷ c ∷ front; tail = tail; line = line; parts = ap (λ (t : List ℕ). b ∷ t) p; whole = w; last = e }
last_line_more b s [] tail line p w e = go (eqb b 10) refl
  where
    go : (t : Bool) → eqb b 10 ≡ t → LastLine (b ∷ s)
    go true f = record { front = b ∷ []; tail = tail; line = line; parts = ap (λ (t : List ℕ). b ∷ t) p; whole = f; last = e }
    go false f = record { front = []; tail = b ∷ s; line = b ∷ line; parts = refl; whole = refl; last = rw (f, p, e) }

pub last_line : (b : ℕ) (s : List ℕ) → LastLine (b ∷ s)
last_line b [] = one_byte b
last_line b (c ∷ s) = let r = last_line c s in last_line_more b (c ∷ s) r.front r.tail r.line r.parts r.whole r.last
