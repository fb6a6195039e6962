-- When a line is refused, in 01's words; "it is the spelling of f" is s ≡ spell f.
--   short, long — what a line of at most 320 bytes is, and a longer one
--   code_1 — 1 is said exactly where the line is above 320 bytes
--   code_2 — 2 is said exactly where it is not, and is the spelling of no form
--   code_2_empty, code_2_byte — so 2 is said of an empty line, and of one with a byte other than 32 to 126 in it, as a line feed
--   code_2_right — and of a right side with a list of other than two numbers (02, Paper 5), whatever their count
--   read_as — a line of at most 320 bytes that is the spelling of f is read as f
--   spell_one — a line is the spelling of one form only;  two_spellings — so (right i b) and (right i (b 0)) are spelled differently
use mathlib.Core.Path.{◌≡◌, refl, sym, ap, ◌∙◌, subst}
use mathlib.Core.Bool.{Bool, true, false, not}
use mathlib.Core.List.{List, [], ◌∷◌, ◌++◌}
use mathlib.Core.Logic.{◌↔◌}
use mathlib.Core.Option.{Option, none, some}
use Prim.Native.Nat.{ℕ, ◌≤◌, ◌<◌}
use native.Mathlib.Omega.{arith}
use borrow.Author.Tests.{ltb-true, ltb-false, lt-ltb, le-ltb, eq-eqb}
use lib.Dec.{T, ltb, eqb}
use lib.IntN.{ℤ, pos}
use lib.ListN.{length, get_or}
use Rattle.line_numeral.specs.Decimal.{numeral}
use Rattle.rules.specs.declared.Refusal.TheVariants.{TooLong}
use Rattle.line_parts.specs.declared.Line.{Line}
use Rattle.line_form.specs.Form.{bytes, Form, right, right_within}
use Rattle.line_form.specs.Spelling.{numerals, spell}
use Rattle.line_form.specs.Reading.{reading}
use Rattle.line_parts.specs.Line.{line_of, of_reading, refused, line_code}
use Rattle.line_form.proofs.Printable.{spell_some, spell_printable}
use Rattle.line_form.proofs.Rights.{right_unread}
use Rattle.line_form.proofs.Spelling.{spelled_read, read_spelled}

pub spell_one : (f g : Form) → spell f ≡ spell g → f ≡ g
spell_one f g e =
    let r : some f ≡ some g = sym (read_spelled f) ∙ ap reading e ∙ read_spelled g in
    cc

pub two_spellings : (i b : ℤ) → spell (right i b) ≡ spell (right_within i b (pos 0)) → ⊥
two_spellings i b e =
    let f : right i b ≡ right_within i b (pos 0) = spell_one _ _ e in
    let z : ◌≡◌ {A = ℕ} 0 1 = cc in
    absurd (omega arith)

-- two numbers of 01 that differ
differ : {a b : List ℕ} → a ≡ b → T (not (eqb (get_or a 0 0) (get_or b 0 0))) → ⊥
differ e h = absurd (subst (λ x. T (not x)) (eq-eqb _ _ (ap (λ (l : List ℕ). get_or l 0 0) e)) h)

module _ (s : List ℕ) where
  pub short : length s ≤ 320 → line_of s ≡ of_reading (reading s)
  unfolding line_of
  short h = rw (le-ltb 320 (length s) h)

  pub long : 320 < length s → line_of s ≡ refused TooLong
  unfolding line_of
  long h = rw (lt-ltb 320 (length s) h)

  pub read_as : (f : Form) → length s ≤ 320 → s ≡ spell f → line_of s ≡ of_reading (some f)
  read_as f h e = short h ∙ ap of_reading (ap reading e ∙ read_spelled f)

  -- what is said, by the length and the reading
  by_length : {P : Type 0} → (320 < length s → P) → (length s ≤ 320 → P) → P
  by_length {P} f g = go (ltb 320 (length s)) refl
    where
      go : (t : Bool) → ltb 320 (length s) ≡ t → P
      go true e = f (ltb-true 320 (length s) e)
      go false e = g (ltb-false 320 (length s) e)

  by_reading : {P : Type 0} → (reading s ≡ none → P) → ((f : Form) → reading s ≡ some f → P) → P
  by_reading {P} f g = go (reading s) refl
    where
      go : (o : Option Form) → reading s ≡ o → P
      go none e = f e
      go (some x) e = g x e

  abbrev answered : List ℕ
  answered = line_code (line_of s).answer

  code_long : 320 < length s → answered ≡ 1 ∷ []
  code_long h = ap (λ (r : Line). line_code r.answer) (long h)

  code_none : length s ≤ 320 → reading s ≡ none → answered ≡ 2 ∷ []
  code_none h e = ap (λ (r : Line). line_code r.answer) (short h ∙ ap of_reading e)

  code_form : (f : Form) → length s ≤ 320 → reading s ≡ some f → answered ≡ []
  code_form f h e = ap (λ (r : Line). line_code r.answer) (short h ∙ ap of_reading e)

  pub code_1 : (line_code (line_of s).answer ≡ 1 ∷ []) ↔ (320 < length s)
  code_1 = (
    (λ e. by_length (λ h. h) (λ h. by_reading (λ n. absurd (differ (sym (code_none h n) ∙ e) tt)) (λ f r. absurd (differ (sym (code_form f h r) ∙ e) tt)))),
    code_long,
  )

  pub code_2 : (line_code (line_of s).answer ≡ 2 ∷ []) ↔ ((length s ≤ 320) × ((f : Form) → s ≡ spell f → ⊥))
  code_2 = (
    (λ e. by_length (λ h. absurd (differ (sym (code_long h) ∙ e) tt)) (λ h. (h, λ f p. differ (sym (code_form f h (ap reading p ∙ read_spelled f)) ∙ e) tt))),
    λ (h, n). by_reading (λ e. code_none h e) (λ f e. absurd (n f (spelled_read s f e))),
  )

  pub code_2_right : (i a : ℤ) (zs : List ℤ) → s ≡ bytes "(right " ++ numeral i ++ bytes " (" ++ numerals a zs ++ bytes "))" → (length zs ≡ 1 → ⊥) → length s ≤ 320 → line_code (line_of s).answer ≡ 2 ∷ []
  code_2_right i a zs e other h = code_none h (right_unread s i a zs e other)

  pub code_2_byte : (k : ℕ) → length s ≤ 320 → k < length s → ((32 ≤ get_or s k 0) × (get_or s k 0 ≤ 126) → ⊥) → line_code (line_of s).answer ≡ 2 ∷ []
  code_2_byte k h l other = code_2.1 (h, λ f e. other (rw (sym e) at (spell_printable f k (rw e at l))))

pub code_2_empty : line_code (line_of []).answer ≡ 2 ∷ []
code_2_empty = (code_2 []).1 (omega arith, λ f e. let n : 0 ≡ length (spell f) = ap length e in omega (arith, spell_some f))
