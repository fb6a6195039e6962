-- The lines of a text of forms, and the text from its lines.
--   text_both, spelled_both — the text and the lines of forms one after another
--   end_lines, text_last — the lines of an end without its line feed; a text whose last form is an end, its last line feed apart
--   unfed_lines, spells_lines — the lines of a file that spells forms, the last of them an end, with its last line feed or without
--   joined_lines — lines, each with a line feed;  text_joined — a text of forms is so
--   Back, back_more, first_byte, lines_back — every text is its lines, each with a line feed, or lacks the last of these
--   back_spells, lines_spell — so a file whose lines spell forms spells these forms
use mathlib.Core.Path.{◌≡◌, refl, sym, ap, subst, ◌∙◌}
use mathlib.Core.Bool.{Bool, true, false, cond}
use mathlib.Core.List.{List, [], ◌∷◌, ◌++◌, append_assoc, append_cancel_right}
use Prim.Native.Nat.{ℕ}
use native.Mathlib.Omega.{arith}
use borrow.Author.Tests.{eqb-true}
use lib.Dec.{eqb}
use Rattle.line_form.specs.Form.{Form, end}
use Rattle.line_form.specs.Spelling.{spell}
use Rattle.loader_runs.specs.Lines.{before, lines_of}
use Rattle.loader_runs.proofs.Passing.{spelled}
use Rattle.loader_spelled.specs.Ones.{text_of}
use Rattle.loader_spelled.proofs.Text.{lines_text, lines_of_lem}
use Rattle.file_shape.specs.Shape.{Spells, fed, unfed}

-- ---- from forms to lines
text_both : (fs gs : List Form) → text_of (fs ++ gs) ≡ text_of fs ++ text_of gs
unfolding text_of
text_both [] gs = refl
text_both (f ∷ fs) gs = ap (λ (s : List ℕ). spell f ++ (10 ∷ s)) (text_both fs gs) ∙ sym (append_assoc (spell f) (10 ∷ text_of fs) (text_of gs))

spelled_both : (fs gs : List Form) → spelled (fs ++ gs) ≡ spelled fs ++ spelled gs
spelled_both [] gs = refl
spelled_both (f ∷ fs) gs = ap (λ (ls : List (List ℕ)). spell f ∷ ls) (spelled_both fs gs)

end_lines : lines_of (spell end) ≡ spell end ∷ []
unfolding lines_of spell
end_lines = refl

pub text_last : (fs : List Form) → text_of (fs ++ (end ∷ [])) ≡ (text_of fs ++ spell end) ++ (10 ∷ [])
unfolding text_of
text_last fs = text_both fs (end ∷ []) ∙ sym (append_assoc (text_of fs) (spell end) (10 ∷ []))

unfed_lines : (fs : List Form) → lines_of (text_of fs ++ spell end) ≡ spelled (fs ++ (end ∷ []))
unfed_lines fs = lines_text fs (spell end) ∙ ap (λ (ls : List (List ℕ)). spelled fs ++ ls) end_lines ∙ sym (spelled_both fs (end ∷ []))

pub spells_lines : (fs : List Form) {file : List ℕ} → Spells (fs ++ (end ∷ [])) file → lines_of file ≡ spelled (fs ++ (end ∷ []))
spells_lines fs (fed e) = ap lines_of e ∙ lines_of_lem (fs ++ (end ∷ []))
spells_lines fs {file} (unfed e) = ap lines_of (append_cancel_right file (text_of fs ++ spell end) (10 ∷ []) (e ∙ text_last fs)) ∙ unfed_lines fs

-- ---- from lines to forms
abbrev joined_lines : List (List ℕ) → List ℕ
joined_lines [] = []
joined_lines (l ∷ ls) = l ++ (10 ∷ joined_lines ls)

text_joined : (fs : List Form) → text_of fs ≡ joined_lines (spelled fs)
unfolding text_of
text_joined [] = refl
text_joined (f ∷ fs) = ap (λ (s : List ℕ). spell f ++ (10 ∷ s)) (text_joined fs)

data Back (s t : List ℕ) : Type 0 where
  whole : s ≡ t → Back s t
  short : s ++ (10 ∷ []) ≡ t → Back s t

back_more : (b : ℕ) {s t : List ℕ} → Back s t → Back (b ∷ s) (b ∷ t)
back_more b (whole e) = whole (ap (λ (r : List ℕ). b ∷ r) e)
back_more b (short e) = short (ap (λ (r : List ℕ). b ∷ r) e)

first_byte : (b : ℕ) (s : List ℕ) (ls : List (List ℕ)) → Back s (joined_lines ls) → Back (b ∷ s) (joined_lines (before b ls))
first_byte b s [] (whole e) = short (ap (λ (r : List ℕ). b ∷ (r ++ (10 ∷ []))) e)
first_byte b [] [] (short e) = let z : ◌≡◌ {A = ℕ} 0 1 = cc in absurd (omega arith)
first_byte b (c ∷ s) [] (short e) = let z : ◌≡◌ {A = ℕ} 0 1 = cc in absurd (omega arith)
first_byte b s (l ∷ ls) r = back_more b r

lines_back : (s : List ℕ) → Back s (joined_lines (lines_of s))
unfolding lines_of
lines_back [] = whole refl
lines_back (b ∷ s) = go (eqb b 10) refl (lines_back s)
  where
    go : (t : Bool) → eqb b 10 ≡ t → Back s (joined_lines (lines_of s)) → Back (b ∷ s) (joined_lines (cond t ([] ∷ lines_of s) (before b (lines_of s))))
    go true e r = subst (λ (c : ℕ). Back (c ∷ s) (10 ∷ joined_lines (lines_of s))) (sym (eqb-true b 10 e)) (back_more 10 r)
    go false e r = first_byte b s (lines_of s) r

back_spells : (fs : List Form) {file t : List ℕ} → t ≡ text_of fs → Back file t → Spells fs file
back_spells fs e (whole r) = fed (r ∙ e)
back_spells fs e (short r) = unfed (r ∙ e)

pub lines_spell : (file : List ℕ) (fs : List Form) → lines_of file ≡ spelled fs → Spells fs file
lines_spell file fs e = back_spells fs (ap joined_lines e ∙ sym (text_joined fs)) (lines_back file)
