-- Laws of the parts of a line: words, and numbers after single spaces.
--   Then s a w b — where b is no place past the end of s, w stands at the place a and ends at b; parts are joined by `then`
--   word_then, number_then, head_then — each part that is read, in this form;  proofs/Lists has the others of a list
--   word_spelled, head_spelled — each part that is spelled, read at its place
use mathlib.Core.Path.{◌≡◌, refl, sym, ap, ap₂, ◌∙◌, subst}
use mathlib.Core.Bool.{Bool, true, false, cond}
use mathlib.Core.List.{List, [], ◌∷◌, ◌++◌, append-nil, append_assoc}
use Prim.Native.Nat.{ℕ, ◌+◌, ◌-◌, ◌≤◌}
use native.Mathlib.Omega.{arith}
use borrow.Author.Tests.{eq-eqb, eqb-true, le-leb, lt-leb}
use lib.Dec.{T, eqb, leb}
use lib.ListN.{length, drop, length-append, length-drop, drop_of_length-le}
use lib.Seq.{drop-drop, drop-length}
use Rattle.line_numeral.specs.Decimal.{numeral}
use Rattle.line_numeral.specs.Numeral.{lost, number_at}
use Rattle.line_numeral.proofs.Places.{by_test}
use Rattle.line_numeral.proofs.Spelling.{number_read, numeral_length}
use Rattle.rules.proofs.Ranges.{both_left, both_right}
use Rattle.line_form.specs.declared.Head.{Head}
use Rattle.line_form.specs.declared.Word.{Word}
use Rattle.line_form.specs.declared.Word.TheVariants.{Problem, Scale, Row, Right, Guess, Inverse, Weight, End}
use Rattle.line_form.specs.Reading.{opening, starts, word_at, or_word, first_of, head_at}

-- ---- a part of the line between two places
pub record Then (s : List ℕ) (a : ℕ) (w : List ℕ) (b : ℕ) : Type 0 where
  pub reach : b ≤ length s → (a ≤ length s) × (drop a s ≡ w ++ drop b s)

module _ {s : List ℕ} where
  pub then : {a b c : ℕ} {w v : List ℕ} → Then s a w b → Then s b v c → Then s a (w ++ v) c
  then f g = record {
    reach = λ h.
        let q = g.reach h in
        let p = f.reach q.0 in
        (p.0, p.1 ∙ rw (q.1, append_assoc));
  }

  -- a part of one byte or more that stands at a place
  pub part : {a b : ℕ} (w : List ℕ) → 1 ≤ length w → (b ≤ length s → drop a s ≡ w ++ drop b s) → Then s a w b
  part {a} {b} w l f = record {
    reach = λ h.
        let e = f h in
        let z : length s - a ≡ length w + length (drop b s) = sym (length-drop a s) ∙ ap length e ∙ length-append w (drop b s) in
        (omega arith, e);
  }

  pub whole : {w : List ℕ} {b : ℕ} → Then s 0 w b → b ≡ length s → s ≡ w
  whole {w} {b} f e = (f.reach (omega arith)).1 ∙ rw (e, drop-length, append-nil)

-- ---- words
starts_here : (w t : List ℕ) → starts w (w ++ t) ≡ true
unfolding starts
starts_here [] t = refl
starts_here (b ∷ w) t = rw (eq-eqb b b refl) (starts_here w t)

pub starts_is : (w l : List ℕ) → starts w l ≡ true → l ≡ w ++ drop (length w) l
unfolding starts
starts_is [] l e = refl
starts_is (b ∷ w) [] e = absurd (subst T (sym e) tt)
starts_is (b ∷ w) (c ∷ l) e = ap₂ (λ (x : ℕ) (m : List ℕ). x ∷ m) (eqb-true c b (both_left (eqb c b) (starts w l) e)) (starts_is w l (both_right (eqb c b) (starts w l) e))

module _ (s : List ℕ) (at : ℕ) where
  pub word_spelled : (w t : List ℕ) → drop at s ≡ w ++ t → word_at s at w ≡ at + length w
  unfolding word_at
  word_spelled w t e = rw (e, starts_here w t)

  pub word_then : (w : List ℕ) → 1 ≤ length w → Then s at w (word_at s at w)
  unfolding word_at
  word_then w l = part w l (by_test (λ b. b ≤ length s → drop at s ≡ w ++ drop b s) (starts w (drop at s)) stands (λ _ h. absurd (omega arith)))
    where
      stands : starts w (drop at s) ≡ true → at + length w ≤ length s → drop at s ≡ w ++ drop (at + length w) s
      stands e h = starts_is w (drop at s) e ∙ rw drop-drop

  pub number_then : Then s at (numeral (number_at s at).value) (number_at s at).next
  number_then = part (numeral (number_at s at).value) (numeral_length (number_at s at).value) (number_read s at)

-- past the end of the line no word stands
pub word_lost : (s w : List ℕ) → 1 ≤ length w → word_at s (lost s) w ≡ lost s
unfolding word_at starts
word_lost s [] l = absurd (omega arith)
word_lost s (b ∷ w) l = rw (drop_of_length-le s {i = lost s} (omega arith))

-- ---- the head
module _ (s : List ℕ) (at : ℕ) where
  abbrev HeadThen : Head → Type 0
  HeadThen h = Then s at (opening h.word) h.next

  opening_length : (w : Word) → 1 ≤ length (opening w)
  opening_length Problem = omega arith
  opening_length Scale = omega arith
  opening_length Row = omega arith
  opening_length Right = omega arith
  opening_length Guess = omega arith
  opening_length Inverse = omega arith
  opening_length Weight = omega arith
  opening_length End = omega arith

  or_then : (h : Head) (w : Word) → HeadThen h → HeadThen (or_word s at h w (opening w))
  unfolding or_word
  or_then h w p = by_test HeadThen (leb h.next (length s)) (λ _. p) (λ _. word_then s at (opening w) (opening_length w))

  first_then : (ws : List Word) (h : Head) → HeadThen h → HeadThen (first_of s at h ws)
  unfolding first_of
  first_then [] h p = p
  first_then (w ∷ ws) h p = first_then ws (or_word s at h w (opening w)) (or_then h w p)

  pub head_then : HeadThen (head_at s at)
  unfolding head_at
  head_then = first_then _ _ (part (opening End) (opening_length End) (λ h. absurd (omega arith)))

-- the head of a line by its bytes alone
first_start : List ℕ → Head → List Word → Head
first_start s h [] = h
first_start s h (w ∷ ws) = cond (starts (opening w) s) (record { word = w; next = length (opening w) }) (first_start s (record { word = w; next = lost s }) ws)

first_stays : (s : List ℕ) (h : Head) (ws : List Word) → h.next ≤ length s → first_of s 0 h ws ≡ h
unfolding first_of or_word
first_stays s h [] l = refl
first_stays s h (w ∷ ws) l = rw (le-leb h.next (length s) l) (first_stays s h ws l)

or_lost : (s : List ℕ) (w v : Word) {b : ℕ} → word_at s 0 (opening v) ≡ b → or_word s 0 (record { word = w; next = lost s }) v (opening v) ≡ record { word = v; next = b }
unfolding or_word
or_lost s w v e = rw (lt-leb (lost s) (length s) (omega arith), e)

first_start_lem : (s : List ℕ) (w : Word) (ws : List Word) → first_of s 0 (record { word = w; next = lost s }) ws ≡ first_start s (record { word = w; next = lost s }) ws
unfolding first_of first_start
first_start_lem s w [] = refl
first_start_lem s w (v ∷ ws) = go (starts (opening v) s) refl (first_start_lem s v ws)
  where
    go : (t : Bool) → starts (opening v) s ≡ t
        → first_of s 0 (record { word = v; next = lost s }) ws ≡ first_start s (record { word = v; next = lost s }) ws
        → first_of s 0 (or_word s 0 (record { word = w; next = lost s }) v (opening v)) ws
        ≡ cond t (record { word = v; next = length (opening v) }) (first_start s (record { word = v; next = lost s }) ws)
    go true e ih =
        let l : length s ≡ length (opening v) + length (drop (length (opening v)) s) = ap length (starts_is (opening v) s e) ∙ length-append (opening v) (drop (length (opening v)) s) in
        rw (or_lost s w v {b = length (opening v)} (unfold word_at in rw e (omega arith))) (first_stays s (record { word = v; next = length (opening v) }) ws (omega arith))
    go false e ih = rw (or_lost s w v {b = lost s} (unfold word_at in rw e)) ih

pub head_spelled : (w : Word) (t : List ℕ) → head_at (opening w ++ t) 0 ≡ record { word = w; next = length (opening w) }
unfolding head_at first_start starts
head_spelled Problem t = first_start_lem (opening Problem ++ t) End _
head_spelled Scale t = first_start_lem (opening Scale ++ t) End _
head_spelled Row t = first_start_lem (opening Row ++ t) End _
head_spelled Right t = first_start_lem (opening Right ++ t) End _
head_spelled Guess t = first_start_lem (opening Guess ++ t) End _
head_spelled Inverse t = first_start_lem (opening Inverse ++ t) End _
head_spelled Weight t = first_start_lem (opening Weight ++ t) End _
head_spelled End t = first_start_lem (opening End ++ t) End _
