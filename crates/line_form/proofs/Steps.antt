-- Laws of the parts of a line, in the form in which the code meets them.
--   word_test — whether a word stands at a place
--   word_yes, word_no, word_fits — the place after it
--   or_yes, or_no — one word more
--   next_word, last_word — the loop over the words, at a word and after the last
use Rattle.std.proofs.Common.{◌≡◌, ℕ, ◌+◌, ◌-◌, ◌≤◌, ◌<◌, min, max, Bool, true, false, ◌&&◌, eqb, List, [], ◌∷◌, length, get_or, take, drop, drop_of_length-le, drop-cons, add-one, refl, sym, ap, ap₂, ◌∙◌, arith, length-append, length-drop, eq-eqb, ne_eqb, eqb-true, le-leb}
use borrow.Author.Tests.{lt-leb}
use Rattle.std.specs.List.{starts_with}
use Rattle.std.proofs.Math.Seq.{take-length}
use Rattle.std.proofs.lemmas.Bool.{eqb-false}
use Rattle.std.proofs.lemmas.List.{drop_min}
use Rattle.line_numeral.specs.Numeral.{lost}
use Rattle.line_form.specs.declared.Head.{Head}
use Rattle.line_form.specs.declared.Word.{Word}
use Rattle.line_form.specs.Reading.{opening, starts, word_at, or_word, first_of}
use Rattle.line_form.proofs.Words.{starts_is}

eqb_sym : (m n : ℕ) → eqb m n ≡ eqb n m
eqb_sym m n = go (eqb m n) refl
  where
    go : (t : Bool) → eqb m n ≡ t → t ≡ eqb n m
    go true e = rw (eq-eqb n m (sym (eqb-true m n e)))
    go false e = rw (ne_eqb n m (λ q. eqb-false m n e (sym q)))

starts_with_is : (w l : List ℕ) → starts_with eqb l w ≡ starts w l
unfolding starts
starts_with_is [] l = refl
starts_with_is (b ∷ w) [] = refl
starts_with_is (b ∷ w) (c ∷ l) = ap₂ (λ (t u : Bool). t && u) (eqb_sym b c) (starts_with_is w l)

-- the test of the bytes from a place on, of which there may be none
pub word_test : (s w : List ℕ) (at : ℕ) {m : ℕ} → m ≡ min at (length s) → starts_with eqb (take (length s - m) (drop m s)) w ≡ starts w (drop at s)
word_test s w at {m} e =
    let n : take (length s - m) (drop m s) ≡ drop m s = rw (← length-drop m s) (take-length (drop m s)) in
    rw (n, e, drop_min at s) (starts_with_is w (drop at s))

module _ (s w : List ℕ) (at : ℕ) {t : Bool} (e : t ≡ starts w (drop at s)) where
  pub word_yes : t ≡ true → at + length w ≡ word_at s at w
  unfolding word_at
  word_yes y = rw (sym e ∙ y)

  pub word_no : t ≡ false → lost s ≡ word_at s at w
  unfolding word_at
  word_no n = rw (sym e ∙ n)

  pub word_fits : t ≡ true → at + length w ≤ max at (length s)
  word_fits y =
      let p = starts_is w (drop at s) (sym e ∙ y) in
      omega (arith, simp (length-append, length-drop) at (ap length p))

module _ (s : List ℕ) (at : ℕ) (h : Head) (w : Word) (o : List ℕ) where
  pub or_yes : h.next ≤ length s → h ≡ or_word s at h w o
  unfolding or_word
  or_yes l = rw (le-leb h.next (length s) l)

  pub or_no : {b : ℕ} → length s < h.next → b ≡ word_at s at o → record { word = w; next = b } ≡ or_word s at h w o
  unfolding or_word
  or_no l e = rw (lt-leb h.next (length s) l, e)

-- the words, one after another
module _ (s : List ℕ) (at : ℕ) (h : Head) (ws : List Word) (k : ℕ) where
  pub next_word : {g : Head} (d : Word) → k < length ws → g ≡ or_word s at h (get_or ws k d) (opening (get_or ws k d)) → first_of s at g (drop (k + 1) ws) ≡ first_of s at h (drop k ws)
  unfolding first_of
  next_word d l e = rw (drop-cons ws k d, e, add-one k)

  pub last_word : length ws ≤ k → h ≡ first_of s at h (drop k ws)
  unfolding first_of
  last_word l = rw (drop_of_length-le ws l)
