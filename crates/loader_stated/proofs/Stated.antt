-- Each refusal of a line is said exactly in its stated case (specs/Stated).
--   Reached, reached — a line is refused with 8, 14, 1, 2 or 11, or it is a form in time
--   in_time, some_stated, some_other — so there is a stated case of every line, at every loader
--   code_stated, line_exactly — what is said is what is stated, at a loader whose own n is in range;  made_exactly — so it is at every loader made by `new` and `take`
--   code_own, code_other, other_exactly — and at any other loader
use mathlib.Core.Path.{◌≡◌, refl, sym, subst, ◌∙◌}
use mathlib.Core.Bool.{Bool, true, false}
use mathlib.Core.List.{List, [], ◌∷◌}
use mathlib.Core.Logic.{◌↔◌}
use mathlib.Core.Option.{Option, none, some}
use Prim.Native.Nat.{ℕ, ◌≤◌}
use native.Mathlib.Omega.{arith}
use borrow.Author.Tests.{ltb-true, ltb-false}
use lib.Dec.{ltb}
use lib.IntN.{pos}
use lib.ListN.{length}
use Rattle.integer.proofs.Search.{clash}
use Rattle.rules.specs.Range.{in_range}
use Rattle.rules.specs.declared.Kind.TheVariants.{Size}
use Rattle.line_form.specs.Form.{Form}
use Rattle.line_form.specs.Spelling.{spell}
use Rattle.line_form.specs.Reading.{reading}
use Rattle.line_form.proofs.Spelling.{reads_as, spelled_read}
use Rattle.line_parts.proofs.Refusals.{spell_one}
use Rattle.loader_values.specs.Item.{item_of, placed, outside, miscounted}
use Rattle.loader_lists.specs.Lists.{Lists, short_lists}
use Rattle.loader_progress.specs.Progress.{missing, sized, ended, early, repeated, incomplete}
use Rattle.loader_progress.proofs.Progress.{misplaced_own}
use Rattle.loader.specs.declared.Loader.{Loader}
use Rattle.loader.specs.Answer.{line_answer}
use Rattle.loader.proofs.Exact.{form_code}
use Rattle.loader_runs.specs.Accepts.{Made}
use Rattle.loader_runs.proofs.Sound.{made_size}
use Rattle.loader_runs.specs.OwnSize.{OwnSize}
use Rattle.loader_stated.specs.Stated.{Formed, LineStated, too_short, after_end, too_long, no_form, too_early, i_outside, again, value_outside, wrong_count, forms_missing, accepted, OtherStated, own_size, no_such_form}
use Rattle.loader_stated.proofs.CodeLaws.{own_placed, code_form, code_by}

module _ (d : Loader) (l : Lists) (line : List ℕ) where
  abbrev NoneInTime : Type 0
  NoneInTime = (f : Form) → Formed d l line f → early d.stage (item_of f) ≡ true

  data Reached : Type 0 where
    refused : (w : List ℕ) → NoneInTime → LineStated d l line w → Reached
    formed : (f : Form) → Formed d l line f → early d.stage (item_of f) ≡ false → Reached

  -- ---- up to 11
  at_form : (f : Form) → Formed d l line f → (b : Bool) → early d.stage (item_of f) ≡ b → Reached
  at_form f h true e = refused (11 ∷ []) (λ g k. subst (λ (x : Form). early d.stage (item_of x) ≡ true) (spell_one f g (sym h.spelled ∙ k.spelled)) e) (too_early f h e)
  at_form f h false e = formed f h e

  at_reading : short_lists l ≡ false → ended d.stage ≡ false → length line ≤ 320 → (o : Option Form) → reading line ≡ o → Reached
  at_reading a b c none e =
      let no : (f : Form) → line ≡ spell f → ⊥ = λ f p. nothing (sym e ∙ reads_as line f p) in
      refused (2 ∷ []) (λ f h. absurd (no f h.spelled)) (no_form a b c no)
    where
      nothing : {f : Form} → none ≡ some f → ⊥
      nothing q = let z : ◌≡◌ {A = ℕ} 0 1 = cc in omega arith
  at_reading a b c (some f) e = at_form f (record { long = a; going = b; length_max = c; spelled = spelled_read line f e }) (early d.stage (item_of f)) refl

  reached : Reached
  reached = go (short_lists l) refl (ended d.stage) refl (ltb 320 (length line)) refl
    where
      go : (x : Bool) → short_lists l ≡ x → (y : Bool) → ended d.stage ≡ y → (z : Bool) → ltb 320 (length line) ≡ z → Reached
      go true a y b z c = refused (8 ∷ []) (λ f h. clash (short_lists l) a h.long) (too_short a)
      go false a true b z c = refused (14 ∷ []) (λ f h. clash (ended d.stage) b h.going) (after_end a b)
      go false a false b true c = refused (1 ∷ []) (λ f h. absurd (omega (arith, ltb-true 320 (length line) c, h.length_max))) (too_long a b (ltb-true 320 (length line) c))
      go false a false b false c = at_reading a b (omega (arith, ltb-false 320 (length line) c)) (reading line) refl

  -- ---- the tests of a form in time
  in_time : (f : Form) → Formed d l line f → early d.stage (item_of f) ≡ false → (w : List ℕ) × LineStated d l line w
  in_time f h t =
      go (placed d.n (item_of f)) refl (repeated d.stage d.sets (item_of f)) refl (outside f) refl (miscounted d.n f) refl (incomplete d.n d.sets (item_of f)) refl
    where
      go : (p : Bool) → placed d.n (item_of f) ≡ p → (r : Bool) → repeated d.stage d.sets (item_of f) ≡ r → (o : Bool) → outside f ≡ o →
          (m : Bool) → miscounted d.n f ≡ m → (c : Bool) → incomplete d.n d.sets (item_of f) ≡ c → (w : List ℕ) × LineStated d l line w
      go false a r b o e m g c k = (3 ∷ [], i_outside f h t a)
      go true a true b o e m g c k = (12 ∷ [], again f h t a b)
      go true a false b true e m g c k = (3 ∷ [], value_outside f (record { formed = h; timely = t; place = a; first = b }) e)
      go true a false b false e true g c k = (4 ∷ [], wrong_count f (record { formed = h; timely = t; place = a; first = b }) e g)
      go true a false b false e false g true k = (13 ∷ missing d.n d.sets ∷ [], forms_missing f (record { formed = h; timely = t; place = a; first = b }) e g k)
      go true a false b false e false g false k = ([], accepted f (record { formed = h; timely = t; place = a; first = b }) e g k)

  some_stated : (w : List ℕ) × LineStated d l line w
  some_stated = go reached
    where
      go : Reached → (w : List ℕ) × LineStated d l line w
      go (refused w h s) = (w, s)
      go (formed f h t) = in_time f h t

  some_other : (w : List ℕ) × OtherStated d l line w
  some_other = go reached
    where
      go : Reached → (w : List ℕ) × OtherStated d l line w
      go (refused w h s) = (w, no_such_form w h s)
      go (formed f h t) = (3 ∷ [], own_size f h t)

  -- ---- a loader whose own n is in range
  code_stated : OwnSize d → {w : List ℕ} → LineStated d l line w → line_answer d l line ≡ w
  code_stated own s = code_by d l line (λ f h t. own_placed d own (item_of f)) s

  pub line_exactly : OwnSize d → (w : List ℕ) → (line_answer d l line ≡ w) ↔ LineStated d l line w
  line_exactly own w = let s = some_stated in (λ e. subst (LineStated d l line) (sym (code_stated own s.1) ∙ e) s.1, code_stated own)

  pub made_exactly : Made d → (w : List ℕ) → (line_answer d l line ≡ w) ↔ LineStated d l line w
  made_exactly m = line_exactly (made_size m)

  -- ---- any other loader
  module _ (given : sized d.stage ≡ true) (out : in_range Size (pos d.n) ≡ false) where
    code_own : {f : Form} → Formed d l line f → early d.stage (item_of f) ≡ false → line_answer d l line ≡ 3 ∷ []
    code_own {f} h t = code_form d l line h ∙ unfold form_code in rw (t, ← misplaced_own d.stage d.n (item_of f) given out)

    code_other : {w : List ℕ} → OtherStated d l line w → line_answer d l line ≡ w
    code_other (own_size f h t) = code_own h t
    code_other (no_such_form w late s) = code_by d l line (λ f h t. clash (early d.stage (item_of f)) (late f h) t) s

    pub other_exactly : (w : List ℕ) → (line_answer d l line ≡ w) ↔ OtherStated d l line w
    other_exactly w = let s = some_other in (λ e. subst (OtherStated d l line) (sym (code_other s.1) ∙ e) s.1, code_other)
