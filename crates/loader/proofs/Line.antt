-- What is decided of a line, in the shape in which the code meets it.
--   decided_short, decided_ended — 8 and 14
--   decided_unread — 1 and 2;  decided_form — what is decided of its form, capped, is right for the line
--   numbers_for    — the numbers of the form that was read are those of the line
--   refused_so     — a refused line leaves everything
use mathlib.Core.Path.{◌≡◌, refl, sym, ap, ◌∙◌}
use mathlib.Core.Bool.{Bool, true, false, cond}
use mathlib.Core.List.{List, [], ◌∷◌}
use mathlib.Core.Option.{Option, none, some}
use Prim.Native.Nat.{ℕ, ◌<◌}
use native.Mathlib.Omega.{arith}
use lib.Dec.{ltb}
use lib.ListN.{length}
use Rattle.rules.specs.Refusal.{code, number_of, values_of}
use Rattle.rules.specs.declared.Refusal.{Refusal}
use Rattle.rules.specs.declared.Refusal.TheVariants.{TooShort, AfterEnd, TooLong, NoForm}
use Rattle.line_numeral.specs.Numeral.{cap_at}
use Rattle.line_form.specs.Form.{Form}
use Rattle.line_form.specs.Reading.{reading}
use Rattle.line_parts.specs.Line.{capped_form, numbers_in, line_of, of_reading, refused}
use Rattle.std.specs.Prelude.{Result, Ok, Err}
use Rattle.line_parts.specs.declared.CappedForm.{CappedForm}
use Rattle.line_parts.specs.declared.Line.{Line}
use Rattle.line_form.specs.declared.Numbers.{Numbers}
use lib.IntN.{ℤ}
use Rattle.loader_values.specs.Capped.{values_in}
use Rattle.loader_lists.specs.Lists.{Lists, short_lists}
use Rattle.loader_progress.specs.Progress.{ended}
use Rattle.loader.specs.declared.AcceptedForm.{AcceptedForm}
use Rattle.loader.specs.declared.Loader.{Loader}
use Rattle.loader.specs.Answer.{line_answer}
use Rattle.loader.specs.Taken.{loader_after, lists_after, TakenAs}
use Rattle.loader.specs.Decided.{code_in, DecidedIn, NumbersFor, DecidedFor}
use Rattle.loader.proofs.Exact.{form_code, answer_form, code_capped, exact_loader, exact_room, exact_lists}

numbers_for : (line : List ℕ) {r : Line} {m : CappedForm} {vs : List ℤ} → r ≡ line_of line → r.answer ≡ Ok m → vs ≡ values_in m r.numbers.values → NumbersFor line vs
numbers_for line {r} {m} e h v k a =
    let x : m ≡ k = cc in
    v ∙ ap (λ (j : CappedForm). values_in j r.numbers.values) x ∙ ap (λ (q : Line). values_in k q.numbers.values) e

module _ (d : Loader) (l : Lists) (line : List ℕ) where
  pub refused_so : {r : Refusal} → code (Err r) ≡ line_answer d l line → TakenAs d line l (record { loader = d; outcome = Err r }) l
  unfolding loader_after lists_after
  refused_so t = record { says = t; loader = rw (← t); lists = rw (← t) }

  pub decided_short : short_lists l ≡ true → code (Err TooShort) ≡ line_answer d l line
  unfolding line_answer
  decided_short a = rw a

  module _ (a : short_lists l ≡ false) where
    pub decided_ended : ended d.stage ≡ true → code (Err AfterEnd) ≡ line_answer d l line
    unfolding line_answer
    decided_ended b = rw (a, b)

    module _ (b : ended d.stage ≡ false) where
      unread : {q : Refusal} (t : Bool) → ltb 320 (length line) ≡ t → (o : Option Form) → reading line ≡ o → (cond t (refused TooLong) (of_reading o)).answer ≡ Err q
          → number_of q ∷ values_of q ≡ line_answer d l line
      unfolding line_answer
      unread {q} true c o e h = let s : TooLong ≡ q = cc in rw (a, b, c, ← s)
      unread {q} false c none e h = let s : NoForm ≡ q = cc in rw (a, b, c, e, ← s)
      unread {q} false c (some f) e h = let z : ◌≡◌ {A = ℕ} 0 1 = cc in absurd (omega arith)

      pub decided_unread : {r : Line} {q : Refusal} → r ≡ line_of line → r.answer ≡ Err q → code (Err q) ≡ line_answer d l line
      unfolding line_of
      decided_unread e h = unread (ltb 320 (length line)) refl (reading line) refl (ap (λ (x : Line). x.answer) (sym e) ∙ h)

      -- a form: what is said of it, capped, is what is said of the line
      module _ (f : Form) (n : d.n < cap_at) (c : ltb 320 (length line) ≡ false) (e : reading line ≡ some f) where
        whole : code_in d (capped_form f) (numbers_in f).count (numbers_in f).inside ≡ line_answer d l line
        whole = code_capped d f n ∙ sym (answer_form d l line f a b c e)

        of_form_lem : {vs : List ℤ} (t : Result AcceptedForm Refusal) → NumbersFor line vs → vs ≡ values_in (capped_form f) (numbers_in f).values
            → DecidedIn d (capped_form f) (numbers_in f) t → DecidedFor d l line vs t
        unfolding loader_after lists_after
        of_form_lem (Err r) w v h = h ∙ whole
        of_form_lem (Ok x) w v h =
            let y : [] ≡ line_answer d l line = h.says ∙ whole in
            let s : form_code d f ≡ [] = sym (h.says ∙ code_capped d f n) in
            record {
              says = y;
              loader = rw (← y, e) (h.loader ∙ exact_loader d f n s);
              values = w;
              room = rw h.item (exact_room d f n s l a);
              lists = rw (← y, e, h.item, v) (exact_lists d f n s l a);
            }

      by_reading : {m : CappedForm} {z : Numbers} {vs : List ℤ} (t : Result AcceptedForm Refusal) (u : Bool) → ltb 320 (length line) ≡ u → (o : Option Form) → reading line ≡ o
          → (cond u (refused TooLong) (of_reading o)).answer ≡ Ok m → (cond u (refused TooLong) (of_reading o)).numbers ≡ z → d.n < cap_at → NumbersFor line vs
          → vs ≡ values_in m z.values → DecidedIn d m z t → DecidedFor d l line vs t
      by_reading t true c o e h k n w v g = let x : ◌≡◌ {A = ℕ} 0 1 = cc in absurd (omega arith)
      by_reading t false c none e h k n w v g = let x : ◌≡◌ {A = ℕ} 0 1 = cc in absurd (omega arith)
      by_reading {m} {z} t false c (some f) e h k n w v g =
          let x : capped_form f ≡ m = cc in
          of_form_lem f n c e t w (rw (x, k) v) (rw (x, k) g)

      pub decided_form : {r : Line} {m : CappedForm} {vs : List ℤ} (t : Result AcceptedForm Refusal) → d.n < cap_at → r ≡ line_of line → r.answer ≡ Ok m
          → vs ≡ values_in m r.numbers.values → DecidedIn d m r.numbers t → DecidedFor d l line vs t
      unfolding line_of
      decided_form t n e h v g =
          by_reading t (ltb 320 (length line)) refl (reading line) refl (ap (λ (x : Line). x.answer) (sym e) ∙ h) (ap (λ (x : Line). x.numbers) (sym e)) n
          (numbers_for line e h v) v g
