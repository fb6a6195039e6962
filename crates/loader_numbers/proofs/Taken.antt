-- What a line leaves of a loader in nine numbers.
--   taken_accepted, taken_refused — the contract of `take` from that of `Loader::take`, for both of its outcomes
--   numbers_next     — the numbers afterwards stand for the loader after the line
--   numbers_refused, lists_refused — a refused line leaves every number, of the loader and of the lists
use mathlib.Core.Path.{◌≡◌, refl, sym, ap, subst, ◌∙◌}
use mathlib.Core.List.{List, [], ◌∷◌}
use Prim.Native.Nat.{ℕ}
use Rattle.rules.specs.Refusal.{code, number_of, values_of}
use Rattle.std.specs.Prelude.{Ok, Err}
use Rattle.rules.specs.declared.Refusal.{Refusal}
use Rattle.rules.proofs.Verdicts.{accepted_new, accepted_old}
use Rattle.loader_lists.specs.Lists.{Lists}
use Rattle.loader.specs.declared.Loader.{Loader}
use Rattle.loader.specs.declared.Taken.{Taken}
use Rattle.loader.specs.Answer.{line_answer}
use Rattle.loader.specs.Taken.{loader_after, lists_after, TakenAs, loader_of, numbers_of_loader}
use Rattle.loader_numbers.specs.Taken.{numbers_after, LoaderTaken}
use Rattle.loader.proofs.Numbers.{read_written}

module _ (w : List ℕ) {line : List ℕ} {l l' : Lists} {d : Loader} {t : Taken} (e : d ≡ loader_of w) (x : TakenAs d line l t l') where
  own : TakenAs (loader_of w) line l t l'
  own = subst (λ (d : Loader). TakenAs d line l t l') e x

  pub taken_accepted : {w' : List ℕ} → t.outcome ≡ Ok tt → w' ≡ numbers_of_loader t.loader → LoaderTaken w line l (Ok tt) w' l'
  unfolding numbers_after
  taken_accepted o n =
      let a : line_answer (loader_of w) l line ≡ [] = sym own.says ∙ ap code o in
      record { says = sym a; numbers = n ∙ ap numbers_of_loader own.loader ∙ sym (accepted_new _ _ a); lists = own.lists }

  pub taken_refused : {f : Refusal} → t.outcome ≡ Err f → LoaderTaken w line l (Err f) w l'
  unfolding numbers_after
  taken_refused {f} o =
      let a : line_answer (loader_of w) l line ≡ number_of f ∷ values_of f = sym own.says ∙ ap code o in
      record { says = sym a; numbers = sym (accepted_old _ _ a); lists = own.lists }

module _ (w : List ℕ) (l : Lists) (line : List ℕ) where
  pub numbers_refused : {k : ℕ} {vs : List ℕ} → line_answer (loader_of w) l line ≡ k ∷ vs → numbers_after w l line ≡ w
  unfolding numbers_after
  numbers_refused a = accepted_old _ _ a

  pub lists_refused : {k : ℕ} {vs : List ℕ} → line_answer (loader_of w) l line ≡ k ∷ vs → lists_after (loader_of w) l line ≡ l
  unfolding lists_after
  lists_refused a = accepted_old _ _ a

  pub numbers_next : loader_of (numbers_after w l line) ≡ loader_after (loader_of w) l line
  unfolding numbers_after loader_after
  numbers_next = go (line_answer (loader_of w) l line) refl
    where
      go : (r : List ℕ) → line_answer (loader_of w) l line ≡ r → loader_of (numbers_after w l line) ≡ loader_after (loader_of w) l line
      go [] a = ap loader_of (accepted_new _ _ a) ∙ read_written (loader_after (loader_of w) l line)
      go (k ∷ vs) a = ap loader_of (accepted_old _ _ a) ∙ sym (accepted_old _ _ a)
