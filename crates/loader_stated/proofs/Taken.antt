-- What `take` says and leaves, in the words of specs/Taken.
--   taken_stated — so it is at every loader made by `new` and `take`;  taken_other — what is said at any other
use mathlib.Core.Path.{◌≡◌, refl, sym, ◌∙◌}
use mathlib.Core.Bool.{true, false}
use mathlib.Core.List.{List, [], ◌∷◌}
use mathlib.Core.Logic.{◌↔◌}
use Prim.Native.Nat.{ℕ}
use lib.IntN.{pos}
use Rattle.rules.specs.Range.{in_range}
use Rattle.rules.specs.Refusal.{code}
use Rattle.rules.specs.declared.Kind.TheVariants.{Size}
use Rattle.line_form.specs.Form.{Form}
use Rattle.line_form.specs.Spelling.{spell}
use Rattle.line_form.proofs.Spelling.{spelled_read}
use Rattle.loader_values.specs.Item.{item_of}
use Rattle.loader_lists.specs.Lists.{Lists}
use Rattle.loader_progress.specs.Progress.{sized}
use Rattle.loader.specs.declared.Loader.{Loader}
use Rattle.loader.specs.declared.Taken.{Taken}
use Rattle.loader.specs.Answer.{line_answer}
use Rattle.loader.specs.Taken.{after, lists_with, TakenAs}
use Rattle.loader.proofs.Accepted.{accepted_form}
use Rattle.loader.proofs.CodeLaws.{refused_leaves}
use Rattle.loader_runs.specs.Accepts.{Made}
use Rattle.loader_stated.specs.Stated.{OtherStated}
use Rattle.loader_stated.specs.Taken.{TakenStated}
use Rattle.loader_stated.proofs.Stated.{made_exactly, other_exactly}

module _ (d : Loader) (line : List ℕ) (l : Lists) (r : Taken) (l' : Lists) (x : TakenAs d line l r l') where
  form_left : line_answer d l line ≡ [] → (f : Form) × ((line ≡ spell f) × ((r.loader ≡ after d (item_of f)) × (l' ≡ lists_with d f l)))
  form_left e =
      let a = accepted_form d l line e in
      (a.0, (spelled_read line a.0 a.1.reads, (x.loader ∙ a.1.loader, x.lists ∙ a.1.lists)))

  both_left : (code r.outcome ≡ [] → ⊥) → (r.loader ≡ d) × (l' ≡ l)
  both_left h = go (line_answer d l line) refl
    where
      go : (w : List ℕ) → line_answer d l line ≡ w → (r.loader ≡ d) × (l' ≡ l)
      go [] e = absurd (h (x.says ∙ e))
      go (k ∷ ks) e = let o = refused_leaves d l line e in (x.loader ∙ o.0, x.lists ∙ o.1)

  pub taken_stated : Made d → TakenStated d line l r l'
  taken_stated m = record {
    says = λ w. let s = made_exactly d l line m w in (λ e. s.0 (sym x.says ∙ e), λ y. x.says ∙ s.1 y);
    accepted = λ e. form_left (sym x.says ∙ e);
    refused = both_left;
  }

  pub taken_other : sized d.stage ≡ true → in_range Size (pos d.n) ≡ false → (w : List ℕ) → (code r.outcome ≡ w) ↔ OtherStated d l line w
  taken_other given out w = let s = other_exactly d l line given out w in (λ e. s.0 (sym x.says ∙ e), λ y. x.says ∙ s.1 y)
