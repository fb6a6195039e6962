-- What `take` says of a line and leaves of its loader and lists, from `LineStated` alone (01: "An accepted line puts n, or s and t, into the desk, or its form's
-- other numbers at their own places in the lent lists [..] A refused line leaves the desk as before the call, and its lists").
--   TakenStated d line l r l' — r is what `take` answers at the loader d with the lists l, and l' are its lists afterwards: what is said is said exactly in its
--     stated case; an accepted line is a form, and loader and lists are what that form leaves; a refused one leaves both
use Rattle.std.specs.Prelude.{List, [], ◌↔◌, ◌≡◌, ℕ}
use Rattle.rules.specs.Refusal.{code}
use Rattle.line_form.specs.Form.{Form}
use Rattle.line_form.specs.Spelling.{spell}
use Rattle.loader_values.specs.Item.{item_of}
use Rattle.loader_lists.specs.Lists.{Lists}
use Rattle.loader.specs.declared.Loader.{Loader}
use Rattle.loader.specs.declared.Taken.{Taken}
use Rattle.loader.specs.Taken.{after, lists_with}
use Rattle.loader_stated.specs.Stated.{LineStated}

pub record TakenStated (d : Loader) (line : List ℕ) (l : Lists) (r : Taken) (l' : Lists) : Type 0 where
  pub says : (w : List ℕ) → (code r.outcome ≡ w) ↔ LineStated d l line w
  pub accepted : code r.outcome ≡ [] → (f : Form) × ((line ≡ spell f) × ((r.loader ≡ after d (item_of f)) × (l' ≡ lists_with d f l)))
  pub refused : (code r.outcome ≡ [] → ⊥) → (r.loader ≡ d) × (l' ≡ l)
