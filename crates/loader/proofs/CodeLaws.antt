-- What a refused line leaves, and a loader whose own n is out of range.
--   refused_leaves — a refused line leaves the loader and the lists as they were; so after 13 the loader can still be completed
--   own_size       — past problem, a loader whose own n is outside its range answers 3 to every line that comes to the test
use mathlib.Core.Path.{◌≡◌}
use mathlib.Core.Bool.{true, false}
use mathlib.Core.List.{List, [], ◌∷◌}
use mathlib.Core.Option.{some}
use Prim.Native.Nat.{ℕ}
use lib.IntN.{pos}
use lib.ListN.{take}
use Rattle.rules.specs.Range.{in_range}
use Rattle.rules.specs.declared.Kind.TheVariants.{Size}
use Rattle.rules.proofs.Tests.{None}
use Rattle.line_form.specs.Form.{Form}
use Rattle.line_form.specs.Reading.{reading}
use Rattle.loader_values.specs.Item.{item_of}
use Rattle.loader_lists.specs.Lists.{Lists}
use Rattle.loader_progress.specs.Progress.{sized}
use Rattle.loader_progress.proofs.Progress.{misplaced_own}
use Rattle.loader_order.specs.Order.{line_order}
use Rattle.loader_order.proofs.CodeLaws.{code_3}
use Rattle.loader.specs.declared.Loader.{Loader}
use Rattle.loader.specs.Answer.{case_of, line_answer}
use Rattle.loader.specs.Taken.{loader_after, lists_after}

module _ (d : Loader) (l : Lists) (line : List ℕ) where
  pub refused_leaves : {k : ℕ} {ks : List ℕ} → line_answer d l line ≡ k ∷ ks → (loader_after d l line ≡ d) × (lists_after d l line ≡ l)
  unfolding loader_after lists_after
  refused_leaves e = (rw e, rw e)

  pub own_size : {f : Form} → reading line ≡ some f → sized d.stage ≡ true → in_range Size (pos d.n) ≡ false → None (take 5 (line_order (case_of d l line)))
      → line_answer d l line ≡ 3 ∷ []
  unfolding line_answer
  own_size {f} e s o n = (code_3 (case_of d l line)).1 (n, rw (e, ← misplaced_own d.stage d.n (item_of f) s o))
