-- The theorems for specs/Paper01, a theorem for each statement.
use mathlib.Core.Path.{◌≡◌, refl, sym, subst, ◌∙◌}
use Prim.Native.Nat.{suc, ◌-◌}
use native.Mathlib.Omega.{arith}
use Rattle.line_form.specs.Form.{end}
use Rattle.line_form.specs.Spelling.{spell}
use Rattle.line_form.proofs.Spelling.{read_spelled}
use Rattle.loader_lists.specs.Lists.{Lists}
use Rattle.loader_lists.proofs.Lists.{lists-≡}
use Rattle.loader.proofs.Ended.{EndFills, end_fills}
use Rattle.listing.proofs.LeftOut.{without_weights}
use Rattle.promises.specs.Paper01 as paper

pub end_writes_ones : paper.EndWritesOnes
end_writes_ones d l r l' x e i =
    let f : EndFills d l l' = subst (λ (k : Lists). EndFills d l k) (sym x.lists) (end_fills d l (spell end) (sym x.says ∙ e) (read_spelled end)) in
    let back : suc i - 1 ≡ i = omega arith in (
      λ h g. rw back at (f.one (suc i) (omega arith) (omega (arith, h)) g),
      (λ g. rw back at (f.kept (suc i) g), (λ h. f.past i h, lists-≡ f.matrix f.right f.tolerance f.guess f.inverse refl)),
    )

pub without_weights_same : paper.WithoutWeightsSame
without_weights_same file file' c c' same none ones old new old' new' count count' x y =
    x.bytes ∙ without_weights file file' c c' same none ones ∙ sym y.bytes
