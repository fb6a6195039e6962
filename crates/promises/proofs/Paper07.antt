-- The theorems for specs/Paper07, a theorem for each statement.
use mathlib.Core.Path.{refl, sym, subst, ◌∙◌}
use Prim.Native.Nat.{ℕ}
use lib.IntN.{pos}
use Rattle.integer.specs.Finite.{largest}
use Rattle.linear.proofs.Written.{front_at}
use Rattle.rules.specs.Range.{in_range, range_of, ranges}
use Rattle.enclosure.specs.Reckoning.{defect, load}
use Rattle.weights_spec.specs.Promised.{SearchStated}
use Rattle.weights_spec.specs.Request.{search_problem}
use Rattle.weights_spec.specs.Search.{passed, weights_after}
use Rattle.weights_spec.specs.Sequence.{loads, shift, tried}
use Rattle.weights_spec.proofs.Bits.{bits_fit, bits_fewest}
use Rattle.weights_spec.proofs.Contract.{fit_request}
use Rattle.weights_spec.proofs.First.{good_margins, margins_good}
use Rattle.weights_spec.proofs.Lists.{tried_first, tried_next}
use Rattle.weights_spec.proofs.Promises.{search_stated, code_search, found_usable, count_first, none_exactly, larger_allowance}
use Rattle.promises.specs.Paper07 as paper
use Rattle.promises.specs.Ways.{Refused}
use Rattle.promises.proofs.Ways.{refused_old}

pub begins_with_ones : paper.BeginsWithOnes
begins_with_ones = tried_first

pub next_list : paper.NextList
unfolding load defect
next_list P k =
    let w = tried P k in
    (shift P w, (tried_next P k, (bits_fit (largest P.n (loads P w)), bits_fewest (largest P.n (loads P w)))))

pub good_is_margins : paper.GoodIsMargins
good_is_margins P w = (good_margins P w, margins_good P w)

pub allowance_ranged : paper.AllowanceRanged
unfolding in_range range_of ranges
allowance_ranged z = refl

pub reports_place : paper.ReportsPlace
unfolding weights_after
reports_place Q r weights x e =
    let z = sym x.says ∙ e in
    let u = found_usable Q z in (
      count_first Q r weights x e,
      λ i l. rw (x.weights_are, z) (front_at Q.weights (λ (i : ℕ). pos (tried (search_problem Q) (passed Q) i)) (pos 0) Q.n i l (fit_request Q u.long u.inside).long),
    )

pub returns_margins : paper.ReturnsMargins
returns_margins Q r weights x e = x.margins e

pub larger_allowance_same : paper.LargerAllowance
larger_allowance_same = larger_allowance

pub search_refuses_as_stated : paper.SearchRefusesAsStated
search_refuses_as_stated Q r weights x w = (λ e. subst (SearchStated Q) (sym x.says ∙ e) (search_stated Q), λ y. x.says ∙ code_search Q y)

pub none_good_is_18 : paper.NoneGoodIs18
none_good_is_18 Q r weights x = none_exactly Q r weights x

pub refused_search_leaves : paper.RefusedSearchLeaves
unfolding weights_after
refused_search_leaves Q r weights x h =
    let k : Refused _ = rw x.says at h in
    x.weights_are ∙ refused_old _ _ _ k
