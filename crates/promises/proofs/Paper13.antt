-- The theorems for specs/Paper13, a theorem for each statement.
use mathlib.Core.Path.{sym, subst, ◌∙◌}
use lib.IntN.{pos}
use Rattle.linear.proofs.Written.{front_at}
use Rattle.common_spec.specs.Answer.{low_after, high_after}
use Rattle.common_spec.specs.Ends.{low_end, high_end}
use Rattle.common_spec.specs.Stated.{CommonStated}
use Rattle.common_spec.proofs.Contract.{long_low, long_high}
use Rattle.common_spec.proofs.Exchanged.{own_ends}
use Rattle.common_spec.proofs.Statements.{stated, code_of_lem, found_case}
use Rattle.promises.specs.Paper13 as paper
use Rattle.promises.specs.Ways.{Refused}
use Rattle.promises.proofs.Ways.{refused_old}

pub common_ends : paper.CommonEnds
unfolding low_after high_after low_end high_end
common_ends Q r low high x e i l =
    let z = sym x.says ∙ e in
    let c = found_case Q z in (
      rw (x.low_is, z) (front_at Q.low (low_end Q.first Q.second) (pos 0) Q.first.n i l (long_low Q c.long c.first)),
      rw (x.high_is, z) (front_at Q.high (high_end Q.first Q.second) (pos 0) Q.first.n i l (long_high Q c.long c.first)),
    )

pub common_contains : paper.CommonContains
common_contains Q r low high x e = (x.contains e).height

pub common_ordered : paper.CommonOrdered
common_ordered Q r low high x e = (x.contains e).ordered

pub common_refuses_as_stated : paper.CommonRefusesAsStated
common_refuses_as_stated Q r low high x w = (λ e. subst (CommonStated Q) (sym x.says ∙ e) (stated Q), λ y. x.says ∙ code_of_lem Q y)

pub refused_common_leaves : paper.RefusedCommonLeaves
unfolding low_after high_after
refused_common_leaves Q r low high x h =
    let k : Refused _ = rw x.says at h in
    (x.low_is ∙ refused_old _ _ _ k, x.high_is ∙ refused_old _ _ _ k)

pub own_interval : paper.OwnInterval
own_interval I low high r low' high' x e = own_ends I low high r low' high' x e
