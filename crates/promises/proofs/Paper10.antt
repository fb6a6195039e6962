-- The theorems for specs/Paper10, a theorem for each statement.
use mathlib.Core.Path.{◌≡◌, sym, ap, ◌∙◌}
use Prim.Native.Nat.{◌+◌, ◌-◌, ◌*◌, ◌/◌, ◌<◌}
use native.Mathlib.Omega.{arith}
use borrow.Author.Tests.{lt-ltb, le-ltb}
use Rattle.linear.specs.Slice.{at}
use Rattle.half_fill.specs.Half.{half_place}
use Rattle.half_fill.proofs.Filling.{filled_at_lem}
use Rattle.half_fill.proofs.Places.{place_swap, place_from_one}
use Rattle.build.proofs.Halves.{half_is_square, same_refusals}
use Rattle.promises.specs.Paper10 as paper

pub filled_out_is : paper.FilledOutIs
filled_out_is n half n_max i j li lj =
    let p = place_from_one i j lj in
    let at_place : half_place i j ≡ (i + 1) * ((i + 1) - 1) / 2 + (j + 1) - 1 = omega (arith, p) in
    let lj' : j < n = omega (arith, li, lj) in (
      filled_at_lem n half n_max i j li lj' ∙ ap (at half) at_place,
      filled_at_lem n half n_max j i lj' li ∙ ap (at half) (place_swap j i ∙ at_place),
    )

pub half_is_the_square : paper.HalfIsSquare
half_is_the_square H r E L x l = x.as_square (le-ltb _ _ l)

pub short_half_is_8 : paper.ShortHalfIs8
short_half_is_8 H r E L x l = let y = x.short_half_lem (lt-ltb _ _ l) in (y.0, y.1.0, y.1.1)

pub half_built : paper.HalfBuilt
half_built n ls h b a c r s h' b' a' c' x y p q =
    let same = same_refusals n ls h b a c x y (p ∙ sym q) in
    (same, λ e. half_is_square n ls h b x e a c y (sym same ∙ e))
