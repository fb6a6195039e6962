-- Two nets where no joint solution comes near the limits of the dependent net.
--   fork — the main net has one mark, with the tolerance 3 and so with the limit 48 (`one_mark`); the dependent net has A2 = (2 1 / 1 1) with its exact inverse
--     16·(1 −1 / −1 2), guesses and right sides 0 without tolerance, weights 1, and C = (1 / 1). The limits of the dependent net are 3·48; of a joint
--     solution the first height is its guess, and the second lies as far from it as the main net's
use Rattle.std.specs.Prelude.{[], ◌∷◌, pos, negsuc, replicate}
use Rattle.enclosure.specs.Example.{padded}
use Rattle.check_spec.specs.Input.{input}
use Rattle.dependent_spec.specs.Example.{one_mark}
use Rattle.dependent_spec.specs.Nets.{Nets, nets}

abbrev pub fork : Nets
fork =
    nets (one_mark (pos 3))
    (input 2 4 4 (padded (pos 2 ∷ pos 1 ∷ pos 1 ∷ pos 1 ∷ [])) (padded (pos 0 ∷ pos 0 ∷ [])) (padded (pos 0 ∷ pos 0 ∷ [])) (padded (pos 0 ∷ pos 0 ∷ []))
    (padded (pos 16 ∷ negsuc 15 ∷ negsuc 15 ∷ pos 32 ∷ [])) (padded (pos 1 ∷ pos 1 ∷ [])) (replicate 32 0) (replicate 1024 0))
    (padded (pos 1 ∷ pos 1 ∷ []))
