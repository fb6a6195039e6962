-- Two nets of one mark each, and a joint solution at the corners of both tolerances.
--   one_mark d — 1·x = 0 with the tolerance d, both steps 1/16, guess 0, inverse 16/16; as a net by itself its limit is 16·d
--   coupled_by c — x with the tolerance 3, so with the limit 48, and y with the tolerance 1 and 1·y + c·x = 0, so with the slack |c|·48 + 16
--   coupled_nets, uncoupled_nets — these with c = −2 and with c = 0
--   far_right₂, far_height₂ — with `far_right` and `far_height` of enclosure/specs/Example, right sides 9/3 and 1/1 and the joint solution 3/1 and 7/1, which lies
--     just 112 = 2·48 + 16 steps from the guess
use Rattle.std.specs.Prelude.{[], ◌∷◌, ℤ, pos, negsuc, replicate}
use Rattle.linear.specs.Matrix.{Vec}
use Rattle.linear.specs.Slice.{vector_of}
use Rattle.enclosure.specs.Example.{padded}
use Rattle.check_spec.specs.Input.{Input, input}
use Rattle.dependent_spec.specs.Nets.{Nets, nets}

abbrev pub one_mark : ℤ → Input
one_mark tolerance =
    input 1 4 4 (padded (pos 1 ∷ [])) (padded (pos 0 ∷ [])) (padded (tolerance ∷ [])) (padded (pos 0 ∷ [])) (padded (pos 16 ∷ []))
    (padded (pos 1 ∷ [])) (replicate 32 0) (replicate 1024 0)

abbrev pub coupled_by : ℤ → Nets
coupled_by c = nets (one_mark (pos 3)) (one_mark (pos 1)) (padded (c ∷ []))

abbrev pub coupled_nets : Nets
coupled_nets = coupled_by (negsuc 1)

abbrev pub uncoupled_nets : Nets
uncoupled_nets = coupled_by (pos 0)

abbrev pub far_right₂ : Vec
far_right₂ = vector_of (pos 1 ∷ [])

abbrev pub far_height₂ : Vec
far_height₂ = vector_of (pos 7 ∷ [])
