use native.Mathlib.Omega.{arith}
use Rattle.half_fill.proofs.Places.{place_left, place_right, place_below}
use mathlib.Core.Path.{sym, ap, ◌∙◌}
use Prim.Native.Nat.{ℕ, ◌+◌, ◌<◌}
use Rattle.half_fill.proofs.next_place.Goals as goal
use Rattle.half_fill.proofs.next_place.Goals.{Start}

small : (s : Start) → s.args.place < 528
small s = rw s.requires.1.1 (place_below {n = 32} s.requires.0 s.requires.1.0)

pub overflow_add-result : goal.overflow_add-result
overflow_add-result c = omega (arith, small (goal.at.overflow_add-result c).Start)

pub returns-then-j-i : goal.returns-then-j-i
returns-then-j-i c = ap (λ (p : ℕ). p + 1) c.requires.1.1 ∙ sym (place_left c.if-j-i.true)

pub overflow_add-result-3 : goal.overflow_add-result-3
overflow_add-result-3 c = omega (arith, small (goal.at.overflow_add-result-3 c).Start)

pub returns : goal.returns
returns c = ap (λ (p : ℕ). p + (c.args.j + 1)) c.requires.1.1 ∙ sym (place_right c.if-j-i.false)
