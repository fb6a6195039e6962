use Rattle.std.proofs.Common.{◌≡◌, sym, ap₂, ◌∙◌, ℕ, ℤ, w64, SFits, rules, arith}
use Rattle.std.proofs.lemmas.Int.{to_z-of_z}
use Rattle.integer.proofs.Machine.{small}
use Rattle.linear.specs.Slice.{at}
use Rattle.linear.proofs.Written.{written_none, written_more}
use Rattle.common_spec.specs.Ends.{maxℤ, minℤ}
use Rattle.common_ends.specs.Met.{lows_of, highs_of}
use Rattle.common_ends.proofs.write_ends.Goals as goal
use Rattle.common_ends.proofs.write_ends.Goals.{After-common_of-both, Start}

module _ (c : After-common_of-both) where
  abbrev s : Start
  s = (goal.at.After-common_of-both c).Start

  abbrev i : ℕ
  i = c.loop-i.i

  first_read : SFits w64 (at s.args.first.guess.now i)
  first_read = small _ (omega (arith, s.requires.fitting.0.guess.within.magnitudes i c.loop-i-test.true))

  second_read : SFits w64 (at s.args.second.guess.now i)
  second_read = small _ (omega (arith, s.requires.fitting.1.guess.within.magnitudes i c.loop-i-test.true))

  lower : c.common_of-both.result.low ≡ lows_of s.args.k1 s.args.first.guess.now s.args.first.limits.now s.args.k2 s.args.second.guess.now s.args.second.limits.now i
  lower =
      c.common_of-both.ensures.0
      ∙ ap₂ (λ (x y : ℤ). maxℤ x y) (rw (to_z-of_z w64 _ first_read) at c.ends_of.ensures.0) (rw (to_z-of_z w64 _ second_read) at c.ends_of-in-loop-i.ensures.0)

  upper : c.common_of-both.result.high ≡ highs_of s.args.k1 s.args.first.guess.now s.args.first.limits.now s.args.k2 s.args.second.guess.now s.args.second.limits.now i
  upper =
      c.common_of-both.ensures.1
      ∙ ap₂ (λ (x y : ℤ). minℤ x y) (rw (to_z-of_z w64 _ first_read) at c.ends_of.ensures.1) (rw (to_z-of_z w64 _ second_read) at c.ends_of-in-loop-i.ensures.1)

pub loop-i-init : goal.loop-i-init
loop-i-init c = (omega arith, (sym (written_none _ _ _ _), sym (written_none _ _ _ _)))

pub loop-i-preserved : goal.loop-i-preserved
loop-i-preserved c =
    let k = (goal.at.loop-i-preserved c).After-common_of-both in
    let l = k.loop-i in
    let f : SFits w64 k.common_of-both.result.low = search rules in
    let g : SFits w64 k.common_of-both.result.high = search rules in (
      omega arith,
      (
        written_more _ _ _ _ l.i l.invariant.1.0 (omega arith) (to_z-of_z w64 _ f ∙ lower k),
        written_more _ _ _ _ l.i l.invariant.1.1 (omega arith) (to_z-of_z w64 _ g ∙ upper k),
      ),
    )
