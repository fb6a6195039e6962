use mathlib.Core.Path.{◌≡◌, refl, sym, ◌∙◌}
use Prim.Native.Nat.{ℕ, ◌+◌, ◌*◌, ◌≤◌, ◌<◌, ◌^◌}
use native.Mathlib.Omega.{arith}
use lib.IntN.{ℤ, nat_abs, ◌+ℤ◌}
use mir.Syntax.{w64}
use mir.Val.{SFits, to_z, of_z}
use mir.ValLaws.{to_z-of_z}
use Rattle.integer.specs.Finite.{sum}
use Rattle.integer.proofs.Absolute.{abs-+}
use Rattle.integer.proofs.Machine.{small}
use Rattle.integer.proofs.Sum.{sum_none, sum_next}
use Rattle.linear.specs.Slice.{at}
use Rattle.linear.proofs.Carried.{carried_first, carried_next}
use lib.Dec.{lit<}
use Rattle.linear.proofs.Slices.{reach_read}
use Rattle.check_defects.proofs.Sums.{sums_none, sums_more, sums_room, total_small}
use Rattle.check_defects.proofs.add_rows.Goals as goal
use Rattle.check_defects.proofs.add_rows.Goals.{In-loop-k, Start}

abbrev start : In-loop-k → Start
start t = (goal.at.In-loop-k t).Start

abbrev X : Start → ℕ → ℤ
X s i = at s.args.xs.now (s.args.start + i * s.args.stride)

-- the number of this turn, and the sums before it
module _ (t : In-loop-k) where
  n_max : t.loop-k.k ≤ 32
  n_max = omega (arith, t.loop-k.invariant.0, t.requires.n_bound.0)

  magnitudes : (i : ℕ) → i < t.loop-k.k → nat_abs (X (goal.at.In-loop-k t).Start i) ≤ 2 ^ 20
  magnitudes i l = t.requires.reach.magnitudes i (omega (arith, t.loop-k.invariant.0))

  total-fits : SFits w64 (sum t.loop-k.k (X (goal.at.In-loop-k t).Start) +ℤ X (goal.at.In-loop-k t).Start t.loop-k.k)
  total-fits =
      small (sum t.loop-k.k (X (goal.at.In-loop-k t).Start) +ℤ X (goal.at.In-loop-k t).Start t.loop-k.k)
      (omega (
        arith,
        abs-+ (sum t.loop-k.k (X (goal.at.In-loop-k t).Start)) (X (goal.at.In-loop-k t).Start t.loop-k.k),
        total_small (X (goal.at.In-loop-k t).Start) n_max magnitudes,
        t.requires.reach.magnitudes t.loop-k.k t.loop-k-test.true,
      ))

  x-is : to_z w64 (of_z w64 (at t.args.xs.now t.loop-k.from)) ≡ X (goal.at.In-loop-k t).Start t.loop-k.k
  x-is = reach_read t.requires.reach (lit< tt) t.loop-k.invariant.1.0.0 t.loop-k-test.true

pub loop-k-init : goal.loop-k-init
loop-k-init c = (omega arith, ((carried_first _ _, carried_first _ _), (rw (sum_none _), (c.requires.no_sums.long, sums_none _ _ _ c.requires.no_sums))))

pub overflow_add-total : goal.overflow_add-total
overflow_add-total c = let t = (goal.at.overflow_add-total c).In-loop-k in rw (t.loop-k.invariant.1.1.0, x-is t) (total-fits (goal.at.overflow_add-total c).In-loop-k)

pub loop-k-preserved : goal.loop-k-preserved
loop-k-preserved c =
    let t = (goal.at.loop-k-preserved c).In-loop-k in
    let l = t.loop-k in (
      omega arith,
      (
        (carried_next l.invariant.1.0.0, carried_next l.invariant.1.0.1),
        (
          rw (l.invariant.1.1.0, x-is t) (to_z-of_z w64 _ (total-fits (goal.at.loop-k-preserved c).In-loop-k) ∙ sym (sum_next _ _)),
          (
            c.add_multiple.ensures.long ∙ l.invariant.1.1.1.0,
            sums_more _ _ _ l.k l.invariant.1.1.1.1 (x-is t) (λ j. refl) c.add_multiple.ensures,
          ),
        ),
      ),
    )

pub add_multiple-requires-clause-sums_len : goal.add_multiple-requires-clause-sums_len
add_multiple-requires-clause-sums_len c = let t = (goal.at.add_multiple-requires-clause-sums_len c).In-loop-k in let l = t.loop-k in let s = (goal.at.add_multiple-requires-clause-sums_len c).Start in (
  l.invariant.1.1.1.0,
  sums_room _ _ _ (n_max (goal.at.add_multiple-requires-clause-sums_len c).In-loop-k) (magnitudes (goal.at.add_multiple-requires-clause-sums_len c).In-loop-k) (λ i j li lj. (s.requires.biased_rows.each i (omega (arith, l.invariant.0))).small.each j lj) l.invariant.1.1.1.1,
)
