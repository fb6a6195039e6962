use mathlib.Core.Path.{◌≡◌, refl, sym, ap, ◌∙◌}
use mathlib.Core.List.{List}
use Prim.Native.Nat.{ℕ, zero, suc, ◌+◌, ◌*◌, ◌≤◌}
use native.Mathlib.Omega.{arith}
use lib.IntN.{ℤ, pos}
use lib.ListN.{length}
use lib.Seq.{paste, paste-zero, paste-suc}
use Rattle.std.proofs.lemmas.Slice.{put_mid-paste}
use Rattle.std.proofs.lemmas.List.Edits.{get_or-between, length-between}
use Rattle.linear.specs.Slice.{at}
use Rattle.linear.specs.Written.{written}
use Rattle.linear.proofs.Written.{written_ext}
use Rattle.build_equations.proofs.store_row.Goals as goal

-- a copy, number by number
sums_pasted : (xs ys : List ℤ) (p n : ℕ) → p + n ≤ length xs → n ≤ length ys → paste xs p ys n ≡ written xs p 1 (at ys) n
unfolding written
sums_pasted xs ys p zero h k = sym (paste-zero xs p ys)
sums_pasted xs ys p (suc n) h k =
    let e : n * 1 ≡ n = omega arith in
    sym (paste-suc xs p ys n (pos 0) (omega (arith, h)) (omega (arith, k))) ∙ rw (e, sums_pasted xs ys p n (omega (arith, h)) (omega (arith, k)))

pub returns : goal.returns
returns c =
    let s = c.copy_from_slice in
    let same = s.ensures.after in
    let long : c.args.width ≡ length s.new.self = let m = ap length same in omega (arith, s.ensures.len, m, length-between {X = ℤ}) in
    put_mid-paste c.args.start _ c.args.dst.now s.new.self s.new.self c.args.width refl (omega arith) long
    ∙ sums_pasted c.args.dst.now s.new.self c.args.start c.args.width c.requires.1 (omega (arith, long))
    ∙ written_ext c.args.dst.now c.args.start 1 (at s.new.self) (λ (j : ℕ). at c.args.sums.now (j + 1)) c.args.width
    (λ j l. let e : 1 + j ≡ j + 1 = omega arith in rw same (get_or-between c.args.sums.now 1 (c.args.width + 1) j (pos 0) (omega (arith, l)) ∙ ap (at c.args.sums.now) e))
