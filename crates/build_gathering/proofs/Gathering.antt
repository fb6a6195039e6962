-- What is gathered of a whole list of lines.
--   GatheringAs — what is said, and of which line; where nothing is: the kept lines are ready, and their sums are those of the distinct lines
--   gathered_folded, gathers — by places and line after line; from lines that follow
--   old, still — after a refusal nothing changes
use mathlib.Core.Path.{◌≡◌, refl, sym, ap, ◌∙◌}
use mathlib.Core.Bool.{cond}
use mathlib.Core.List.{List, [], ◌∷◌}
use Prim.Native.Nat.{ℕ, zero, suc, ◌+◌, ◌≤◌, ◌<◌, min}
use native.Mathlib.Omega.{arith}
use lib.IntN.{ℤ, ◌+ℤ◌, +ℤ_assoc, +ℤ_idr}
use lib.ListN.{length, get_or}
use Rattle.rules.proofs.Verdicts.{nothing_is_not}
use Rattle.build_lines.specs.Order.{Built, build_code, observations_say}
use Rattle.build_lines.specs.declared.BuildRefusal.TheVariants.{Refused, SameMark, OtherContents}
use Rattle.std.specs.Prelude.{Ok, Err}
use Rattle.build_gathering.specs.declared.Gathered.{Gathered}
use Rattle.build_lines.specs.declared.Observation.{Observation}
use Rattle.build_lines.specs.Line.{no_observation}
use Rattle.build_lines.specs.Refused.{refused_from}
use Rattle.build_lines.specs.Distinct.{distinct_after, total}
use Rattle.build_gathering.specs.Gathered.{saying, counted, refused_as, is_refused, taken, added, when_done, line_number_of, gathered, kept_at, kept_sum}
use Rattle.build_lines.specs.Stated.{Passes}
use Rattle.build_lines.proofs.Repeat.{share, first}
use Rattle.build_gathering.proofs.Follows.{Follows, LineStep, refused, passed}
use Rattle.build_gathering.proofs.Step.{step}

-- ---- by places, and line after line
unfoldable pub folded : Gathered → List Observation → Gathered
folded g [] = g
folded g (l ∷ ls) = folded (added g l) ls

gathered_front : (g : Gathered) (l : Observation) (ls : List Observation) (k : ℕ) → gathered g (l ∷ ls) (suc k) ≡ gathered (added g l) ls k
unfolding gathered
gathered_front g l ls zero = refl
gathered_front g l ls (suc k) = ap (λ (z : Gathered). added z (get_or ls k no_observation)) (gathered_front g l ls k)

pub gathered_folded : (g : Gathered) (ls : List Observation) → gathered g ls (length ls) ≡ folded g ls
unfolding folded
gathered_folded g [] = unfold gathered in refl
gathered_folded g (l ∷ ls) = gathered_front g l ls (length ls) ∙ gathered_folded (added g l) ls

-- ---- after a refusal nothing changes
pub old : (b : Built) {k : ℕ} {ks : List ℕ} (x y : Gathered) → build_code b ≡ k ∷ ks → when_done b x y ≡ y
old (Ok tt) x y e = absurd (nothing_is_not (sym e))
old (Err (Refused r)) x y e = refl
old (Err SameMark) x y e = refl
old (Err OtherContents) x y e = refl

still : (g : Gathered) (ls : List Observation) {k : ℕ} {ks : List ℕ} → build_code g.progress.status ≡ k ∷ ks → folded g ls ≡ g
unfolding folded added
still g [] e = refl
still g (l ∷ ls) e = ap (λ (z : Gathered). folded z ls) (old g.progress.status (taken (counted g) l) g e) ∙ still g ls e

-- ---- the line that is refused
line_refused : (t : Built) {k : ℕ} {ks : List ℕ} (j : ℕ) → build_code t ≡ k ∷ ks → j < 256 → cond (is_refused t) (min (j + 1) 256) 0 ≡ j + 1
line_refused (Ok tt) j e h = absurd (nothing_is_not (sym e))
line_refused (Err (Refused r)) j e h = omega arith
line_refused (Err SameMark) j e h = omega arith
line_refused (Err OtherContents) j e h = omega arith

-- ---- the lines that are left
pub record GatheringAs (n : ℕ) (es ls : List Observation) (g r : Gathered) : Type 0 where
  pub says : build_code r.progress.status ≡ observations_say n es ls
  pub line : line_number_of r ≡ refused_from n g.progress.lines es ls
  pub size : r.progress.n ≡ n
  pub count_max : build_code r.progress.status ≡ [] → r.progress.count ≤ 256
  pub good : build_code r.progress.status ≡ [] → (p : ℕ) → p < r.progress.count → Passes n (kept_at r p)
  pub sums : build_code r.progress.status ≡ [] → (f : Observation → ℤ) → kept_sum f r ≡ kept_sum f g +ℤ total f (distinct_after es ls)

pub gathers : (n : ℕ) (es ls : List Observation) (g : Gathered) → Follows n es g → g.progress.count + length ls ≤ 256 → g.progress.lines + length ls ≤ 256 → GatheringAs n es ls g (folded g ls)
unfolding folded observations_say refused_from
gathers n es [] g fol room early = record {
  says = ap build_code fol.done;
  line = ap (λ (t : Built). cond (is_refused t) g.progress.lines 0) fol.done;
  size = fol.size;
  count_max = λ e. fol.count_max;
  good = λ e p b. fol.good (kept_at g p) (fol.among p b);
  sums = λ e f. unfold distinct_after total in sym (+ℤ_idr (kept_sum f g));
}
gathers n es (l ∷ ls) g fol room early = go (step n es g l fol (omega arith) (omega arith)) (gathers n (l ∷ es) ls (added g l))
  where
    go : LineStep n es g l → (Follows n (l ∷ es) (added g l) → (added g l).progress.count + length ls ≤ 256 → (added g l).progress.lines + length ls ≤ 256 → GatheringAs n (l ∷ es) ls (added g l) (folded (added g l) ls)) →
        GatheringAs n es (l ∷ ls) g (folded (added g l) ls)
    go (refused t k ks e a s) ih =
        let few : g.progress.lines < 256 = omega (arith, early) in
        let e₁ : build_code (refused_as (counted g) t).progress.status ≡ k ∷ ks = unfold saying in e in
        let r : folded (added g l) ls ≡ refused_as (counted g) t = ap (λ (z : Gathered). folded z ls) a ∙ still (refused_as (counted g) t) ls e₁ in
        let j : line_number_of (refused_as (counted g) t) ≡ g.progress.lines + 1 = unfold saying in line_refused t g.progress.lines e few in
        rw r (record {
          says = e₁ ∙ sym (rw (s, e));
          line = j ∙ sym (rw (s, e));
          size = unfold saying in fol.size;
          count_max = λ p. absurd (nothing_is_not (sym e₁ ∙ p));
          good = λ p. absurd (nothing_is_not (sym e₁ ∙ p));
          sums = λ p. absurd (nothing_is_not (sym e₁ ∙ p));
        })
    go (passed s fol' sum count) ih =
        let next : (added g l).progress.lines ≡ g.progress.lines + 1 = omega (arith, fol'.lines, fol.lines) in
        let o = ih fol' (omega (arith, count, room)) (omega (arith, fol'.lines, fol.lines, early)) in
        record {
          says = o.says ∙ sym (rw s);
          line = o.line ∙ ap (λ (k : ℕ). refused_from n k (l ∷ es) ls) next ∙ sym (rw s);
          size = o.size;
          count_max = o.count_max;
          good = o.good;
          sums = λ e f.
              o.sums e f ∙ ap (λ (z : ℤ). z +ℤ total f (distinct_after (l ∷ es) ls)) (sum f) ∙ +ℤ_assoc (kept_sum f g) (share f es l) (total f (distinct_after (l ∷ es) ls))
              ∙ ap (λ (z : ℤ). kept_sum f g +ℤ z) (sym (first f es l ls));
        }
