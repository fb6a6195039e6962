-- When a list builds, and at which line it does not.
--   After n earlier ls — the lines ls are good and agree with the lines before them and with each other
--   after_of, without_code — nothing is said of ls exactly then
--   usable, usable_code — nothing is said before any line exactly where all can be used
--   builds_fits, fits_builds — a list builds exactly where it is usable and fits
use mathlib.Core.Path.{◌≡◌, refl, sym, ap, ◌∙◌}
use mathlib.Core.Bool.{Bool, false, not}
use mathlib.Core.List.{List, [], ◌∷◌}
use Prim.Native.Nat.{ℕ}
use borrow.Author.Tests.{not-false, eqb-false, ne_eqb, ltb-false, le-ltb}
use lib.ListN.{length}
use Rattle.rules.specs.Order.{verdict}
use Rattle.rules.proofs.Tests.{no_code_lem, silent}
use Rattle.rules.proofs.Verdicts.{else_none}
use Rattle.build_lines.specs.declared.Observation.{Observation}
use Rattle.build_lines.specs.Line.{clashes}
use Rattle.build_lines.specs.Order.{observation_order, observation_says, observations_say, open_order, build_answer}
use Rattle.integer.specs.Among.{Among, here, there}
use Rattle.build_lines.specs.Stated.{Passes, Buildable, Admitted}
use Rattle.build_lines.proofs.Members.{no_clash, clash_free, nobody}

pub record After (n : ℕ) (earlier ls : List Observation) : Type 0 where
  pub good : (l : Observation) → Among l ls → Passes n l
  pub apart : (e l : Observation) → Among e earlier → Among l ls → e.key ≡ l.key → e ≡ l
  pub one : (l m : Observation) → Among l ls → Among m ls → l.key ≡ m.key → l ≡ m

-- one line
pub good_line : (n : ℕ) (earlier : List Observation) (l : Observation) → observation_says n earlier l ≡ [] → Passes n l × (clashes earlier l ≡ false)
good_line n earlier l e =
    let t = no_code_lem (observation_order n earlier l) [] refl e in
    (record { inside = t.0; apart = eqb-false l.«from» l.to t.1.0 }, t.1.1.0)

pub line_good : (n : ℕ) (earlier : List Observation) (l : Observation) → Passes n l → clashes earlier l ≡ false → observation_says n earlier l ≡ []
line_good n earlier l g c = silent (observation_order n earlier l) (g.inside, (ne_eqb l.«from» l.to g.apart, (c, tt)))

pub after_of : (n : ℕ) (earlier ls : List Observation) → observations_say n earlier ls ≡ [] → After n earlier ls
unfolding observations_say
after_of n earlier [] e = record { good = λ l i. nobody i; apart = λ d l i j k. nobody j; one = λ l m i j k. nobody i }
after_of n earlier (l ∷ ls) e = go (good_line n earlier l (else_none _ _ e).0) (after_of n (l ∷ earlier) ls (else_none (observation_says n earlier l) _ e).1)
  where
    go : Passes n l × (clashes earlier l ≡ false) → After n (l ∷ earlier) ls → After n earlier (l ∷ ls)
    go g r = record {
      good = good;
      apart = apart;
      one = one;
    }
      where
        good : (m : Observation) → Among m (l ∷ ls) → Passes n m
        good m here = g.0
        good m (there i) = r.good m i

        apart : (d m : Observation) → Among d earlier → Among m (l ∷ ls) → d.key ≡ m.key → d ≡ m
        apart d m i here k = no_clash earlier m d g.1 i k
        apart d m i (there j) k = r.apart d m (there i) j k

        one : (x y : Observation) → Among x (l ∷ ls) → Among y (l ∷ ls) → x.key ≡ y.key → x ≡ y
        one x y here here k = refl
        one x y here (there j) k = r.apart x y here j k
        one x y (there i) here k = sym (r.apart y x here i (sym k))
        one x y (there i) (there j) k = r.one x y i j k

pub without_code : (n : ℕ) (earlier ls : List Observation) → After n earlier ls → observations_say n earlier ls ≡ []
unfolding observations_say
without_code n earlier [] r = refl
without_code n earlier (l ∷ ls) r =
    rw (line_good n earlier l (r.good l here) (clash_free earlier l (λ e i k. r.apart e l i here k)))
    (without_code n (l ∷ earlier) ls (record {
      good = λ m i. r.good m (there i);
      apart = apart;
      one = λ x y i j k. r.one x y (there i) (there j) k;
    }))
  where
    apart : (e m : Observation) → Among e (l ∷ earlier) → Among m ls → e.key ≡ m.key → e ≡ m
    apart e m here j k = r.one e m here (there j) k
    apart e m (there i) j k = r.apart e m i (there j) k

pub lines_fit : (n : ℕ) (ls : List Observation) → observations_say n [] ls ≡ [] → Buildable n ls
lines_fit n ls e = let r = after_of n [] ls e in record { good = r.good; one = r.one }

pub fit_lines : (n : ℕ) (ls : List Observation) → Buildable n ls → observations_say n [] ls ≡ []
fit_lines n ls f = without_code n [] ls (record { good = f.good; apart = λ e l i j k. nobody i; one = f.one })

-- ---- before any line
module _ (n k : ℕ) (short : Bool) where
  pub usable : verdict (open_order n k short) ≡ [] → Admitted n k short
  usable e =
      let t = no_code_lem (open_order n k short) [] refl e in
      record { long = t.0; size = not-false _ t.1.0; count_max = ltb-false 256 k t.1.1.0 }

  usable_code : Admitted n k short → verdict (open_order n k short) ≡ []
  usable_code u = silent (open_order n k short) (u.long, (ap not u.size, (le-ltb 256 k u.count_max, tt)))

-- ---- the whole
module _ (n : ℕ) (ls : List Observation) (short : Bool) where
  pub builds_fits : build_answer n ls short ≡ [] → Admitted n (length ls) short × Buildable n ls
  unfolding build_answer
  builds_fits e =
      let t = else_none (verdict (open_order n (length ls) short)) (observations_say n [] ls) e in
      (usable n (length ls) short t.0, lines_fit n ls t.1)

  pub usable_answer : Admitted n (length ls) short → build_answer n ls short ≡ observations_say n [] ls
  unfolding build_answer
  usable_answer u = rw (usable_code n (length ls) short u)

  pub fits_builds : Admitted n (length ls) short → Buildable n ls → build_answer n ls short ≡ []
  fits_builds u f = usable_answer u ∙ fit_lines n ls f
