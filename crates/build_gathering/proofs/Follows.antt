-- How the kept lines follow the lines taken.
--   Follows n es g — nothing is said yet of the lines es, and the lines kept in g are theirs, each once
--   LineStep n es g l — a line more is refused, by the number that is said of it, or followed
--   again, new — a line met before, and a line whose key is new, are followed
use mathlib.Core.Path.{◌≡◌, sym, ap, subst, ◌∙◌}
use mathlib.Core.Bool.{false}
use mathlib.Core.List.{List, [], ◌∷◌}
use Prim.Native.Nat.{ℕ, suc, ◌+◌, ◌≤◌, ◌<◌, min}
use native.Mathlib.Omega.{arith}
use borrow.Author.Tests.{lt-ltb}
use lib.IntN.{ℤ, ◌+ℤ◌, +ℤ_idr}
use lib.ListN.{length}
use Rattle.integer.specs.Finite.{sum}
use Rattle.integer.proofs.Search.{upto}
use Rattle.integer.proofs.Sum.{sum_next, sum_ext}
use Rattle.build_lines.specs.Order.{Built, build_code, observation_says}
use Rattle.std.specs.Prelude.{Ok}
use Rattle.build_gathering.specs.declared.Gathered.{Gathered}
use Rattle.build_lines.specs.declared.Observation.{Observation}
use Rattle.build_lines.specs.Line.{has_key}
use Rattle.build_gathering.specs.Gathered.{places, key_at, with_line, together, counted, refused_as, kept, added, kept_at, kept_sum}
use Rattle.integer.specs.Among.{Among, here, there}
use Rattle.build_lines.specs.Stated.{Passes}
use Rattle.build_lines.proofs.Members.{key_here, key_none, clash_free, either}
use Rattle.build_lines.proofs.Lines.{line_good}
use Rattle.build_lines.proofs.Repeat.{share, share_met, share_new}
use Rattle.build_gathering.proofs.Places.{lines_length, keys_length, with_other, with_same, key_other, key_same}

-- a line is kept at a place
pub record MetLine (g : Gathered) (e : Observation) : Type 0 where
  pub index : ℕ
  pub below : index < g.progress.count
  pub is : kept_at g index ≡ e

pub record Follows (n : ℕ) (es : List Observation) (g : Gathered) : Type 0 where
  pub size : g.progress.n ≡ n
  pub done : g.progress.status ≡ Ok tt
  pub long : length g.seen.lines ≡ 256
  pub keys_long : length g.seen.keys ≡ 256
  pub keyed : (p : ℕ) → p < g.progress.count → key_at g.seen p ≡ (kept_at g p).key
  pub count_max : g.progress.count ≤ 256
  pub lines : g.progress.lines ≡ length es
  pub among : (p : ℕ) → p < g.progress.count → Among (kept_at g p) es
  pub met : (e : Observation) → Among e es → MetLine g e
  pub one : (d e : Observation) → Among d es → Among e es → d.key ≡ e.key → d ≡ e
  pub good : (e : Observation) → Among e es → Passes n e

pub data LineStep (n : ℕ) (es : List Observation) (g : Gathered) (l : Observation) : Type 0 where
  refused : (t : Built) (k : ℕ) (ks : List ℕ) → build_code t ≡ k ∷ ks → added g l ≡ refused_as (counted g) t → observation_says n es l ≡ build_code t → LineStep n es g l
  passed : observation_says n es l ≡ [] → Follows n (l ∷ es) (added g l) → ((f : Observation → ℤ) → kept_sum f (added g l) ≡ kept_sum f g +ℤ share f es l) → (added g l).progress.count ≤ suc g.progress.count → LineStep n es g l

module _ (n : ℕ) (es : List Observation) (g : Gathered) (l : Observation) (fol : Follows n es g) (room : g.progress.count < 256) (early : g.progress.lines < 256) where
  pub all : g.progress.count ≡ places g.progress.count
  all = omega (arith, fol.count_max)

  next : min (g.progress.lines + 1) 256 ≡ length (l ∷ es)
  next = omega (arith, fol.lines)

  -- ---- a line met before, with the same contents
  pub again : (i : ℕ) → i < g.progress.count → kept_at g i ≡ l → Passes n l → added g l ≡ counted g → LineStep n es g l
  again i b e good a =
      passed (line_good n es l good (clash_free es l (λ d j k. fol.one d l j in_es k)))
      (subst (Follows n (l ∷ es)) (sym a) (record {
        size = fol.size;
        done = fol.done;
        long = fol.long;
        keys_long = fol.keys_long;
        keyed = fol.keyed;
        count_max = fol.count_max;
        lines = next;
        among = λ p h. there (fol.among p h);
        met = λ d j. either j (λ p. record { index = i; below = b; is = e ∙ sym p }) (λ k. let m = fol.met d k in record { index = m.index; below = m.below; is = m.is });
        one = λ x y j k. fol.one x y (own x j) (own y k);
        good = λ x j. fol.good x (own x j);
      }))
      (λ f. ap (kept_sum f) a ∙ sym (ap (λ (z : ℤ). kept_sum f g +ℤ z) (share_met f es l (key_here es in_es)) ∙ +ℤ_idr (kept_sum f g)))
      (rw a (omega arith))
    where
      in_es : Among l es
      in_es = subst (λ (z : Observation). Among z es) e (fol.among i b)

      own : (x : Observation) → Among x (l ∷ es) → Among x es
      own x j = either j (λ p. subst (λ (z : Observation). Among z es) (sym p) in_es) (λ k. k)

  -- ---- a line whose key is new
  abbrev pub grown : Gathered
  grown = together (record { n = g.progress.n; count = g.progress.count + 1; lines = min (g.progress.lines + 1) 256; status = g.progress.status }) (with_line g.seen g.progress.count l)

  pub kept_as : kept (counted g) l ≡ grown
  unfolding kept
  kept_as = rw (← all, lt-ltb g.progress.count 256 room)

  old : (p : ℕ) → p < g.progress.count → kept_at grown p ≡ kept_at g p
  old p h = with_other g.seen g.progress.count l p (λ e. omega (arith, e))

  last : kept_at grown g.progress.count ≡ l
  last = with_same g.seen g.progress.count l fol.long room

  old_key : (p : ℕ) → p < g.progress.count → key_at grown.seen p ≡ key_at g.seen p
  old_key p h = key_other g.seen g.progress.count l p (λ e. omega (arith, e))

  last_key : key_at grown.seen g.progress.count ≡ l.key
  last_key = key_same g.seen g.progress.count l fol.keys_long room

  pub new : Passes n l → has_key es l.key ≡ false → added g l ≡ grown → LineStep n es g l
  new good h a =
      passed (line_good n es l good (clash_free es l (λ d j k. absurd (key_none es d h j k))))
      (subst (Follows n (l ∷ es)) (sym a) (record {
        size = fol.size;
        done = fol.done;
        long = lines_length g.seen g.progress.count l ∙ fol.long;
        keys_long = keys_length g.seen g.progress.count l ∙ fol.keys_long;
        keyed = λ p b. upto (λ (q : ℕ). key_at grown.seen q ≡ (kept_at grown q).key) g.progress.count p (omega arith)
            (λ q c. old_key q c ∙ fol.keyed q c ∙ ap (λ (z : Observation). z.key) (sym (old q c))) (last_key ∙ ap (λ (z : Observation). z.key) (sym last));
        count_max = omega arith;
        lines = next;
        among = λ p b. upto (λ (q : ℕ). Among (kept_at grown q) (l ∷ es)) g.progress.count p (omega arith) (λ q c. rw (old q c) (there (fol.among q c))) (rw last here);
        met = λ d j. either j (λ p. record { index = g.progress.count; below = omega arith; is = last ∙ sym p }) (λ k. let m = fol.met d k in record { index = m.index; below = omega (arith, m.below); is = old m.index m.below ∙ m.is });
        one = one;
        good = λ x j. either j (λ p. subst (Passes n) (sym p) good) (fol.good x);
      }))
      (λ f. ap (kept_sum f) a ∙ sum_next g.progress.count (λ (p : ℕ). f (kept_at grown p)) ∙ sums f)
      (rw a (omega arith))
    where
      one : (x y : Observation) → Among x (l ∷ es) → Among y (l ∷ es) → x.key ≡ y.key → x ≡ y
      one x y i j k =
          either i (λ p. either j (λ q. p ∙ sym q) (λ r. absurd (key_none es y h r (sym k ∙ ap (λ (z : Observation). z.key) p))))
          (λ r. either j (λ q. absurd (key_none es x h r (k ∙ ap (λ (z : Observation). z.key) q))) (λ s. fol.one x y r s k))

      sums : (f : Observation → ℤ) → sum g.progress.count (λ (p : ℕ). f (kept_at grown p)) +ℤ f (kept_at grown g.progress.count) ≡ kept_sum f g +ℤ share f es l
      sums f =
          ap (λ (z : ℤ). z +ℤ f (kept_at grown g.progress.count)) (sum_ext g.progress.count (λ (p : ℕ). f (kept_at grown p)) (λ (p : ℕ). f (kept_at g p)) (λ p b. ap f (old p b)))
          ∙ ap (λ (z : ℤ). kept_sum f g +ℤ z) (ap f last ∙ sym (share_new f es l h))
