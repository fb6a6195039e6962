-- What is gathered of a whole list, from `opened`, over the lines that are looked at.
--   gathered_of n ls short — the lines ls gathered, short being whether a lent list is too short;  Whole, whole — what is said, and of which line; where nothing is, that
--   no list is too short, the kept lines are sound, and their sums are those of the distinct lines
--   gathered_none, gathered_next, gathered_end, few_within — for the loop over the lines
use mathlib.Core.Path.{◌≡◌, refl, sym, ap, subst, ◌∙◌}
use mathlib.Core.Bool.{Bool, true, false, not, cond, ◌&&◌}
use mathlib.Core.List.{List, [], ◌∷◌}
use Prim.Native.Nat.{ℕ, zero, suc, ◌+◌, ◌≤◌}
use native.Mathlib.Nat.{le_antisymm}
use native.Mathlib.Numerals.{add-one}
use native.Mathlib.Omega.{arith}
use borrow.Author.Tests.{leb-true, leb-false, le-leb, lt-ltb, le-ltb}
use lib.Dec.{leb, ltb}
use lib.IntN.{ℤ, pos, ◌+ℤ◌, +ℤ_idl}
use lib.ListN.{length, get_or, length-replicate}
use Rattle.integer.specs.Finite.{sum}
use Rattle.integer.proofs.Sum.{sum_none}
use Rattle.rules.specs.Order.{verdict, if_accepted, or_else}
use Rattle.rules.specs.Range.{in_range}
use Rattle.rules.specs.declared.Kind.TheVariants as kind
use Rattle.rules.specs.declared.Refusal.TheVariants.{OutOfRange, TooShort}
use Rattle.rules.proofs.Ranges.{size_range}
use Rattle.rules.proofs.Verdicts.{nothing_is_not}
use Rattle.build_lines.specs.Order.{Built, build_code, observations_say, open_order, build_answer}
use Rattle.build_lines.specs.declared.BuildRefusal.TheVariants.{Refused}
use Rattle.std.specs.Prelude.{Ok, Err}
use Rattle.build_gathering.specs.declared.Gathered.{Gathered}
use Rattle.build_lines.specs.declared.Observation.{Observation}
use Rattle.build_lines.specs.Line.{no_observation}
use Rattle.build_lines.specs.Refused.{refused_from, build_line}
use Rattle.build_lines.specs.Distinct.{distinct, total}
use Rattle.build_gathering.specs.Gathered.{counted, is_refused, taken, added, line_number_of, gathered, few, opened_as, opening_progress, no_lines, opened, kept_at, kept_sum, Proper, ReadyWhenDone}
use Rattle.build_lines.specs.Stated.{Passes, Admitted}
use Rattle.build_lines.proofs.Lines.{usable}
use Rattle.build_lines.proofs.Marks.{inside_line}
use Rattle.build_lines.proofs.Members.{nobody}
use Rattle.build_gathering.proofs.Follows.{Follows}
use Rattle.build_gathering.proofs.Gathering.{folded, gathered_folded, old, GatheringAs, gathers}

-- ---- the whole list
still_at : (g : Gathered) (ls : List Observation) (k : ℕ) {j : ℕ} {js : List ℕ} → build_code g.progress.status ≡ j ∷ js → gathered g ls k ≡ g
unfolding gathered added
still_at g ls zero e = refl
still_at g ls (suc k) e = ap (λ (z : Gathered). added z (get_or ls k no_observation)) (still_at g ls k e) ∙ old g.progress.status (taken (counted g) (get_or ls k no_observation)) g e

few_all : (k : ℕ) → k ≤ 256 → few (Ok tt) k ≡ k
unfolding few
few_all k h = rw (le-leb k 256 h)

begun : (n k : ℕ) (short : Bool) → (opened n k short).progress.status ≡ Ok tt → Follows n [] (opened n k short)
unfolding opening_progress no_lines
begun n k short d = record {
  size = refl;
  done = d;
  long = length-replicate {A = Observation} 256 no_observation;
  keys_long = length-replicate {A = ℕ} 256 0;
  keyed = λ p b. absurd (omega arith);
  count_max = omega arith;
  lines = refl;
  among = λ p b. absurd (omega arith);
  met = λ e i. nobody i;
  one = λ x y i j k. nobody i;
  good = λ e i. nobody i;
}

proper_of : (n : ℕ) (l : Observation) → n ≤ 32 → Passes n l → Proper l
proper_of n l few good =
    let i = inside_line n l good.inside in
    record { start = omega (arith, i.start, few); end = omega (arith, i.end, few); apart = good.apart; weight = i.weight; difference = i.difference }

-- ---- before any line: 8 first, then 3 for n, then 3 for a list above 256
few_or_many : (s z m l : Bool) → not m ≡ l → build_code (cond s (Err (Refused TooShort)) (cond (z && m) (Ok tt) (Err (Refused OutOfRange)))) ≡ cond s (8 ∷ []) (cond (not z) (3 ∷ []) (cond l (3 ∷ []) []))
few_or_many true z m l e = refl
few_or_many false false m l e = refl
few_or_many false true true l e = rw (sym e)
few_or_many false true false l e = rw (sym e)

module _ (n k : ℕ) (short : Bool) where
  many : not (leb k 256) ≡ ltb 256 k
  many = go (leb k 256) refl
    where
      go : (b : Bool) → leb k 256 ≡ b → not b ≡ ltb 256 k
      go true e = sym (le-ltb 256 k (leb-true k 256 e))
      go false e = sym (lt-ltb 256 k (leb-false k 256 e))

  opening_says : build_code (opened n k short).progress.status ≡ verdict (open_order n k short)
  unfolding opening_progress opened_as
  opening_says = few_or_many short (in_range kind.Size (pos n)) (leb k 256) (ltb 256 k) many

  opening_done : Admitted n k short → (opened n k short).progress.status ≡ Ok tt
  unfolding opening_progress opened_as
  opening_done u = rw (u.long, u.size, le-leb k 256 u.count_max)

  opening_size : (opened n k short).progress.n ≡ n
  unfolding opening_progress
  opening_size = refl

  none_counted : (opened n k short).progress.count ≡ 0
  unfolding opening_progress
  none_counted = refl

  none_looked : (opened n k short).progress.lines ≡ 0
  unfolding opening_progress
  none_looked = refl

  none_refused : line_number_of (opened n k short) ≡ 0
  none_refused = ap (cond (is_refused (opened n k short).progress.status) (opened n k short).progress.lines) (sym none_looked) ∙ either_way (is_refused (opened n k short).progress.status) ∙ none_looked
    where
      either_way : {j : ℕ} (b : Bool) → cond b j j ≡ j
      either_way true = refl
      either_way false = refl

module _ (n : ℕ) (ls : List Observation) (short : Bool) where
  abbrev start : Gathered
  start = opened n (length ls) short

  abbrev pub gathered_of : Gathered
  gathered_of = gathered start ls (few start.progress.status (length ls))

  pub record Whole : Type 0 where
    pub says : build_code gathered_of.progress.status ≡ build_answer n ls short
    pub line : line_number_of gathered_of ≡ build_line n ls short
    pub size : gathered_of.progress.n ≡ n
    pub long : gathered_of.progress.status ≡ Ok tt → short ≡ false
    pub sound : ReadyWhenDone gathered_of
    pub sums : build_code gathered_of.progress.status ≡ [] → (f : Observation → ℤ) → kept_sum f gathered_of ≡ total f (distinct ls)

  pub whole : Whole
  whole = go (verdict (open_order n (length ls) short)) refl
    where
      go : (t : List ℕ) → verdict (open_order n (length ls) short) ≡ t → Whole
      go (k ∷ ks) e =
          let t : build_code start.progress.status ≡ k ∷ ks = opening_says n (length ls) short ∙ e in
          let r : gathered_of ≡ start = still_at start ls (few start.progress.status (length ls)) t in
          let s : build_code gathered_of.progress.status ≡ k ∷ ks = ap (λ (z : Gathered). build_code z.progress.status) r ∙ t in
          record {
            says = s ∙ (unfold build_answer in ap (λ (w : List ℕ). or_else w (observations_say n [] ls)) (sym e));
            line = ap line_number_of r ∙ none_refused n (length ls) short ∙ (unfold build_line in ap (λ (w : List ℕ). if_accepted w (refused_from n 0 [] ls) 0) (sym e));
            size = ap (λ (z : Gathered). z.progress.n) r ∙ opening_size n (length ls) short;
            long = λ d. absurd (nothing_is_not (sym s ∙ ap build_code d));
            sound = record { ready = λ d. absurd (nothing_is_not (sym s ∙ ap build_code d)) };
            sums = λ d. absurd (nothing_is_not (sym s ∙ d));
          }
      go [] e =
          let u = usable n (length ls) short e in
          let t = opening_done n (length ls) short u in
          let z = size_range n u.size in
          let c = none_counted n (length ls) short in
          let k = none_looked n (length ls) short in
          let r : gathered_of ≡ folded start ls = ap (λ (b : Built). gathered start ls (few b (length ls))) t ∙ ap (gathered start ls) (few_all (length ls) u.count_max) ∙ gathered_folded start ls in
          let o = gathers n [] ls start (begun n (length ls) short t) (omega (arith, c, u.count_max)) (omega (arith, k, u.count_max)) in
          let w : GatheringAs n [] ls start gathered_of = subst (GatheringAs n [] ls start) (sym r) o in
          record {
            says = w.says ∙ (unfold build_answer in ap (λ (v : List ℕ). or_else v (observations_say n [] ls)) (sym e));
            line = w.line ∙ ap (λ (j : ℕ). refused_from n j [] ls) k ∙ (unfold build_line in ap (λ (v : List ℕ). if_accepted v (refused_from n 0 [] ls) 0) (sym e));
            size = w.size;
            long = λ d. u.long;
            sound = record {
              ready = λ d.
                  let q = ap build_code d in
                  record {
                    n_pos = rw w.size z.0;
                    size = rw w.size z.1;
                    lines = record { count_max = w.count_max q; proper = λ p b. proper_of n (kept_at gathered_of p) z.1 (w.good q p b) };
                  };
            };
            sums = λ d f. w.sums d f ∙ ap (λ (x : ℤ). x +ℤ total f (distinct ls)) (none f c) ∙ +ℤ_idl (total f (distinct ls));
          }
        where
          none : (f : Observation → ℤ) → start.progress.count ≡ 0 → kept_sum f start ≡ pos 0
          none f c = ap (λ (j : ℕ). sum j (λ (p : ℕ). f (kept_at start p))) c ∙ sum_none (λ (p : ℕ). f (kept_at start p))

-- ---- for the loop over the lines
module _ (g : Gathered) (ls : List Observation) where
  pub gathered_none : g ≡ gathered g ls 0
  unfolding gathered
  gathered_none = refl

  pub gathered_next : (k : ℕ) → gathered g ls (k + 1) ≡ added (gathered g ls k) (get_or ls k no_observation)
  unfolding gathered
  gathered_next k = ap (gathered g ls) (add-one k)

  pub gathered_end : {i n : ℕ} → i ≤ n → n ≤ i → gathered g ls i ≡ gathered g ls n
  gathered_end p q = ap (gathered g ls) (le_antisymm p q)

pub few_within : (t : Built) (n : ℕ) → few t n ≤ n
unfolding few
few_within t n = go (is_refused t) (leb n 256)
  where
    go : (r b : Bool) → cond r 0 (cond b n 0) ≤ n
    go true b = omega arith
    go false true = omega arith
    go false false = omega arith
