-- Which field line is refused, and that none before it is.
--   quiet_next       — a line that passes before others of which nothing is said
--   Stopped, stopped — where a line is refused, those before it pass, it is refused with what is said of all, and the number is its own, after k others
--   none_refused     — where nothing is said, the number is 0
--   line_silent, line_short — a list that builds has the line 0, and so has a call with a list too short
--   line_stopped     — any other number is that of the first line that is refused, with what is said of the whole list
use mathlib.Core.Bool.{Bool, true}
use mathlib.Core.List.{List, [], ◌∷◌, ◌++◌}
use mathlib.Core.Path.{◌≡◌, refl, sym, ap, ◌∙◌}
use Prim.Native.Nat.{ℕ, suc, ◌+◌}
use native.Mathlib.Omega.{arith}
use lib.ListN.{length}
use Rattle.rules.specs.Order.{verdict}
use Rattle.rules.proofs.Verdicts.{nothing_is_not}
use Rattle.build_lines.specs.declared.Observation.{Observation}
use Rattle.build_lines.specs.Order.{observation_says, observations_say, open_order, build_answer}
use Rattle.build_lines.specs.Refused.{refused_from, build_line}
use Rattle.build_lines.proofs.Firsts.{onto}

pub record Stopped (n k : ℕ) (es ls : List Observation) : Type 0 where
  pub before : List Observation
  pub line : Observation
  pub after : List Observation
  pub parts : ls ≡ before ++ (line ∷ after)
  pub place : refused_from n k es ls ≡ k + suc (length before)
  pub quiet : observations_say n es before ≡ []
  pub code : observation_says n (onto before es) line ≡ observations_say n es ls

quiet_next : (n : ℕ) (es : List Observation) (l : Observation) (ls : List Observation) → observation_says n es l ≡ [] → observations_say n (l ∷ es) ls ≡ [] → observations_say n es (l ∷ ls) ≡ []
unfolding observations_say
quiet_next n es l ls a q = rw a q

pub stopped : (n k : ℕ) (es ls : List Observation) {j : ℕ} {js : List ℕ} → observations_say n es ls ≡ j ∷ js → Stopped n k es ls
unfolding observations_say refused_from onto
stopped n k es [] e = absurd (nothing_is_not (sym e))
stopped n k es (l ∷ ls) {j} {js} e = go (observation_says n es l) refl (stopped n (k + 1) (l ∷ es) ls {j = j} {js = js})
  where
    go : (r : List ℕ) → observation_says n es l ≡ r → (observations_say n (l ∷ es) ls ≡ j ∷ js → Stopped n (k + 1) (l ∷ es) ls) → Stopped n k es (l ∷ ls)
    go [] a rest =
        let next : observations_say n es (l ∷ ls) ≡ observations_say n (l ∷ es) ls = rw a in
        let later : refused_from n k es (l ∷ ls) ≡ refused_from n (k + 1) (l ∷ es) ls = rw a in
        let s = rest (sym next ∙ e) in
        record {
          before = l ∷ s.before;
          line = s.line;
          after = s.after;
          parts = ap (λ (z : List Observation). l ∷ z) s.parts;
          place = later ∙ s.place ∙ omega arith;
          quiet = quiet_next n es l s.before a s.quiet;
          code = s.code ∙ sym next;
        }
    go (m ∷ ws) a rest =
        let here : observations_say n es (l ∷ ls) ≡ m ∷ ws = rw a in
        let own : refused_from n k es (l ∷ ls) ≡ k + 1 = rw a in
        record { before = []; line = l; after = ls; parts = refl; place = own ∙ omega arith; quiet = refl; code = a ∙ sym here }

pub none_refused : (n k : ℕ) (es ls : List Observation) → observations_say n es ls ≡ [] → refused_from n k es ls ≡ 0
unfolding observations_say refused_from
none_refused n k es [] e = refl
none_refused n k es (l ∷ ls) e = go (observation_says n es l) refl (none_refused n (k + 1) (l ∷ es) ls)
  where
    go : (r : List ℕ) → observation_says n es l ≡ r → (observations_say n (l ∷ es) ls ≡ [] → refused_from n (k + 1) (l ∷ es) ls ≡ 0) → refused_from n k es (l ∷ ls) ≡ 0
    go [] a rest = let next : observations_say n es (l ∷ ls) ≡ observations_say n (l ∷ es) ls = rw a in rw a (rest (sym next ∙ e))
    go (m ∷ ws) a rest = let here : observations_say n es (l ∷ ls) ≡ m ∷ ws = rw a in absurd (nothing_is_not (sym here ∙ e))

-- ---- a whole list
pub line_short : (n : ℕ) (ls : List Observation) → build_line n ls true ≡ 0
unfolding build_line
line_short n ls = refl

module _ (n : ℕ) (ls : List Observation) (short : Bool) where
  pub line_silent : build_answer n ls short ≡ [] → build_line n ls short ≡ 0
  unfolding build_answer build_line
  line_silent e = go (verdict (open_order n (length ls) short)) refl
    where
      go : (r : List ℕ) → verdict (open_order n (length ls) short) ≡ r → build_line n ls short ≡ 0
      go [] a = let says : build_answer n ls short ≡ observations_say n [] ls = rw a in rw a (none_refused n 0 [] ls (sym says ∙ e))
      go (m ∷ ws) a = rw a

  pub record First : Type 0 where
    pub stop : Stopped n 0 [] ls
    pub line_is : build_line n ls short ≡ suc (length stop.before)
    pub answer : build_answer n ls short ≡ observation_says n (onto stop.before []) stop.line

  pub line_stopped : {j : ℕ} → build_line n ls short ≡ suc j → First
  unfolding build_answer build_line
  line_stopped {j} e = go (verdict (open_order n (length ls) short)) refl
    where
      lines : verdict (open_order n (length ls) short) ≡ [] → (r : List ℕ) → observations_say n [] ls ≡ r → First
      lines a [] b =
          let here : build_line n ls short ≡ refused_from n 0 [] ls = rw a in
          let z : suc j ≡ 0 = sym e ∙ here ∙ none_refused n 0 [] ls b in
          absurd (omega (arith, z))
      lines a (m ∷ ws) b =
          let s = stopped n 0 [] ls b in
          let here : build_line n ls short ≡ refused_from n 0 [] ls = rw a in
          let says : build_answer n ls short ≡ observations_say n [] ls = rw a in
          record { stop = s; line_is = here ∙ s.place ∙ omega arith; answer = says ∙ sym s.code }

      go : (r : List ℕ) → verdict (open_order n (length ls) short) ≡ r → First
      go [] a = lines a (observations_say n [] ls) refl
      go (m ∷ ws) a =
          let none : build_line n ls short ≡ 0 = rw a in
          let z : suc j ≡ 0 = sym e ∙ none in
          absurd (omega (arith, z))
