-- Which line a refusal is of.
--   line_quiet  — what no test of a line says is said of none: so of no line 0, 15 or 22
--   StoppedFile, stopped_file — where a line of a file is refused, those before it are accepted, it is refused with what is said, and the number is its own, from 1
--   line_zero, line_open, line_unfit — `kodarfi_convert_line` gives the line 0 with 0, 15 and 22
--   line_none   — the line 0 is given where every line is accepted, and there alone
--   line_first  — any other line is the first that is refused, with the number that the call gives
use mathlib.Core.Bool.{true}
use mathlib.Core.List.{List, [], ◌∷◌, ◌++◌}
use mathlib.Core.Path.{◌≡◌, refl, sym, ap, subst, ◌∙◌}
use Prim.Native.Nat.{ℕ, suc, ◌+◌}
use native.Mathlib.Omega.{arith}
use lib.ListN.{get_or, length}
use Rattle.rules.specs.Order.{verdict, or_else}
use Rattle.rules.proofs.Tests.{head, without, no_code_lem, silent}
use Rattle.rules.proofs.Verdicts.{accepted_new, accepted_old, nothing_is_not}
use Rattle.loader_order.specs.Order.{LineCase, line_order}
use Rattle.loader.specs.declared.Loader.{Loader}
use Rattle.loader.specs.Answer.{case_of, line_answer}
use Rattle.loader_lists.specs.Lists.{Lists}
use Rattle.loader_runs.specs.Lines.{lines_of}
use Rattle.loader_runs.specs.Run.{State, from_new, step}
use Rattle.loader_runs.specs.Accepts.{run, Accepts}
use Rattle.loader_runs.specs.Read.{Reading, read_from, reading_of, zeros}
use Rattle.loader_runs.proofs.Read.{read_none, read_accepted, read_refused}
use Rattle.loader_runs.proofs.Whole.{all_accepted}
use Rattle.convert_spec.specs.Converted.{convert_answer, conversion_order}
use Rattle.calls_spec.specs.Conversion.{refused_line, ConvertLineExported}
use Rattle.calls_spec.proofs.Conversion.{convert_status}

line_quiet : (d : Loader) (l : Lists) (line : List ℕ) {k : ℕ} {vs : List ℕ} → line_answer d l line ≡ k ∷ vs → without k (line_order (case_of d l line)) ≡ true → ⊥
unfolding line_answer
line_quiet d l line e w = nothing_is_not (sym e ∙ silent (line_order (case_of d l line)) (no_code_lem (line_order (case_of d l line)) _ w e))

-- ---- the line at which a reading stops
pub record StoppedFile (k : ℕ) (u : State) (lines : List (List ℕ)) : Type 0 where
  pub before : List (List ℕ)
  pub line : List ℕ
  pub after : List (List ℕ)
  pub parts : lines ≡ before ++ (line ∷ after)
  pub place : (read_from k u lines).line ≡ k + suc (length before)
  pub accepts : Accepts u before
  pub refused : line_answer (run u before).loader (run u before).lists line ≡ (read_from k u lines).code

pub stopped_file : (k : ℕ) (u : State) (lines : List (List ℕ)) {n : ℕ} {vs : List ℕ} → (read_from k u lines).code ≡ n ∷ vs → StoppedFile k u lines
unfolding run
stopped_file k u [] e = absurd (nothing_is_not (sym e ∙ ap (λ (r : Reading). r.code) (read_none k u)))
stopped_file k u (line ∷ lines) {n} {vs} e = go (line_answer u.loader u.lists line) refl (stopped_file (k + 1) (step u line) lines {n = n} {vs = vs})
  where
    go : (r : List ℕ) → line_answer u.loader u.lists line ≡ r → ((read_from (k + 1) (step u line) lines).code ≡ n ∷ vs → StoppedFile (k + 1) (step u line) lines) → StoppedFile k u (line ∷ lines)
    go [] a rest =
        let q = read_accepted k u line lines a in
        let r = rest (sym (ap (λ (r : Reading). r.code) q) ∙ e) in
        record {
          before = line ∷ r.before;
          line = r.line;
          after = r.after;
          parts = ap (λ (ls : List (List ℕ)). line ∷ ls) r.parts;
          place = ap (λ (r : Reading). r.line) q ∙ r.place ∙ omega arith;
          accepts = (a, r.accepts);
          refused = r.refused ∙ sym (ap (λ (r : Reading). r.code) q);
        }
    go (m ∷ ws) a rest =
        let q = read_refused k u line lines a in
        record {
          before = [];
          line = line;
          after = lines;
          parts = refl;
          place = ap (λ (r : Reading). r.line) q ∙ omega arith;
          accepts = tt;
          refused = a ∙ sym (ap (λ (r : Reading). r.code) q);
        }

-- ---- the converter's line
pub record FirstRefused (file : List ℕ) (line number : ℕ) : Type 0 where
  pub before : List (List ℕ)
  pub text : List ℕ
  pub after : List (List ℕ)
  pub parts : lines_of file ≡ before ++ (text ∷ after)
  pub place : line ≡ suc (length before)
  pub accepts : Accepts (from_new zeros) before
  pub refused : number ≡ get_or (line_answer (run (from_new zeros) before).loader (run (from_new zeros) before).lists text) 0 0

module _ {file old : List ℕ} {w₀ number : ℕ} {places new : List ℕ} {w line : ℕ} (x : ConvertLineExported file old w₀ number places new w line) where
  -- what is said of a file with a refused line is what is said of that line
  number_code : {k : ℕ} {vs : List ℕ} → (reading_of file).code ≡ k ∷ vs → number ≡ k
  unfolding convert_answer
  number_code {k} {vs} e = (convert_status x.exported).number_is ∙ ap (λ (l : List ℕ). get_or (or_else l (verdict (conversion_order file (length old)))) 0 0) e

  quiet : (k : ℕ) → ((c : LineCase) → without k (line_order c) ≡ true) → number ≡ k → line ≡ 0
  quiet k w e = x.line_is ∙ go (reading_of file).code refl
    where
      go : (r : List ℕ) → (reading_of file).code ≡ r → refused_line file ≡ 0
      go [] a = accepted_new _ _ a
      go (m ∷ vs) a =
          let s = stopped_file 0 (from_new zeros) (lines_of file) a in
          let u = run (from_new zeros) s.before in
          let same : m ≡ k = sym (number_code a) ∙ e in
          absurd (line_quiet u.loader u.lists s.line (s.refused ∙ a) (subst (λ (j : ℕ). without j (line_order (case_of u.loader u.lists s.line)) ≡ true) (sym same) (w (case_of u.loader u.lists s.line))))

  pub line_zero : number ≡ 0 → line ≡ 0
  line_zero = quiet 0 (λ c. refl)

  pub line_open : number ≡ 15 → line ≡ 0
  line_open = quiet 15 (λ c. refl)

  pub line_unfit : number ≡ 22 → line ≡ 0
  line_unfit = quiet 22 (λ c. refl)

  pub line_first : {j : ℕ} → line ≡ suc j → FirstRefused file line number
  line_first {j} e = go (reading_of file).code refl
    where
      go : (r : List ℕ) → (reading_of file).code ≡ r → FirstRefused file line number
      go [] a = let z : suc j ≡ 0 = sym e ∙ x.line_is ∙ accepted_new _ _ a in absurd (omega (arith, z))
      go (m ∷ vs) a =
          let s = stopped_file 0 (from_new zeros) (lines_of file) a in
          record {
            before = s.before;
            text = s.line;
            after = s.after;
            parts = s.parts;
            place = x.line_is ∙ accepted_old _ _ a ∙ s.place ∙ omega arith;
            accepts = s.accepts;
            refused = number_code a ∙ sym (ap (λ (l : List ℕ). get_or l 0 0) (s.refused ∙ a));
          }

  pub line_none : line ≡ 0 → Accepts (from_new zeros) (lines_of file)
  line_none e = go (reading_of file).code refl
    where
      go : (r : List ℕ) → (reading_of file).code ≡ r → Accepts (from_new zeros) (lines_of file)
      go [] a = all_accepted 0 (from_new zeros) (lines_of file) a
      go (m ∷ vs) a =
          let s = stopped_file 0 (from_new zeros) (lines_of file) a in
          let z : 0 ≡ suc (length s.before) = sym e ∙ x.line_is ∙ accepted_old _ _ a ∙ s.place ∙ omega arith in
          absurd (omega (arith, z))
