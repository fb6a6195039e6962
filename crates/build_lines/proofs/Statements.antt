-- Each refusal is said exactly where its stated case holds (specs/Stated).
--   stated  — what is said has its stated case
--   code_of_lem — what has its stated case is said
use mathlib.Core.Path.{◌≡◌, refl, sym, ap, subst, ◌∙◌}
use mathlib.Core.Bool.{Bool, true, false}
use mathlib.Core.List.{List, [], ◌∷◌, ◌++◌}
use Prim.Native.Nat.{ℕ}
use borrow.Author.Tests.{eqb-true, eqb-false, eq-eqb, ne_eqb, lt-ltb, ltb-true, ltb-false}
use lib.Dec.{ltb}
use lib.IntN.{pos}
use lib.ListN.{length}
use Rattle.rules.specs.Order.{or_else}
use Rattle.rules.specs.Range.{in_range}
use Rattle.rules.specs.declared.Kind.TheVariants as kind
use Rattle.rules.proofs.Verdicts.{nothing_is_not}
use Rattle.build_lines.specs.declared.Observation.{Observation}
use Rattle.build_lines.specs.Line.{outside_range, same_mark, clashes}
use Rattle.build_lines.specs.Order.{observation_says, observations_say, build_answer}
use Rattle.build_lines.specs.Stated.{Buildable, Admitted, BuildStated, too_short, size_outside, too_many, line_outside, same_mark_lem, other_contents, builds}
use Rattle.build_lines.proofs.Members.{clash_here, nobody}
use Rattle.build_lines.proofs.Lines.{lines_fit, fit_lines, usable_answer, fits_builds}
use Rattle.build_lines.proofs.Firsts.{onto, onto_cases, onto_front, skip_lines, clash_line}
use Rattle.build_lines.proofs.Refused.{Stopped, stopped}

module _ (n : ℕ) (ls : List Observation) (short : Bool) where
  short_code : short ≡ true → build_answer n ls short ≡ 8 ∷ []
  unfolding build_answer
  short_code p = rw p

  size_code : short ≡ false → in_range kind.Size (pos n) ≡ false → build_answer n ls short ≡ 3 ∷ []
  unfolding build_answer
  size_code p q = rw (p, q)

  many_code : short ≡ false → in_range kind.Size (pos n) ≡ true → ltb 256 (length ls) ≡ true → build_answer n ls short ≡ 3 ∷ []
  unfolding build_answer
  many_code p q r = rw (p, q, r)

  -- ---- what is said has its stated case
  at_line : Admitted n (length ls) short → (o s c : Bool) (f : Stopped n 0 [] ls) → outside_range n f.line ≡ o → same_mark f.line ≡ s → clashes (onto f.before []) f.line ≡ c →
      {k : ℕ} {ks : List ℕ} → observations_say n [] ls ≡ k ∷ ks → BuildStated n ls short (observations_say n [] ls)
  at_line u true s c f p q r e = subst (BuildStated n ls short) (sym (rw p) ∙ f.code) (line_outside u f.before f.after f.line f.parts (lines_fit n f.before f.quiet) p)
  at_line u false true c f p q r e =
      subst (BuildStated n ls short) (sym (rw (p, q)) ∙ f.code) (same_mark_lem u f.before f.after f.line f.parts (lines_fit n f.before f.quiet) p (eqb-true _ _ q))
  at_line u false false true f p q r e =
      let o = clash_line (onto f.before []) f.line r in
      subst (BuildStated n ls short) (sym (rw (p, q, r)) ∙ f.code)
      (other_contents u f.before f.after f.line o.line f.parts (lines_fit n f.before f.quiet) (record { inside = p; apart = eqb-false _ _ q })
      (onto_cases f.before [] o.among (λ i. i) nobody) o.key o.other)
  at_line u false false false f p q r e = absurd (nothing_is_not (sym (sym (rw (p, q, r)) ∙ f.code ∙ e)))

  pub stated : BuildStated n ls short (build_answer n ls short)
  stated = go short refl (in_range kind.Size (pos n)) refl (ltb 256 (length ls)) refl
    where
      lines : Admitted n (length ls) short → (w : List ℕ) → observations_say n [] ls ≡ w → BuildStated n ls short (observations_say n [] ls)
      lines u [] e = subst (BuildStated n ls short) (sym e) (builds u (lines_fit n ls e))
      lines u (k ∷ ks) e = let f = stopped n 0 [] ls e in at_line u _ _ _ f refl refl refl e

      go : (x : Bool) → short ≡ x → (y : Bool) → in_range kind.Size (pos n) ≡ y → (z : Bool) → ltb 256 (length ls) ≡ z → BuildStated n ls short (build_answer n ls short)
      go true p y q z r = subst (BuildStated n ls short) (sym (short_code p)) (too_short p)
      go false p false q z r = subst (BuildStated n ls short) (sym (size_code p q)) (size_outside p q)
      go false p true q true r = subst (BuildStated n ls short) (sym (many_code p q r)) (too_many p q (ltb-true 256 (length ls) r))
      go false p true q false r =
          let u : Admitted n (length ls) short = record { long = p; size = q; count_max = ltb-false 256 (length ls) r } in
          subst (BuildStated n ls short) (sym (usable_answer n ls short u)) (lines u (observations_say n [] ls) refl)

  -- ---- what has its stated case is said
  at : (xs ys : List Observation) (l : Observation) → ls ≡ xs ++ l ∷ ys → Buildable n xs → observations_say n [] ls ≡ or_else (observation_says n (onto xs []) l) (observations_say n (l ∷ onto xs []) ys)
  unfolding observations_say
  at xs ys l e f = ap (observations_say n []) e ∙ skip_lines n [] xs (l ∷ ys) (fit_lines n xs f)

  pub code_of_lem : {w : List ℕ} → BuildStated n ls short w → build_answer n ls short ≡ w
  code_of_lem (too_short p) = short_code p
  code_of_lem (size_outside p q) = size_code p q
  code_of_lem (too_many p q r) = many_code p q (lt-ltb 256 (length ls) r)
  code_of_lem (line_outside u xs ys l e f o) = usable_answer n ls short u ∙ at xs ys l e f ∙ rw o
  code_of_lem (same_mark_lem u xs ys l e f o s) = usable_answer n ls short u ∙ at xs ys l e f ∙ rw (o, eq-eqb l.«from» l.to s)
  code_of_lem (other_contents u xs ys l m e f g i k h) =
      usable_answer n ls short u ∙ at xs ys l e f ∙ rw (g.inside, ne_eqb l.«from» l.to g.apart, clash_here (onto xs []) l m (onto_front xs [] i) k h)
  code_of_lem (builds u f) = fits_builds n ls short u f
