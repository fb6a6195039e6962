-- The exported builder that gives the refused line.
--   build_line_zero  — the line is 0 with 0;  build_line_short — and with 8
--   build_line_first — any other line is the first field line that is refused: those before it pass, and it is refused with the number that the call gives
use mathlib.Core.Bool.{true}
use mathlib.Core.List.{List, [], ◌∷◌, ◌++◌}
use mathlib.Core.Path.{◌≡◌, refl, sym, ap, subst, ◌∙◌}
use Prim.Native.Nat.{ℕ, zero, suc}
use native.Mathlib.Omega.{arith}
use lib.IntN.{ℤ}
use lib.ListN.{get_or, length}
use Rattle.rules.proofs.Tests.{without, no_code_lem, silent}
use Rattle.rules.proofs.Verdicts.{nothing_is_not}
use Rattle.build_lines.specs.declared.Observation.{Observation}
use Rattle.build_lines.specs.Order.{observation_order, observation_says, observations_say}
use Rattle.build_lines.proofs.Firsts.{onto}
use Rattle.build_lines.proofs.Refused.{First, line_silent, line_stopped}
use Rattle.build_equations.specs.declared.Layout.{Layout}
use Rattle.build.specs.BuiltAs.{short_for}
use Rattle.calls_spec.specs.Build.{BuildLineExported}
use Rattle.calls_spec.proofs.Build.{build_status, code_zero}

pub record FirstRefusedLine (n : ℕ) (ls : List Observation) (line number : ℕ) : Type 0 where
  pub before : List Observation
  pub own : Observation
  pub after : List Observation
  pub parts : ls ≡ before ++ (own ∷ after)
  pub place : line ≡ suc (length before)
  pub pass : observations_say n [] before ≡ []
  pub refused : number ≡ get_or (observation_says n (onto before []) own) 0 0

-- no line is refused with 8
line_not_8 : (n : ℕ) (es : List Observation) (l : Observation) → get_or (observation_says n es l) 0 0 ≡ 8 → ⊥
line_not_8 n es l e = go (observation_says n es l) refl
  where
    go : (r : List ℕ) → observation_says n es l ≡ r → ⊥
    go [] a = let z : ◌≡◌ {A = ℕ} 0 8 = sym (ap (λ (w : List ℕ). get_or w 0 0) a) ∙ e in omega (arith, z)
    go (k ∷ ks) a =
        let z : k ≡ 8 = sym (ap (λ (w : List ℕ). get_or w 0 0) a) ∙ e in
        nothing_is_not (sym a ∙ silent (observation_order n es l) (no_code_lem (observation_order n es l) (k ∷ ks) (subst (λ (j : ℕ). without j (observation_order n es l) ≡ true) (sym z) refl) a))

module _ {n : ℕ} {ls : List Observation} {layout : Layout} {a b : List ℤ} {number : ℕ} {a' b' : List ℤ} {line : ℕ} (x : BuildLineExported n ls layout a b number a' b' line) where
  pub build_line_first : {j : ℕ} → line ≡ suc j → FirstRefusedLine n ls line number
  build_line_first e =
      let f = line_stopped n ls (short_for layout a b) (sym x.line_is ∙ e) in
      record {
        before = f.stop.before;
        own = f.stop.line;
        after = f.stop.after;
        parts = f.stop.parts;
        place = x.line_is ∙ f.line_is;
        pass = f.stop.quiet;
        refused = build_status x.exported ∙ ap (λ (w : List ℕ). get_or w 0 0) f.answer;
      }

  pub build_line_zero : number ≡ 0 → line ≡ 0
  build_line_zero e = x.line_is ∙ line_silent n ls (short_for layout a b) (sym x.exported.built.says ∙ code_zero x.exported e)

  pub build_line_short : number ≡ 8 → line ≡ 0
  build_line_short e = go line refl
    where
      go : (j : ℕ) → line ≡ j → line ≡ 0
      go zero p = p
      go (suc j) p = let f = build_line_first p in absurd (line_not_8 n (onto f.before []) f.own (sym f.refused ∙ e))
