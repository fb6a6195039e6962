-- The contract of `build`, from what was gathered and finished.
--   gathered_for — what is gathered of the lines for the two lent lists;  ready — it is ready for the last step
--   built — the contract
use mathlib.Core.Path.{◌≡◌, refl, sym, ap, subst, ◌∙◌}
use mathlib.Core.List.{List, [], ◌∷◌}
use Prim.Native.Nat.{ℕ, ◌+◌}
use lib.IntN.{ℤ}
use Rattle.linear.proofs.Written.{written_ext}
use Rattle.rules.specs.Order.{if_accepted}
use Rattle.build_lines.specs.Order.{Built, build_code}
use Rattle.build_lines.specs.declared.Observation.{Observation}
use Rattle.build_lines.specs.Distinct.{built_matrix, built_right, weight_at, gain}
use Rattle.build_gathering.specs.declared.Gathered.{Gathered}
use Rattle.build_gathering.proofs.Whole.{gathered_of, Whole, whole}
use Rattle.build_equations.specs.declared.Layout.{Layout}
use Rattle.build_equations.specs.Written.{width_of, matrix_written, right_written}
use Rattle.build_equations.specs.Kept.{kept_matrix, kept_right}
use Rattle.build_equations.proofs.Places.{rows_ext}
use Rattle.build.specs.Finished.{ReadyFor, Finished}
use Rattle.build.specs.BuiltAs.{short_for, BuiltAs}

module _ (n : ℕ) (ls : List Observation) (layout : Layout) (a b : List ℤ) where
  abbrev pub gathered_for : Gathered
  gathered_for = gathered_of n ls (short_for layout a b)

  w : Whole n ls (short_for layout a b)
  w = whole n ls (short_for layout a b)

  pub ready : {g : Gathered} → g ≡ gathered_for → ReadyFor g layout a b
  ready e = subst (λ (z : Gathered). ReadyFor z layout a b) (sym e) (record { lines = w.sound; long = w.long })

  kept : (t : List ℕ) → t ≡ build_code gathered_for.progress.status → {A : Type 0} (new new' old : A) → (build_code gathered_for.progress.status ≡ [] → new ≡ new') → if_accepted t new old ≡ if_accepted t new' old
  kept [] e new new' old h = h (sym e)
  kept (k ∷ ks) e new new' old h = refl

  pub built : {g : Gathered} {r : Built} {a' b' : List ℤ} → g ≡ gathered_for → Finished g layout a b r a' b' → BuiltAs n ls layout a b r a' b'
  built {g} {r} {a'} {b'} p d =
      let f = subst (λ (z : Gathered). Finished z layout a b r a' b') p d in
      record {
        says = f.says ∙ w.says;
        matrix =
            f.matrix
            ∙ kept (build_code r) f.says (matrix_written layout gathered_for.progress.n (kept_matrix gathered_for) a) (matrix_written layout n (built_matrix ls) a) a
            (λ e. ap (λ (k : ℕ). matrix_written layout k (kept_matrix gathered_for) a) w.size ∙ rows_ext (width_of layout n) n (kept_matrix gathered_for) (built_matrix ls) a (λ i j. w.sums e (weight_at (i + 1) (j + 1))))
            ∙ ap (λ (t : List ℕ). if_accepted t (matrix_written layout n (built_matrix ls) a) a) (f.says ∙ w.says);
        right =
            f.right
            ∙ kept (build_code r) f.says (right_written gathered_for.progress.n (kept_right gathered_for) b) (right_written n (built_right ls) b) b
            (λ e. ap (λ (k : ℕ). right_written k (kept_right gathered_for) b) w.size ∙ written_ext b 0 1 (kept_right gathered_for) (built_right ls) n (λ i m. w.sums e (gain (i + 1))))
            ∙ ap (λ (t : List ℕ). if_accepted t (right_written n (built_right ls) b) b) (f.says ∙ w.says);
      }
