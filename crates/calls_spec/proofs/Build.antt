-- The exported builder, in the words of 02's Papers 3 and 10.
--   build_status    — the number is that of the order of tests, 8, 3, and of each line 3, 16, 17
--   build_refused — every other number is said with both lists as before
--   code_zero     — 0 is said of a list that builds alone
--   build_zero, build_half_zero — and then the equations stand in the two lists, the matrix square or by its lower half
--   half_filled_out — filled out, the half is what the square layout gives on the first n × n places; the right sides are the same
--   build_checks  — never is it the built matrix or right side that makes a check answer 3: the test of its lists is that of the other four
use mathlib.Core.Bool.{◌&&◌}
use mathlib.Core.List.{List, [], ◌∷◌}
use mathlib.Core.Path.{◌≡◌, refl, sym, ap, ◌∙◌}
use Prim.Native.Nat.{ℕ, suc, ◌*◌, ◌<◌}
use native.Mathlib.Omega.{arith}
use lib.IntN.{ℤ}
use lib.ListN.{get_or}
use Rattle.linear.specs.Slice.{at}
use Rattle.rules.specs.Range.{all_in_range}
use Rattle.rules.specs.declared.Kind.TheVariants as kind
use Rattle.std.specs.Prelude.{Err, Ok}
use Rattle.check_spec.specs.Input.{lists_in_range}
use Rattle.build_lines.specs.Order.{Built, build_code, build_answer}
use Rattle.build_lines.specs.declared.BuildRefusal.TheVariants.{Refused, SameMark, OtherContents}
use Rattle.build_lines.specs.declared.Observation.{Observation}
use Rattle.half_fill.specs.Half.{filled_out}
use Rattle.build_equations.specs.declared.Layout.{Layout}
use Rattle.build_equations.specs.declared.Layout.TheVariants.{Square, Lower}
use Rattle.build.specs.BuiltAs.{short_for}
use Rattle.build.specs.Held.{HeldSquare, HeldHalf}
use Rattle.build.proofs.Held.{held, untouched, in_check_ranges}
use Rattle.build.proofs.Halves.{held_half, half_is_square}
use Rattle.calls_spec.specs.Build.{BuildExported}
use Rattle.calls_spec.proofs.Meaning.{zero_code}

zero_built : (b : Built) → get_or (build_code b) 0 0 ≡ 0 → build_code b ≡ []
zero_built (Ok tt) e = refl
zero_built (Err (Refused r)) e = zero_code (Err r) e
zero_built (Err SameMark) e = absurd (omega arith)
zero_built (Err OtherContents) e = absurd (omega arith)

module _ {n : ℕ} {ls : List Observation} {layout : Layout} {a b : List ℤ} {number : ℕ} {a' b' : List ℤ} (x : BuildExported n ls layout a b number a' b') where
  pub build_status : number ≡ get_or (build_answer n ls (short_for layout a b)) 0 0
  build_status = x.number_is ∙ ap (λ (l : List ℕ). get_or l 0 0) x.built.says

  pub build_refused : {k : ℕ} → number ≡ suc k → (a' ≡ a) × (b' ≡ b)
  build_refused e = go (build_code x.answer) refl (sym e ∙ x.number_is)
    where
      go : {k : ℕ} (l : List ℕ) → build_code x.answer ≡ l → suc k ≡ get_or (build_code x.answer) 0 0 → (a' ≡ a) × (b' ≡ b)
      go [] p q = absurd (omega (arith, q ∙ ap (λ (l : List ℕ). get_or l 0 0) p))
      go (k ∷ ks) p q = untouched n ls layout a b x.built p

  pub code_zero : number ≡ 0 → build_code x.answer ≡ []
  code_zero e = zero_built x.answer (sym x.number_is ∙ e)

module _ {n : ℕ} {ls : List Observation} {a b : List ℤ} {number : ℕ} {a' b' : List ℤ} (x : BuildExported n ls Square a b number a' b') (e : number ≡ 0) where
  pub build_zero : HeldSquare n ls a b a' b'
  build_zero = held n ls a b x.built (code_zero x e)

  pub build_checks : (tolerance guess inverse weights : List ℤ) → lists_in_range n a' b' tolerance guess inverse weights
      ≡ all_in_range kind.Tolerance n (at tolerance) && (all_in_range kind.Guess n (at guess) && (all_in_range kind.Inverse (n * n) (at inverse) && all_in_range kind.Weight n (at weights)))
  build_checks tolerance guess inverse weights = let t = in_check_ranges n ls a b x.built (code_zero x e) in rw (t.0, t.1)

module _ {n : ℕ} {ls : List Observation} {h b : List ℤ} {number : ℕ} {h' b' : List ℤ} (x : BuildExported n ls Lower h b number h' b') (e : number ≡ 0) where
  pub build_half_zero : HeldHalf n ls h b h' b'
  build_half_zero = held_half n ls h b x.built (code_zero x e)

  pub half_filled_out : {a c : List ℤ} {square : ℕ} {a' c' : List ℤ} (y : BuildExported n ls Square a c square a' c') → square ≡ 0 →
      ((k : ℕ) → k < n * n → at (filled_out n h') k ≡ at a' k) × ((i : ℕ) → i < n → at b' i ≡ at c' i)
  half_filled_out {a} {c} y f = half_is_square n ls h b x.built (code_zero x e) a c y.built (code_zero y f)
