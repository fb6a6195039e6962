-- The exported converter, in the words of 02's Paper 14.
--   convert_status    — the number and the count are those of the order of tests: the desk's refusals, 15, 22
--   convert_refused — every number but 0 is said with buffer and length as before
--   convert_zero    — 0 is said of a file that is converted alone; then its new file stands at the start of the buffer, the rest is as before, and `written` is its
--     length
use mathlib.Core.List.{List, [], ◌∷◌, ◌++◌}
use mathlib.Core.Path.{◌≡◌, refl, sym, ap, subst, ◌∙◌}
use Prim.Native.Nat.{ℕ, suc}
use native.Mathlib.Omega.{arith}
use lib.ListN.{length, get_or, drop}
use Rattle.std.specs.Prelude.{Err, Ok}
use Rattle.rules.proofs.Verdicts.{accepted_new, accepted_old}
use Rattle.convert_spec.specs.Converted.{Converted, convert_code, convert_answer}
use Rattle.convert_spec.specs.declared.ConversionRefusal.TheVariants.{Refused, NotConvertible}
use Rattle.convert_spec.specs.File.{new_file}
use Rattle.calls_spec.specs.Conversion.{ConvertExported}
use Rattle.reply.specs.ReplyIs.{ReplyIs}
use Rattle.calls_spec.proofs.Meaning.{zero_code}

zero_converted : (r : Converted) → get_or (convert_code r) 0 0 ≡ 0 → convert_code r ≡ []
zero_converted (Ok n) e = refl
zero_converted (Err (Refused x)) e = zero_code (Err x) e
zero_converted (Err NotConvertible) e = absurd (omega arith)

pub record Exported (file old new : List ℕ) (written : ℕ) : Type 0 where
  pub code : convert_answer file (length old) ≡ []
  pub bytes : new ≡ new_file file ++ drop (length (new_file file)) old
  pub size : written ≡ length (new_file file)

module _ {file old : List ℕ} {w₀ number : ℕ} {places new : List ℕ} {w : ℕ} (x : ConvertExported file old w₀ number places new w) where
  pub convert_status : ReplyIs (convert_answer file (length old)) number places
  convert_status = subst (λ (l : List ℕ). ReplyIs l number places) x.converted.says x.status

  pub convert_refused : {k : ℕ} → number ≡ suc k → (new ≡ old) × (w ≡ w₀)
  convert_refused e = go (convert_answer file (length old)) refl (sym e ∙ convert_status.number_is)
    where
      go : {k : ℕ} (l : List ℕ) → convert_answer file (length old) ≡ l → suc k ≡ get_or (convert_answer file (length old)) 0 0 → (new ≡ old) × (w ≡ w₀)
      go [] p q = absurd (omega (arith, q ∙ ap (λ (l : List ℕ). get_or l 0 0) p))
      go (k ∷ ks) p q = (x.converted.bytes ∙ accepted_old _ _ p, x.written_is ∙ accepted_old _ _ (x.converted.says ∙ p))

  pub convert_zero : number ≡ 0 → Exported file old new w
  convert_zero e =
      let s : convert_code x.answer ≡ [] = zero_converted x.answer (sym x.status.number_is ∙ e) in
      let a : convert_answer file (length old) ≡ [] = sym x.converted.says ∙ s in
      record {
        code = a;
        bytes = x.converted.bytes ∙ accepted_new _ _ a;
        size = x.written_is ∙ accepted_new _ _ s ∙ x.converted.size ∙ accepted_new _ _ a;
      }
