-- What stands in the buffer is what the program prints.
--   Shown          — the first bytes of a buffer are the text of a file
--   shown_file, shown_refusal, shown_unfit — the new file; the line of a refusal; that of 22
use mathlib.Core.Path.{◌≡◌, refl, sym, ap, ◌∙◌}
use mathlib.Core.List.{List, [], ◌∷◌, ◌++◌}
use Prim.Native.Nat.{ℕ, ◌+◌}
use native.Mathlib.Omega.{arith}
use lib.ListN.{length, take, drop, get_or}
use lib.Seq.{take_at}
use Rattle.rules.specs.Refusal.{number_of, values_of}
use Rattle.rules.specs.declared.Refusal.{Refusal}
use Rattle.rules.proofs.Verdicts.{accepted_new}
use Rattle.line_form.specs.Form.{bytes}
use Rattle.listing_text.specs.Line.{each, list_line}
use Rattle.listing_text.specs.Wrote.{Wrote}
use Rattle.listing_text.proofs.Wrote.{wider}
use Rattle.listing_refusal.specs.Refused.{printed, refused_of}
use Rattle.listing_refusal.specs.Answered.{Answered}
use Rattle.listing_refusal.specs.declared.FileAnswer.{FileAnswer}
use Rattle.file_check.specs.Judged.{line_or}
use Rattle.convert_spec.specs.declared.Conversion.{Conversion}
use Rattle.convert_spec.specs.declared.ConversionRefusal.TheVariants.{Refused, NotConvertible}
use Rattle.std.specs.Prelude.{Ok, Err}
use Rattle.convert_spec.specs.Converted.{convert_code, length_of, convert_answer, converted_text, ConvertedAt}
use Rattle.convert_spec.specs.File.{new_file}
use Rattle.convert_spec.proofs.Text.{text_is}
use Rattle.converter.proofs.Handed.{taken_text}

abbrev pub Shown : List ℕ → ℕ → List ℕ → Type 0
Shown file end p = (end ≡ length (converted_text file)) × (take end p ≡ converted_text file)

module _ (file : List ℕ) {o p : List ℕ} {r : Conversion} (x : ConvertedAt file o p r) (room : length o ≡ 32768) where
  code_is : convert_answer file 32768 ≡ convert_code r.answer
  code_is = ap (convert_answer file) (sym room) ∙ sym x.answer.says

  -- the text where something is said
  refused_text : (k : ℕ) (vs : List ℕ) → convert_code r.answer ≡ k ∷ vs → refused_of (printed r.line (k ∷ vs)) ≡ converted_text file
  refused_text k vs e = sym (text_is file (k ∷ vs) (code_is ∙ e) ∙ ap (λ (l : ℕ). line_or (printed l (k ∷ vs)) (new_file file)) (sym x.line) ∙ line_first r.line vs)
    where
      line_first : (l : ℕ) (vs : List ℕ) → line_or (printed l (k ∷ vs)) (new_file file) ≡ refused_of (printed l (k ∷ vs))
      line_first l [] = refl
      line_first l (v ∷ vs) = refl

  pub shown_file : {k : ℕ} → r.answer ≡ Ok k → Shown file k p
  shown_file {k} e =
      let a : convert_answer file 32768 ≡ [] = code_is ∙ ap convert_code e in
      let b : convert_answer file (length o) ≡ [] = ap (convert_answer file) room ∙ a in
      let n : k ≡ length (new_file file) = ap length_of (sym e) ∙ x.answer.size ∙ accepted_new _ _ b in
      let q : p ≡ new_file file ++ drop (length (new_file file)) o = x.answer.bytes ∙ accepted_new _ _ b in
      let s : new_file file ≡ converted_text file = sym (text_is file [] a) in
      (n ∙ ap length s, rw q (take_at (new_file file) (drop (length (new_file file)) o) k (sym n)) ∙ s)

  module _ (kept : length p ≡ length o) where
    written_shown : {t q : List ℕ} {end : ℕ} → Wrote 32768 p 0 t q end → t ≡ converted_text file → Shown file end q
    written_shown w e = (omega (arith, w.end_is, ap length e), taken_text w (omega (arith, kept, room)) ∙ e)

    pub shown_refusal : {f : Refusal} {q : List ℕ} {a : FileAnswer} → r.answer ≡ Err (Refused f)
        → Answered (printed r.line (number_of f ∷ values_of f)) (refused_of (printed r.line (number_of f ∷ values_of f))) p q a → Shown file a.length q
    shown_refusal {f} e w = written_shown w.wrote (refused_text (number_of f) (values_of f) (ap convert_code e))

    one_shown : (l : ℕ) → list_line (bytes "(refused ") 22 1 (λ (j : ℕ). get_or (l ∷ []) (0 + j) 0) ≡ refused_of (printed l (22 ∷ []))
    unfolding each
    one_shown l = refl

    pub shown_unfit : {q : List ℕ} {end : ℕ} → r.answer ≡ (Err NotConvertible) → Wrote 707 p 0 (list_line (bytes "(refused ") 22 1 (λ (j : ℕ). get_or (r.line ∷ []) (0 + j) 0)) q end → Shown file end q
    shown_unfit e w = written_shown (wider 32768 (omega arith) w) (one_shown r.line ∙ refused_text 22 [] (ap convert_code e))
