-- The exported search for weights, in the words of 02's Paper 7.
--   search_status — the number and the values are those of the order of tests, 8, 3, 18
--   found_first — 0 is said of a good list alone, and *tried is its place, at most the allowance
--   none_good   — 18 is said exactly where neither 8 nor 3 is and none of the allowed lists is good
--   check_not_five — a check with the weights that stand there after 0 is never refused with 5, whatever its scale, right side, tolerances and guess
use mathlib.Core.List.{List, [], ◌∷◌}
use mathlib.Core.Logic.{◌↔◌}
use mathlib.Core.Path.{◌≡◌, sym, ap, ◌∙◌}
use Prim.Native.Nat.{ℕ}
use lib.IntN.{ℤ}
use lib.ListN.{get_or}
use Rattle.rules.proofs.Verdicts.{accepted_new}
use Rattle.check_spec.specs.Input.{input}
use Rattle.check_spec.specs.Order.{answer}
use Rattle.weights_spec.specs.Request.{Request}
use Rattle.weights_spec.specs.Search.{search_code, search_answer}
use Rattle.weights_spec.specs.Promised.{UsableRequest, PlaceOfFirstGood, NoGood}
use Rattle.weights_spec.proofs.Promises.{zero_found, number_none, count_first, none_exactly}
use Rattle.weights_spec.proofs.Checks.{never_five}
use Rattle.reply.specs.ReplyIs.{ReplyIs}
use Rattle.calls_spec.specs.Weights.{SearchExported}

module _ {Q : Request} {old number : ℕ} {places : List ℕ} {tried : ℕ} {weights : List ℤ} (x : SearchExported Q old number places tried weights) where
  pub search_status : ReplyIs (search_answer Q) number places
  search_status = rw x.found.says at x.status

  code_zero : number ≡ 0 → search_code x.answer ≡ []
  code_zero e = x.found.says ∙ zero_found Q (sym search_status.number_is ∙ e)

  pub found_first : number ≡ 0 → PlaceOfFirstGood Q tried
  found_first e = rw (x.tried_is ∙ accepted_new _ _ (code_zero e)) (count_first Q x.answer weights x.found (code_zero e))

  pub none_good : (number ≡ 18) ↔ (UsableRequest Q × NoGood Q)
  none_good = (
    λ e. (none_exactly Q x.answer weights x.found).0 (x.found.says ∙ number_none Q (sym search_status.number_is ∙ e)),
    λ h. x.status.number_is ∙ ap (λ (l : List ℕ). get_or l 0 0) ((none_exactly Q x.answer weights x.found).1 h),
  )

  pub check_not_five : number ≡ 0 → (s : ℕ) (right tolerance guess : List ℤ) (E L l : List ℕ) →
      answer (input Q.n s Q.t Q.matrix right tolerance guess Q.inverse weights E L) ≡ 5 ∷ l → ⊥
  check_not_five e = never_five Q x.answer weights x.found (code_zero e)
