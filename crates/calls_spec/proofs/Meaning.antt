-- The exported calls in 01's words.
--   status_answer — the number and the values are those of 01's order of tests
--   zero_code   — the number 0 is said of nothing but acceptance
--   zero_answer, zero_reported — of a listing the number 0 is said of an accepted file alone, and then the report stands there
--   zero_encloses, exact_zero — both halves of demand 3: 0 gives limits that enclose; a rounded exact proposal gets 0
--   reported_encloses, exact_reported — the same of a file
--   zero_height, reported_height — for each right side within tolerance there is exactly one height, as a fraction, and it lies within its limit (02, Papers 5
--     and 12)
--   entry_zero, entry_three — the register entry where its numbers are in range, and where one is not
use mathlib.Core.Bool.{true, false}
use mathlib.Core.List.{List, [], ◌∷◌}
use mathlib.Core.Path.{◌≡◌, refl, sym, ap, ◌∙◌}
use Prim.Native.Nat.{ℕ, ◌+◌, ◌*◌}
use native.Mathlib.Omega.{arith}
use lib.IntN.{ℤ}
use lib.ListN.{get_or, take}
use Rattle.linear.specs.Matrix.{Vec, Mat}
use Rattle.rules.specs.Refusal.{code, Outcome}
use Rattle.std.specs.Prelude.{Ok, Err}
use Rattle.rules.specs.declared.Refusal.TheVariants.{TooLong, NoForm, OutOfRange, WrongCount, Margin, Residual, InverseResidual, TooShort, TooEarly, Repeated, Missing, AfterEnd, NotEnded}
use Rattle.rules.proofs.Verdicts.{accepted_new, accepted_old}
use Rattle.enclosure.specs.Reckoning.{bound, inverse_bound}
use Rattle.enclosure.specs.Demand.{Encloses, RoundedExact}
use Rattle.enclosure.specs.Height.{OneHeight}
use Rattle.enclosure.proofs.Demands.{one_height}
use Rattle.check_spec.specs.Input.{Input, problem, short, in_ranges}
use Rattle.check_spec.specs.Order.{answer}
use Rattle.entry.specs.Entry.{entry_value, entry_bound}
use Rattle.file_check.specs.Judged.{reported_of}
use Rattle.entry.specs.Register as entry
use Rattle.listing.specs.Listing.{problem_in, answer_of}
use Rattle.listing.specs.Complete.{Complete}
use Rattle.listing.proofs.Demand.{file_reported, file_encloses, file_height, exact_accepted}
use Rattle.listing.proofs.Answers.{answer_zero}
use Rattle.reply.specs.ReplyIs.{ReplyIs}
use Rattle.calls_spec.specs.Exported.{CheckExported, ListingExported, EntryExported}

pub zero_code : (o : Outcome) → get_or (code o) 0 0 ≡ 0 → code o ≡ []
zero_code (Ok tt) e = refl
zero_code (Err TooLong) e = absurd (omega arith)
zero_code (Err NoForm) e = absurd (omega arith)
zero_code (Err OutOfRange) e = absurd (omega arith)
zero_code (Err WrongCount) e = absurd (omega arith)
zero_code (Err (Margin row)) e = absurd (omega arith)
zero_code (Err (Residual row)) e = absurd (omega arith)
zero_code (Err (InverseResidual column row)) e = absurd (omega arith)
zero_code (Err TooShort) e = absurd (omega arith)
zero_code (Err TooEarly) e = absurd (omega arith)
zero_code (Err Repeated) e = absurd (omega arith)
zero_code (Err (Missing count)) e = absurd (omega arith)
zero_code (Err AfterEnd) e = absurd (omega arith)
zero_code (Err NotEnded) e = absurd (omega arith)

module _ {I : Input} {number : ℕ} {places E L : List ℕ} (x : CheckExported I number places E L) where
  pub status_answer : ReplyIs (answer I) number places
  status_answer = rw x.checked.says at x.status

  pub zero_encloses : number ≡ 0 → Encloses (problem I) (λ (i : ℕ). get_or E i 0) (λ (i j : ℕ). get_or L (i * I.n + j) 0)
  zero_encloses e = x.checked.encloses (zero_code x.outcome (sym x.status.number_is ∙ e))

  pub zero_height : number ≡ 0 → OneHeight (problem I) (λ (i : ℕ). get_or E i 0)
  zero_height e = one_height (problem I) (λ i. get_or E i 0) (λ i j. get_or L (i * I.n + j) 0) (zero_encloses e)

  pub exact_zero : (N : Vec) (q : ℕ) (H : Mat) (q' : ℕ) → short I ≡ false → in_ranges I ≡ true → RoundedExact (problem I) N q H q' → number ≡ 0
  exact_zero N q H q' s r h = x.status.number_is ∙ ap (λ (l : List ℕ). get_or l 0 0) (x.checked.accepts N q H q' s r h)

module _ {file old : List ℕ} {number : ℕ} {places new : List ℕ} {written : ℕ} (x : ListingExported file old number places new written) where
  pub zero_answer : number ≡ 0 → answer_of file ≡ []
  zero_answer e = answer_zero file (sym x.status.number_is ∙ e)

  pub zero_reported : number ≡ 0 → take written new ≡ reported_of (problem_in file)
  zero_reported e = x.listed.bytes ∙ file_reported file (zero_answer e)

  pub reported_encloses : number ≡ 0 → Encloses (problem_in file) (bound (problem_in file)) (inverse_bound (problem_in file))
  reported_encloses e = file_encloses file (zero_answer e)

  pub reported_height : number ≡ 0 → OneHeight (problem_in file) (bound (problem_in file))
  reported_height e = file_height file (zero_answer e)

  pub exact_reported : Complete file → (N : Vec) (q : ℕ) (H : Mat) (q' : ℕ) → RoundedExact (problem_in file) N q H q' → number ≡ 0
  exact_reported c N q H q' h = x.status.number_is ∙ ap (λ (l : List ℕ). get_or l 0 0) (exact_accepted file c N q H q' h)

module _ {x : ℤ} {e s : ℕ} {v₀ : ℤ} {b₀ number : ℕ} {places : List ℕ} {v : ℤ} {b : ℕ} (y : EntryExported x e s v₀ b₀ number places v b) where
  pub entry_zero : entry.can_enter x s ≡ true → (number ≡ 0) × ((v ≡ entry_value s x) × (b ≡ entry_bound s x e))
  entry_zero h =
      let q : entry.entry_code y.answer ≡ [] = y.registered.says ∙ rw h in
      (rw q at y.status.number_is, (y.value_is ∙ accepted_new _ _ q, y.bound_is ∙ accepted_new _ _ q))

  pub entry_three : entry.can_enter x s ≡ false → (number ≡ 3) × ((v ≡ v₀) × (b ≡ b₀))
  entry_three h =
      let q : entry.entry_code y.answer ≡ 3 ∷ [] = y.registered.says ∙ rw h in
      (rw q at y.status.number_is, (y.value_is ∙ accepted_old _ _ q, y.bound_is ∙ accepted_old _ _ q))
