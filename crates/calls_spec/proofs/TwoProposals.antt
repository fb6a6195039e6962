-- The exported call on two proposals, in the words of 02's Paper 13.
--   common_status, common_proposal — the number, the values and the proposal are those of the order of tests: 8, the first, the second, 20, 21
--   zero_common    — 0 is said of intervals that are found alone
--   zero_contains  — then the intervals contain the exact height for every right side within the tolerance, and no lower end is above its upper
--   zero_unrefused — then both proposals are accepted by themselves
--   order_exported — the same two in the other order leave the same intervals
use mathlib.Core.List.{List, []}
use mathlib.Core.Path.{◌≡◌, refl, sym, ◌∙◌}
use Prim.Native.Nat.{ℕ}
use native.Mathlib.Omega.{arith}
use lib.IntN.{ℤ}
use lib.ListN.{get_or}
use Rattle.linear.specs.Slice.{at}
use Rattle.rules.specs.Which.{which_of, refusal_of}
use Rattle.std.specs.Prelude.{Err, Ok}
use Rattle.rules.proofs.Verdicts.{nothing_is_not}
use Rattle.check_spec.specs.Order.{answer}
use Rattle.common_spec.specs.Answer.{Common, common_code, common_answer}
use Rattle.common_spec.specs.declared.CommonRefusal.TheVariants.{First, Second, TooShort, Different, TooWide}
use Rattle.common_spec.specs.Ends.{Contains}
use Rattle.common_spec.specs.Promised.{exchanged}
use Rattle.common_spec.specs.Proposals.{Proposals}
use Rattle.common_spec.proofs.Exchanged.{calls_exchanged}
use Rattle.common_spec.proofs.Statements.{found_case}
use Rattle.reply.specs.ReplyIs.{ReplyIs}
use Rattle.calls_spec.specs.TwoProposals.{CommonExported}
use Rattle.calls_spec.proofs.Meaning.{zero_code}

pub zero_common : (c : Common) → get_or (refusal_of (common_code c)) 0 0 ≡ 0 → common_code c ≡ []
zero_common (Ok tt) e = refl
zero_common (Err TooShort) e = absurd (omega arith)
zero_common (Err (First r)) e = absurd (nothing_is_not (zero_code (Err r) e))
zero_common (Err (Second r)) e = absurd (nothing_is_not (zero_code (Err r) e))
zero_common (Err Different) e = absurd (omega arith)
zero_common (Err TooWide) e = absurd (omega arith)

module _ {Q : Proposals} {number proposal : ℕ} {places : List ℕ} {low high : List ℤ} (x : CommonExported Q number proposal places low high) where
  pub common_status : ReplyIs (refusal_of (common_answer Q)) number places
  common_status = rw x.found.says at x.status

  pub common_proposal : proposal ≡ which_of (common_answer Q)
  common_proposal = rw x.found.says at x.proposal_is

  code_nothing : number ≡ 0 → common_code x.answer ≡ []
  code_nothing e = zero_common x.answer (sym x.status.number_is ∙ e)

  pub zero_contains : number ≡ 0 → Contains Q.first Q.second (at low) (at high)
  zero_contains e = x.found.contains (code_nothing e)

  pub zero_unrefused : number ≡ 0 → (answer Q.first ≡ []) × (answer Q.second ≡ [])
  zero_unrefused e = let c = found_case Q (sym x.found.says ∙ code_nothing e) in (c.first, c.second)

  pub order_exported : {number' proposal' : ℕ} {places' : List ℕ} {low' high' : List ℤ} → CommonExported (exchanged Q) number' proposal' places' low' high' → (low' ≡ low) × (high' ≡ high)
  order_exported y = (calls_exchanged Q x.answer y.answer low high _ _ x.found y.found).1
