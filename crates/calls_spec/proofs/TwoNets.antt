-- The exported check of two nets, in the words of 02's Paper 8.
--   net_status, together_status — the net, the number and the values are those of the order of tests of both nets
--   together_zero — 0 is said of the acceptance of both nets alone
--   together_encloses — and then every joint solution of right sides within the tolerances lies within both lists of limits, and there is one, and one only
use mathlib.Core.List.{List, []}
use mathlib.Core.Path.{◌≡◌, refl, sym, ap, ◌∙◌}
use Prim.Native.Nat.{ℕ, ◌+◌, ◌*◌}
use lib.ListN.{get_or}
use Rattle.rules.specs.Which.{which_of, refusal_of}
use Rattle.std.specs.Prelude.{Err, Ok}
use Rattle.rules.proofs.Verdicts.{nothing_is_not}
use Rattle.dependent_spec.specs.Order.{CheckedNets, nets_code, joint_answer}
use Rattle.dependent_spec.specs.declared.NetsRefusal.TheVariants.{Main, Dependent}
use Rattle.dependent_spec.specs.Nets.{Nets}
use Rattle.dependent_spec.specs.Joint.{EnclosesBoth}
use Rattle.reply.specs.ReplyIs.{ReplyIs}
use Rattle.calls_spec.specs.TwoNets.{DependentExported}
use Rattle.calls_spec.proofs.Meaning.{zero_code}

-- no refusal has the number 0
zero_nets : (r : CheckedNets) → get_or (refusal_of (nets_code r)) 0 0 ≡ 0 → nets_code r ≡ []
zero_nets (Ok tt) e = refl
zero_nets (Err (Main x)) e = absurd (nothing_is_not (zero_code (Err x) e))
zero_nets (Err (Dependent x)) e = absurd (nothing_is_not (zero_code (Err x) e))

module _ {J : Nets} {number net : ℕ} {places E₁ L₁ E₂ L₂ : List ℕ} (x : DependentExported J number net places E₁ L₁ E₂ L₂) where
  pub net_status : net ≡ which_of (joint_answer J)
  net_status = x.net_is ∙ ap which_of x.checked.says

  pub together_status : ReplyIs (refusal_of (joint_answer J)) number places
  together_status = rw x.checked.says at x.status

  pub together_zero : number ≡ 0 → joint_answer J ≡ []
  together_zero e = sym x.checked.says ∙ zero_nets x.answer (sym x.status.number_is ∙ e)

  pub together_encloses : number ≡ 0 →
      EnclosesBoth J (λ (i : ℕ). get_or E₁ i 0) (λ (i j : ℕ). get_or L₁ (i * J.main.n + j) 0) (λ (i : ℕ). get_or E₂ i 0) (λ (i j : ℕ). get_or L₂ (i * J.dependent.n + j) 0)
  together_encloses e = x.checked.encloses (x.checked.says ∙ together_zero e)
