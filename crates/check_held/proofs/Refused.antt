-- What `map_err` tells of a check that says a refusal or nothing.
--   held_accepted — it says nothing where what is made of it is Ok
--   held_refused — an error is made of its refusal
use Rattle.std.specs.Prelude.{◌≡◌, true, Result, Ok, Err, is_ok, IsErrAnd, MatchResult, ⊤}
use Rattle.std.proofs.Common.{refl, sym, subst, ◌∙◌}

pub held_accepted : {E : Type 0} (o : Result ⊤ E) → true ≡ is_ok o → o ≡ Ok tt
held_accepted (Ok x) e = refl
held_accepted (Err r) e = cc

pub held_refused : {E D : Type 0} {f : D} (P : E → D → Type 0) (o : Result ⊤ E) (q : Result ⊤ D) → MatchResult o (λ x. q ≡ Ok x) (λ e. IsErrAnd q (P e)) → q ≡ Err f →
    (e : E) × (o ≡ Err e) × P e f
held_refused {f = f} P (Ok x) q m e = let no : Err f ≡ Ok x = sym e ∙ m in cc
held_refused {D = D} P (Err r) q m e = (r, refl, subst (λ (z : Result ⊤ D). IsErrAnd z (P r)) e m)
