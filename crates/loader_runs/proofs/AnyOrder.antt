-- Two runs of accepted lines, whose forms are the same in any order, agree.
--   OthersAgree, others_agree — where the forms other than weights are the same, n, s, t and every used number but the weights are equal
--   Agrees, any_order — where all forms are the same, n, s, t and every used number of the lists are equal
use mathlib.Core.Path.{◌≡◌, refl, sym, ap, subst, ◌∙◌}
use mathlib.Core.Bool.{Bool, true, false}
use mathlib.Core.List.{List}
use mathlib.Core.Logic.{◌↔◌}
use Prim.Native.Nat.{ℕ, ◌≤◌, ◌<◌}
use native.Mathlib.Omega.{arith}
use borrow.Author.Tests.{eq-eqb}
use lib.IntN.{ℤ, nat_abs}
use Rattle.integer.proofs.Search.{clash}
use Rattle.line_form.specs.Form.{Form, weight}
use Rattle.loader_values.specs.Item.{item_of, part_index}
use Rattle.loader_values.specs.declared.Item.{Item}
use Rattle.loader_values.specs.declared.Item.TheVariants.{Problem, Scale, Of}
use Rattle.loader_values.specs.declared.Part.{Part}
use Rattle.loader_values.specs.declared.Part.TheVariants as part
use Rattle.loader_lists.specs.Slot.{Slot, Weight, part_of, width, values_for}
use Rattle.loader_lists.proofs.Slot.{of_part, other_part}
use Rattle.loader_lists.specs.Lists.{Lists}
use Rattle.loader_progress.specs.Progress.{given, ended}
use Rattle.loader_progress.proofs.Progress.{scaled_sized}
use Rattle.loader_runs.specs.Run.{State, from_new, forms}
use Rattle.loader_runs.specs.Accepts.{run, Accepts}
use Rattle.loader_runs.specs.Given.{is_of}
use Rattle.integer.specs.Among.{Among}
use Rattle.loader_runs.specs.Holds.{HoldsItem, cell}
use Rattle.loader_runs.proofs.Sound.{fresh_sound}
use Rattle.loader_runs.proofs.Runs.{collected}
use Rattle.loader_runs.proofs.Sizes.{problem_given, scale_given}
use Rattle.loader_runs.proofs.LeftOut.{not_given_lem}
use Rattle.loader_runs.proofs.End.{is_scaled, from_line, left_out_lem}

-- ---- two runs of the same forms but for the weights
abbrev NotWeight : Form → Type 0
NotWeight f = (i w : ℤ) → f ≡ weight i w → ⊥

pub record OthersAgree (u v : State) : Type 0 where
  pub size : u.loader.n ≡ v.loader.n
  pub solution : u.loader.s ≡ v.loader.s
  pub inverse : u.loader.t ≡ v.loader.t
  pub values : (s : Slot) → (s ≡ Weight → ⊥) → (k j : ℕ) → 1 ≤ k → k ≤ u.loader.n → j < width s u.loader.n → cell u.lists u.loader.n s k j ≡ cell v.lists v.loader.n s k j

not_problem : (f : Form) {m : ℤ} → item_of f ≡ Problem m → NotWeight f
not_problem f e i w q = let z : Of part.Weight i ≡ Problem _ = ap item_of (sym q) ∙ e in let y : ◌≡◌ {A = ℕ} 0 1 = cc in omega arith

not_scale : (f : Form) {x y : ℤ} → item_of f ≡ Scale x y → NotWeight f
not_scale f e i w q = let z : Of part.Weight i ≡ Scale _ _ = ap item_of (sym q) ∙ e in let y : ◌≡◌ {A = ℕ} 0 1 = cc in omega arith

not_of : (f : Form) (s : Slot) → (s ≡ Weight → ⊥) → {k : ℤ} → item_of f ≡ Of (part_of s) k → NotWeight f
not_of f s n e i w q =
    let z : Of part.Weight i ≡ Of (part_of s) _ = ap item_of (sym q) ∙ e in
    let p : part.Weight ≡ part_of s = cc in
    n (of_part s (sym p) (λ x. other_part x tt))

module _ (l l' : Lists) (lines lines' : List (List ℕ)) (a : Accepts (from_new l) lines) (a' : Accepts (from_new l') lines')
    (e : ended (run (from_new l) lines).loader.stage ≡ true) (same : (f : Form) → NotWeight f → Among f (forms lines) → Among f (forms lines')) where
  abbrev one : State
  one = run (from_new l) lines

  abbrev two : State
  two = run (from_new l') lines'

  both_at : {f : Form} {x : Item} → NotWeight f → Among f (forms lines) → item_of f ≡ x → HoldsItem x (λ (s : Slot). values_for s f) one × HoldsItem x (λ (s : Slot). values_for s f) two
  both_at {f} {x} n i q = (
    subst (λ (y : Item). HoldsItem y (λ (s : Slot). values_for s f) one) q (collected (from_new l) fresh_sound lines a f i),
    subst (λ (y : Item). HoldsItem y (λ (s : Slot). values_for s f) two) q (collected (from_new l') fresh_sound lines' a' f (same f n i)),
  )

  same_size : one.loader.n ≡ two.loader.n
  same_size =
      let r = problem_given (from_new l) fresh_sound lines a refl (scaled_sized one.loader.stage (is_scaled l lines a e)) in
      let h = both_at (not_problem r.0 r.3) r.1 r.3 in
      h.0.size ∙ sym h.1.size

  same_values : (s : Slot) → (s ≡ Weight → ⊥) → (k j : ℕ) → 1 ≤ k → k ≤ one.loader.n → j < width s one.loader.n → (b : Bool) → given one.loader.sets (part_of s) k ≡ b
      → cell one.lists one.loader.n s k j ≡ cell two.lists two.loader.n s k j
  same_values s n k j f t m true g =
      let r = from_line l lines a e (part_of s) k f g in
      let h = both_at (not_of r.form s n r.item) r.among r.item in
      let x = h.0.cells s refl j m in
      let y = h.1.cells s refl j (rw (← same_size) m) in
      rw r.number (x ∙ sym y)
  same_values s n k j f t m false g = absurd (n (left_out_lem l lines a e s k j f t m g).0)

  pub others_agree : OthersAgree one two
  others_agree =
      let r = scale_given (from_new l) fresh_sound lines a refl (is_scaled l lines a e) in
      let h = both_at (not_scale r.0 r.4) r.1 r.4 in
      record {
        size = same_size;
        solution = h.0.solution ∙ sym h.1.solution;
        inverse = h.0.inverse ∙ sym h.1.inverse;
        values = λ s n k j f t m. same_values s n k j f t m (given one.loader.sets (part_of s) k) refl;
      }

-- ---- two runs of the same forms
pub record Agrees (u v : State) : Type 0 where
  pub size : u.loader.n ≡ v.loader.n
  pub solution : u.loader.s ≡ v.loader.s
  pub inverse : u.loader.t ≡ v.loader.t
  pub values : (s : Slot) (k j : ℕ) → 1 ≤ k → k ≤ u.loader.n → j < width s u.loader.n → cell u.lists u.loader.n s k j ≡ cell v.lists v.loader.n s k j

module _ (l l' : Lists) (lines lines' : List (List ℕ)) (a : Accepts (from_new l) lines) (a' : Accepts (from_new l') lines')
    (e : ended (run (from_new l) lines).loader.stage ≡ true) (e' : ended (run (from_new l') lines').loader.stage ≡ true)
    (same : (f : Form) → Among f (forms lines) ↔ Among f (forms lines')) where
  abbrev first : State
  first = run (from_new l) lines

  abbrev second : State
  second = run (from_new l') lines'

  others : OthersAgree first second
  others = others_agree l l' lines lines' a a' e (λ f n i. (same f).0 i)

  -- what the first was not given, the second was not given either
  unmarked : (p : Part) (k : ℕ) → 1 ≤ k → given first.loader.sets p k ≡ false → (b : Bool) → given second.loader.sets p k ≡ b → b ≡ false
  unmarked p k f g false h = refl
  unmarked p k f g true h =
      let r = from_line l' lines' a' e' p k f h in
      clash (is_of p k (item_of r.form)) (rw (r.item, eq-eqb (part_index p) (part_index p) refl, eq-eqb k (nat_abs r.place) r.number))
      (not_given_lem (from_new l) fresh_sound lines a p k g r.form ((same r.form).1 r.among))

  by_mark : (s : Slot) (k j : ℕ) → 1 ≤ k → k ≤ first.loader.n → j < width s first.loader.n → (b : Bool) → given first.loader.sets (part_of s) k ≡ b
      → cell first.lists first.loader.n s k j ≡ cell second.lists second.loader.n s k j
  by_mark s k j f t m true g =
      let r = from_line l lines a e (part_of s) k f g in
      let x = (subst (λ (y : Item). HoldsItem y (λ (z : Slot). values_for z r.form) first) r.item (collected (from_new l) fresh_sound lines a r.form r.among)).cells s refl j m in
      let y = (subst (λ (y : Item). HoldsItem y (λ (z : Slot). values_for z r.form) second) r.item (collected (from_new l') fresh_sound lines' a' r.form ((same r.form).0 r.among))).cells s refl j (rw (← others.size) m) in
      rw r.number (x ∙ sym y)
  by_mark s k j f t m false g =
      let h = unmarked (part_of s) k f g (given second.loader.sets (part_of s) k) refl in
      (left_out_lem l lines a e s k j f t m g).1 ∙ sym (left_out_lem l' lines' a' e' s k j f (rw (← others.size) t) (rw (← others.size) m) h).1

  pub any_order : Agrees first second
  any_order = record {
    size = others.size;
    solution = others.solution;
    inverse = others.inverse;
    values = λ s k j f t m. by_mark s k j f t m (given first.loader.sets (part_of s) k) refl;
  }
