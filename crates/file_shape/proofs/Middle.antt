-- The forms between scale and end, in whatever order.
--   Open n d      — the loader d, of n equations, has taken problem and scale and no end
--   Once n d fs   — what the loader d was given and the forms fs together have each i from 1 to n once of each kind
--   once_none, none_once — where no form is still to come that is `Whole`
--   open_next, unmarked, once_next, once_before — the next form was not given before; `Open` and `Once` after it, and `Once` before it
--   middle_taken  — forms that fit, and have each i once of each kind, are taken in whatever order, and then the end
--   among_cases, no_more — the members of a list, its first apart; after an end no form is taken
--   Middle, taken_middle — forms that are taken from there on are such forms and then the end
use mathlib.Core.Path.{◌≡◌, refl, sym, ap, subst}
use mathlib.Core.Bool.{true, false}
use mathlib.Core.List.{List, [], ◌∷◌, ◌++◌}
use Prim.Native.Nat.{ℕ, ◌+◌, ◌≤◌}
use native.Mathlib.Omega.{arith}
use borrow.Author.Tests.{ltb-false}
use lib.IntN.{ℤ, pos, nat_abs}
use lib.ListN.{length, length-set}
use Rattle.integer.specs.Among.{Among, here, there}
use Rattle.integer.proofs.Search.{clash}
use Rattle.rules.specs.Range.{in_range}
use Rattle.rules.specs.declared.Kind.TheVariants as kind
use Rattle.line_form.specs.Form.{Form, end}
use Rattle.loader_values.specs.Item.{item_of}
use Rattle.loader_values.specs.declared.Item.{Item}
use Rattle.loader_values.specs.declared.Item.TheVariants.{Of, End}
use Rattle.loader_values.specs.declared.Part.{Part}
use Rattle.loader_values.proofs.Between.{from_to_lem}
use Rattle.loader_progress.specs.Progress.{given, missing, scaled, ended}
use Rattle.loader_progress.proofs.Progress.{placed_of}
use Rattle.loader_order.proofs.CodeLaws.{Passed}
use Rattle.loader.specs.declared.Loader.{Loader}
use Rattle.loader.specs.Taken.{after}
use Rattle.loader.proofs.Exact.{form_case}
use Rattle.loader_spelled.proofs.Forms.{passed_part, passed_end}
use Rattle.listing.proofs.WithOnes.{not_in_none}
use Rattle.file_shape.specs.Shape.{Fits, how_many, Times}
use Rattle.file_shape.proofs.Fits.{fits_part, Next, a_part, the_end, next_form}
use Rattle.file_shape.proofs.Marks.{mark, mark_none, count_none, count_own, moved, times_most, Whole, times_whole, whole_times}
use Rattle.file_shape.proofs.Takes.{Takes}

pub record Open (n : ℕ) (d : Loader) : Type 0 where
  pub size : d.n ≡ n
  pub own : in_range kind.Size (pos n) ≡ true
  pub ready : scaled d.stage ≡ true
  pub going : ended d.stage ≡ false
  pub five : length d.sets ≡ 5

abbrev pub Once : ℕ → Loader → List Form → Type 0
Once n d fs = (p : Part) (k : ℕ) → 1 ≤ k → k ≤ n → Times p (mark d.sets p k + how_many p k fs)

module _ {n : ℕ} {d : Loader} (h : Open n d) where
  pub open_next : (p : Part) (i : ℤ) → Open n (after d (Of p i))
  open_next p i = record { size = h.size; own = h.own; ready = h.ready; going = h.going; five = simp length-set h.five }

  -- nothing is still to come
  once_none : Once n d [] → Whole n d.sets
  once_none o p k f t = let e : mark d.sets p k + how_many p k [] ≡ mark d.sets p k = omega (arith, count_none p k) in subst (λ (c : ℕ). Times p c) e (o p k f t)

  none_once : Whole n d.sets → Once n d []
  none_once w p k f t = let e : mark d.sets p k ≡ mark d.sets p k + how_many p k [] = omega (arith, count_none p k) in subst (λ (c : ℕ). Times p c) e (w p k f t)

  -- the next form
  module _ (f : Form) (fs : List Form) (p : Part) (i : ℤ) (e : item_of f ≡ Of p i) (from : 1 ≤ nat_abs i) where
    unmarked : nat_abs i ≤ n → Once n d (f ∷ fs) → given d.sets p (nat_abs i) ≡ false
    unmarked to o = mark_none (given d.sets p (nat_abs i)) (omega (arith, times_most p (o p (nat_abs i) from to), count_own p i f fs e))

    once_next : given d.sets p (nat_abs i) ≡ false → Once n d (f ∷ fs) → Once n (after d (Of p i)) fs
    once_next new o q k a b = subst (λ (c : ℕ). Times q c) (moved d.sets h.five p i from new f fs e q k a) (o q k a b)

    once_before : given d.sets p (nat_abs i) ≡ false → Once n (after d (Of p i)) fs → Once n d (f ∷ fs)
    once_before new o q k a b = subst (λ (c : ℕ). Times q c) (sym (moved d.sets h.five p i from new f fs e q k a)) (o q k a b)

-- ---- forms that fit are taken
pub middle_taken : (n : ℕ) (d : Loader) → Open n d → (fs : List Form) → ((f : Form) → Among f fs → Fits n f) → Once n d fs → Takes d (fs ++ (end ∷ []))
middle_taken n d h [] fit o =
    (h.going, (passed_end d (rw h.size h.own) h.ready (rw h.size (times_whole n d.sets (once_none h o))), refl))
middle_taken n d h (f ∷ fs) fit o =
    let r = fits_part n f (fit f here) in
    let p = r.part in
    let i = r.number in
    let b = from_to_lem 1 n i r.place in
    let new = unmarked h f fs p i r.item b.from b.to o in (
      h.going,
      (
        passed_part d (rw h.size h.own) h.ready f r.item (rw h.size r.place) r.inside (rw h.size r.count) new,
        subst (λ (x : Item). Takes (after d x) (fs ++ (end ∷ []))) (sym r.item)
            (middle_taken n (after d (Of p i)) (open_next h p i) fs (λ g m. fit g (there m)) (once_next h f fs p i r.item b.from new o)),
      ),
    )

-- ---- what is taken fits
pub record Middle (n : ℕ) (d : Loader) (fs : List Form) : Type 0 where
  pub others : List Form
  pub last : fs ≡ others ++ (end ∷ [])
  pub fit : (f : Form) → Among f others → Fits n f
  pub once : Once n d others

pub among_cases : (P : Form → Type 0) {f g : Form} {fs : List Form} → Among g (f ∷ fs) → P f → ((x : Form) → Among x fs → P x) → P g
among_cases P here h rest = h
among_cases P (there i) h rest = rest _ i

no_more : (d : Loader) → ended d.stage ≡ true → (fs : List Form) → Takes d fs → fs ≡ []
no_more d e [] t = refl
no_more d e (f ∷ fs) t = clash (ended d.stage) e t.0

pub taken_middle : (n : ℕ) (d : Loader) → Open n d → (fs : List Form) → Takes d fs → Middle n d fs
taken_middle n d h [] t = clash (ended d.stage) t h.going
taken_middle n d h (f ∷ fs) t =
    go (next_form d h.ready f t.1.0) (λ p i e. taken_middle n (after d (Of p i)) (open_next h p i) fs (subst (λ (x : Item). Takes (after d x) fs) e t.1.1))
  where
    go : Next d f → ((p : Part) (i : ℤ) → item_of f ≡ Of p i → Middle n (after d (Of p i)) fs) → Middle n d (f ∷ fs)
    go (a_part p i e fits) rest =
        let m = rest p i e in
        let b = from_to_lem 1 d.n i (placed_of d.stage d.n (Of p i) (rw e at t.1.0.misplaced)) in
        record {
          others = f ∷ m.others;
          last = ap (λ (gs : List Form). f ∷ gs) m.last;
          fit = λ g a. among_cases (Fits n) a (subst (λ (k : ℕ). Fits k f) h.size fits) m.fit;
          once = once_before h f m.others p i e b.from (rw e at t.1.0.repeated) m.once;
        }
    go (the_end e) rest =
        let q : Passed (form_case d end) = subst (λ (g : Form). Passed (form_case d g)) e t.1.0 in
        let none : missing n d.sets ≡ 0 = rw (← h.size) (omega (arith, ltb-false 0 (missing d.n d.sets) q.incomplete)) in
        record {
          others = [];
          last = λ j. e j ∷ no_more (after d End) refl fs (subst (λ (g : Form). Takes (after d (item_of g)) fs) e t.1.1) j;
          fit = λ g a. not_in_none a;
          once = none_once h (whole_times n d.sets none);
        }
