-- 02, Paper 1: the weight form is optional, each weight by itself. Forms of the shape of which some weights are left out.
--   left — a form that is left out is a weight
--   chosen_among, among_chosen, chosen_both — the members of the forms that stay, and forms one after another
--   count_fewer, count_same — they are at most as many of each kind and number, and as many of each kind but the weights
--   not_weight, fewer_times, chosen_shape — so they have the shape;  chosen_complete — and their text is complete
use mathlib.Core.Path.{◌≡◌, refl, ap, ◌∙◌}
use mathlib.Core.Bool.{Bool, true, false, cond}
use mathlib.Core.List.{List, [], ◌∷◌, ◌++◌}
use Prim.Native.Nat.{ℕ, ◌+◌, ◌≤◌}
use native.Mathlib.Omega.{arith}
use lib.IntN.{ℤ, pos}
use Rattle.integer.specs.Among.{Among, here, there}
use Rattle.integer.proofs.Search.{clash}
use Rattle.line_form.specs.Form.{Form, problem, scale, row, right, right_within, guess, inverse, weight, end}
use Rattle.loader_values.specs.Item.{item_of, part_index}
use Rattle.loader_values.specs.declared.Part.{Part}
use Rattle.loader_values.specs.declared.Part.TheVariants.{Row, Right, Guess, Inverse, Weight}
use Rattle.loader_runs.specs.Given.{is_of}
use Rattle.loader_spelled.specs.Ones.{text_of}
use Rattle.listing.specs.Complete.{Complete}
use Rattle.file_shape.specs.Chosen.{stays, chosen}
use Rattle.file_shape.specs.Shape.{how_many, Times, Shape}
use Rattle.file_shape.proofs.Complete.{text_complete}
use Rattle.file_shape.proofs.Middle.{among_cases}

-- ---- what is left out is a weight
module _ (keep : ℤ → Bool) where
  left : (f : Form) → stays keep f ≡ false → (p : Part) (k : ℕ) → (p ≡ Weight → ⊥) → is_of p k (item_of f) ≡ false
  left (problem n) e p k o = refl
  left (scale s t) e p k o = refl
  left (row i a zs) e p k o = clash true refl e
  left (right i b) e p k o = clash true refl e
  left (right_within i b d) e p k o = clash true refl e
  left (guess i x) e p k o = clash true refl e
  left (inverse i g zs) e p k o = clash true refl e
  left (weight i w) e Row k o = refl
  left (weight i w) e Right k o = refl
  left (weight i w) e Guess k o = refl
  left (weight i w) e Inverse k o = refl
  left (weight i w) e Weight k o = absurd (o refl)
  left end e p k o = refl

  pub chosen_among : {f : Form} (fs : List Form) → Among f (chosen keep fs) → Among f fs
  unfolding chosen
  chosen_among [] a = a
  chosen_among {f} (g ∷ fs) a = go (stays keep g) (λ h b. chosen_among {f = h} fs b) a
    where
      go : (b : Bool) → ((h : Form) → Among h (chosen keep fs) → Among h fs) → Among f (cond b (g ∷ chosen keep fs) (chosen keep fs)) → Among f (g ∷ fs)
      go true rest b = among_cases (λ (h : Form). Among h (g ∷ fs)) b here (λ h c. there (rest h c))
      go false rest b = there (rest f b)

  pub among_chosen : {f : Form} (fs : List Form) → stays keep f ≡ true → Among f fs → Among f (chosen keep fs)
  unfolding chosen
  among_chosen {f = f} [] e x'' = elim x'' [ ]
  among_chosen (g ∷ fs) e here = rw e here
  among_chosen {f} (g ∷ fs) e (there a) = go (stays keep g) (among_chosen fs e a)
    where
      go : (b : Bool) → Among f (chosen keep fs) → Among f (cond b (g ∷ chosen keep fs) (chosen keep fs))
      go true m = there m
      go false m = m

  chosen_both : (fs gs : List Form) → chosen keep (fs ++ gs) ≡ chosen keep fs ++ chosen keep gs
  unfolding chosen
  chosen_both [] gs = refl
  chosen_both (f ∷ fs) gs = go (stays keep f) (chosen_both fs gs)
    where
      go : (b : Bool) → chosen keep (fs ++ gs) ≡ chosen keep fs ++ chosen keep gs →
          cond b (f ∷ chosen keep (fs ++ gs)) (chosen keep (fs ++ gs)) ≡ cond b (f ∷ chosen keep fs) (chosen keep fs) ++ chosen keep gs
      go true e = ap (λ (hs : List Form). f ∷ hs) e
      go false e = e

  count_fewer : (p : Part) (k : ℕ) (fs : List Form) → how_many p k (chosen keep fs) ≤ how_many p k fs
  unfolding chosen how_many
  count_fewer p k [] = omega arith
  count_fewer p k (f ∷ fs) = go (stays keep f) (count_fewer p k fs)
    where
      go : (b : Bool) → how_many p k (chosen keep fs) ≤ how_many p k fs → how_many p k (cond b (f ∷ chosen keep fs) (chosen keep fs)) ≤ cond (is_of p k (item_of f)) 1 0 + how_many p k fs
      go true h = omega arith
      go false h = omega arith

  count_same : (p : Part) (k : ℕ) → (p ≡ Weight → ⊥) → (fs : List Form) → how_many p k (chosen keep fs) ≡ how_many p k fs
  unfolding chosen how_many
  count_same p k o [] = refl
  count_same p k o (f ∷ fs) = go (stays keep f) refl (count_same p k o fs)
    where
      go : (b : Bool) → stays keep f ≡ b → how_many p k (chosen keep fs) ≡ how_many p k fs →
          how_many p k (cond b (f ∷ chosen keep fs) (chosen keep fs)) ≡ cond (is_of p k (item_of f)) 1 0 + how_many p k fs
      go true e h = omega arith
      go false e h = rw (left f e p k o) (omega arith)

-- ---- the shape
not_weight : (p : Part) → (part_index p ≡ 4 → ⊥) → p ≡ Weight → ⊥
not_weight p o e = o (ap part_index e)

fewer_times : (p : Part) {c d : ℕ} → ((p ≡ Weight → ⊥) → d ≡ c) → d ≤ c → Times p c → Times p d
fewer_times Row same less h = same (not_weight Row (λ e. omega (arith, e))) ∙ h
fewer_times Right same less h = same (not_weight Right (λ e. omega (arith, e))) ∙ h
fewer_times Guess same less h = same (not_weight Guess (λ e. omega (arith, e))) ∙ h
fewer_times Inverse same less h = same (not_weight Inverse (λ e. omega (arith, e))) ∙ h
fewer_times Weight same less h = omega (arith, h)

module _ {n s t : ℕ} {fs : List Form} (h : Shape n s t fs) where
  pub chosen_shape : (keep : ℤ → Bool) → Shape n s t (chosen keep fs)
  chosen_shape keep = record {
    others = chosen keep h.others;
    order = ap (chosen keep) h.order ∙ unfold chosen in ap (λ (gs : List Form). problem (pos n) ∷ scale (pos s) (pos t) ∷ gs) (chosen_both keep h.others (end ∷ []));
    size = h.size;
    solution = h.solution;
    inverse_scale = h.inverse_scale;
    fit = λ f a. h.fit f (chosen_among keep h.others a);
    once = λ p k a b. fewer_times p (λ o. count_same keep p k o h.others) (count_fewer keep p k h.others) (h.once p k a b);
  }

  pub chosen_complete : (keep : ℤ → Bool) → Complete (text_of (chosen keep fs))
  chosen_complete keep = text_complete (chosen_shape keep)
