-- 02, Paper 1: "A file without weights whose every line the desk accepts, end among them, and the same file with 1 everywhere, get equal listings", from the shape.
--   none_left, other_stays — the forms without weights have none, and every other form
--   unweighted_listing — a file of the shape whose weights are all 1, and that file without weights, have equal listings
use mathlib.Core.Path.{◌≡◌, refl, sym, ap, subst}
use mathlib.Core.Bool.{Bool, true, false, cond}
use mathlib.Core.List.{List, [], ◌∷◌}
use Prim.Native.Nat.{ℕ}
use lib.IntN.{ℤ}
use Rattle.integer.specs.Among.{Among}
use Rattle.integer.proofs.Search.{clash}
use Rattle.line_form.specs.Form.{Form, problem, scale, row, right, right_within, guess, inverse, weight, end}
use Rattle.listing.specs.Listing.{listing_of}
use Rattle.listing.specs.LeftOut.{OnlyOnes}
use Rattle.listing.proofs.LeftOut.{without_weights}
use Rattle.file_shape.specs.Chosen.{stays, chosen, unweighted}
use Rattle.file_shape.specs.Shape.{Shape, Spells}
use Rattle.file_shape.proofs.Chosen.{chosen_among, among_chosen, chosen_shape}
use Rattle.file_shape.proofs.Complete.{shape_complete, shape_forms}
use Rattle.file_shape.proofs.Middle.{among_cases}

abbrev keep_none : ℤ → Bool
keep_none i = false

none_left : (fs : List Form) (i w : ℤ) → Among (weight i w) (unweighted fs) → ⊥
unfolding chosen
none_left [] i w a = elim a [ ]
none_left (f ∷ fs) i w a = go (stays keep_none f) refl a (none_left fs i w)
  where
    go : (b : Bool) → stays keep_none f ≡ b → Among (weight i w) (cond b (f ∷ unweighted fs) (unweighted fs)) → (Among (weight i w) (unweighted fs) → ⊥) → ⊥
    go true e b rest =
        among_cases (λ (g : Form). g ≡ weight i w → ⊥) b (λ q. clash (stays keep_none f) e (ap (stays keep_none) q)) (λ g c q. rest (subst (λ (h : Form). Among h (unweighted fs)) q c)) refl
    go false e b rest = rest b

other_stays : (f : Form) → ((i w : ℤ) → f ≡ weight i w → ⊥) → stays keep_none f ≡ true
other_stays (problem n) o = refl
other_stays (scale s t) o = refl
other_stays (row i a zs) o = refl
other_stays (right i b) o = refl
other_stays (right_within i b d) o = refl
other_stays (guess i x) o = refl
other_stays (inverse i g zs) o = refl
other_stays (weight i w) o = absurd (o i w refl)
other_stays end o = refl

module _ {n s t : ℕ} {fs : List Form} (h : Shape n s t fs) (ones : OnlyOnes fs) {file file' : List ℕ} (x : Spells fs file) (x' : Spells (unweighted fs) file') where
  pub unweighted_listing : listing_of file' ≡ listing_of file
  unweighted_listing =
      let k = chosen_shape h keep_none in
      let a = shape_forms h x in
      let b = shape_forms k x' in
      without_weights file' file (shape_complete k x') (shape_complete h x)
      (λ f o. (
        λ m. subst (λ (gs : List Form). Among f gs) (sym a) (chosen_among keep_none fs (subst (λ (gs : List Form). Among f gs) b m)),
        λ m. subst (λ (gs : List Form). Among f gs) (sym b) (among_chosen keep_none fs (other_stays f o) (subst (λ (gs : List Form). Among f gs) a m)),
      ))
      (λ i w m. none_left fs i w (subst (λ (gs : List Form). Among (weight i w) gs) b m))
      (λ i w m. ones i w (subst (λ (gs : List Form). Among (weight i w) gs) a m))
