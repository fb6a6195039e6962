-- The rest of each list is not read: inquiries that agree on the places used get the same answer and the same two numbers.
--   same_code, same_numerator, same_denominator — of two calls
use mathlib.Core.Path.{◌≡◌, refl, sym, ap, ap₂, ◌∙◌}
use mathlib.Core.Bool.{false}
use mathlib.Core.List.{List, [], ◌∷◌}
use Prim.Native.Nat.{ℕ, ◌+◌, ◌*◌, ◌^◌, ◌<◌}
use lib.IntN.{ℤ, pos, nat_abs}
use lib.Signed.{le_z}
use Rattle.integer.proofs.Search.{first_ext}
use Rattle.linear.specs.Slice.{at}
use Rattle.linear.proofs.Places.{place}
use Rattle.rules.specs.Order.{if_accepted}
use Rattle.rules.specs.declared.Kind.TheVariants as kind
use Rattle.rules.proofs.AllInRange.{all_ext}
use Rattle.enclosure.specs.Reckoning.{load, margin, margin_fails}
use Rattle.enclosure.proofs.Agreement.{Agreeing, load_same, margin_same}
use Rattle.check_spec.specs.Order.{first_margin}
use Rattle.quality_spec.specs.Answer.{Quality, quality_code, numerator_of, denominator_of, quality_answer, numerator_after, denominator_after, QualityAs}
use Rattle.quality_spec.specs.Peak.{spread, peak_row, numerator, denominator}
use Rattle.quality_spec.specs.Inquiry.{Inquiry, inquiry, inquiry_problem, inquiry_short, inquiry_in_ranges}
use Rattle.quality_spec.specs.Stated.{AgreeingInquiries}
use Rattle.quality_spec.proofs.Contract.{fit_inquiry}
use Rattle.quality_spec.proofs.Promises.{given_usable, given_margins}
use Rattle.quality_spec.proofs.Peak.{peak_ext, largest_ratio_row}

accepted_alike : (w : List ℕ) (x y : ℕ) → (w ≡ [] → x ≡ y) → if_accepted w x 0 ≡ if_accepted w y 0
accepted_alike [] x y h = h refl
accepted_alike (k ∷ ks) x y h = refl

-- ---- inquiries of the same n and t
module _ (Q : Inquiry) (matrix inverse weights : List ℤ) (long : inquiry_short Q ≡ false)
    (h_a : (k : ℕ) → k < Q.n * Q.n → at Q.matrix k ≡ at matrix k) (h_g : (k : ℕ) → k < Q.n * Q.n → at Q.inverse k ≡ at inverse k)
    (hw : (k : ℕ) → k < Q.n → at Q.weights k ≡ at weights k) where
  abbrev R : Inquiry
  R = inquiry Q.n Q.t matrix inverse weights

  agreeing : Agreeing (inquiry_problem Q) (inquiry_problem R)
  agreeing = record {
    matrix = λ i j li lj. h_a (i * Q.n + j) (place li lj);
    right = λ i l. refl;
    tolerance = λ i l. refl;
    guess = λ i l. refl;
    inverse = λ i j li lj. h_g (i * Q.n + j) (place li lj);
    weights = λ i l. ap nat_abs (hw i l);
  }

  loads_here : (m : ℕ) → m < Q.n → load (inquiry_problem Q) m ≡ load (inquiry_problem R) m
  loads_here = load_same (inquiry_problem Q) (inquiry_problem R) agreeing

  margins_here : (m : ℕ) → m < Q.n → margin (inquiry_problem Q) m ≡ margin (inquiry_problem R) m
  margins_here = margin_same (inquiry_problem Q) (inquiry_problem R) agreeing

  spreads_here : (m : ℕ) → m < Q.n → spread (inquiry_problem Q) m ≡ spread (inquiry_problem R) m
  spreads_here m l = ap₂ (λ (x y : ℕ). 2 ^ Q.t * x + y) (ap nat_abs (hw m l)) (loads_here m l)

  row_here : peak_row (inquiry_problem Q) ≡ peak_row (inquiry_problem R)
  row_here =
      peak_ext Q.n (spread (inquiry_problem Q)) (spread (inquiry_problem R)) (λ (m : ℕ). nat_abs (margin (inquiry_problem Q) m)) (λ (m : ℕ). nat_abs (margin (inquiry_problem R) m))
      spreads_here (λ m l. ap nat_abs (margins_here m l))

  low_here : first_margin (inquiry_problem Q) ≡ first_margin (inquiry_problem R)
  low_here = first_ext Q.n (margin_fails (inquiry_problem Q)) (margin_fails (inquiry_problem R)) (λ m l. ap (λ (z : ℤ). le_z z (pos 0)) (margins_here m l))

  ranges_here : inquiry_in_ranges Q ≡ inquiry_in_ranges R
  ranges_here =
      rw (
        all_ext kind.Matrix (Q.n * Q.n) (at Q.matrix) (at matrix) h_a,
        all_ext kind.Inverse (Q.n * Q.n) (at Q.inverse) (at inverse) h_g,
        all_ext kind.Weight Q.n (at Q.weights) (at weights) hw,
      )

  module _ (long' : inquiry_short R ≡ false) where
    answer_here : quality_answer Q ≡ quality_answer R
    unfolding quality_answer
    answer_here = rw (long, long', ranges_here, low_here)

    row_below : quality_answer Q ≡ [] → peak_row (inquiry_problem Q) < Q.n
    row_below z = let u = given_usable Q z in (largest_ratio_row (inquiry_problem Q) (fit_inquiry Q u.long u.inside).n_pos (given_margins Q z)).below

    numerator_here : numerator_after Q ≡ numerator_after R
    unfolding numerator_after
    numerator_here =
        accepted_alike (quality_answer Q) (numerator (inquiry_problem Q)) (numerator (inquiry_problem R))
        (λ z. spreads_here (peak_row (inquiry_problem Q)) (row_below z) ∙ ap (spread (inquiry_problem R)) row_here)
        ∙ ap (λ (w : List ℕ). if_accepted w (numerator (inquiry_problem R)) 0) answer_here

    denominator_here : denominator_after Q ≡ denominator_after R
    unfolding denominator_after
    denominator_here =
        accepted_alike (quality_answer Q) (denominator (inquiry_problem Q)) (denominator (inquiry_problem R))
        (λ z. ap nat_abs (margins_here (peak_row (inquiry_problem Q)) (row_below z)) ∙ ap (λ (m : ℕ). nat_abs (margin (inquiry_problem R) m)) row_here)
        ∙ ap (λ (w : List ℕ). if_accepted w (denominator (inquiry_problem R)) 0) answer_here

-- ---- of two calls
module _ (Q R : Inquiry) (a : AgreeingInquiries Q R) (r r' : Quality) (x : QualityAs Q r) (y : QualityAs R r') where
  abbrev K : Inquiry
  K = inquiry Q.n Q.t R.matrix R.inverse R.weights

  K_is : K ≡ R
  K_is = rw (a.n, a.t)

  K_long : inquiry_short K ≡ false
  K_long = ap inquiry_short K_is ∙ a.long'

  pub same_code : quality_code r ≡ quality_code r'
  same_code =
      x.says
      ∙ answer_here Q R.matrix R.inverse R.weights a.long a.matrix a.inverse a.weights K_long
      ∙ ap quality_answer K_is
      ∙ sym y.says

  pub same_numerator : numerator_of r ≡ numerator_of r'
  same_numerator =
      x.numerator_is
      ∙ numerator_here Q R.matrix R.inverse R.weights a.long a.matrix a.inverse a.weights K_long
      ∙ ap numerator_after K_is
      ∙ sym y.numerator_is

  pub same_denominator : denominator_of r ≡ denominator_of r'
  same_denominator =
      x.denominator_is
      ∙ denominator_here Q R.matrix R.inverse R.weights a.long a.matrix a.inverse a.weights K_long
      ∙ ap denominator_after K_is
      ∙ sym y.denominator_is
