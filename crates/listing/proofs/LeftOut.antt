-- 02, Paper 1: "A file without weights whose every line the desk accepts, end among them, and the same file with 1 everywhere, get equal listings".
--   weights_one   — where every weight that is given is 1, all are 1
--   equal_listing — two complete files whose forms other than weights give equal numbers, every weight given in either being 1: equal answers and listings
--   equal_numbers — files with the same forms other than weights, in whatever order, give equal numbers;  left_out_lem — so their listings are equal
--   without_weights — the paper's own sentence
use mathlib.Core.Path.{◌≡◌, refl, sym, ap, ◌∙◌}
use mathlib.Core.Bool.{Bool, true, false, cond}
use mathlib.Core.List.{List, [], ◌∷◌}
use Prim.Native.Nat.{ℕ, suc, ◌<◌}
use native.Mathlib.Omega.{arith}
use lib.Dec.{eqb}
use lib.IntN.{pos, nat_abs}
use Rattle.enclosure.specs.Problem.{Problem}
use Rattle.enclosure.proofs.Agreement.{Agreeing, over}
use Rattle.line_form.specs.Form.{Form, problem, scale, row, right, right_within, guess, inverse, weight, end}
use Rattle.loader_lists.specs.Slot.{Slot, Matrix, Right, Tolerance, Guess, Inverse, Weight, width}
use Rattle.loader_runs.specs.Run.{forms}
use Rattle.loader_runs.specs.Lines.{lines_of}
use Rattle.loader_runs.specs.Read.{zeros}
use Rattle.loader_runs.specs.Given.{value_from}
use Rattle.integer.specs.Among.{here, there}
use Rattle.loader_runs.proofs.AnyOrder.{others_agree}
use Rattle.listing.specs.Listing.{problem_in, answer_of, listing_of}
use Rattle.listing.specs.Complete.{Complete}
use Rattle.listing.specs.LeftOut.{EqualNumbers, OnlyOnes, NoWeights, SameOthers}
use Rattle.listing.proofs.Agreeing.{answers_agree, listings_agree}
use Rattle.listing.proofs.Entire.{accepts, ended_run, run_from}

-- ---- the weights
rest : {f : Form} {fs : List Form} → OnlyOnes (f ∷ fs) → OnlyOnes fs
rest h i w m = h i w (there m)

pub weights_one : (fs : List Form) → OnlyOnes fs → (k : ℕ) → value_from fs Weight k 0 ≡ pos 1
unfolding value_from
weights_one [] h k = refl
weights_one (problem n ∷ fs) h k = weights_one fs (rest h) k
weights_one (scale s t ∷ fs) h k = weights_one fs (rest h) k
weights_one (row i a others ∷ fs) h k = weights_one fs (rest h) k
weights_one (right i b ∷ fs) h k = weights_one fs (rest h) k
weights_one (right_within i b d ∷ fs) h k = weights_one fs (rest h) k
weights_one (guess i x ∷ fs) h k = weights_one fs (rest h) k
weights_one (inverse i g others ∷ fs) h k = weights_one fs (rest h) k
weights_one (weight i w ∷ fs) h k = go (eqb k (nat_abs i)) (weights_one fs (rest h) k)
  where
    go : (b : Bool) → value_from fs Weight k 0 ≡ pos 1 → cond b w (value_from fs Weight k 0) ≡ pos 1
    go true e = h i w here
    go false e = e
weights_one (end ∷ fs) h k = weights_one fs (rest h) k

-- the other lists
index : Slot → ℕ
index Matrix = 0
index Right = 1
index Tolerance = 2
index Guess = 3
index Inverse = 4
index Weight = 5

not_matrix : Matrix ≡ Weight → ⊥
unfolding index
not_matrix e = omega (arith, ap index e)

not_right : Right ≡ Weight → ⊥
unfolding index
not_right e = omega (arith, ap index e)

not_tolerance : Tolerance ≡ Weight → ⊥
unfolding index
not_tolerance e = omega (arith, ap index e)

not_guess : Guess ≡ Weight → ⊥
unfolding index
not_guess e = omega (arith, ap index e)

not_inverse : Inverse ≡ Weight → ⊥
unfolding index
not_inverse e = omega (arith, ap index e)

-- ---- two problems with equal numbers
module _ (file file' : List ℕ) (c : Complete file) (c' : Complete file') where
  abbrev fs : List Form
  fs = forms (lines_of file)

  abbrev gs : List Form
  gs = forms (lines_of file')

  abbrev P : Problem
  P = problem_in file

  abbrev Q : Problem
  Q = problem_in file'

  module _ (equal : EqualNumbers fs gs) (ones : OnlyOnes fs) (ones' : OnlyOnes gs) where
    -- the second problem, with n, s and t of the first
    same_is : over P Q ≡ Q
    same_is = rw (equal.size, equal.solution, equal.inverse)

    wide : (s : Slot) → (s ≡ Weight → ⊥) → width s P.n ≡ P.n → (i j : ℕ) → i < P.n → j < P.n → value_from fs s (suc i) j ≡ value_from gs s (suc i) j
    wide s n w i j li lj = equal.values s n (suc i) j (omega arith) (omega arith) (rw w lj)

    narrow : (s : Slot) → (s ≡ Weight → ⊥) → width s P.n ≡ 1 → (i : ℕ) → i < P.n → value_from fs s (suc i) 0 ≡ value_from gs s (suc i) 0
    narrow s n w i li = equal.values s n (suc i) 0 (omega arith) (omega arith) (rw w (omega arith))

    agreeing : Agreeing P Q
    agreeing = record {
      matrix = wide Matrix not_matrix refl;
      right = narrow Right not_right refl;
      tolerance = λ i l. ap nat_abs (narrow Tolerance not_tolerance refl i l);
      guess = narrow Guess not_guess refl;
      inverse = wide Inverse not_inverse refl;
      weights = λ i l. ap nat_abs (weights_one fs ones (suc i) ∙ sym (weights_one gs ones' (suc i)));
    }

    pub equal_answer : answer_of file ≡ answer_of file'
    equal_answer = answers_agree file file' c c' same_is agreeing

    pub equal_listing : listing_of file ≡ listing_of file'
    equal_listing = listings_agree file file' c c' same_is agreeing

  -- ---- the same forms other than weights, in whatever order
  pub equal_numbers : SameOthers fs gs → EqualNumbers fs gs
  equal_numbers same =
      let o = others_agree zeros zeros (lines_of file) (lines_of file') (accepts file c.lines) (accepts file' c'.lines) (ended_run file c.lines c.end) (λ f n i. (same f n).0 i) in
      let u = run_from file c.lines c.end in
      let v = run_from file' c'.lines c'.end in
      record {
        size = sym u.size ∙ o.size ∙ v.size;
        solution = sym u.scales.0 ∙ o.solution ∙ v.scales.0;
        inverse = sym u.scales.1 ∙ o.inverse ∙ v.scales.1;
        values = λ s n k j f t m.
            sym (u.values s k j f (rw u.size t) (rw u.size m)) ∙ o.values s n k j f (rw u.size t) (rw u.size m)
            ∙ v.values s k j f (rw (← o.size, u.size) t) (rw (← o.size, u.size) m);
      }

  pub left_out_lem : SameOthers fs gs → OnlyOnes fs → OnlyOnes gs → listing_of file ≡ listing_of file'
  left_out_lem same = equal_listing (equal_numbers same)

  -- the paper's own sentence: the one without weights, the other with 1 everywhere
  pub without_weights : SameOthers fs gs → NoWeights fs → OnlyOnes gs → listing_of file ≡ listing_of file'
  without_weights same none ones = left_out_lem same (λ i w m. absurd (none i w m)) ones
