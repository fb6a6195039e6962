-- 02, Paper 14: "two files with equal numbers give equal bytes".
--   equal_bytes — two files with equal numbers, tolerances left aside, give equal new files
-- Files with equal numbers:
--   of_states — two files whose states at their ends agree on the numbers that count
--   any_order_bytes — the same forms in any order;  respelled_bytes — (right i (b 0)) in the place of (right i b)
--   left_out_bytes — the same forms other than weights, every weight that is given being 1: in the one they may be left out
use mathlib.Core.Path.{◌≡◌, refl, sym, ap, subst, ◌∙◌}
use mathlib.Core.Bool.{Bool, true, false}
use mathlib.Core.List.{List}
use mathlib.Core.Logic.{◌↔◌}
use Prim.Native.Nat.{ℕ, suc, ◌<◌}
use native.Mathlib.Omega.{arith}
use lib.IntN.{nat_abs}
use Rattle.integer.proofs.Search.{clash}
use Rattle.line_form.specs.Form.{Form}
use Rattle.loader_lists.specs.Slot.{Slot, Matrix, Right, Tolerance, Guess, Inverse, Weight, width}
use Rattle.loader_runs.specs.Run.{State, from_new, forms}
use Rattle.loader_runs.specs.Accepts.{run}
use Rattle.loader_runs.specs.Given.{value_from, size_from}
use Rattle.integer.specs.Among.{Among}
use Rattle.loader_runs.specs.Lines.{lines_of}
use Rattle.loader_runs.specs.Read.{Reading, zeros, reading_of}
use Rattle.loader_runs.specs.Respelled.{Respelled}
use Rattle.loader_runs.proofs.AnyOrder.{Agrees, any_order}
use Rattle.loader_runs.proofs.End.{FromForms}
use Rattle.loader_runs.proofs.Respelled.{respelled_read}
use Rattle.listing.specs.LeftOut.{OnlyOnes, SameOthers}
use Rattle.listing.specs.Listing.{problem_in}
use Rattle.listing.specs.Complete.{Complete}
use Rattle.listing.proofs.Entire.{accepts, ended_run, run_from, from}
use Rattle.listing.proofs.LeftOut.{weights_one, equal_numbers}
use Rattle.convert_spec.specs.File.{new_file}
use Rattle.convert_spec.specs.Numbers.{SameNumbers}
use Rattle.convert_spec.proofs.Same.{same_numbers}

pub equal_bytes : (file other : List ℕ) → SameNumbers (problem_in file) (problem_in other) → new_file file ≡ new_file other
equal_bytes file other same = same_numbers (problem_in file) (problem_in other) same

module _ (file other : List ℕ) where
  abbrev fs : List Form
  fs = forms (lines_of file)

  abbrev gs : List Form
  gs = forms (lines_of other)

  -- states that agree, each holding what the forms of its file give
  of_states : (u v : State) → FromForms fs u → FromForms gs v → Agrees u v → SameNumbers (problem_in file) (problem_in other)
  of_states u v one two a = record {
    size = sym one.size ∙ a.size ∙ two.size;
    solution = sym one.scales.0 ∙ a.solution ∙ two.scales.0;
    inverse_scale = sym one.scales.1 ∙ a.inverse ∙ two.scales.1;
    matrix = λ i j li lj. value Matrix i j (below li) (below lj);
    right = λ i li. value Right i 0 (below li) (omega arith);
    guess = λ i li. value Guess i 0 (below li) (omega arith);
    inverse = λ i j li lj. value Inverse i j (below li) (below lj);
    weights = λ i li. ap nat_abs (value Weight i 0 (below li) (omega arith));
  }
    where
      below : {i : ℕ} → i < size_from fs → i < u.loader.n
      below l = rw one.size l

      value : (s : Slot) (i j : ℕ) → i < u.loader.n → j < width s u.loader.n → value_from fs s (suc i) j ≡ value_from gs s (suc i) j
      value s i j li lj =
          let n = a.size in
          sym (one.values s (suc i) j (omega arith) li lj)
          ∙ a.values s (suc i) j (omega arith) li lj
          ∙ two.values s (suc i) j (omega arith) (rw n at li) (rw n at lj)

  module _ (c : Complete file) (c' : Complete other) where
    pub any_order_bytes : ((f : Form) → Among f fs ↔ Among f gs) → new_file file ≡ new_file other
    any_order_bytes same =
        equal_bytes file other
        (of_states (run (from_new zeros) (lines_of file)) (run (from_new zeros) (lines_of other)) (run_from file c.lines c.end) (run_from other c'.lines c'.end)
        (any_order zeros zeros (lines_of file) (lines_of other) (accepts file c.lines) (accepts other c'.lines) (ended_run file c.lines c.end) (ended_run other c'.lines c'.end) same))

    pub respelled_bytes : Respelled (lines_of file) (lines_of other) → new_file file ≡ new_file other
    respelled_bytes h =
        let e : (reading_of file).state ≡ (reading_of other).state = ap (λ (R : Reading). R.state) (respelled_read 0 (from_new zeros) h) in
        equal_bytes file other
        (of_states (reading_of file).state (reading_of other).state (from file c.lines c.end) (from other c'.lines c'.end)
        (subst (λ (v : State). Agrees (reading_of file).state v) e (record { size = refl; solution = refl; inverse = refl; values = λ s k j f t m. refl })))

    -- the lists other than the weights
    abbrev is_weight : Slot → Bool
    is_weight Matrix = false
    is_weight Right = false
    is_weight Tolerance = false
    is_weight Guess = false
    is_weight Inverse = false
    is_weight Weight = true

    apart : (s : Slot) → is_weight s ≡ false → s ≡ Weight → ⊥
    apart s h e = clash (is_weight s) (ap is_weight e) h

    pub left_out_bytes : SameOthers fs gs → OnlyOnes fs → OnlyOnes gs → new_file file ≡ new_file other
    left_out_bytes others ones ones' =
        let e = equal_numbers file other c c' others in
        equal_bytes file other (record {
          size = e.size;
          solution = e.solution;
          inverse_scale = e.inverse;
          matrix = λ i j li lj. e.values Matrix (apart Matrix refl) (suc i) j (omega arith) (omega arith) lj;
          right = λ i li. e.values Right (apart Right refl) (suc i) 0 (omega arith) (omega arith) (omega arith);
          guess = λ i li. e.values Guess (apart Guess refl) (suc i) 0 (omega arith) (omega arith) (omega arith);
          inverse = λ i j li lj. e.values Inverse (apart Inverse refl) (suc i) j (omega arith) (omega arith) lj;
          weights = λ i li. ap nat_abs (weights_one fs ones (suc i) ∙ sym (weights_one gs ones' (suc i)));
        })
