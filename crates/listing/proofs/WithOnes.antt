-- 02, Paper 1's own sentence is of some files: a complete file without weights stays complete when (weight 1 1) .. (weight n 1) are put before its end.
--   split_of      — a complete file is whole lines and then its last, which is the end
--   with_ones      — the file with these weights before that line
--   ones_complete — it is complete;  ones_listing — and its listing is that of the file
use mathlib.Core.Path.{◌≡◌, refl, sym, ap, subst, ◌∙◌}
use mathlib.Core.Bool.{true, false}
use mathlib.Core.List.{List, [], ◌∷◌, ◌++◌}
use mathlib.Core.Option.{Option, none, some}
use Prim.Native.Nat.{ℕ, zero, suc}
use native.Mathlib.Omega.{arith}
use lib.IntN.{ℤ, pos}
use Rattle.integer.proofs.Search.{clash}
use Rattle.line_form.specs.Form.{Form, weight}
use Rattle.line_form.specs.Reading.{reading}
use Rattle.loader_progress.specs.Progress.{ended}
use Rattle.loader_runs.specs.Lines.{lines_of}
use Rattle.loader_runs.specs.Run.{State, from_new, forms, with_form}
use Rattle.loader_runs.specs.Accepts.{run, Accepts}
use Rattle.loader_runs.specs.Read.{read_from, zeros}
use Rattle.integer.specs.Among.{Among, here, there}
use Rattle.loader_runs.proofs.Passing.{spelled, forms_spelled}
use Rattle.loader_spelled.specs.Ones.{ones_from, text_of}
use Rattle.loader_spelled.proofs.Text.{LastLine, lines_whole, lines_text, last_line}
use Rattle.loader_spelled.proofs.Runs.{read_run}
use Rattle.loader_spelled.proofs.Ones.{with_ones_lem}
use Rattle.listing.specs.Listing.{problem_in, listing_of}
use Rattle.listing.specs.Complete.{Complete}
use Rattle.listing.specs.LeftOut.{OnlyOnes, NoWeights, SameOthers}
use Rattle.listing.proofs.Entire.{zeros_long, accepts, ended_run, run_from}
use Rattle.listing.proofs.LeftOut.{without_weights}

-- ---- forms of lists, one after another
in_first : {f : Form} {fs : List Form} (gs : List Form) → Among f fs → Among f (fs ++ gs)
in_first gs here = here
in_first gs (there i) = there (in_first gs i)

in_second : {f : Form} (fs : List Form) {gs : List Form} → Among f gs → Among f (fs ++ gs)
in_second [] i = i
in_second (g ∷ fs) i = there (in_second fs i)

in_either : {P : Type 0} {f : Form} (fs : List Form) {gs : List Form} → Among f (fs ++ gs) → (Among f fs → P) → (Among f gs → P) → P
in_either [] i a b = b i
in_either (g ∷ fs) here a b = a here
in_either (g ∷ fs) (there i) a b = in_either fs i (λ m. a (there m)) b

forms_both : (xs ys : List (List ℕ)) → forms (xs ++ ys) ≡ forms xs ++ forms ys
unfolding forms
forms_both [] ys = refl
forms_both (x ∷ xs) ys = go (reading x) (forms_both xs ys)
  where
    go : (o : Option Form) → forms (xs ++ ys) ≡ forms xs ++ forms ys → with_form o (forms (xs ++ ys)) ≡ with_form o (forms xs) ++ forms ys
    go none e = e
    go (some f) e = ap (λ (fs : List Form). f ∷ fs) e

pub not_in_none : {f : Form} {P : Type 0} → Among f [] → P
not_in_none i = go i refl
  where
    go : {fs : List Form} {P : Type 0} {f : Form} → Among f fs → fs ≡ [] → P
    go here e = let z : ◌≡◌ {A = ℕ} 0 1 = cc in absurd (omega arith)
    go (there i) e = let z : ◌≡◌ {A = ℕ} 0 1 = cc in absurd (omega arith)

-- every one of the weights is 1
a_one : {f : Form} (i c : ℕ) → Among f (ones_from i c) → (k : ℕ) × (f ≡ weight (pos k) (pos 1))
unfolding ones_from
a_one i zero m = not_in_none m
a_one i (suc c) here = (suc i, refl)
a_one i (suc c) (there m) = a_one (suc i) c m

-- ---- the file
pub split_of : (file : List ℕ) → Complete file → LastLine file
unfolding lines_of read_from
split_of [] c = clash false c.end refl
split_of (b ∷ s) c = last_line b s

module _ (file : List ℕ) (c : Complete file) (without : NoWeights (forms (lines_of file))) where
  abbrev parts : LastLine file
  parts = split_of file c

  abbrev front : List (List ℕ)
  front = lines_of parts.front

  abbrev ones : List Form
  ones = ones_from 0 (problem_in file).n

  abbrev pub with_ones : List ℕ
  with_ones = parts.front ++ (text_of ones ++ parts.tail)

  lines_are : lines_of file ≡ front ++ (parts.line ∷ [])
  lines_are =
      ap lines_of parts.parts ∙ lines_whole parts.front parts.tail parts.whole ∙ ap (λ (ls : List (List ℕ)). front ++ ls) parts.last

  ones_are : lines_of with_ones ≡ front ++ (spelled ones ++ (parts.line ∷ []))
  ones_are =
      lines_whole parts.front (text_of ones ++ parts.tail) parts.whole
      ∙ ap (λ (ls : List (List ℕ)). front ++ ls) (lines_text ones parts.tail ∙ ap (λ (ls : List (List ℕ)). spelled ones ++ ls) parts.last)

  -- their forms
  abbrev last : List Form
  last = forms (parts.line ∷ [])

  forms_are : forms (lines_of file) ≡ forms front ++ last
  forms_are = ap forms lines_are ∙ forms_both front (parts.line ∷ [])

  ones_forms : forms (lines_of with_ones) ≡ forms front ++ (ones ++ last)
  ones_forms =
      ap forms ones_are ∙ forms_both front (spelled ones ++ (parts.line ∷ []))
      ∙ ap (λ (fs : List Form). forms front ++ fs) (forms_both (spelled ones) (parts.line ∷ []) ∙ ap (λ (fs : List Form). fs ++ last) (forms_spelled ones))

  accepted : Accepts (from_new zeros) (front ++ (parts.line ∷ []))
  accepted = subst (λ (ls : List (List ℕ)). Accepts (from_new zeros) ls) lines_are (accepts file c.lines)

  stops : ended (run (from_new zeros) (front ++ (parts.line ∷ []))).loader.stage ≡ true
  stops = subst (λ (ls : List (List ℕ)). ended (run (from_new zeros) ls).loader.stage ≡ true) lines_are (ended_run file c.lines c.end)

  size_is : (run (from_new zeros) (front ++ (parts.line ∷ []))).loader.n ≡ (problem_in file).n
  size_is = ap (λ (ls : List (List ℕ)). (run (from_new zeros) ls).loader.n) (sym lines_are) ∙ (run_from file c.lines c.end).size

  abbrev Ends : List (List ℕ) → Type 0
  Ends ls = Accepts (from_new zeros) ls × (ended (run (from_new zeros) ls).loader.stage ≡ true)

  all_accepted : Ends (lines_of with_ones)
  all_accepted =
      let none : (i w : ℤ) → Among (weight i w) (forms front) → ⊥ = λ i w m. without i w (subst (λ (fs : List Form). Among (weight i w) fs) (sym forms_are) (in_first last m)) in
      let r = with_ones_lem zeros front parts.line accepted stops zeros_long none in
      subst (λ (ls : List (List ℕ)). Ends ls) (sym ones_are) (subst (λ (n : ℕ). Ends (front ++ (spelled (ones_from 0 n) ++ (parts.line ∷ [])))) size_is r)

  pub ones_complete : Complete with_ones
  ones_complete =
      let r = read_run 0 (from_new zeros) (lines_of with_ones) all_accepted.0 in
      record { lines = r.0; end = subst (λ (u : State). ended u.loader.stage ≡ true) (sym r.1) all_accepted.1 }

  -- ---- the listing
  same_others : SameOthers (forms (lines_of file)) (forms (lines_of with_ones))
  same_others f n = (
    λ i. subst (λ (fs : List Form). Among f fs) (sym ones_forms)
        (in_either (forms front) (subst (λ (fs : List Form). Among f fs) forms_are i) (λ m. in_first (ones ++ last) m) (λ m. in_second (forms front) (in_second ones m))),
    λ i. subst (λ (fs : List Form). Among f fs) (sym forms_are)
        (in_either (forms front) (subst (λ (fs : List Form). Among f fs) ones_forms i) (λ m. in_first last m)
        (λ m. in_either ones m (λ o. let w = a_one 0 (problem_in file).n o in absurd (n (pos w.0) (pos 1) w.1)) (λ o. in_second (forms front) o))),
  )

  is_one : {i w : ℤ} {k : ℕ} → weight i w ≡ weight (pos k) (pos 1) → w ≡ pos 1
  is_one e = cc

  only_ones : OnlyOnes (forms (lines_of with_ones))
  only_ones i w m =
      in_either (forms front) (subst (λ (fs : List Form). Among (weight i w) fs) ones_forms m)
      (λ o. absurd (without i w (subst (λ (fs : List Form). Among (weight i w) fs) (sym forms_are) (in_first last o))))
      (λ o. in_either ones o (λ p. is_one (a_one 0 (problem_in file).n p).1)
      (λ p. absurd (without i w (subst (λ (fs : List Form). Among (weight i w) fs) (sym forms_are) (in_second (forms front) p)))))

  pub ones_listing : listing_of file ≡ listing_of with_ones
  ones_listing = without_weights file with_ones c ones_complete same_others without only_ones
