-- Nine numbers and the loader they stand for.
--   five_from    — the last five of a list, one by one
--   written_so   — the numbers of a loader, its sets one by one
--   read_written — the numbers of a loader stand for it
--   new_numbers  — those of `new` are nine zeros
use mathlib.Core.Path.{◌≡◌, refl, sym, ap, ◌∙◌}
use mathlib.Core.List.{List, [], ◌∷◌}
use Prim.Native.Nat.{ℕ, suc, ◌+◌}
use native.Mathlib.Omega.{arith}
use lib.ListN.{length, get_or, drop, replicate, drop_of_length-le}
use lib.Seq.{drop-cons}
use Rattle.loader_progress.specs.declared.Stage.{Stage}
use Rattle.loader_progress.specs.declared.Stage.TheVariants.{Start, Sized, Scaled, Ended}
use Rattle.loader_progress.specs.Progress.{stage_number, stage_of}
use Rattle.loader.specs.declared.Loader.{Loader}
use Rattle.loader.specs.Taken.{fresh, loader_of, numbers_of_loader}

pub five_from : (k : ℕ) (w : List ℕ) → length w ≡ k + 5
    → drop k w ≡ get_or w k 0 ∷ get_or w (suc k) 0 ∷ get_or w (suc (suc k)) 0 ∷ get_or w (suc (suc (suc k))) 0 ∷ get_or w (suc (suc (suc (suc k)))) 0 ∷ []
five_from k w h =
    drop-cons w k 0 (omega (arith, h))
    ∙ ap (λ (z : List ℕ). get_or w k 0 ∷ z)
    (drop-cons w (suc k) 0 (omega (arith, h))
    ∙ ap (λ (z : List ℕ). get_or w (suc k) 0 ∷ z)
    (drop-cons w (suc (suc k)) 0 (omega (arith, h))
    ∙ ap (λ (z : List ℕ). get_or w (suc (suc k)) 0 ∷ z)
    (drop-cons w (suc (suc (suc k))) 0 (omega (arith, h))
    ∙ ap (λ (z : List ℕ). get_or w (suc (suc (suc k))) 0 ∷ z)
    (drop-cons w (suc (suc (suc (suc k)))) 0 (omega (arith, h))
    ∙ ap (λ (z : List ℕ). get_or w (suc (suc (suc (suc k)))) 0 ∷ z) (drop_of_length-le w {i = suc (suc (suc (suc (suc k))))} (omega (arith, h)))))))

stage_read : (s : Stage) → stage_of (stage_number s) ≡ s
stage_read Start = refl
stage_read Sized = refl
stage_read Scaled = refl
stage_read Ended = refl

-- a loader with another stage
abbrev at_stage : Loader → Stage → Loader
at_stage d s = record { n = d.n; s = d.s; t = d.t; stage = s; sets = d.sets }

pub read_written : (d : Loader) → loader_of (numbers_of_loader d) ≡ d
read_written d = ap (at_stage d) (stage_read d.stage)

-- the numbers of a loader, each set by itself
pub written_so : (d : Loader) {k : ℕ} → length d.sets ≡ 5 → k ≡ stage_number d.stage
    → k ∷ d.n ∷ d.s ∷ d.t ∷ get_or d.sets 0 0 ∷ get_or d.sets 1 0 ∷ get_or d.sets 2 0 ∷ get_or d.sets 3 0 ∷ get_or d.sets 4 0 ∷ [] ≡ numbers_of_loader d
written_so d h e =
    let f = five_from 0 d.sets h in
    ap (λ (k : ℕ). k ∷ d.n ∷ d.s ∷ d.t ∷ get_or d.sets 0 0 ∷ get_or d.sets 1 0 ∷ get_or d.sets 2 0 ∷ get_or d.sets 3 0 ∷ get_or d.sets 4 0 ∷ []) e
    ∙ ap (λ (z : List ℕ). stage_number d.stage ∷ d.n ∷ d.s ∷ d.t ∷ z) (sym f)

pub new_numbers : numbers_of_loader fresh ≡ replicate 9 0
new_numbers = refl
