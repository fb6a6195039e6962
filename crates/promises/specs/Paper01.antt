-- 02, Paper 1. Weights may be left out. "The new edition of the register's file rules makes the weight form optional, because most offices send 1 everywhere":
-- `Shape` asks a weight once or not at all (`WholeFilesShaped` of Document01).
use Rattle.std.specs.Prelude.{true, false, List, [], ◌≡◌, ℕ, suc, ◌≤◌, ◌<◌, pos, get_or, take}
use Rattle.rules.specs.Refusal.{code}
use Rattle.line_form.specs.Form.{end}
use Rattle.line_form.specs.Spelling.{spell}
use Rattle.loader_values.specs.declared.Part.TheVariants.{Weight}
use Rattle.loader_lists.specs.Lists.{Lists, lists}
use Rattle.loader_progress.specs.Progress.{given}
use Rattle.loader.specs.Taken.{TakenAs}
use Rattle.loader.specs.declared.Loader.{Loader}
use Rattle.loader.specs.declared.Taken.{Taken}
use Rattle.loader_runs.specs.Lines.{lines_of}
use Rattle.loader_runs.specs.Run.{forms}
use Rattle.listing.specs.LeftOut.{OnlyOnes, NoWeights, SameOthers}
use Rattle.listing.specs.Listing.{ListedAs}
use Rattle.listing.specs.Complete.{Complete}

-- "A weight not given stands for 1, and an accepted end writes 1 into every such place of the lent list": the others stay, and so do the other lists
abbrev pub EndWritesOnes : Type 0
EndWritesOnes =
    (d : Loader) (l : Lists) (r : Taken) (l' : Lists) → TakenAs d (spell end) l r l' → code r.outcome ≡ [] → (i : ℕ) →
    (i < d.n → given d.sets Weight (suc i) ≡ false → get_or l'.weights i (pos 0) ≡ pos 1)
    × ((given d.sets Weight (suc i) ≡ true → get_or l'.weights i (pos 0) ≡ get_or l.weights i (pos 0))
    × ((d.n ≤ i → get_or l'.weights i (pos 0) ≡ get_or l.weights i (pos 0))
    × (l' ≡ lists l.matrix l.right l.tolerance l.guess l.inverse l'.weights)))

-- "What the desk remembers as outstanding changes with it. The count of forms still missing is now out of 4n": `MissingIs13` of Lines01

-- "A file without weights whose every line the desk accepts, end among them, and the same file with 1 everywhere, get equal listings". That with (weight i 1)
-- for every i put before its end a complete file stays complete is `ones_complete` of listing/proofs/WithOnes
abbrev pub WithoutWeightsSame : Type 0
WithoutWeightsSame =
    (file file' : List ℕ) → let fs = forms (lines_of file) in let gs = forms (lines_of file') in
    Complete file → Complete file' → SameOthers fs gs → NoWeights fs → OnlyOnes gs →
    (old new old' new' : List ℕ) (count count' : ℕ) → ListedAs file old new count → ListedAs file' old' new' count' → take count new ≡ take count' new'
