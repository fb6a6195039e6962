-- Sentences of document 01 on a line at the desk, in its order, with the words of 02's Papers 1, 5 and 6. The desk is the loader; d is one that `new` and `take`
-- made (any other: `OtherLineRefusesAsStated` of Demands).
--   RefusedExactly w holds — a line is answered with w exactly where `holds` is so of the loader, the lists and the line
--   InTime d l line f — the line is the form f, neither too early nor with its i out of range
--   Own d f s k — the place k of the list s is one that the form f writes: those of its i, and at an end the weights that were not given
--   TakenAll d l lines d' l' — the lines are taken one after another, each accepted, and leave d' and l'
--   not_given n z p — how many of the forms 1 to n of the part p were not given
use Rattle.std.specs.Prelude.{true, false, cond, List, [], ◌∷◌, ◌↔◌, ◌⊎◌, ◌≡◌, ℕ, suc, ◌+◌, ◌-◌, ◌*◌, ◌≤◌, ◌<◌, ℤ, pos, nat_abs, get_or, length}
use Rattle.integer.specs.Finite.{sumℕ}
use Rattle.rules.specs.Refusal.{code}
use Rattle.line_form.specs.Form.{Form, end}
use Rattle.line_form.specs.Spelling.{spell}
use Rattle.loader_values.specs.Item.{item_of, placed, outside, miscounted}
use Rattle.loader_values.specs.declared.Item.TheVariants.{Of, End}
use Rattle.loader_values.specs.declared.Part.{Part}
use Rattle.loader_values.specs.declared.Part.TheVariants as part
use Rattle.loader_values.specs.declared.Part.TheVariants.{Row, Right, Guess, Inverse}
use Rattle.loader_lists.specs.Lists.{Lists, short_lists}
use Rattle.loader_lists.specs.ListOf.{list_of}
use Rattle.loader_lists.specs.Slot.{Slot, Weight, part_of, width, values_for}
use Rattle.loader_progress.specs.Progress.{missing, ended, early, repeated, given}
use Rattle.loader_order.specs.Order.{LineCase, line_order}
use Rattle.loader.specs.Taken.{TakenAs, fresh, after, lists_with}
use Rattle.loader.specs.declared.Loader.{Loader}
use Rattle.loader.specs.declared.Taken.{Taken}
use Rattle.loader_runs.specs.Run.{forms}
use Rattle.loader_runs.specs.Accepts.{Made}
use Rattle.file_shape.specs.Given.{GivenBy}
use Rattle.loader_stated.specs.Stated.{Formed, Unrepeated}
use Rattle.promises.specs.Ways.{test_numbers}

abbrev pub RefusedExactly : List ℕ → (Loader → Lists → List ℕ → Type 0) → Type 0
RefusedExactly w holds =
    (d : Loader) (line : List ℕ) (l : Lists) (r : Taken) (l' : Lists) → TakenAs d line l r l' → Made d → (code r.outcome ≡ w) ↔ holds d l line

pub record InTime (d : Loader) (l : Lists) (line : List ℕ) (f : Form) : Type 0 where
  pub formed : Formed d l line f
  pub timely : early d.stage (item_of f) ≡ false

abbrev pub not_given : ℕ → List ℕ → Part → ℕ
not_given n z p = sumℕ n (λ (i : ℕ). cond (given z p (suc i)) 0 1)

pub data Own (d : Loader) (f : Form) (s : Slot) (k : ℕ) : Type 0 where
  of_form_lem : (i : ℤ) → item_of f ≡ Of (part_of s) i → (nat_abs i - 1) * width s d.n ≤ k → k < (nat_abs i - 1) * width s d.n + width s d.n → Own d f s k
  of_end : item_of f ≡ End → s ≡ Weight → k < d.n → given d.sets part.Weight (suc k) ≡ false → Own d f s k

pub data TakenAll : Loader → Lists → List (List ℕ) → Loader → Lists → Type 0 where
  none : {d : Loader} {l : Lists} → TakenAll d l [] d l
  next : {d : Loader} {l : Lists} {line : List ℕ} {r : Taken} {l₁ : Lists} {lines : List (List ℕ)} {d' : Loader} {l' : Lists} →
      TakenAs d line l r l₁ → code r.outcome ≡ [] → TakenAll r.loader l₁ lines d' l' → TakenAll d l (line ∷ lines) d' l'

-- ---- Refused for what was handed in
-- "1. A line above 320 bytes, its line feed not counted"
abbrev pub LongLineIs1 : Type 0
LongLineIs1 = RefusedExactly (1 ∷ []) (λ (d : Loader) (l : Lists) (line : List ℕ). (short_lists l ≡ false) × ((ended d.stage ≡ false) × (320 < length line)))

-- "2. Not one of the eight forms, spelled exactly; an empty line too. The desk is handed a line without its line feed; a line feed inside it is 2 as well"
abbrev pub NoFormIs2 : Type 0
NoFormIs2 =
    RefusedExactly (2 ∷ [])
    (λ (d : Loader) (l : Lists) (line : List ℕ). (short_lists l ≡ false) × ((ended d.stage ≡ false) × ((length line ≤ 320) × ((f : Form) → line ≡ spell f → ⊥))))

abbrev pub NoFormIsEmpty : Type 0
NoFormIsEmpty = (f : Form) → [] ≡ spell f → ⊥

abbrev pub NoFormHasFeed : Type 0
NoFormHasFeed = (f : Form) (k : ℕ) → get_or (spell f) k 0 ≡ 10 → ⊥

-- "3. A number outside its range, i above n included": i, or after 12 another number (02, Paper 6)
abbrev pub OutsideIs3 : Type 0
OutsideIs3 =
    RefusedExactly (3 ∷ [])
    (λ (d : Loader) (l : Lists) (line : List ℕ).
    (f : Form) × ((InTime d l line f × (placed d.n (item_of f) ≡ false)) ⊎ (Unrepeated d l line f × (outside f ≡ true))))

-- "4. A row or inverse list with other than n numbers"
abbrev pub WrongCountIs4 : Type 0
WrongCountIs4 =
    RefusedExactly (4 ∷ [])
    (λ (d : Loader) (l : Lists) (line : List ℕ). (f : Form) × (Unrepeated d l line f × ((outside f ≡ false) × (miscounted d.n f ≡ true))))

-- "8. A lent list too short"
abbrev pub ShortLineIs8 : Type 0
ShortLineIs8 = RefusedExactly (8 ∷ []) (λ (d : Loader) (l : Lists) (line : List ℕ). short_lists l ≡ true)

-- ---- Refused for how far the desk has come
-- "11. A form other than problem first, or other than problem or scale before the scale"
abbrev pub EarlyIs11 : Type 0
EarlyIs11 = RefusedExactly (11 ∷ []) (λ (d : Loader) (l : Lists) (line : List ℕ). (f : Form) × (Formed d l line f × (early d.stage (item_of f) ≡ true)))

-- "12. A form given already: problem, scale, or this kind and i"; 02, Paper 6: "repetition is now tested first"
abbrev pub RepeatedIs12 : Type 0
RepeatedIs12 =
    RefusedExactly (12 ∷ [])
    (λ (d : Loader) (l : Lists) (line : List ℕ).
    (f : Form) × (InTime d l line f × ((placed d.n (item_of f) ≡ true) × (repeated d.stage d.sets (item_of f) ≡ true))))

-- "13. End with forms outstanding; gives the count of forms still missing out of 5n"; 02, Paper 1: "The count of forms still missing is now out of 4n"
abbrev pub MissingIs13 : Type 0
MissingIs13 =
    (d : Loader) (line : List ℕ) (l : Lists) (r : Taken) (l' : Lists) → TakenAs d line l r l' → (k : ℕ) → code r.outcome ≡ 13 ∷ k ∷ [] →
    let c = not_given d.n d.sets in (k ≡ c Row + (c Right + (c Guess + c Inverse))) × (k ≤ 4 * d.n)

-- and when it comes: an end, neither too early nor a second time, with forms outstanding
abbrev pub OutstandingIs13 : Type 0
OutstandingIs13 =
    (d : Loader) (line : List ℕ) (l : Lists) (r : Taken) (l' : Lists) → TakenAs d line l r l' → Made d → (k : ℕ) →
    (code r.outcome ≡ 13 ∷ k ∷ []) ↔ (Unrepeated d l line end × (0 < missing d.n d.sets) × (k ≡ missing d.n d.sets))

-- "14. Any line after an accepted end"
abbrev pub AfterEndIs14 : Type 0
AfterEndIs14 = RefusedExactly (14 ∷ []) (λ (d : Loader) (l : Lists) (line : List ℕ). (short_lists l ≡ false) × (ended d.stage ≡ true))

-- "Order for a line: 8, 14, 1, 2, 11, 3, 4, 12, 13"; 02, Paper 6: "8, 14, 1, 2, 11, 3 for i, 12, 3 for values, 4, 13"
abbrev pub LineOrdered : Type 0
LineOrdered = (c : LineCase) → test_numbers (line_order c) ≡ 8 ∷ 14 ∷ 1 ∷ 2 ∷ 11 ∷ 3 ∷ 12 ∷ 3 ∷ 4 ∷ 13 ∷ []

-- "An accepted line puts n, or s and t, into the desk, or its form's other numbers at their own places in the lent lists" (`after`, `lists_with`)
abbrev pub AcceptedLinePuts : Type 0
AcceptedLinePuts =
    (d : Loader) (line : List ℕ) (l : Lists) (r : Taken) (l' : Lists) → TakenAs d line l r l' → code r.outcome ≡ [] →
    (f : Form) × ((line ≡ spell f) × ((r.loader ≡ after d (item_of f)) × (l' ≡ lists_with d f l)))

-- its own numbers at their own places: number j of the form for i at (i − 1)·width + j (`width` is n for a row, else 1)
abbrev pub AcceptedLineOwnPlaces : Type 0
AcceptedLineOwnPlaces =
    (d : Loader) (f : Form) (l : Lists) (r : Taken) (l' : Lists) → TakenAs d (spell f) l r l' → Made d → code r.outcome ≡ [] → (s : Slot) (i : ℤ) → item_of f ≡ Of (part_of s) i →
    (j : ℕ) → j < width s d.n → get_or (list_of s l') ((nat_abs i - 1) * width s d.n + j) (pos 0) ≡ get_or (values_for s f) j (pos 0)

-- "and changes no other number in those lists"
abbrev pub AcceptedLineChangesNoOther : Type 0
AcceptedLineChangesNoOther =
    (d : Loader) (f : Form) (l : Lists) (r : Taken) (l' : Lists) → TakenAs d (spell f) l r l' → code r.outcome ≡ [] → (s : Slot) (k : ℕ) → (Own d f s k → ⊥) →
    get_or (list_of s l') k (pos 0) ≡ get_or (list_of s l) k (pos 0)

-- what the desk holds as given are the forms of the lines that it took, on which 12 and the count of 13 rest (`GivenBy`)
abbrev pub GivenAreForms : Type 0
GivenAreForms = (l : Lists) (lines : List (List ℕ)) (d : Loader) (l' : Lists) → TakenAll fresh l lines d l' → GivenBy d (forms lines)
