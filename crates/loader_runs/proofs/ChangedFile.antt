-- What Paper 6 of 02 changes of a file: what is said of it changes exactly where the answer to its first refused line does.
--   BothOrders, both_orders — every line is accepted by both orders, or the same line is the first that is refused, at the same state
--   file_changes  — what is said of a file is another exactly where 02 says so of that line;  file_becomes_12 — and then it is 12
--   file_accepted_same — the same files are accepted;  file_place — the line's number and the state at it are the same
use mathlib.Core.Path.{◌≡◌, refl, sym, ap, ◌∙◌}
use mathlib.Core.List.{List, [], ◌∷◌}
use mathlib.Core.Logic.{◌↔◌}
use mathlib.Core.Option.{some}
use Prim.Native.Nat.{ℕ, ◌+◌}
use Rattle.rules.proofs.Verdicts.{nothing_is_not}
use Rattle.line_form.specs.Form.{Form}
use Rattle.line_form.specs.Reading.{reading}
use Rattle.loader_values.specs.Item.{item_of}
use Rattle.loader.specs.Answer.{line_answer}
use Rattle.loader_runs.specs.Run.{State, from_new, step}
use Rattle.loader_runs.specs.Lines.{lines_of}
use Rattle.loader_runs.specs.Read.{Reading, read_from, zeros, reading_of}
use Rattle.loader_runs.specs.Before.{answer_before, step_before, read_before, refused_before, Becomes12}
use Rattle.loader_runs.proofs.Sound.{SoundLoader, line_sound, fresh_sound}
use Rattle.loader_runs.proofs.Read.{read_accepted, read_refused}
use Rattle.loader_runs.proofs.Changed.{changes, becomes_12, accepted_same, left_same, is_3_or_4, some_number}

-- R is a reading in the new order, B in that before, and line the one at which B stopped
pub data BothOrders (R B : Reading) (line : List ℕ) : Type 0 where
  all_accepted : R ≡ B → B.code ≡ [] → BothOrders R B line
  refused_at : SoundLoader B.state.loader → R.code ≡ line_answer B.state.loader B.state.lists line → B.code ≡ answer_before B.state.loader B.state.lists line → R.line ≡ B.line
      → R.state ≡ B.state → BothOrders R B line

module _ (k : ℕ) (u : State) (line : List ℕ) (lines : List (List ℕ)) where
  step_same : step u line ≡ step_before u line
  step_same = let h = left_same u.loader u.lists line in rw (h.0, h.1)

  before_accepted : answer_before u.loader u.lists line ≡ [] → (read_before k u (line ∷ lines) ≡ read_before (k + 1) (step u line) lines) × (refused_before u (line ∷ lines) ≡ refused_before (step u line) lines)
  unfolding read_before refused_before
  before_accepted e = (rw (e, step_same), rw (e, step_same))

  before_refused : {n : ℕ} {vs : List ℕ} → answer_before u.loader u.lists line ≡ n ∷ vs
      → (read_before k u (line ∷ lines) ≡ record { code = n ∷ vs; line = k + 1; state = u }) × (refused_before u (line ∷ lines) ≡ line)
  unfolding read_before refused_before
  before_refused e = (rw e, rw e)

  refused_here : SoundLoader u.loader → {n m : ℕ} {vs ws : List ℕ} → answer_before u.loader u.lists line ≡ n ∷ vs → line_answer u.loader u.lists line ≡ m ∷ ws
      → BothOrders (read_from k u (line ∷ lines)) (read_before k u (line ∷ lines)) (refused_before u (line ∷ lines))
  refused_here s b a = let h = before_refused b in rw (h.0, h.1, read_refused k u line lines a) (refused_at s (sym a) (sym b) refl refl)

  met_first : SoundLoader u.loader → (SoundLoader (step u line).loader → BothOrders (read_from (k + 1) (step u line) lines) (read_before (k + 1) (step u line) lines) (refused_before (step u line) lines))
      → BothOrders (read_from k u (line ∷ lines)) (read_before k u (line ∷ lines)) (refused_before u (line ∷ lines))
  met_first s rest = go (answer_before u.loader u.lists line) refl (line_answer u.loader u.lists line) refl
    where
      go : (b : List ℕ) → answer_before u.loader u.lists line ≡ b → (a : List ℕ) → line_answer u.loader u.lists line ≡ a
          → BothOrders (read_from k u (line ∷ lines)) (read_before k u (line ∷ lines)) (refused_before u (line ∷ lines))
      go [] p a q =
          let h = before_accepted p in
          rw (h.0, h.1, read_accepted k u line lines ((accepted_same u.loader u.lists line).1 p)) (rest (line_sound u.loader u.lists line s))
      go (n ∷ vs) p [] q = absurd (nothing_is_not (sym p ∙ (accepted_same u.loader u.lists line).0 q))
      go (n ∷ vs) p (m ∷ ws) q = refused_here s p q

pub both_orders : (k : ℕ) (u : State) → SoundLoader u.loader → (lines : List (List ℕ)) → BothOrders (read_from k u lines) (read_before k u lines) (refused_before u lines)
unfolding read_from read_before
both_orders k u s [] = all_accepted refl refl
both_orders k u s (line ∷ lines) = met_first k u line lines s (λ s'. both_orders (k + 1) (step u line) s' lines)

-- ---- a file
module _ (file : List ℕ) where
  abbrev start : State
  start = from_new zeros

  abbrev pub reading_before : Reading
  reading_before = read_before 0 start (lines_of file)

  abbrev refused : List ℕ
  refused = refused_before start (lines_of file)

  abbrev pub Changes : Type 0
  Changes = (f : Form) × ((reading refused ≡ some f) × Becomes12 reading_before.state.loader (item_of f) reading_before.code)

  the_file : BothOrders (reading_of file) reading_before refused
  the_file = both_orders 0 start fresh_sound (lines_of file)

  pub file_changes : ((reading_of file).code ≡ reading_before.code → ⊥) ↔ Changes
  file_changes = go the_file
    where
      go : BothOrders (reading_of file) reading_before refused → ((reading_of file).code ≡ reading_before.code → ⊥) ↔ Changes
      go (all_accepted e z) = (λ n. absurd (n (ap (λ (R : Reading). R.code) e)), λ h. absurd (some_number (is_3_or_4 reading_before.state.loader h.1.1) z))
      go (refused_at s a b p q) = rw (a, b) (changes reading_before.state.loader reading_before.state.lists refused s.size)

  pub file_becomes_12 : ((reading_of file).code ≡ reading_before.code → ⊥) → (reading_of file).code ≡ 12 ∷ []
  file_becomes_12 n = go the_file
    where
      go : BothOrders (reading_of file) reading_before refused → (reading_of file).code ≡ 12 ∷ []
      go (all_accepted e z) = absurd (n (ap (λ (R : Reading). R.code) e))
      go (refused_at s a b p q) = a ∙ becomes_12 reading_before.state.loader reading_before.state.lists refused (λ e. n (a ∙ e ∙ sym b))

  pub file_accepted_same : ((reading_of file).code ≡ []) ↔ (reading_before.code ≡ [])
  file_accepted_same = go the_file
    where
      go : BothOrders (reading_of file) reading_before refused → ((reading_of file).code ≡ []) ↔ (reading_before.code ≡ [])
      go (all_accepted e z) = (λ h. z, λ h. ap (λ (R : Reading). R.code) e ∙ z)
      go (refused_at s a b p q) = rw (a, b) (accepted_same reading_before.state.loader reading_before.state.lists refused)

  pub file_place : ((reading_of file).line ≡ reading_before.line) × ((reading_of file).state ≡ reading_before.state)
  file_place = go the_file
    where
      go : BothOrders (reading_of file) reading_before refused → ((reading_of file).line ≡ reading_before.line) × ((reading_of file).state ≡ reading_before.state)
      go (all_accepted e z) = (ap (λ (R : Reading). R.line) e, ap (λ (R : Reading). R.state) e)
      go (refused_at s a b p q) = (p, q)
