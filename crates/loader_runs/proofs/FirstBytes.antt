-- The first 65,536 bytes of a file decide what comes of its lines: at most 163 lines are accepted, each of at most 320 bytes and its line feed.
--   length_cut, drop_take — the first line of a file's first N bytes, and what follows it
--   long_line  — lines above 320 bytes are refused alike
--   CutFile    — a file's first N bytes are the whole file, or both are refused alike, where N is large enough for the lines that may still be accepted
--   file_first_bytes — so it is with the first 65,536 bytes, from the start
use mathlib.Core.Path.{◌≡◌, refl, sym, ap, ◌∙◌}
use mathlib.Core.Bool.{Bool, true, false, cond}
use mathlib.Core.List.{List, [], ◌∷◌}
use Prim.Native.Nat.{ℕ, zero, suc, ◌+◌, ◌*◌, ◌-◌, ◌≤◌, ◌<◌, min}
use native.Mathlib.Omega.{arith}
use borrow.Author.Tests.{lt-ltb, ltb-true, ltb-false}
use lib.Dec.{ltb, eqb}
use lib.ListN.{length, take, drop, length-take, take-append-drop}
use lib.Seq.{take-nil, take-take, take-add, length-take-le}
use Rattle.rules.proofs.Verdicts.{nothing_is_not}
use Rattle.loader_lists.specs.Lists.{Lists, short_lists}
use Rattle.loader.specs.declared.Loader.{Loader}
use Rattle.loader.specs.Answer.{line_answer}
use Rattle.loader_progress.specs.Progress.{ended}
use Rattle.loader_runs.specs.Acceptable.{line_most, bytes_most, lines_most, acceptable}
use Rattle.loader_runs.specs.Run.{State, from_new, step}
use Rattle.loader_runs.proofs.Sound.{SoundLoader, fresh_sound, line_sound}
use Rattle.loader_runs.proofs.Acceptable.{falls}
use Rattle.loader_runs.specs.Length.{line_length}
use Rattle.loader_runs.specs.Lines.{lines_of}
use Rattle.loader_runs.specs.Read.{Reading, read_from}
use Rattle.loader_runs.proofs.Lines.{length_most, lines_next}
use Rattle.loader_runs.proofs.Read.{read_accepted, read_refused}

-- ---- the first line of the first N bytes
length_cut : (N : ℕ) (s : List ℕ) → line_length (take N s) ≡ min N (line_length s)
unfolding line_length
length_cut zero s = omega arith
length_cut (suc N) [] = omega arith
length_cut (suc N) (b ∷ bs) = go (eqb b 10) (length_cut N bs)
  where
    go : (t : Bool) → line_length (take N bs) ≡ min N (line_length bs) → cond t 0 (suc (line_length (take N bs))) ≡ min (suc N) (cond t 0 (suc (line_length bs)))
    go true h = omega arith
    go false h = omega arith

drop_take : (a N : ℕ) (s : List ℕ) → drop a (take N s) ≡ take (N - a) (drop a s)
drop_take zero N s = let e : N - 0 ≡ N = omega arith in rw e
drop_take (suc a) zero s = let e : 0 - suc a ≡ 0 = omega arith in rw e
drop_take (suc a) (suc N) [] = rw (take-nil {A = ℕ} (suc N - suc a))
drop_take (suc a) (suc N) (b ∷ bs) = let e : suc N - suc a ≡ N - a = omega arith in rw e (drop_take a N bs)

-- ---- a line above 320 bytes
-- what is said of it, whatever its bytes are
abbrev long_answer : Loader → Lists → List ℕ
long_answer d l = cond (short_lists l) (8 ∷ []) (cond (ended d.stage) (14 ∷ []) (1 ∷ []))

long_line : (d : Loader) (l : Lists) (line : List ℕ) → 320 < length line → line_answer d l line ≡ long_answer d l
unfolding line_answer
long_line d l line h = rw (lt-ltb 320 (length line) h)

long_refused : (d : Loader) (l : Lists) → long_answer d l ≡ [] → ⊥
long_refused d l = go (short_lists l) (ended d.stage)
  where
    go : (a b : Bool) → cond {A = List ℕ} a (8 ∷ []) (cond {A = List ℕ} b (14 ∷ []) (1 ∷ [])) ≡ [] → ⊥
    go true b e = nothing_is_not e
    go false true e = nothing_is_not e
    go false false e = nothing_is_not e

-- ---- a file's first N bytes
pub data CutFile (N k : ℕ) (u : State) (s : List ℕ) : Type 0 where
  whole : take N s ≡ s → CutFile N k u s
  stopped : read_from k u (lines_of (take N s)) ≡ read_from k u (lines_of s) → ((read_from k u (lines_of s)).code ≡ [] → ⊥) → CutFile N k u s

-- what is to be shown of a state at which fewer lines may be accepted
abbrev CutShown : State → Type 0
CutShown u = (N k : ℕ) → acceptable u.loader * line_most + line_most ≤ N → (s : List ℕ) → CutFile N k u s

-- ---- one line: the first m bytes of a file that has some
module _ (N k : ℕ) (u : State) (b : ℕ) (bs : List ℕ) where
  abbrev s : List ℕ
  s = b ∷ bs

  abbrev m : ℕ
  m = line_length s

  abbrev line : List ℕ
  line = take m s

  abbrev cut_line : List ℕ
  cut_line = take (min (suc N) m) (take (suc N) s)

  lines_cut : lines_of (take (suc N) s) ≡ cut_line ∷ lines_of (drop (suc (min (suc N) m)) (take (suc N) s))
  lines_cut = rw (length_cut (suc N) s) at (lines_next b (take N bs))

  -- a line that the cut does not reach
  module _ (h : m < 321) (room : 321 ≤ suc N) where
    abbrev rest : List ℕ
    rest = drop (suc m) s

    lines_kept : lines_of (take (suc N) s) ≡ line ∷ lines_of (take (suc N - suc m) rest)
    lines_kept =
        let e : min (suc N) m ≡ m = omega arith in
        lines_cut ∙ rw (e, take-take m (suc N) s (omega arith), drop_take (suc m) (suc N) s)

    joined : take (suc N - suc m) rest ≡ rest → take (suc N) s ≡ s
    joined e =
        let p : suc m + (suc N - suc m) ≡ suc N = omega arith in
        rw p at (take-add (suc m) (suc N - suc m) s) ∙ rw e (take-append-drop (suc m) s)

    short_line : ((line_answer u.loader u.lists line ≡ []) → CutFile (suc N - suc m) (k + 1) (step u line) rest) → CutFile (suc N) k u s
    short_line ih = go (line_answer u.loader u.lists line) refl
      where
        go : (r : List ℕ) → line_answer u.loader u.lists line ≡ r → CutFile (suc N) k u s
        go (n ∷ vs) e =
            let x = read_refused k u line (lines_of rest) e in
            let y = read_refused k u line (lines_of (take (suc N - suc m) rest)) e in
            stopped (rw (lines_kept, lines_next b bs) (y ∙ sym x)) (rw (lines_next b bs) (λ q. nothing_is_not (sym (ap (λ (R : Reading). R.code) x) ∙ q)))
        go [] e = by (ih e)
          where
            by : CutFile (suc N - suc m) (k + 1) (step u line) rest → CutFile (suc N) k u s
            by (whole w) = whole (joined w)
            by (stopped q n) =
                let x = read_accepted k u line (lines_of rest) e in
                let y = read_accepted k u line (lines_of (take (suc N - suc m) rest)) e in
                stopped (rw (lines_kept, lines_next b bs) (y ∙ q ∙ sym x)) (rw (lines_next b bs) (λ z. n (sym (ap (λ (R : Reading). R.code) x) ∙ z)))

  -- a line above 320 bytes, cut or not
  over_long : 321 ≤ m → 321 ≤ suc N → CutFile (suc N) k u s
  over_long h room = go (long_answer u.loader u.lists) refl
    where
      long : line_answer u.loader u.lists line ≡ long_answer u.loader u.lists
      long = long_line u.loader u.lists line (rw (length-take-le m s (length_most s)) (omega arith))

      long_cut : line_answer u.loader u.lists cut_line ≡ long_answer u.loader u.lists
      long_cut =
          long_line u.loader u.lists cut_line
          (simp length-take (omega (arith, length_most s)))

      go : (r : List ℕ) → long_answer u.loader u.lists ≡ r → CutFile (suc N) k u s
      go [] e = absurd (long_refused u.loader u.lists e)
      go (n ∷ vs) e =
          let x = read_refused k u line (lines_of (drop (suc m) s)) (long ∙ e) in
          let y = read_refused k u cut_line (lines_of (drop (suc (min (suc N) m)) (take (suc N) s))) (long_cut ∙ e) in
          stopped (rw (lines_cut, lines_next b bs) (y ∙ sym x)) (rw (lines_next b bs) (λ q. nothing_is_not (sym (ap (λ (R : Reading). R.code) x) ∙ q)))

-- ---- all lines
cut_one : (u : State) → SoundLoader u.loader → ((v : State) → SoundLoader v.loader → acceptable v.loader < acceptable u.loader → CutShown v) → CutShown u
cut_one u h ih N k r [] = whole (take-nil N)
cut_one u h ih zero k r (b ∷ bs) = absurd (omega arith)
cut_one u h ih (suc N) k r (b ∷ bs) = go (ltb (line_length (b ∷ bs)) 321) refl
  where
    go : (t : Bool) → ltb (line_length (b ∷ bs)) 321 ≡ t → CutFile (suc N) k u (b ∷ bs)
    go false e = over_long N k u b bs (ltb-false (line_length (b ∷ bs)) 321 e) (omega arith)
    go true e =
        let l : line_length (b ∷ bs) < 321 = ltb-true (line_length (b ∷ bs)) 321 e in
        let line = take (line_length (b ∷ bs)) (b ∷ bs) in
        short_line N k u b bs l (omega arith)
        (λ a. let f = falls u.loader h u.lists line a in
        ih (step u line) (line_sound u.loader u.lists line h) f (suc N - suc (line_length (b ∷ bs))) (k + 1)
        (omega (arith, f)) (drop (suc (line_length (b ∷ bs))) (b ∷ bs)))

cut_by : (o : ℕ) (u : State) → SoundLoader u.loader → acceptable u.loader < o → CutShown u
cut_by zero u h l = absurd (omega arith)
cut_by (suc o) u h l = cut_one u h (λ v g f. cut_by o v g (omega arith))

pub file_first_bytes : (l : Lists) (s : List ℕ) → CutFile bytes_most 0 (from_new l) s
file_first_bytes l s = cut_by (suc lines_most) (from_new l) fresh_sound (omega arith) bytes_most 0 (omega arith) s
