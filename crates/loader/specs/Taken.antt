-- What a line leaves (01: "An accepted line puts n, or s and t, into the desk, or its form's other numbers at their own places in the lent
-- lists, and changes no other number in those lists. A refused line leaves the desk as before the call, and its lists"; 02, Paper 1: "an accepted end
-- writes 1 into every such place of the lent list", which is `closed`).
--   fresh        — the loader that was given nothing
--   after d x    — the loader after a form;  lists_with d f l — the lists after it: its numbers put there, and the weights filled in where it is an end
--   loader_after, lists_after — what is left of a line, accepted or refused
--   TakenAs      — the contract of `take`
-- A loader in nine numbers: how far it has come, n, s and t, and its five sets of given forms, in the order of rows, right sides, guesses, inverse rows and weights.
--   numbers_of_loader d — the numbers of a loader
--   loader_of w  — the loader that numbers stand for: that of `numbers_of_loader` where they are those of a loader (proofs/Numbers.antt), and else n, s, t and sets as
--                 they are there
use Rattle.std.specs.Prelude.{List, ◌∷◌, ◌≡◌, ℕ, nat_abs, replicate, get_or, drop}
use Rattle.rules.specs.Order.{if_accepted}
use Rattle.rules.specs.Refusal.{code}
use Rattle.line_form.specs.Form.{Form}
use Rattle.line_form.specs.Reading.{reading}
use Rattle.loader_values.specs.Item.{item_of}
use Rattle.loader_values.specs.declared.Item.{Item}
use Rattle.loader_values.specs.declared.Item.TheVariants.{Problem, Scale, Of, End}
use Rattle.loader_values.specs.declared.Part.TheVariants.{Weight}
use Rattle.loader_lists.specs.Lists.{Lists}
use Rattle.loader_lists.specs.Put.{put_all, closed}
use Rattle.loader_progress.specs.Progress.{set_of, marked, stage_number, stage_of}
use Rattle.loader_progress.specs.declared.Stage.TheVariants.{Start, Sized, Scaled, Ended}
use Rattle.loader.specs.declared.Loader.{Loader}
use Rattle.loader.specs.declared.Taken.{Taken}
use Rattle.loader.specs.Answer.{line_answer, of_form}

abbrev pub fresh : Loader
fresh = record { n = 0; s = 0; t = 0; stage = Start; sets = replicate 5 0 }

abbrev pub after : Loader → Item → Loader
after d (Problem n) = record { n = nat_abs n; s = d.s; t = d.t; stage = Sized; sets = d.sets }
after d (Scale s t) = record { n = d.n; s = nat_abs s; t = nat_abs t; stage = Scaled; sets = d.sets }
after d (Of p i) = record { n = d.n; s = d.s; t = d.t; stage = d.stage; sets = marked d.sets p (nat_abs i) }
after d End = record { n = d.n; s = d.s; t = d.t; stage = Ended; sets = d.sets }

abbrev pub lists_with : Loader → Form → Lists → Lists
lists_with d f l = closed d.n (set_of d.sets Weight) (item_of f) (put_all d.n f l)

unfoldable pub loader_after : Loader → Lists → List ℕ → Loader
loader_after d l line = if_accepted (line_answer d l line) (of_form (reading line) d (λ (f : Form). after d (item_of f))) d

unfoldable pub lists_after : Loader → Lists → List ℕ → Lists
lists_after d l line = if_accepted (line_answer d l line) (of_form (reading line) l (λ (f : Form). lists_with d f l)) l

pub record TakenAs (d : Loader) (line : List ℕ) (l : Lists) (r : Taken) (l' : Lists) : Type 0 where
  pub says : code r.outcome ≡ line_answer d l line
  pub loader : r.loader ≡ loader_after d l line
  pub lists : l' ≡ lists_after d l line

abbrev pub numbers_of_loader : Loader → List ℕ
numbers_of_loader d = stage_number d.stage ∷ d.n ∷ d.s ∷ d.t ∷ d.sets

abbrev pub loader_of : List ℕ → Loader
loader_of w = record { n = get_or w 1 0; s = get_or w 2 0; t = get_or w 3 0; stage = stage_of (get_or w 0 0); sets = drop 4 w }
