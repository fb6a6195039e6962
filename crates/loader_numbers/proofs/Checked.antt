-- A check through the loader that nine numbers stand for.
--   checked_so — the contract of `check` from that of `Loader::check`
use mathlib.Core.Path.{◌≡◌, subst}
use mathlib.Core.List.{List}
use Prim.Native.Nat.{ℕ}
use lib.IntN.{ℤ}
use Rattle.rules.specs.Refusal.{Outcome}
use Rattle.check_spec.specs.Input.{input}
use Rattle.loader_order.specs.Through.{CheckedThrough}
use Rattle.loader.specs.declared.Loader.{Loader}
use Rattle.loader.specs.Taken.{loader_of}

pub checked_so : (w : List ℕ) {d : Loader} {a b t x g v : List ℤ} {E L : List ℕ} {r : Outcome} {E' L' : List ℕ} → d ≡ loader_of w
    → CheckedThrough d.stage (input d.n d.s d.t a b t x g v E L) r E' L'
    → CheckedThrough (loader_of w).stage (input (loader_of w).n (loader_of w).s (loader_of w).t a b t x g v E L) r E' L'
checked_so w {a = a} {b} {t} {x} {g} {v} {E} {L} {r} {E'} {L'} e h =
    subst (λ (d : Loader). CheckedThrough d.stage (input d.n d.s d.t a b t x g v E L) r E' L') e h
