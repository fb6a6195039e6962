-- A reply's numbers as C has them.
--   status       — of a reply in numbers, its number and its two places
--   status_alone — and of what a check says, where a refusal that gives its number alone leaves both places 0
use mathlib.Core.Path.{◌≡◌, refl}
use mathlib.Core.List.{List, [], ◌∷◌}
use Prim.Native.Nat.{ℕ}
use Rattle.listing_refusal.specs.Refused.{printed}
use Rattle.listing_refusal.specs.Reply.{reply_of}
use Rattle.listing_refusal.specs.declared.Reply.{Reply}
use Rattle.reply.specs.ReplyIs.{ReplyIs}

abbrev places_of : Reply → List ℕ
places_of r = r.first ∷ r.second ∷ []

status_of : (l : List ℕ) → ReplyIs l (reply_of l).number (places_of (reply_of l))
status_of [] = record { number_is = refl; places_are = refl }
status_of (k ∷ vs) = record { number_is = refl; places_are = refl }

alone_of : (l : List ℕ) → ReplyIs l (reply_of (printed 0 l)).number (places_of (reply_of (printed 0 l)))
alone_of [] = record { number_is = refl; places_are = refl }
alone_of (k ∷ []) = record { number_is = refl; places_are = refl }
alone_of (k ∷ v ∷ vs) = record { number_is = refl; places_are = refl }

module _ {r : Reply} {number : ℕ} {p : List ℕ} (l : List ℕ) (t : (number ≡ r.number) × (p ≡ places_of r)) where
  pub status : r ≡ reply_of l → ReplyIs l number p
  status e = rw (t.0, t.1, e) (status_of l)

  pub status_alone : r ≡ reply_of (printed 0 l) → ReplyIs l number p
  status_alone e = rw (t.0, t.1, e) (alone_of l)
