-- The first 65,536 bytes decide any file: the program may read into one buffer of that size.
--   first_decide — a text that is the refusal's line where a line is refused is that of the first 65,536 bytes
--   listing_first_bytes — so is the listing
use mathlib.Core.Path.{◌≡◌, refl, sym, ap, ◌∙◌}
use mathlib.Core.List.{List, [], ◌∷◌}
use Prim.Native.Nat.{ℕ}
use lib.ListN.{take}
use Rattle.loader_runs.specs.Acceptable.{bytes_most}
use Rattle.loader_runs.specs.Run.{from_new}
use Rattle.loader_runs.specs.Read.{Reading, zeros, reading_of}
use Rattle.loader_runs.proofs.FirstBytes.{CutFile, whole, stopped}
use Rattle.loader_runs.proofs.FirstBytes as file
use Rattle.listing_refusal.specs.Refused.{printed, refused_of}
use Rattle.listing.specs.Listing.{listing_of}
use Rattle.listing.proofs.Entire.{answer_refused, listing_from}

-- a text that is the refusal's line where a line of the file is refused
module _ (text : List ℕ → List ℕ) (refused : (s : List ℕ) (k : ℕ) (vs : List ℕ) → (reading_of s).code ≡ k ∷ vs → text s ≡ refused_of (printed (reading_of s).line (k ∷ vs))) where
  -- a refusal decides the text
  refused_alike : (s t : List ℕ) → reading_of t ≡ reading_of s → ((reading_of s).code ≡ [] → ⊥) → text s ≡ text t
  refused_alike s t e n = go (reading_of s).code refl
    where
      go : (r : List ℕ) → (reading_of s).code ≡ r → text s ≡ text t
      go [] q = absurd (n q)
      go (k ∷ vs) q = refused s k vs q ∙ ap (λ (R : Reading). refused_of (printed R.line (k ∷ vs))) (sym e) ∙ sym (refused t k vs (ap (λ (R : Reading). R.code) e ∙ q))

  pub first_decide : (s : List ℕ) → text s ≡ text (take bytes_most s)
  first_decide s = go (file.file_first_bytes zeros s)
    where
      go : CutFile bytes_most 0 (from_new zeros) s → text s ≡ text (take bytes_most s)
      go (whole e) = ap text (sym e)
      go (stopped e n) = refused_alike s (take bytes_most s) e n

pub listing_first_bytes : (s : List ℕ) → listing_of s ≡ listing_of (take bytes_most s)
listing_first_bytes = first_decide listing_of (λ s k vs q. listing_from s (answer_refused s q))
