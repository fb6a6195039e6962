-- Members of a list.
--   Among x xs — x is one of xs
use Rattle.std.specs.Prelude.{List, ◌∷◌}

pub data Among {A : Type 0} (x : A) : List A → Type 0 where
  here : {ys : List A} → Among x (x ∷ ys)
  there : {y : A} {ys : List A} → Among x ys → Among x (y ∷ ys)
