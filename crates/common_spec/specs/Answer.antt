-- What is said of two proposals, and what is left (document 02, Paper 13: "8 for an interval list comes first and is of neither proposal. Then each proposal is
-- checked, in order, and its refusal says which one it is of. New 20 [..]; then new 21 [..]. The call writes only the interval lists, and no refusal touches
-- them.").
--   Common        — the answer: nothing beside it where the intervals are found, or a refusal
--   common_code r — what an answer says: nothing where the intervals are found, else of which proposal the refusal is, 1 or 2, or 0 where it is of neither, then
--     its number, then its values
--   common_order Q — the tests in their order, 8, the first, the second, 20, 21;  common_answer Q — what is said of them
--   low_after Q, high_after Q — the interval lists after the call: the ends at the first n places, the rest as before; all as before on a refusal
--   CommonAs    — the contract of `common_interval`: what is said, the two lists, and that the intervals written contain every exact height
use Rattle.std.specs.Prelude.{not, ◌||◌, List, [], ◌∷◌, ◌≡◌, ℕ, ℤ, Result, Ok, Err, ⊤}
use Rattle.linear.specs.Slice.{at}
use Rattle.linear.specs.Written.{written}
use Rattle.rules.specs.Order.{Test, verdict, if_accepted}
use Rattle.rules.specs.Which.{of_one, of_neither}
use Rattle.rules.specs.Refusal.{number_of, values_of}
use Rattle.check_spec.specs.Order.{answer}
use Rattle.common_spec.specs.declared.CommonRefusal.{CommonRefusal}
use Rattle.common_spec.specs.declared.CommonRefusal.TheVariants.{First, Second, TooShort, Different, TooWide}
use Rattle.common_spec.specs.Proposals.{Proposals, short_intervals, same_equations, is_too_wide}
use Rattle.common_spec.specs.Ends.{low_end, high_end, Contains}

abbrev pub Common : Type 0
Common = Result ⊤ CommonRefusal

abbrev pub common_code : Common → List ℕ
common_code (Ok tt) = []
common_code (Err TooShort) = 0 ∷ 8 ∷ []
common_code (Err (First r)) = 1 ∷ number_of r ∷ values_of r
common_code (Err (Second r)) = 2 ∷ number_of r ∷ values_of r
common_code (Err Different) = 0 ∷ 20 ∷ []
common_code (Err TooWide) = 0 ∷ 21 ∷ []

abbrev pub common_order : Proposals → List Test
common_order Q =
    of_neither 8 (short_intervals Q)
    ∷ of_one 1 (answer Q.first)
    ∷ of_one 2 (answer Q.second)
    ∷ of_neither 20 (not (same_equations Q.first Q.second))
    ∷ of_neither 21 (is_too_wide Q.first || is_too_wide Q.second)
    ∷ []

unfoldable pub common_answer : Proposals → List ℕ
common_answer Q = verdict (common_order Q)

unfoldable pub low_after : Proposals → List ℤ
low_after Q = if_accepted (common_answer Q) (written Q.low 0 1 (low_end Q.first Q.second) Q.first.n) Q.low

unfoldable pub high_after : Proposals → List ℤ
high_after Q = if_accepted (common_answer Q) (written Q.high 0 1 (high_end Q.first Q.second) Q.first.n) Q.high

pub record CommonAs (Q : Proposals) (r : Common) (low high : List ℤ) : Type 0 where
  pub says : common_code r ≡ common_answer Q
  pub low_is : low ≡ low_after Q
  pub high_is : high ≡ high_after Q
  pub contains : common_code r ≡ [] → Contains Q.first Q.second (at low) (at high)
