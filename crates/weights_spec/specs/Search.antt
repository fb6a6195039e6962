-- What a search for weights says and leaves. Document 02, Paper 7: "The finder reports how many lists it tried, which is the place of the first good
-- one in this sequence. [..] (8 first, then 3, also if the allowance is outside 1 to 64. New 18, after 3, if none of the allowed lists is good; the weight
-- list is then untouched.)"
--   Found      — the answer: how many lists were tried, or a refusal
--   search_code r — what an answer says: nothing where a good list was found, else the number of the refusal and its values
--   count_of r  — how many lists were tried, where one was found; 0 on a refusal
--   passed Q   — how many lists of the sequence stand before the first good one; the allowance where none of the allowed lists is good
--   search_order Q — the tests in their order, 8, 3, 18;  search_answer Q — what is said of them
--   count_after Q — the place of the first good list, from 1, where nothing is said; 0 on a refusal
--   weights_after Q — the weight list after the call: the first good list at its first n places, the rest as before; all as before on a refusal
--   FoundAs    — the contract of `find_weights`: what is said, the tried count and the weight list;
--     and what the list handed back is worth: with any scale, right side and guess every margin is above 0, and its weights are in their range
use Rattle.std.specs.Prelude.{true, not, List, [], ◌∷◌, ◌≡◌, ℕ, ◌+◌, leb, ℤ, pos, Result, Ok, Err}
use Rattle.linear.specs.Slice.{at}
use Rattle.linear.specs.Written.{written}
use Rattle.rules.specs.Order.{Test, number, verdict, if_accepted}
use Rattle.rules.specs.Range.{all_in_range}
use Rattle.rules.specs.Refusal.{number_of, values_of}
use Rattle.rules.specs.declared.Kind.TheVariants as kind
use Rattle.enclosure.specs.Sound.{Margins}
use Rattle.enclosure.specs.Problem.{problem_of}
use Rattle.weights_spec.specs.Sequence.{tried, first_good}
use Rattle.weights_spec.specs.declared.SearchRefusal.{SearchRefusal}
use Rattle.weights_spec.specs.declared.SearchRefusal.TheVariants.{Refused, NoneGood}
use Rattle.weights_spec.specs.Request.{Request, search_problem, search_short, search_in_ranges}

abbrev pub Found : Type 0
Found = Result ℕ SearchRefusal

abbrev pub search_code : Found → List ℕ
search_code (Ok count) = []
search_code (Err (Refused r)) = number_of r ∷ values_of r
search_code (Err NoneGood) = 18 ∷ []

abbrev pub count_of : Found → ℕ
count_of (Ok count) = count
count_of (Err (Refused r)) = 0
count_of (Err NoneGood) = 0

abbrev pub passed : Request → ℕ
passed Q = first_good (search_problem Q) Q.allowance

abbrev pub search_order : Request → List Test
search_order Q =
    number 8 (search_short Q)
    ∷ number 3 (not (search_in_ranges Q))
    ∷ number 18 (leb Q.allowance (passed Q))
    ∷ []

unfoldable pub search_answer : Request → List ℕ
search_answer Q = verdict (search_order Q)

unfoldable pub count_after : Request → ℕ
count_after Q = if_accepted (search_answer Q) (passed Q + 1) 0

unfoldable pub weights_after : Request → List ℤ
weights_after Q =
    if_accepted (search_answer Q) (written Q.weights 0 1 (λ (i : ℕ). pos (tried (search_problem Q) (passed Q) i)) Q.n) Q.weights

pub record FoundAs (Q : Request) (r : Found) (weights : List ℤ) : Type 0 where
  pub says : search_code r ≡ search_answer Q
  pub count : count_of r ≡ count_after Q
  pub weights_are : weights ≡ weights_after Q
  pub margins : search_code r ≡ [] → (s : ℕ) (right tolerance guess : List ℤ) → Margins (problem_of Q.n s Q.t Q.matrix right tolerance guess Q.inverse weights)
  pub inside : search_code r ≡ [] → all_in_range kind.Weight Q.n (at weights) ≡ true
