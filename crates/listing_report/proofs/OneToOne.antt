-- The bytes of a report determine what it says: n, every guess and every limit.
--   line_bytes word i a zs — the line (word i (a zs ..)) without its line feed;  line_one — it determines i, a and zs
--   pair_line_lem, inverse_line_lem — the lines of a report are such lines
--   feed_one, each_one — texts with equal bytes have equal lines: of one line and the rest, and of a line for each row and the rest
--   after_first, after_one — the numbers of a list after its first
--   report_one — reports with equal bytes show the same
use mathlib.Core.List.{List, [], ◌∷◌, ◌++◌, append-nil, append_assoc}
use mathlib.Core.Path.{◌≡◌, refl, sym, ap, subst, ◌∙◌}
use Prim.Native.Nat.{ℕ, zero, suc, ◌+◌, ◌<◌}
use native.Mathlib.Decide.{dec_lt}
use native.Mathlib.Omega.{arith}
use lib.IntN.{ℤ, pos, nat_abs}
use lib.ListN.{get_or, length, length-append}
use Rattle.line_numeral.specs.Decimal.{decimal, numeral}
use Rattle.line_form.specs.Form.{bytes}
use Rattle.line_form.specs.Spelling.{numerals}
use Rattle.line_form.proofs.Lists.{tails, numerals_is}
use Rattle.line_form.proofs.Printable.{printable, all_printable, one_no_feed, many_no_feed}
use Rattle.line_form.proofs.Shapes.{one_spelled, many_spelled}
use Rattle.listing_text.specs.Line.{each, numbers, line_closing, pair_line}
use Rattle.listing_text.proofs.Each.{each_ext}
use Rattle.entry.specs.Entry.{entry_value, entry_bound}
use Rattle.listing_report.specs.Report.{report_of, bounds_line, solution_line, entry_line, inverse_line}

abbrev line_bytes : List ℕ → ℤ → ℤ → List ℤ → List ℕ
line_bytes word i a zs = word ++ numeral i ++ bytes " (" ++ numerals a zs ++ bytes "))"

record SameLine (i a : ℤ) (zs : List ℤ) (i' a' : ℤ) (zs' : List ℤ) : Type 0 where
  first : a ≡ a'
  others : zs ≡ zs'

line_one : (word : List ℕ) (i a : ℤ) (zs : List ℤ) (i' a' : ℤ) (zs' : List ℤ) → line_bytes word i a zs ≡ line_bytes word i' a' zs' → SameLine i a zs i' a' zs'
line_one word i a zs i' a' zs' e =
    let m = many_spelled (line_bytes word i a zs) word i a zs refl in
    let m' = many_spelled (line_bytes word i a zs) word i' a' zs' e in
    record { first = sym m.head ∙ m'.head; others = sym m.more ∙ m'.more }

-- ---- the lines of a report
pair_line_lem : (word : List ℕ) (i : ℕ) (z : ℤ) (e : ℕ) → pair_line word i z e ≡ line_bytes word (pos i) z (pos e ∷ []) ++ (10 ∷ [])
unfolding numerals numeral
pair_line_lem word i z e = simp append_assoc refl

-- the numbers f 1, .., f n after the first
unfoldable after_first : (ℕ → ℕ) → ℕ → List ℤ
after_first f zero = []
after_first f (suc n) = after_first f n ++ (pos (f (suc n)) ∷ [])

tails_more : (zs : List ℤ) (z : ℤ) → tails (zs ++ (z ∷ [])) ≡ tails zs ++ (bytes " " ++ numeral z)
unfolding tails
tails_more [] z = append-nil _
tails_more (y ∷ zs) z = rw (tails_more zs z) (simp append_assoc refl)

numbers_are_lem : (f : ℕ → ℕ) (n : ℕ) → numbers (suc n) f ≡ numerals (pos (f 0)) (after_first f n)
unfolding each after_first numerals numeral
numbers_are_lem f zero = refl
numbers_are_lem f (suc n) = rw (numbers_are_lem f n, numerals_is (pos (f 0)) (after_first f n), numerals_is (pos (f 0)) (after_first f n ++ (pos (f (suc n)) ∷ [])), tails_more (after_first f n) (pos (f (suc n)))) (simp append_assoc refl)

inverse_line_lem : (L : ℕ → ℕ → ℕ) (n i : ℕ) → inverse_line (suc n) L i ≡ line_bytes (bytes "(inverse ") (pos (i + 1)) (pos (L i 0)) (after_first (L i) n) ++ (10 ∷ [])
unfolding numeral
inverse_line_lem L n i =
    ap (λ (x : List ℕ). bytes "(inverse " ++ decimal (i + 1) ++ bytes " (" ++ x ++ line_closing) (numbers_are_lem (L i) n) ∙ simp append_assoc refl

-- ---- lines and the rest
abbrev NoFeed : List ℕ → Type 0
NoFeed a = (k : ℕ) → get_or a k 0 ≡ 10 → ⊥

feed_one : (a a' r r' : List ℕ) → NoFeed a → NoFeed a' → a ++ (10 ∷ r) ≡ a' ++ (10 ∷ r') → (a ≡ a') × (r ≡ r')
feed_one [] [] r r' h h' e = (refl, cc)
feed_one [] (b ∷ a') r r' h h' e = let z : 10 ≡ b = cc in absurd (h' 0 (sym z))
feed_one (b ∷ a) [] r r' h h' e = let z : b ≡ 10 = cc in absurd (h 0 z)
feed_one (b ∷ a) (c ∷ a') r r' h h' e =
    let z : b ≡ c = cc in
    let t : a ++ (10 ∷ r) ≡ a' ++ (10 ∷ r') = cc in
    let x = feed_one a a' r r' (λ k. h (suc k)) (λ k. h' (suc k)) t in
    (rw (z, x.0) refl, x.1)

each_one : (n : ℕ) (f f' : ℕ → List ℕ) (r r' : List ℕ) → ((k : ℕ) → NoFeed (f k)) → ((k : ℕ) → NoFeed (f' k)) →
    each n (λ (k : ℕ). f k ++ (10 ∷ [])) ++ r ≡ each n (λ (k : ℕ). f' k ++ (10 ∷ [])) ++ r' → ((k : ℕ) → k < n → f k ≡ f' k) × (r ≡ r')
unfolding each
each_one zero f f' r r' h h' e = (λ k l. absurd (omega (arith, l)), e)
each_one (suc n) f f' r r' h h' e =
    let x = each_one n f f' (f n ++ (10 ∷ r)) (f' n ++ (10 ∷ r')) h h' (simp append_assoc at e) in
    let y = feed_one (f n) (f' n) r r' (h n) (h' n) x.1 in
    (λ k l. pick k l x.0 y.0 (dec_lt k n), y.1)
  where
    pick : (k : ℕ) → k < suc n → ((j : ℕ) → j < n → f j ≡ f' j) → f n ≡ f' n → Dec (k < n) → f k ≡ f' k
    pick k l before last (yes q) = before k q
    pick k l before last (no q) = let z : k ≡ n = omega (arith, q, l) in rw z last

-- ---- the numbers of a list
append_one : (xs ys r r' : List ℤ) → length xs ≡ length ys → xs ++ r ≡ ys ++ r' → (xs ≡ ys) × (r ≡ r')
append_one [] [] r r' h e = (refl, e)
append_one [] (y ∷ ys) r r' h e = absurd (omega (arith, h))
append_one (x ∷ xs) [] r r' h e = absurd (omega (arith, h))
append_one (x ∷ xs) (y ∷ ys) r r' h e =
    let z : x ≡ y = cc in
    let t : xs ++ r ≡ ys ++ r' = cc in
    let u = append_one xs ys r r' (omega (arith, h)) t in
    (rw (z, u.0) refl, u.1)

after_length : (f : ℕ → ℕ) (n : ℕ) → length (after_first f n) ≡ n
unfolding after_first
after_length f zero = refl
after_length f (suc n) = simp length-append (omega (arith, after_length f n))

after_one : (f g : ℕ → ℕ) (n : ℕ) → after_first f n ≡ after_first g n → (j : ℕ) → j < n → f (suc j) ≡ g (suc j)
unfolding after_first
after_one f g zero e j l = absurd (omega (arith, l))
after_one f g (suc n) e j l =
    let parts = append_one (after_first f n) (after_first g n) (pos (f (suc n)) ∷ []) (pos (g (suc n)) ∷ []) (after_length f n ∙ sym (after_length g n)) e in
    pick (after_one f g n parts.0 j) (ap nat_abs (ap (λ (x : List ℤ). get_or x 0 (pos 0)) parts.1)) (dec_lt j n)
  where
    pick : (j < n → f (suc j) ≡ g (suc j)) → f (suc n) ≡ g (suc n) → Dec (j < n) → f (suc j) ≡ g (suc j)
    pick before last (yes q) = before q
    pick before last (no q) = let z : j ≡ n = omega (arith, q, l) in rw z last

row_one : (n : ℕ) (f g : ℕ → ℕ) {i i' : ℤ} → SameLine i (pos (f 0)) (after_first f n) i' (pos (g 0)) (after_first g n) → (j : ℕ) → j < suc n → f j ≡ g j
row_one n f g x zero l = ap nat_abs x.first
row_one n f g x (suc j) l = after_one f g n x.others j (omega (arith, l))

-- ---- the whole report
pub record SameShown (n : ℕ) (X : ℕ → ℤ) (E : ℕ → ℕ) (L : ℕ → ℕ → ℕ) (n' : ℕ) (X' : ℕ → ℤ) (E' : ℕ → ℕ) (L' : ℕ → ℕ → ℕ) : Type 0 where
  pub size : n ≡ n'
  pub guess : (i : ℕ) → i < n → X i ≡ X' i
  pub solution : (i : ℕ) → i < n → E i ≡ E' i
  pub inverse : (i j : ℕ) → i < n → j < n → L i j ≡ L' i j

abbrev bounds_of : ℕ → List ℕ
bounds_of n = bytes "(bounds " ++ numeral (pos n) ++ bytes ")"

abbrev solution_bytes : (ℕ → ℤ) → (ℕ → ℕ) → ℕ → List ℕ
solution_bytes X E i = line_bytes (bytes "(solution ") (pos (i + 1)) (X i) (pos (E i) ∷ [])

abbrev entry_of : ℕ → (ℕ → ℤ) → (ℕ → ℕ) → ℕ → List ℕ
entry_of s X E i = line_bytes (bytes "(entry ") (pos (i + 1)) (entry_value s (X i)) (pos (entry_bound s (X i) (E i)) ∷ [])

abbrev inverse_bytes : (ℕ → ℕ → ℕ) → ℕ → ℕ → List ℕ
inverse_bytes L n i = line_bytes (bytes "(inverse ") (pos (i + 1)) (pos (L i 0)) (after_first (L i) n)

abbrev fed : (ℕ → List ℕ) → ℕ → List ℕ
fed f k = f k ++ (10 ∷ [])

abbrev body : ℕ → ℕ → (ℕ → ℤ) → (ℕ → ℕ) → (ℕ → ℕ → ℕ) → List ℕ
body n s X E L = each (suc n) (fed (solution_bytes X E)) ++ (each (suc n) (fed (entry_of s X E)) ++ (each (suc n) (fed (inverse_bytes L n)) ++ bytes "(end)\n"))

in_turn : (a b c d e : List ℕ) → (((a ++ b) ++ c) ++ d) ++ e ≡ a ++ (b ++ (c ++ (d ++ e)))
in_turn a b c d e = simp append_assoc refl

bounds_line_lem : (n : ℕ) (rest : List ℕ) → bounds_line n ++ rest ≡ bounds_of n ++ (10 ∷ rest)
unfolding numeral
bounds_line_lem n rest =
    ap (λ (x : List ℕ). x ++ rest) (sym (append_assoc (bytes "(bounds " ++ decimal n) (bytes ")") (10 ∷ []))) ∙ append_assoc (bounds_of n) (10 ∷ []) rest

report_is : (n s : ℕ) (X : ℕ → ℤ) (E : ℕ → ℕ) (L : ℕ → ℕ → ℕ) → report_of (suc n) s X E L ≡ bounds_of (suc n) ++ (10 ∷ body n s X E L)
unfolding report_of
report_is n s X E L =
    in_turn (bounds_line (suc n)) (each (suc n) (solution_line X E)) (each (suc n) (entry_line s X E)) (each (suc n) (inverse_line (suc n) L)) (bytes "(end)\n")
    ∙ ap (λ (x : List ℕ). bounds_line (suc n) ++ x) bodies
    ∙ bounds_line_lem (suc n) (body n s X E L)
  where
    bodies : each (suc n) (solution_line X E) ++ (each (suc n) (entry_line s X E) ++ (each (suc n) (inverse_line (suc n) L) ++ bytes "(end)\n")) ≡ body n s X E L
    bodies =
        rw (
          each_ext (suc n) (solution_line X E) (fed (solution_bytes X E)) (λ i l. pair_line_lem (bytes "(solution ") (i + 1) (X i) (E i)),
          each_ext (suc n) (entry_line s X E) (fed (entry_of s X E)) (λ i l. pair_line_lem (bytes "(entry ") (i + 1) (entry_value s (X i)) (entry_bound s (X i) (E i))),
          each_ext (suc n) (inverse_line (suc n) L) (fed (inverse_bytes L n)) (λ i l. inverse_line_lem L n i),
        ) refl

-- n first, then the lines of the solution, of the entries and of the inverse
opened_alike : (n n' : ℕ) (r r' : List ℕ) → bounds_of n ++ (10 ∷ r) ≡ bounds_of n' ++ (10 ∷ r') → (n ≡ n') × (r ≡ r')
unfolding all_printable printable
opened_alike n n' r r' e =
    let x = feed_one (bounds_of n) (bounds_of n') r r' (one_no_feed (bytes "(bounds ") refl (pos n)) (one_no_feed (bytes "(bounds ") refl (pos n')) e in
    let o = one_spelled (bounds_of n) (bytes "(bounds ") (pos n) refl in
    let o' = one_spelled (bounds_of n) (bytes "(bounds ") (pos n') x.0 in
    (ap nat_abs (sym o.one ∙ o'.one), x.1)

same_body : (n s s' : ℕ) (X X' : ℕ → ℤ) (E E' : ℕ → ℕ) (L L' : ℕ → ℕ → ℕ) → body n s X E L ≡ body n s' X' E' L' → SameShown (suc n) X E L (suc n) X' E' L'
unfolding all_printable printable
same_body n s s' X X' E E' L L' e =
    let a = each_one (suc n) (solution_bytes X E) (solution_bytes X' E') _ _ (λ i. many_no_feed (bytes "(solution ") refl (pos (i + 1)) (X i) (pos (E i) ∷ [])) (λ i. many_no_feed (bytes "(solution ") refl (pos (i + 1)) (X' i) (pos (E' i) ∷ [])) e in
    let b = each_one (suc n) (entry_of s X E) (entry_of s' X' E') _ _ (λ i. many_no_feed (bytes "(entry ") refl (pos (i + 1)) (entry_value s (X i)) (pos (entry_bound s (X i) (E i)) ∷ []))
    (λ i. many_no_feed (bytes "(entry ") refl (pos (i + 1)) (entry_value s' (X' i)) (pos (entry_bound s' (X' i) (E' i)) ∷ [])) a.1 in
    let c = each_one (suc n) (inverse_bytes L n) (inverse_bytes L' n) _ _ (λ i. many_no_feed (bytes "(inverse ") refl (pos (i + 1)) (pos (L i 0)) (after_first (L i) n))
    (λ i. many_no_feed (bytes "(inverse ") refl (pos (i + 1)) (pos (L' i 0)) (after_first (L' i) n)) b.1 in
    record {
      size = refl;
      guess = λ i l. (line_one (bytes "(solution ") (pos (i + 1)) (X i) (pos (E i) ∷ []) (pos (i + 1)) (X' i) (pos (E' i) ∷ []) (a.0 i l)).first;
      solution = λ i l.
          ap nat_abs (ap (λ (x : List ℤ). get_or x 0 (pos 0)) (line_one (bytes "(solution ") (pos (i + 1)) (X i) (pos (E i) ∷ []) (pos (i + 1)) (X' i) (pos (E' i) ∷ []) (a.0 i l)).others);
      inverse = λ i j li lj. row_one n (L i) (L' i) (line_one (bytes "(inverse ") (pos (i + 1)) (pos (L i 0)) (after_first (L i) n) (pos (i + 1)) (pos (L' i 0)) (after_first (L' i) n) (c.0 i li)) j lj;
    }

pub report_one : (n s n' s' : ℕ) (X X' : ℕ → ℤ) (E E' : ℕ → ℕ) (L L' : ℕ → ℕ → ℕ) → report_of (suc n) s X E L ≡ report_of (suc n') s' X' E' L' → SameShown (suc n) X E L (suc n') X' E' L'
report_one n s n' s' X X' E E' L L' e =
    let x = opened_alike (suc n) (suc n') (body n s X E L) (body n' s' X' E' L') (sym (report_is n s X E L) ∙ e ∙ report_is n' s' X' E' L') in
    let z : n ≡ n' = omega (arith, x.0) in
    subst (λ (m : ℕ). SameShown (suc n) X E L (suc m) X' E' L') z (same_body n s s' X X' E E' L L' (x.1 ∙ rw z refl))
