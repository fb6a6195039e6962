-- ℤ as differences of naturals: how an equation or an inequality over ℤ becomes one over ℕ, where `omega` works.
--   dif a b   — the number a − b; shut, so that a call of it stays a call
--   is        — x ≡ dif (pos_part x) (neg_part x)
--   +-left_comm — of three numbers the first two in the other order;  neg_pos — minus a natural number is at most any natural number
--   zz        — rules for `simp`: sums, products, negation, ≡, ≤ℤ and nat_abs of differences
--   zarith    — rules for `omega`: arith, and hypotheses x ≡ y, x ≤ℤ y over ℤ
-- A law over ℤ is proved in one line, with every variable listed: `rw (is a, is b) (simp zz (omega arith))`;
-- where it has hypotheses over ℤ, with `omega zarith`. It takes up to three absolute values, and products to degree 3.
use mathlib.Core.Path.{◌≡◌, refl, sym, ap, ◌∙◌}
use Prim.Native.Nat.{ℕ, zero, suc, ◌+◌, ◌*◌, ◌-◌, ◌≤◌}
use native.Mathlib.Omega.{arith}
use native.Mathlib.Decide.{dec_le}
use native.Mathlib.Nat as NatL
use mathlib.Core.Logic.{◌↔◌}
use lib.IntN.{ℤ, pos, negsuc, neg_ℤ, nat_abs, ◌+ℤ◌, ◌*ℤ◌, +ℤ_assoc, +ℤ_comm, +ℤ_idl, +ℤ_idr, +ℤ_invr, neg_ℤ-+ℤ, neg_ℤ-neg_ℤ}
use lib.Signed.{◌≤ℤ◌, le_z_yes}
use lib.Dec.{leb→le, le→leb}
use Rattle.integer.specs.SignedParts.{pos_part, neg_part}

pub dif : ℕ → ℕ → ℤ
dif a b = pos a +ℤ neg_ℤ (pos b)

pub +-left_comm : (a b c : ℤ) → a +ℤ (b +ℤ c) ≡ b +ℤ (a +ℤ c)
+-left_comm a b c = sym (+ℤ_assoc a b c) ∙ ap (λ (x : ℤ). x +ℤ c) (+ℤ_comm a b) ∙ +ℤ_assoc b a c

pub dif_zero : (a : ℕ) → dif a 0 ≡ pos a
unfolding dif
dif_zero a = +ℤ_idr (pos a)

pub zero_dif : (a : ℕ) → dif 0 a ≡ neg_ℤ (pos a)
unfolding dif
zero_dif a = +ℤ_idl (neg_ℤ (pos a))

pub is : (x : ℤ) → x ≡ dif (pos_part x) (neg_part x)
unfolding pos_part neg_part
is (pos n) = sym (dif_zero n)
is (negsuc n) = sym (zero_dif (suc n))

pub dif_self : (a : ℕ) → dif a a ≡ pos 0
unfolding dif
dif_self a = +ℤ_invr (pos a)

pub dif-+ : (a b c d : ℕ) → dif a b +ℤ dif c d ≡ dif (a + c) (b + d)
unfolding dif
dif-+ a b c d = sym (ap (λ (x : ℤ). pos a +ℤ pos c +ℤ x) (neg_ℤ-+ℤ (pos b) (pos d)) ∙ four (pos a) (pos c) (neg_ℤ (pos b)) (neg_ℤ (pos d)))
  where
    four : (a c b d : ℤ) → a +ℤ c +ℤ (b +ℤ d) ≡ a +ℤ b +ℤ (c +ℤ d)
    four a c b d = simp (+ℤ_assoc, +-left_comm)

pub dif_neg : (a b : ℕ) → neg_ℤ (dif a b) ≡ dif b a
unfolding dif
dif_neg a b = neg_ℤ-+ℤ (pos a) (neg_ℤ (pos b)) ∙ ap (λ (x : ℤ). neg_ℤ (pos a) +ℤ x) (neg_ℤ-neg_ℤ (pos b)) ∙ +ℤ_comm (neg_ℤ (pos a)) (pos b)

dif_pad : (a b k : ℕ) → dif a b ≡ dif (a + k) (b + k)
dif_pad a b k = sym (+ℤ_idr (dif a b)) ∙ ap (λ (x : ℤ). dif a b +ℤ x) (sym (dif_self k)) ∙ dif-+ a b k k

pub dif_eq : (a b c d : ℕ) → a + d ≡ c + b → dif a b ≡ dif c d
dif_eq a b c d h = dif_pad a b d ∙ ap (λ (x : ℕ). dif x (b + d)) h ∙ ap (λ (x : ℕ). dif (c + b) x) (NatL.add_comm b d) ∙ sym (dif_pad c d b)

pub dif_inj : (a b c d : ℕ) → dif a b ≡ dif c d → a + d ≡ c + b
dif_inj a b c d h = ap nat_abs (sym (key a b d) ∙ ap (λ (x : ℤ). x +ℤ pos (b + d)) h ∙ ap (λ (x : ℤ). dif c d +ℤ x) (ap pos (NatL.add_comm b d)) ∙ key c d b)
  where
    key : (a b d : ℕ) → dif a b +ℤ pos (b + d) ≡ pos (a + d)
    key a b d = rw (← dif_zero (b + d)) (dif-+ a b (b + d) 0 ∙ dif_eq (a + (b + d)) (b + 0) (a + d) 0 (omega arith) ∙ dif_zero (a + d))

pub dif-≡ : (a b c d : ℕ) → (dif a b ≡ dif c d) ↔ (a + d ≡ c + b)
dif-≡ a b c d = (dif_inj a b c d, dif_eq a b c d)

-- a number is a natural or the negation of one; a difference too
data Sign : ℕ → ℕ → Type 0 where
  up : (b k : ℕ) → Sign (b + k) b
  down : (a k : ℕ) → Sign a (a + k)

sign : (a b : ℕ) → Sign a b
sign a b = go (dec_le b a)
  where
    go : Dec (b ≤ a) → Sign a b
    go (yes h) = let e : b + (a - b) ≡ a = omega arith in rw e at (up b (a - b))
    go (no h) = let e : a + (b - a) ≡ b = omega arith in rw e at (down a (b - a))

up_is : (b k : ℕ) → dif (b + k) b ≡ pos k
up_is b k = dif_eq (b + k) b k 0 (omega arith) ∙ dif_zero k

down_is : (a k : ℕ) → dif a (a + k) ≡ neg_ℤ (pos k)
down_is a k = dif_eq a (a + k) 0 k (omega arith) ∙ zero_dif k

neg-*-pos : (a b : ℕ) → neg_ℤ (pos a) *ℤ pos b ≡ neg_ℤ (pos (a * b))
neg-*-pos zero b = rw NatL.zero-mul
neg-*-pos (suc a) b = refl

pos-*-neg : (a b : ℕ) → pos a *ℤ neg_ℤ (pos b) ≡ neg_ℤ (pos (a * b))
pos-*-neg a zero = rw NatL.mul-zero
pos-*-neg a (suc b) = refl

neg-*-neg : (a b : ℕ) → neg_ℤ (pos a) *ℤ neg_ℤ (pos b) ≡ pos (a * b)
neg-*-neg zero b = pos-*-neg zero b ∙ rw NatL.zero-mul
neg-*-neg (suc a) zero = rw NatL.mul-zero
neg-*-neg (suc a) (suc b) = refl

pub dif-* : (a b c d : ℕ) → dif a b *ℤ dif c d ≡ dif (a * c + b * d) (a * d + b * c)
dif-* a b c d = go (sign a b) (sign c d)
  where
    go : {a b c d : ℕ} → Sign a b → Sign c d → dif a b *ℤ dif c d ≡ dif (a * c + b * d) (a * d + b * c)
    go (up b k) (up d l) = rw (up_is b k, up_is d l) (sym (dif_zero (k * l)) ∙ omega (arith, dif_eq))
    go (up b k) (down c l) = rw (up_is b k, down_is c l) (pos-*-neg k l ∙ sym (zero_dif (k * l)) ∙ omega (arith, dif_eq))
    go (down a k) (up d l) = rw (down_is a k, up_is d l) (neg-*-pos k l ∙ sym (zero_dif (k * l)) ∙ omega (arith, dif_eq))
    go (down a k) (down c l) = rw (down_is a k, down_is c l) (neg-*-neg k l ∙ sym (dif_zero (k * l)) ∙ omega (arith, dif_eq))

-- |·|
pub dif_abs : (a b : ℕ) → nat_abs (dif a b) ≡ (a - b) + (b - a)
dif_abs a b = go (sign a b)
  where
    go : {a b : ℕ} → Sign a b → nat_abs (dif a b) ≡ (a - b) + (b - a)
    go (up b k) = ap nat_abs (up_is b k) ∙ omega arith
    go (down a zero) = ap nat_abs (down_is a zero) ∙ omega arith
    go (down a (suc k)) = ap nat_abs (down_is a (suc k)) ∙ omega arith

-- the order
pos-≤ : (k l : ℕ) → (pos k ≤ℤ pos l) ↔ (k ≤ l)
pos-≤ k l = ((λ (h : pos k ≤ℤ pos l). leb→le k l h.le), (λ (h : k ≤ l). le_z_yes (le→leb k l h)))

pos-≤-neg : (k l : ℕ) → (pos k ≤ℤ neg_ℤ (pos l)) ↔ (k + l ≤ 0)
pos-≤-neg k zero = ((λ (h : pos k ≤ℤ pos 0). omega (arith, (pos-≤ k 0).0 h)), (λ (h : k + 0 ≤ 0). (pos-≤ k 0).1 (omega arith)))
pos-≤-neg k (suc l) = ((λ (h : pos k ≤ℤ negsuc l). absurd h.le), (λ (h : k + suc l ≤ 0). absurd (omega arith)))

pub neg_pos : (k l : ℕ) → neg_ℤ (pos k) ≤ℤ pos l
neg_pos zero l = le_z_yes (le→leb 0 l (omega arith))
neg_pos (suc k) l = le_z_yes tt

neg-≤-neg : (k l : ℕ) → (neg_ℤ (pos k) ≤ℤ neg_ℤ (pos l)) ↔ (l ≤ k)
neg-≤-neg zero l = ((λ (h : pos 0 ≤ℤ neg_ℤ (pos l)). omega (arith, (pos-≤-neg 0 l).0 h)), (λ (h : l ≤ 0). (pos-≤-neg 0 l).1 (omega arith)))
neg-≤-neg (suc k) zero = ((λ (h : negsuc k ≤ℤ pos 0). omega arith), (λ (h : 0 ≤ suc k). le_z_yes tt))
neg-≤-neg (suc k) (suc l) = ((λ (h : negsuc k ≤ℤ negsuc l). omega (arith, leb→le l k h.le)), (λ (h : suc l ≤ suc k). le_z_yes (le→leb l k (omega arith))))

pub dif-≤ : (a b c d : ℕ) → (dif a b ≤ℤ dif c d) ↔ (a + d ≤ c + b)
dif-≤ a b c d = go (sign a b) (sign c d)
  where
    go : {a b c d : ℕ} → Sign a b → Sign c d → (dif a b ≤ℤ dif c d) ↔ (a + d ≤ c + b)
    go (up b k) (up d l) = rw (up_is b k, up_is d l) ((λ (h : pos k ≤ℤ pos l). omega (arith, (pos-≤ k l).0 h)), (λ (h : b + k + d ≤ d + l + b). (pos-≤ k l).1 (omega arith)))
    go (up b k) (down c l) = rw (up_is b k, down_is c l) ((λ (h : pos k ≤ℤ neg_ℤ (pos l)). omega (arith, (pos-≤-neg k l).0 h)), (λ (h : b + k + (c + l) ≤ c + b). (pos-≤-neg k l).1 (omega arith)))
    go (down a k) (up d l) = rw (down_is a k, up_is d l) ((λ (h : neg_ℤ (pos k) ≤ℤ pos l). omega arith), (λ (h : a + d ≤ d + l + (a + k)). neg_pos k l))
    go (down a k) (down c l) = rw (down_is a k, down_is c l) ((λ (h : neg_ℤ (pos k) ≤ℤ neg_ℤ (pos l)). omega (arith, (neg-≤-neg k l).0 h)), (λ (h : a + (c + l) ≤ c + (a + k)). (neg-≤-neg k l).1 (omega arith)))

pub pos_dif : (n : ℕ) → pos n ≡ dif n 0
pos_dif n = sym (dif_zero n)

pub negsuc_dif : (n : ℕ) → negsuc n ≡ dif 0 (suc n)
negsuc_dif n = sym (zero_dif (suc n))

pub neg_pos_dif : (n : ℕ) → neg_ℤ (pos n) ≡ dif 0 n
neg_pos_dif n = sym (zero_dif n)

pub ruleset zz = (pos_dif, negsuc_dif, neg_pos_dif, dif-+, dif_neg, dif-*, dif-≡, dif-≤, dif_abs)

-- a hypothesis between two numbers, as the parts have it: rules for `omega`
pub of-≡ : (x y : ℤ) → x ≡ y → pos_part x + neg_part y ≡ pos_part y + neg_part x
of-≡ x y h = simp dif-≡ at (rw (is x, is y) at h)

pub of-≤ : (x y : ℤ) → x ≤ℤ y → pos_part x + neg_part y ≤ pos_part y + neg_part x
of-≤ x y h = simp dif-≤ at (rw (is x, is y) at h)

pub ruleset zarith = (arith, of-≡, of-≤)
