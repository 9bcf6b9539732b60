-- Signed numbers as differences of natural ones. A sum, a difference and a negation are told by the heights alone; one that is small is read from a
-- word as it was written.
use Prim.Native.Nat.{ℕ, zero, suc, ◌+◌, ◌-◌, ◌≤◌, ◌<◌}
use native.Mathlib.Omega.{arith}
use mathlib.Core.Path.{◌≡◌, refl, sym, ap, subst, ◌∙◌}
use mathlib.Core.Bool.{Bool, true, false, cond}
use mathlib.Core.Logic.{◌⊎◌, inl, inr}
use borrow.Author.Tests.{ltb-true, ltb-false}
use lib.Dec.{T, ltb}
use lib.IntN.{ℤ, pos, negsuc, neg_ℤ, sub_ℕ, nat_abs, ◌+ℤ◌, ◌-ℤ◌}
use lib.Signed.{lt_z, non_neg}
use mir.Syntax.{w64}
use mir.Val.{SFits, to_z, of_z}
use mir.ValLaws.{to_z-of_z}
use Rattle.turn.specs.Apart.{Apart, Within}

-- ---- one difference

pub same : (z : ℤ) {x y : ℕ} (x' y' : ℕ) → Apart z x y → x + y' ≡ x' + y → Apart z x' y'
same (pos n) x' y' p e = record { is = let t = p.is in omega arith }
same (negsuc n) x' y' p e = record { is = let t = p.is in omega arith }

pub equal : (z : ℤ) {x y : ℕ} (x' y' : ℕ) → Apart z x y → x ≡ x' → y ≡ y' → Apart z x' y'
equal z x' y' p e f = same z x' y' p (omega arith)

-- a number is the difference of one pair only, but for what both have more
pub both : (z : ℤ) {x y x' y' : ℕ} → Apart z x y → Apart z x' y' → x + y' ≡ x' + y
both (pos n) p q = let s = p.is in let t = q.is in omega arith
both (negsuc n) p q = let s = p.is in let t = q.is in omega arith

-- a pair has one difference only
pub one : (z z' : ℤ) {x y : ℕ} → Apart z x y → Apart z' x y → z ≡ z'
one (pos n) (pos m) p q = ap pos (let s = p.is in let t = q.is in omega arith)
one (pos n) (negsuc m) p q = absurd (let s = p.is in let t = q.is in omega arith)
one (negsuc n) (pos m) p q = absurd (let s = p.is in let t = q.is in omega arith)
one (negsuc n) (negsuc m) p q = ap negsuc (let s = p.is in let t = q.is in omega arith)

pub some : (n : ℕ) → Apart (pos n) n 0
some n = record { is = omega arith }

pub none : (n : ℕ) → Apart (pos 0) n n
none n = record { is = omega arith }

-- a number between -k and k, as a difference from k
pub from : (k : ℕ) (z : ℤ) → Within k z → (x : ℕ) × (Apart z x k × (x ≤ k + k))
from k (pos n) h = (k + n, (record { is = refl }, omega arith))
from k (negsuc n) h = (k - suc n, (record { is = omega arith }, omega arith))

pub within : (k : ℕ) (z : ℤ) {x y : ℕ} → Apart z x y → x ≤ y + k → y ≤ x + k → Within k z
within k (pos n) p h l = let t = p.is in omega arith
within k (negsuc n) p h l = let t = p.is in omega arith

-- ---- sums

pub negated : (z : ℤ) {x y : ℕ} → Apart z x y → Apart (neg_ℤ z) y x
negated (pos zero) p = record { is = let t = p.is in omega arith }
negated (pos (suc n)) p = record { is = let t = p.is in omega arith }
negated (negsuc n) p = record { is = let t = p.is in omega arith }

difference : (x y : ℕ) → Apart (sub_ℕ x y) x y
difference x y = tested (ltb x y) refl
  where
    tested : (t : Bool) → ltb x y ≡ t → Apart (cond t (negsuc (y - suc x)) (pos (x - y))) x y
    tested true e = let h = ltb-true x y e in record { is = omega arith }
    tested false e = let h = ltb-false x y e in record { is = omega arith }

pub sum : (z z' : ℤ) {x y x' y' : ℕ} → Apart z x y → Apart z' x' y' → Apart (z +ℤ z') (x + x') (y + y')
sum (pos a) (pos b) p q = record { is = let s = p.is in let t = q.is in omega arith }
sum (pos a) (negsuc b) p q = let s = p.is in let t = q.is in same (sub_ℕ a (suc b)) _ _ (difference a (suc b)) (omega arith)
sum (negsuc a) (pos b) p q = let s = p.is in let t = q.is in same (sub_ℕ b (suc a)) _ _ (difference b (suc a)) (omega arith)
sum (negsuc a) (negsuc b) p q = record { is = let s = p.is in let t = q.is in omega arith }

pub minus : (z z' : ℤ) {x y x' y' : ℕ} → Apart z x y → Apart z' x' y' → Apart (z -ℤ z') (x + y') (y + x')
minus z z' p q = sum z (neg_ℤ z') p (negated z' q)

-- what it says in signed numbers: z more than y is x
pub adds : (z : ℤ) {x y : ℕ} → Apart z x y → pos x ≡ pos y +ℤ z
adds (pos n) p = ap pos (let t = p.is in omega arith)
adds (negsuc n) {x} {y} p = let t = p.is in one (pos x) (sub_ℕ y (suc n)) (same (pos x) y (suc n) (some x) (omega arith)) (difference y (suc n))

-- ---- tests

pub less : (z z' : ℤ) {x y k : ℕ} → Apart z x k → Apart z' y k → lt_z z z' ≡ true → x < y
less (pos a) (pos b) p q e = let s = p.is in let t = q.is in let h = ltb-true a b e in omega arith
less (pos a) (negsuc b) p q e = let z : ◌≡◌ {A = ℕ} 0 1 = cc in absurd (omega arith)
less (negsuc a) (pos b) p q e = let s = p.is in let t = q.is in omega arith
less (negsuc a) (negsuc b) p q e = let s = p.is in let t = q.is in let h = ltb-true b a e in omega arith

pub not_less : (z z' : ℤ) {x y k : ℕ} → Apart z x k → Apart z' y k → lt_z z z' ≡ false → y ≤ x
not_less (pos a) (pos b) p q e = let s = p.is in let t = q.is in let h = ltb-false a b e in omega arith
not_less (pos a) (negsuc b) p q e = let s = p.is in let t = q.is in omega arith
not_less (negsuc a) (pos b) p q e = let z : ◌≡◌ {A = ℕ} 0 1 = cc in absurd (omega arith)
not_less (negsuc a) (negsuc b) p q e = let s = p.is in let t = q.is in let h = ltb-false b a e in omega arith

-- ---- words

-- what is read of a word
abbrev pub held : ℤ → ℤ
held z = to_z w64 (of_z w64 z)

pub near : (k : ℕ) (z : ℤ) {x y : ℕ} → Apart z x y → Within k z → (x ≤ y + k) × (y ≤ x + k)
near k (pos n) p h = let t = p.is in (omega arith, omega arith)
near k (negsuc n) p h = let t = p.is in (omega arith, omega arith)

within_fits : (z : ℤ) → Within 999 z → SFits w64 z
within_fits (pos n) h = record { sfits = omega arith }
within_fits (negsuc n) h = record { sfits = omega arith }

pub fits : (z : ℤ) {x y : ℕ} → Apart z x y → x ≤ y + 999 → y ≤ x + 999 → SFits w64 z
fits z p h l = within_fits z (within 999 z p h l)

-- what is read of a word is what was written
pub kept : {x y : ℕ} (z : ℤ) → SFits w64 z → Apart z x y → Apart (held z) x y
kept z f p = rw (to_z-of_z w64 z f) p

pub read : (z : ℤ) {x y : ℕ} → Apart z x y → x ≤ y + 999 → y ≤ x + 999 → Apart (held z) x y
read z p h l = kept z (fits z p h l) p

-- what is taken from 0 is the opposite
pub opposite : (z : ℤ) {x y : ℕ} → Apart z x y → x ≤ y + 999 → y ≤ x + 999 → Apart (pos 0 -ℤ held z) y x
opposite z {x} {y} p h l = same (pos 0 -ℤ held z) y x (minus (pos 0) (held z) (some 0) (read z p h l)) (omega arith)

-- what is told of the number 0 up is a word of that number
pub whole : (z : ℤ) {x : ℕ} → Apart z x 0 → T (non_neg z) × (nat_abs z ≡ x)
whole (pos n) p = let t = p.is in (tt, omega arith)
whole (negsuc n) p = let t = p.is in absurd (omega arith)

-- words that are alike hold one number
pub alike : (z z' : ℤ) → SFits w64 z → SFits w64 z' → of_z w64 z ≡ of_z w64 z' → z ≡ z'
alike z z' f g e = sym (to_z-of_z w64 z f) ∙ ap (to_z w64) e ∙ to_z-of_z w64 z' g

-- a number that is tested for being k, and is k, or is not
pub tested : (z k : ℤ) {x y : ℕ} → SFits w64 z → SFits w64 k → of_z w64 z ≡ of_z w64 k → Apart z x y → Apart k x y
tested z k {x} {y} f g e p = subst (λ (i : ℤ). Apart i x y) (alike z k f g e) p

pub refuted : (z k : ℤ) {x y : ℕ} → (of_z w64 z ≡ of_z w64 k → ⊥) → Apart z x y → Apart k x y → ⊥
refuted z k differs p q = differs (ap (of_z w64) (one z k p q))

-- a height that is the same or one less
pub none_or_one : (z : ℤ) {x y : ℕ} → Apart z x y → x ≤ y → y ≤ suc x → (z ≡ pos 0) ⊎ (z ≡ negsuc 0)
none_or_one (pos n) p h l = let t = p.is in inl (ap pos (omega arith))
none_or_one (negsuc n) p h l = let t = p.is in inr (ap negsuc (omega arith))
