-- The numbers from n on, so many of them: which they are, that none stands twice, and that they can be had in two parts.
-- Nothing here knows a tree.
use Prim.Native.Nat.{ℕ, zero, suc, ◌+◌, ◌≤◌, ◌<◌}
use native.Mathlib.Omega.{arith}
use native.Mathlib.Nat.{zero-add, add-zero, suc-add}
use mathlib.Core.Path.{◌≡◌, refl, ap}
use mathlib.Core.List.Memᴰ
use mathlib.Core.List.{List, ◌∷◌, Memᴰ}
use lib.ListN.{length}
use Rattle.model.specs.Pool.{numbers_from}
use Rattle.model.specs.Sound.{Distinct}
use Rattle.model.proofs.Cases.{by_leb}
use Rattle.model.proofs.Rearranged.{weigh}

-- there are so many
pub numbers_from_length : (n k : ℕ) → length (numbers_from n k) ≡ k
unfolding numbers_from
numbers_from_length n zero = refl
numbers_from_length n (suc k) = ap suc (numbers_from_length (suc n) k)

-- a member is the first, or one of the others
by_member : {P : Type 0} {m n : ℕ} {ns : List ℕ} → Memᴰ m (n ∷ ns) → (m ≡ n → P) → (Memᴰ m ns → P) → P
by_member (Memᴰ.head e) p q = p e
by_member (Memᴰ.tail h) p q = q h

-- they lie from n on, below n + k
pub numbers_from_bounds : (m n k : ℕ) → Memᴰ m (numbers_from n k) → (n ≤ m) × (m < n + k)
unfolding numbers_from
numbers_from_bounds m n zero h = absurd (Memᴰ.not-nil h)
numbers_from_bounds m n (suc k) h = by_member h (λ e. omega arith) (λ later. omega (arith, numbers_from_bounds m (suc n) k later))

-- and they are all that lie there
pub numbers_from_member : (m n k : ℕ) → n ≤ m → m < n + k → Memᴰ m (numbers_from n k)
unfolding numbers_from
numbers_from_member m n zero low high = absurd (omega arith)
numbers_from_member m n (suc k) low high =
    by_leb m n (λ _ h. Memᴰ.head (omega arith)) (λ _ h. Memᴰ.tail (numbers_from_member m (suc n) k (omega arith) (omega arith)))

-- none stands twice
pub numbers_from_distinct : (n k : ℕ) → Distinct (numbers_from n k)
unfolding numbers_from
numbers_from_distinct n zero = tt
numbers_from_distinct n (suc k) = (λ h. omega (arith, numbers_from_bounds n (suc n) k h), numbers_from_distinct (suc n) k)

-- so many numbers, and then so many more
pub numbers_more : (w : ℕ → ℕ) (n j k : ℕ) → weigh w (numbers_from n (j + k)) ≡ weigh w (numbers_from n j) + weigh w (numbers_from (n + j) k)
unfolding weigh numbers_from
numbers_more w n zero k = simp (zero-add, add-zero)
numbers_more w n (suc j) k =
    let e : n + suc j ≡ suc n + j = omega arith in
    rw (e, suc-add j k) (omega (arith, numbers_more w (suc n) j k))
