-- Two lists are rearrangements of each other if whatever weights the numbers have, both weigh the same; equations between weights are sums.
-- A number weighed as 1 and every other as 0 counts how often it stands there, so a rearrangement has the same members and is as distinct.
use Prim.Native.Nat.{ℕ, zero, ◌+◌, ◌≤◌}
use native.Mathlib.Omega.{arith}
use mathlib.Core.Path.{◌≡◌, refl, sym}
use mathlib.Core.Bool.{true, false}
use mathlib.Core.List.Memᴰ
use mathlib.Core.List.{List, [], ◌∷◌, ◌++◌, Memᴰ}
use lib.Dec.{eqb}
use lib.ListN.{length}
use borrow.Author.Tests.{eqb-true, eq-eqb}
use Rattle.model.specs.Sound.{Distinct}
unfoldable pub use Rattle.model.specs.Sound.{weigh, Rearranged}
use Rattle.model.proofs.Cases.{by_test, by_leb}

-- it goes both ways
pub rearranged_sym : (ms ns : List ℕ) → Rearranged ms ns → Rearranged ns ms
rearranged_sym ms ns same w = sym (same w)

-- two lists joined weigh what both do
pub weigh_append : (w : ℕ → ℕ) (ms ns : List ℕ) → weigh w (ms ++ ns) ≡ weigh w ms + weigh w ns
unfolding weigh
weigh_append w [] ns = omega arith
weigh_append w (m ∷ ms) ns = omega (arith, weigh_append w ms ns)

-- each number weighed as 1, a list weighs its length
weigh_length : (ns : List ℕ) → weigh (λ _. 1) ns ≡ length ns
unfolding weigh
weigh_length [] = refl
weigh_length (n ∷ ns) = omega (arith, weigh_length ns)

-- a rearrangement is as long
pub rearranged_length : (ms ns : List ℕ) → Rearranged ms ns → length ms ≡ length ns
rearranged_length ms ns same = omega (arith, same (λ _. 1), weigh_length ms, weigh_length ns)

-- ---- how often a number stands in a list

-- 1 where the two numbers are the same, else 0
unfoldable hit : ℕ → ℕ → ℕ
hit k n = elim (eqb k n) [ true ↦ 1 | false ↦ zero ]

-- how often k stands in a list
abbrev occurs : ℕ → List ℕ → ℕ
occurs k ns = weigh (hit k) ns

-- two numbers are the same, or they are not
by_hit : {P : Type 0} (k n : ℕ) → (k ≡ n → hit k n ≡ 1 → P) → (hit k n ≡ zero → P) → P
unfolding hit
by_hit k n p q = by_test (eqb k n) (λ e. p (eqb-true k n e) (rw (hit, e))) (λ e. q (rw (hit, e)))

-- a number is the same as itself
hit_same : (k n : ℕ) → k ≡ n → hit k n ≡ 1
unfolding hit
hit_same k n e = rw (hit, eq-eqb k n e)

-- a member occurs
member_occurs : (k : ℕ) (ns : List ℕ) → Memᴰ k ns → 1 ≤ occurs k ns
unfolding weigh
member_occurs k [] x' = elim x' [ ]
member_occurs k (n ∷ ns) (Memᴰ.head e) = omega (arith, hit_same k n e)
member_occurs k (n ∷ ns) (Memᴰ.tail m) = omega (arith, member_occurs k ns m)

-- what occurs is a member
occurs_member : (k : ℕ) (ns : List ℕ) → 1 ≤ occurs k ns → Memᴰ k ns
unfolding weigh
occurs_member k [] h = absurd (omega arith)
occurs_member k (n ∷ ns) h = by_hit k n (λ e _. Memᴰ.head e) (λ miss. Memᴰ.tail (occurs_member k ns (omega arith)))

-- what is no member does not occur
none_occurs : (k : ℕ) (ns : List ℕ) → (Memᴰ k ns → ⊥) → occurs k ns ≡ zero
none_occurs k ns out = by_leb 1 (occurs k ns) (λ _ some. absurd (out (occurs_member k ns some))) (λ _ none. omega arith)

-- where no number stands twice, each occurs at most once
distinct_occurs : (k : ℕ) (ns : List ℕ) → Distinct ns → occurs k ns ≤ 1
unfolding weigh
distinct_occurs k [] d = omega arith
distinct_occurs k (n ∷ ns) d =
    by_hit k n
    (λ e one. let z = none_occurs k ns (λ m. d.0 (Memᴰ.cast (sym e) m)) in omega arith)
    (λ miss. omega (arith, distinct_occurs k ns d.1))

-- and the other way round
occurs_distinct : (ns : List ℕ) → ((k : ℕ) → occurs k ns ≤ 1) → Distinct ns
unfolding weigh
occurs_distinct [] h = tt
occurs_distinct (n ∷ ns) h = (
  λ m. omega (arith, h n, hit_same n n refl, member_occurs n ns m),
  occurs_distinct ns (λ k. omega (arith, h k)),
)

-- ---- what a rearrangement keeps

-- its members
pub rearranged_member : (k : ℕ) (ms ns : List ℕ) → Rearranged ms ns → Memᴰ k ms → Memᴰ k ns
rearranged_member k ms ns same m = occurs_member k ns (omega (arith, same (hit k), member_occurs k ms m))

-- that no number stands twice
pub rearranged_distinct : (ms ns : List ℕ) → Rearranged ms ns → Distinct ms → Distinct ns
rearranged_distinct ms ns same d = occurs_distinct ns (λ k. omega (arith, same (hit k), distinct_occurs k ms d))
