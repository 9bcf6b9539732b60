-- A built tree has the numbers from 0 on, each once, as many as it has nodes: the leaves take the first, and each round's forks the next.
-- A pool of N nodes that is built has the numbers below N, in its tree and its free chain.
use Prim.Native.Nat.{ℕ, zero, suc, ◌+◌, ◌-◌, ◌*◌}
use native.Mathlib.Omega.{arith}
use native.Mathlib.Nat.{zero-add}
use mathlib.Core.Path.{◌≡◌}
use mathlib.Core.Bool.{Bool}
use mathlib.Core.List.{List, [], ◌∷◌, reverse, reverse_aux}
use Rattle.std.specs.Prelude.{Option, Some}
use lib.ListN.{length, take, drop, length-reverse}
use Rattle.model.specs.Tree.{Tree, leaf, numbers}
use Rattle.model.specs.Build.{leaf_built, leaf_count, built_leaves, round}
use Rattle.model.specs.Build as Build
use Rattle.model.specs.Sound.{Distinct}
use Rattle.model.specs.Pool.{Pool, numbers_from, nodes_for, build}
use Rattle.model.proofs.PoolCases.{build_outcomes}
use Rattle.model.proofs.NumbersFrom.{numbers_more, numbers_from_distinct}
use Rattle.model.proofs.Rounds.{next_number, round_most, built_leaves_length, build_keeps}
use Rattle.model.proofs.Rearranged.{weigh, Rearranged, rearranged_distinct}
use Rattle.model.proofs.Numbers.{weight, numbers_weight}
use Rattle.model.proofs.PoolNumbers.{all_numbers, all_weight}

-- what the numbers of some trees weigh
unfoldable all_weigh : (ℕ → ℕ) → List Tree → ℕ
all_weigh w [] = zero
all_weigh w (t ∷ ts) = weight w t + all_weigh w ts

-- the leaves have the first numbers
leaves_weigh : (w : ℕ → ℕ) (n k : ℕ) (xs : List Bool) (seen : List Tree)
    → all_weigh w (reverse_aux (built_leaves n k xs) seen) ≡ weigh w (numbers_from n k) + all_weigh w seen
unfolding all_weigh built_leaves numbers_from weigh weight
leaves_weigh w n zero xs seen = omega arith
leaves_weigh w n (suc k) xs seen = omega (arith, leaves_weigh w (suc n) k (drop leaf_built xs) (leaf n (take leaf_built xs) ∷ seen))

-- a round takes a number for each tree that it saves
round_weigh : (w : ℕ → ℕ) (n : ℕ) (ts : List Tree)
    → all_weigh w (round n ts) ≡ all_weigh w ts + weigh w (numbers_from n (length ts - length (round n ts)))
unfolding all_weigh round numbers_from weigh weight
round_weigh w n [] = omega arith
round_weigh w n (t ∷ []) = omega arith
round_weigh w n (r ∷ l ∷ []) = omega arith
round_weigh w n (r ∷ l ∷ odd ∷ []) = omega arith
round_weigh w n (r ∷ l ∷ s ∷ t ∷ more) =
    let rest : List Tree = s ∷ t ∷ more in
    let e : suc (suc (length rest)) - suc (length (round (suc n) rest)) ≡ suc (length rest - length (round (suc n) rest)) =
    omega (arith, round_most (suc n) rest) in
    rw e (omega (arith, round_weigh w (suc n) (s ∷ t ∷ more)))

-- what the rounds keep, so many leaves having been made: the trees have the numbers below n, and n and the trees make twice the leaves
record Numbered (leaves n : ℕ) (ts : List Tree) : Type 0 where
  twice : n + length ts ≡ 2 * leaves
  below : (w : ℕ → ℕ) → all_weigh w ts ≡ weigh w (numbers_from zero n)

-- a round keeps it
round_numbered : (leaves n : ℕ) (ts : List Tree) → Numbered leaves n ts → Numbered leaves (next_number n ts) (round n ts)
unfolding next_number
round_numbered leaves n ts p =
    let saved : ℕ = length ts - length (round n ts) in
    record {
      twice = omega (arith, round_most n ts);
      below = λ w. omega (arith, round_weigh w n ts, p.below w, rw zero-add at (numbers_more w zero n saved));
    }

-- a built tree has the numbers from 0 on, one for each node
pub build_numbers : (xs : List Bool) → Rearranged (numbers_from zero (nodes_for (leaf_count (length xs)))) (numbers (Build.build xs))
unfolding nodes_for all_weigh
build_numbers xs w =
    let k : ℕ = leaf_count (length xs) in
    let e : length (reverse (built_leaves zero k xs)) ≡ k = simp (length-reverse, built_leaves_length) in
    let start : Numbered k k (reverse (built_leaves zero k xs)) =
    record { twice = omega arith; below = λ w. omega (arith, leaves_weigh w zero k xs []) } in
    let end = build_keeps (Numbered k) (round_numbered k) xs start in
    let m : 2 * k - 1 ≡ end.0 = omega (arith, end.1.twice) in
    rw (nodes_for, m, numbers_weight) (omega (arith, end.1.below w))

-- a built pool of so many nodes has the numbers below that, each once
pub pool_numbers : (n : ℕ) (xs : List Bool) (p : Pool) → build n xs ≡ Some p → Rearranged (numbers_from zero n) (all_numbers p)
pool_numbers n xs p =
    let need : ℕ = nodes_for (leaf_count (length xs)) in
    build_outcomes (λ (o : Option Pool). o ≡ Some p → Rearranged (numbers_from zero n) (all_numbers p)) n xs
    (λ _ e. let z : ◌≡◌ {A = ℕ} 0 1 = cc in absurd (omega arith))
    (λ room e w.
    let z : p ≡ record { tree = Build.build xs; free = numbers_from need (n - need) } = cc in
    let fits : need + (n - need) ≡ n = omega arith in
    let all = rw (zero-add, fits) at (numbers_more w zero need (n - need)) in
    rw (z, all_weight) (omega (arith, build_numbers xs w, numbers_weight w (Build.build xs), all)))

-- so no number of a built pool stands twice
pub pool_distinct : (n : ℕ) (xs : List Bool) (p : Pool) → build n xs ≡ Some p → Distinct (all_numbers p)
pool_distinct n xs p e = rearranged_distinct (numbers_from zero n) (all_numbers p) (pool_numbers n xs p e) (numbers_from_distinct zero n)
