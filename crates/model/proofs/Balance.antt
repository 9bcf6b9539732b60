-- Turning restores balance: where one child is two levels higher than the other, the turned tree is balanced again, and as high as the
-- higher child or one level more. Only heights are spoken of here, never marks.
use Prim.Native.Nat.{ℕ, zero, suc, ◌+◌, ◌-◌, ◌≤◌, max}
use native.Mathlib.Omega.{arith}
use mathlib.Core.Path.{◌≡◌, refl}
use mathlib.Core.Bool.{Bool}
use mathlib.Core.List.{List}
use Rattle.model.specs.Marks as Marks
use Rattle.model.specs.Tree.{Tree, leaf, fork, size, height}
use Rattle.model.specs.Turn.{turn_right, turn_left, leaning_left, leaning_right, rebalance}
use Rattle.model.specs.Sound.{Balanced}
use Rattle.model.specs.Edit.{settle, insert}
use Rattle.model.proofs.Cases.{leaning_left_cases, leaning_right_cases, rebalance_cases, settle_cases, insert_cases}

-- balanced, and so many levels high or one more
pub record Grown (h : ℕ) (t : Tree) : Type 0 where
  pub balanced : Balanced t
  pub least : h ≤ height t
  pub most : height t ≤ suc h

-- What balancing makes of l and r: balanced, as high as the higher of the two or one level more, and one more for certain where the two
-- differ by one level at most.
pub record Rebalanced (l r t : Tree) : Type 0 where
  pub balanced : Balanced t
  pub least : max (height l) (height r) ≤ height t
  pub most : height t ≤ suc (max (height l) (height r))
  pub level : suc (max (height l) (height r)) ≤ height t + (height l - suc (height r)) + (height r - suc (height l))

-- ---- turns

-- A first turn never changes the child's height: a left child whose right side is one level higher, turned left before its parent is turned
-- right, is as high as it was. That holds of any tree, balanced or not, since only a tree that leans so is turned.
pub first_turn_left : (l : Tree) → height (leaning_left l) ≡ height l
unfolding height turn_left leaning_left
first_turn_left (leaf n xs) = refl
first_turn_left (fork n a (leaf k xs)) =
    leaning_left_cases (λ (t : Tree). height t ≡ height (fork n a (leaf k xs))) n a (leaf k xs) (λ leans. absurd (omega arith)) (λ _. refl)
first_turn_left (fork n a (fork k c e)) =
    leaning_left_cases (λ (t : Tree). height t ≡ height (fork n a (fork k c e))) n a (fork k c e) (λ leans. omega arith) (λ _. refl)

-- the mirror image
pub first_turn_right : (r : Tree) → height (leaning_right r) ≡ height r
unfolding height turn_right leaning_right
first_turn_right (leaf n xs) = refl
first_turn_right (fork n (leaf k xs) e) =
    leaning_right_cases (λ (t : Tree). height t ≡ height (fork n (leaf k xs) e)) n (leaf k xs) e (λ leans. absurd (omega arith)) (λ _. refl)
first_turn_right (fork n (fork k a c) e) =
    leaning_right_cases (λ (t : Tree). height t ≡ height (fork n (fork k a c) e)) n (fork k a c) e (λ leans. omega arith) (λ _. refl)

-- a left child that leans right is turned left, and then its parent right
double_right : (n m : ℕ) (a c r : Tree) → Balanced (fork m a c) → Balanced r → height (fork m a c) ≡ height r + 2 → height c ≡ height a + 1
    → Grown (height (fork m a c)) (turn_right (fork n (turn_left (fork m a c)) r))
unfolding height turn_right turn_left
double_right n m a (leaf k xs) r bl br h e = absurd (omega arith)
double_right n m a (fork k c d) r bl br h e = search arith

-- the mirror image
double_left : (n m : ℕ) (l c a : Tree) → Balanced l → Balanced (fork m c a) → height (fork m c a) ≡ height l + 2 → height c ≡ height a + 1
    → Grown (height (fork m c a)) (turn_left (fork n l (turn_right (fork m c a))))
unfolding height turn_right turn_left
double_left n m l (leaf k xs) a bl br h e = absurd (omega arith)
double_left n m l (fork k c d) a bl br h e = search arith

-- a child that is two levels higher than the other, leaning or not
turned_right : (n : ℕ) (l r : Tree) → Balanced l → Balanced r → height l ≡ height r + 2 → Grown (height l) (turn_right (fork n (leaning_left l) r))
unfolding height turn_right leaning_left
turned_right n (leaf m xs) r bl br h = absurd (omega arith)
turned_right n (fork m a c) r bl br h =
    leaning_left_cases (λ (t : Tree). Grown (height (fork m a c)) (turn_right (fork n t r))) m a c
    (λ leans. double_right n m a c r bl br h leans)
    (λ stands. search arith)

-- the mirror image
turned_left : (n : ℕ) (l r : Tree) → Balanced l → Balanced r → height r ≡ height l + 2 → Grown (height r) (turn_left (fork n l (leaning_right r)))
unfolding height turn_left leaning_right
turned_left n l (leaf m xs) bl br h = absurd (omega arith)
turned_left n l (fork m c a) bl br h =
    leaning_right_cases (λ (t : Tree). Grown (height (fork m c a)) (turn_left (fork n l t))) m c a
    (λ leans. double_left n m l c a bl br h leans)
    (λ stands. search arith)

-- balancing two children that differ by two levels at most
pub rebalance_balanced : (n : ℕ) (l r : Tree) → Balanced l → Balanced r → height l ≤ height r + 2 → height r ≤ height l + 2
    → Rebalanced l r (rebalance n l r)
unfolding height
rebalance_balanced n l r bl br p q =
    rebalance_cases (Rebalanced l r) n l r
    (λ high. let g = turned_right n l r bl br high in search arith)
    (λ high. let g = turned_left n l r bl br high in search arith)
    (λ no_left no_right. search arith)

-- children that differ by one level at most are left as they are
pub rebalance_level : (n : ℕ) (l r : Tree) → height l ≤ suc (height r) → height r ≤ suc (height l) → rebalance n l r ≡ fork n l r
rebalance_level n l r p q =
    rebalance_cases (λ (t : Tree). t ≡ fork n l r) n l r (λ high. absurd (omega arith)) (λ high. absurd (omega arith)) (λ _ _. refl)

-- ---- insert

-- a leaf, split or not
settle_balanced : (n : ℕ) (xs : List Bool) (free : List ℕ) → Grown zero (settle n xs free)
unfolding height
settle_balanced n xs free = settle_cases (Grown zero) n xs free (λ _. search arith) (λ _. search arith)

-- an insert keeps a tree balanced, and makes it at most one level higher
pub insert_balanced : (i : ℕ) (b : Bool) (free : List ℕ) (t : Tree) → Balanced t → Grown (height t) (insert i b free t)
unfolding insert height
insert_balanced i b free (leaf n xs) h = settle_balanced n (Marks.insert i b xs) free
insert_balanced i b free (fork n l r) h =
    insert_cases (Grown (height (fork n l r))) i b free n l r
    (λ left.
    let g = insert_balanced i b free l h.0 in
    let t = rebalance_balanced n (insert i b free l) r g.balanced h.1 (omega arith) (omega arith) in
    search arith)
    (λ right.
    let g = insert_balanced (i - size l) b free r h.1 in
    let t = rebalance_balanced n l (insert (i - size l) b free r) h.0 g.balanced (omega arith) (omega arith) in
    search arith)
