-- When a child leans, what its turn makes of it, and that its parent can be turned then. Only trees are spoken of here, never words.
use Prim.Native.Nat.{ℕ, suc, ◌+◌, ◌-◌, ◌≤◌, max}
use native.Mathlib.Omega.{arith}
use mathlib.Core.Path.{◌≡◌, refl}
use mathlib.Core.Bool.{Bool, true, false}
use mathlib.Core.List.{List}
use Rattle.model.specs.Sound.{Balanced, Rearranged}
use Rattle.model.specs.Tree.{Tree, leaf, fork, top, marks, height, numbers}
use Rattle.model.specs.Turn.{leaning_left, leaning_right}
use Rattle.model.proofs.Cases.{leaning_left_cases, leaning_right_cases}
use Rattle.model.proofs.Content.{turn_left_marks, turn_right_marks}
use Rattle.model.proofs.Numbers.{numbers_weight, turn_left_weight, turn_right_weight}
use Rattle.turn.specs.Forks.{Leans, joined}
use Rattle.model.specs.Side.{side}
use Rattle.turn.specs.Words.{leaning, turn}
use Rattle.turn.proofs.Joined.{by_sides, joined_height, joined_balanced, turned_is}

-- ---- the balance

-- the balance that is read for a tree, as it is stored; a leaf does not lean
abbrev pub balance_of : Tree → ℕ
balance_of (leaf n xs) = 0
balance_of (fork n l r) = (height r + 2) - height l

pub balance_small : (t : Tree) → Balanced t → balance_of t ≤ 3
balance_small (leaf n xs) h = omega arith
balance_small (fork n l r) h = omega arith

-- it leans to the other side
abbrev pub Away : Bool → Tree → Type 0
Away left t = side left (balance_of t) 2 ≡ suc (side left 2 (balance_of t))

pub away_most : (left : Bool) (t : Tree) → Balanced t → side left (balance_of t) 2 ≤ side left 2 (balance_of t) + 2
away_most true t b = omega (arith, balance_small t b)
away_most false t b = omega arith

leaf_stands : (left : Bool) (n : ℕ) (xs : List Bool) → Away left (leaf n xs) → ⊥
leaf_stands true n xs h = omega arith
leaf_stands false n xs h = omega arith

away : (left : Bool) (n : ℕ) (x y : Tree) → height y ≡ height x + 1 → Away left (joined left n x y)
away true n x y h = omega arith
away false n x y h = omega arith

away_by : (left : Bool) (n : ℕ) (x y : Tree) → Balanced (joined left n x y) → Away left (joined left n x y) → height y ≡ height x + 1
away_by true n x y b h = omega arith
away_by false n x y b h = omega arith

-- ---- a child that leans

-- the child of a tree on the other side that is the higher one is a fork
far_fork : (left : Bool) (P : Tree → Type 0) (x : Tree) → ((b : ℕ) (c e : Tree) → height (joined left b c e) ≡ height x + 1 → P (joined left b c e))
    → (y : Tree) → height y ≡ height x + 1 → P y
unfolding height
far_fork left P x p = by_sides left (λ (y : Tree). height y ≡ height x + 1 → P y) (λ n xs h. absurd (omega arith)) p

pub leans_away : (left : Bool) (P : Tree → Type 0) (t : Tree) → Balanced t → Away left t
    → ((n b : ℕ) (a c e : Tree) → Leans (height e) (height c) (height a) → height (joined left b c e) ≡ height a + 1
    → P (joined left n a (joined left b c e))) → P t
leans_away left P t bal h p =
    by_sides left (λ (t : Tree). Balanced t → Away left t → P t)
    (λ n xs bal h. absurd (leaf_stands left n xs h))
    (λ n x y bal h.
    far_fork left (λ (y : Tree). Balanced (joined left n x y) → P (joined left n x y)) x
    (λ b c e high bal.
    let k = joined_height left b c e in
    let z = joined_balanced left b c e (joined_balanced left n x (joined left b c e) bal).far in
    p n b x c e (omega arith) high)
    y (away_by left n x y bal h) bal)
    t bal h

-- it is turned, or it stays
leaning_cases : (left : Bool) (P : Tree → Type 0) (n : ℕ) (x y : Tree) → (height y ≡ height x + 1 → P (turn left (joined left n x y)))
    → ((height y ≡ height x + 1 → ⊥) → P (joined left n x y)) → P (leaning left (joined left n x y))
leaning_cases true P n x y = leaning_left_cases P n x y
leaning_cases false P n x y = leaning_right_cases P n y x

leaning_leaf : (left : Bool) (n : ℕ) (xs : List Bool) → leaning left (leaf n xs) ≡ leaf n xs
unfolding leaning_left leaning_right
leaning_leaf true n xs = refl
leaning_leaf false n xs = refl

pub leaning_turns : (left : Bool) (n : ℕ) (x y : Tree) → height y ≡ height x + 1 → leaning left (joined left n x y) ≡ turn left (joined left n x y)
leaning_turns left n x y h =
    leaning_cases left (λ (t : Tree). t ≡ turn left (joined left n x y)) n x y (λ _. refl) (λ other. absurd (other h))

pub leaning_stays : (left : Bool) (t : Tree) → (Away left t → ⊥) → leaning left t ≡ t
leaning_stays left =
    by_sides left (λ (t : Tree). (Away left t → ⊥) → leaning left t ≡ t) (λ n xs h. leaning_leaf left n xs)
    (λ n x y h. leaning_cases left (λ (t : Tree). t ≡ joined left n x y) n x y (λ e. absurd (h (away left n x y e))) (λ _. refl))

-- ---- what the fork above holds of it

-- one tree in the place of another: what the fork above holds of it is the same
pub record Alike (t u : Tree) : Type 0 where
  pub top_is : top u ≡ top t
  pub marks_are : marks u ≡ marks t
  pub height_is : height u ≡ height t
  pub numbers_are : Rearranged (numbers t) (numbers u)

alike_itself : (t : Tree) → Alike t t
alike_itself t = record { top_is = refl; marks_are = refl; height_is = refl; numbers_are = λ w. refl }

turn_marks : (left : Bool) (t : Tree) → marks (turn left t) ≡ marks t
turn_marks true t = turn_left_marks t
turn_marks false t = turn_right_marks t

turn_numbers : (left : Bool) (t : Tree) → Rearranged (numbers t) (numbers (turn left t))
turn_numbers true t w = simp (numbers_weight, turn_left_weight)
turn_numbers false t w = simp (numbers_weight, turn_right_weight)

alike_turned : (left : Bool) (n : ℕ) (x y : Tree) → height y ≡ height x + 1 → Alike (joined left n x y) (turn left (joined left n x y))
unfolding top
alike_turned left n x y h =
    far_fork left (λ (y : Tree). Alike (joined left n x y) (turn left (joined left n x y))) x
    (λ b c e high.
    let t = joined left n x (joined left b c e) in
    let is = turned_is left n b x c e in
    let k = joined_height left b c e in
    let j = joined_height left n x (joined left b c e) in
    let k' = joined_height left b x c in
    let j' = joined_height left n (joined left b x c) e in
    record { top_is = rw is; marks_are = turn_marks left t; height_is = rw is (omega arith); numbers_are = turn_numbers left t })
    y h

pub leaning_alike : (left : Bool) (t : Tree) → Alike t (leaning left t)
leaning_alike left =
    by_sides left (λ (t : Tree). Alike t (leaning left t)) (λ n xs. rw (leaning_leaf left n xs) (alike_itself (leaf n xs)))
    (λ n x y. leaning_cases left (Alike (joined left n x y)) n x y (alike_turned left n x y) (λ _. alike_itself (joined left n x y)))

-- ---- its parent is turned then

-- a child that has been turned
turned_leans : {h j : ℕ} (e c d a : ℕ) → j ≡ suc (max c d) → j ≡ e + 1 → h ≡ suc (max e j) → h ≡ a + 2 → c ≤ suc d → Leans (suc (max e c)) d a
turned_leans {h} {j} e c d a p q r s few =
    let same : a ≡ e = omega (arith, q, r, s) in
    let high : max c d ≡ e = omega (arith, p, q) in
    record { inner = omega arith; outer = omega arith; higher = omega arith; most = omega arith }

-- a child that is two levels higher than the other, once it does not lean to the other side
pub ready : (left : Bool) (P : Tree → Type 0) (a x : Tree) → Balanced x → height x ≡ height a + 2
    → ((b : ℕ) (e c : Tree) → Leans (height e) (height c) (height a) → P (joined left b e c)) → P (leaning left x)
unfolding height
ready left P a x bal h p =
    by_sides left (λ (x : Tree). Balanced x → height x ≡ height a + 2 → P (leaning left x))
    (λ n xs bal h. absurd (omega arith))
    (λ n e c bal h.
    let z = joined_balanced left n e c bal in
    let k = joined_height left n e c in
    leaning_cases left P n e c
    (λ high.
    far_fork left (λ (c : Tree). Balanced (joined left n e c) → height (joined left n e c) ≡ height a + 2 → P (turn left (joined left n e c))) e
    (λ b c d high bal h.
    let y = joined_balanced left b c d (joined_balanced left n e (joined left b c d) bal).far in
    let leans =
    turned_leans (height e) (height c) (height d) (height a) (joined_height left b c d) high (joined_height left n e (joined left b c d)) h
    y.near_most in
    rw (turned_is left n b e c d) (p n (joined left b e c) d (rw (joined_height left b e c) leans)))
    c high bal h)
    (λ stands. p n e c (omega arith)))
    x bal h
