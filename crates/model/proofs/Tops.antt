-- The number at the top of a tree stays there: in a turn, in balancing, and so in an insert.
use Prim.Native.Nat.{ℕ, ◌-◌}
use mathlib.Core.Path.{◌≡◌, refl}
use mathlib.Core.Bool.{Bool}
use mathlib.Core.List.{List}
use Rattle.model.specs.Edit.{insert}
use Rattle.model.specs.Marks as Marks
use Rattle.model.specs.Tree.{Tree, leaf, fork, top, size}
use Rattle.model.specs.Turn.{turn_right, turn_left, leaning_left, leaning_right, rebalance}
use Rattle.model.proofs.Cases.{insert_cases, rebalance_cases, settle_cases}

pub turn_left_top : (n : ℕ) (a r : Tree) → top (turn_left (fork n a r)) ≡ n
unfolding top turn_left
turn_left_top n a (leaf b xs) = refl
turn_left_top n a (fork b c e) = refl

pub turn_right_top : (n : ℕ) (l e : Tree) → top (turn_right (fork n l e)) ≡ n
unfolding top turn_right
turn_right_top n (leaf b xs) e = refl
turn_right_top n (fork b a c) e = refl

pub rebalance_top : (n : ℕ) (l r : Tree) → top (rebalance n l r) ≡ n
unfolding top
rebalance_top n l r =
    rebalance_cases (λ (t : Tree). top t ≡ n) n l r
    (λ _. turn_right_top n (leaning_left l) r)
    (λ _. turn_left_top n l (leaning_right r))
    (λ _ _. refl)

pub insert_top : (i : ℕ) (b : Bool) (free : List ℕ) (t : Tree) → top (insert i b free t) ≡ top t
unfolding insert top
insert_top i b free (leaf n xs) = settle_cases (λ (t : Tree). top t ≡ n) n (Marks.insert i b xs) free (λ _. refl) (λ _. refl)
insert_top i b free (fork n l r) =
    insert_cases (λ (t : Tree). top t ≡ n) i b free n l r
    (λ _. rebalance_top n (insert i b free l) r)
    (λ _. rebalance_top n l (insert (i - size l) b free r))
