-- How far down a tree a question goes: one step for each fork that it passes.
use Rattle.std.specs.Prelude.{ℕ, zero, suc, ◌-◌, Bool, true, false, leb, ltb}
use Rattle.model.specs.Marks.{count}
use Rattle.model.specs.Tree.{Tree, leaf, fork, marks, size}

-- every leaf is at most so many steps below the top
abbrev pub Within : ℕ → Tree → Type 0
Within k (leaf n xs) = Unit {0}
Within zero (fork n l r) = ⊥
Within (suc k) (fork n l r) = Within k l × Within k r

-- the steps to the leaf that place i leads to, as access, rank, an insert and a remove take them
unfoldable pub steps_to : ℕ → Tree → ℕ
steps_to i (leaf n xs) = zero
steps_to i (fork n l r) = suc (elim (ltb i (size l)) [ true ↦ steps_to i l | false ↦ steps_to (i - size l) r ])

-- the steps to the leaf in which select looks for the k-th mark that is b, k counted from 1
unfoldable pub steps_for : Bool → ℕ → Tree → ℕ
steps_for b k (leaf n xs) = zero
steps_for b k (fork n l r) =
    let here : ℕ = count b (marks l) in
    suc (elim (leb k here) [ true ↦ steps_for b k l | false ↦ steps_for b (k - here) r ])
