-- Round upon round: the trees that wait and the rounds still to come make the same tree, until one tree is left, and that is the tree.
use Prim.Native.Nat.{ℕ, zero, suc, ◌+◌, ◌-◌, ◌/◌, ◌≤◌}
use native.Mathlib.Omega.{arith}
use mathlib.Core.Path.{◌≡◌, refl, sym, ap, ap₂, ◌∙◌}
use mathlib.Core.List.{List, [], ◌∷◌}
use lib.ListN.{length}
use Rattle.model.specs.Build.{round, rounds}
use Rattle.model.specs.Tree.{Tree}
use Rattle.build.specs.Waiting.{Finished, Rounded, Waiting}
use Rattle.build.specs.declared.building.Row.{Row}
use Rattle.build.proofs.OneRound.{round_halves, rounds_lone}

-- some trees wait, and rounds on them make the tree t
pub record InRounds (w : List ℕ) (r : Row) (next : ℕ) (t : Tree) : Type 0 where
  pub trees : List Tree
  pub more : ℕ
  pub outcome : rounds more next trees ≡ t
  pub enough : r.count ≤ suc more
  pub waits : Waiting w next r trees

pub first_round : {w : List ℕ} {r : Row} (ts : List Tree) → Waiting w r.count r ts → InRounds w r r.count (rounds r.count r.count ts)
first_round {r = r} ts p = record { trees = ts; more = r.count; outcome = refl; enough = omega arith; waits = p }

-- one round fewer to come
fewer : (k n count : ℕ) (ts : List Tree) (t : Tree) → length ts ≡ count → 2 ≤ count → rounds (suc k) n ts ≡ t
    → rounds k (n + (count - count / 2)) (round n ts) ≡ t
unfolding rounds
fewer k n count ts t e some p =
    let half : length (round n ts) ≡ count / 2 = round_halves n ts (omega arith) ∙ ap (λ (m : ℕ). m / 2) e in
    ap (λ (m : ℕ). rounds k (n + m) (round n ts)) (sym (ap₂ (λ (x y : ℕ). x - y) e half)) ∙ p

module _ {w w' : List ℕ} {r made : Row} {next n : ℕ} (t : Tree) (some : 2 ≤ r.count) (went : Rounded w w' r made next)
    (on : n ≡ next + (r.count - r.count / 2)) where
  next_round : (trees : List Tree) (more : ℕ) → rounds more next trees ≡ t → r.count ≤ suc more → Waiting w next r trees → InRounds w' made n t
  next_round trees zero outcome enough p = absurd (omega arith)
  next_round trees (suc more) outcome enough p =
      record {
        trees = round next trees;
        more = more;
        outcome = rw on (fewer more next r.count trees t p.many some outcome);
        enough = omega (arith, went.half);
        waits = rw on (went.done trees p);
      }

  -- a round over: half the trees, and a number taken for each of the others
  pub round_over : InRounds w r next t → InRounds w' made n t
  round_over p = next_round p.trees p.more p.outcome p.enough p.waits

-- one tree left
last_tree : {w : List ℕ} {r : Row} {n : ℕ} (t : Tree) (trees : List Tree) (more : ℕ) → rounds more n trees ≡ t → r.count ≡ 1 → Waiting w n r trees
    → Finished w n t r.last.tree.node
last_tree t [] more outcome one p = absurd (omega (arith, p.many))
last_tree {n = n} t (u ∷ []) more outcome one p =
    let same : u ≡ t = sym (rounds_lone more n u) ∙ outcome in
    rw (← same) (record { at = p.trees.node; holds = p.trees.holds; below = p.trees.below })
last_tree t (u ∷ v ∷ trees) more outcome one p = absurd (omega (arith, p.many))

pub last_round : {w : List ℕ} {r : Row} {next : ℕ} {t : Tree} → InRounds w r next t → r.count ≡ 1 → Finished w next t r.last.tree.node
last_round {t = t} p one = last_tree t p.trees p.more p.outcome one p.waits
