-- What the builder goes through: the trees that wait to be joined, what is known of each by its place, and what each
-- of its steps asks and leaves.
use Rattle.std.specs.Prelude.{ℕ, zero, suc, ◌+◌, ◌-◌, ◌*◌, ◌/◌, ◌^◌, ◌≤◌, ◌<◌, max, ◌≡◌, Bool, true, length, take, drop}
use mathlib.Core.List.{List, [], ◌∷◌, Memᴰ, reverse}
use Rattle.model.specs.Build.{built_leaves, leaf_built, leaf_count, round, rounds}
use Rattle.model.specs.Edit.{leaf_least}
use Rattle.model.specs.Limits.{levels, most_leaves, most_nodes}
use Rattle.model.specs.Marks.{count}
use Rattle.model.specs.Pool.{numbers_from}
use Rattle.model.specs.Sound.{Sized}
use Rattle.model.specs.Tree.{Tree, top, marks, size, height, numbers}
use Rattle.model.specs.Word.{marks_of}
use Rattle.pool.specs.Node.{fork_cell, node_at, nodes_in, put}
use Rattle.pool.specs.Layout.{Chained, Holds}
use Rattle.pool.specs.declared.chain.Chain.{Chain}
use Rattle.pool.specs.declared.node.Fork.{Fork}
use Rattle.tree.specs.TreeAt.{TreeAt}
use Rattle.build.specs.declared.building.Item.{Item}
use Rattle.build.specs.declared.building.Row.{Row}

-- ---- one leaf

-- the marks of the leaf i, where so many marks of these words are built
unfoldable pub leaf_marks : List ℕ → ℕ → ℕ → List Bool
leaf_marks words length i = take leaf_built (drop (i * leaf_built) (take length (marks_of words)))

-- ---- what is known of a tree by its place in a row

-- its number: the leaves' fall from the rightmost on, the forks' rise
abbrev pub number_at : ℕ → ℕ → ℕ → ℕ
number_at zero first at = first - at
number_at (suc h) first at = first + at

-- all but the last are alike
abbrev pub item_at : Row → ℕ → Item
item_at r at = record { tree = record { node = number_at r.height r.first at; length = r.total }; height = r.height }

-- the leaves' row
abbrev pub leaf_row : ℕ → Row
leaf_row leaves =
    record {
      first = leaves - 1;
      total = leaf_built;
      height = 0;
      count = leaves;
      last = record { tree = record { node = 0; length = leaf_built }; height = 0 };
    }

-- the row after a round, the forks' numbers from `next` on, with its last tree
abbrev pub row_above : Row → ℕ → Item → Row
row_above r next last =
    record { first = next; total = r.total * 2; height = suc r.height; count = r.count / 2; last = last }

-- ---- two trees, joined

-- the fork over two of them, so many of the left one's marks being strikes, and what is known of it at n
abbrev pub fork_over : Item → Item → ℕ → Fork
fork_over l r ones =
    record {
      left = l.tree.node;
      right = r.tree.node;
      left_total = l.tree.length;
      left_ones = ones;
      balance = (r.height + 2) - l.height;
    }

abbrev pub item_over : ℕ → Item → Item → Item
item_over n l r =
    record { tree = record { node = n; length = l.tree.length + r.tree.length }; height = suc (max l.height r.height) }

-- small enough to be joined: the balance is no less than -2, and all sums fit
pub record Small (l r : Item) : Type 0 where
  pub even : l.height ≤ r.height + 2
  pub left : l.height < 2 ^ 32
  pub right : r.height < 2 ^ 32
  pub totals : l.tree.length + r.tree.length < 2 ^ 32

-- the left one's strikes can be counted, and both can be joined
pub record Joinable (w : List ℕ) (l r : Item) : Type 0 where
  pub stands : TreeAt w l.tree levels
  pub small : Small l r

-- the words with their fork put at n, and what is then known of it
pub record Forked (w w' : List ℕ) (n : ℕ) (l r x : Item) : Type 0 where
  pub item : x ≡ item_over n l r
  pub stored : (s : TreeAt w l.tree levels)
      → w' ≡ put w n (fork_cell (fork_over l r (count true (marks s.tree))))

-- ---- the trees that wait

-- a tree of so many marks that can be a left child: no leaf is too full or too empty, the last one included
pub record FitsLeft (total : ℕ) (t : Tree) : Type 0 where
  pub marks : total ≡ size t
  pub sized : Sized leaf_least t

-- a tree at a place of the row: it stands in these words, its numbers below n, and it is as its item says; the marks
-- of the rightmost one, at 0, are not told
pub record Waits (w : List ℕ) (n at : ℕ) (t : Tree) (x : Item) : Type 0 where
  pub node : x.tree.node ≡ top t
  pub levels : x.height ≡ height t
  pub filled : 0 < at → FitsLeft x.tree.length t
  pub holds : Holds w t
  pub below : (k : ℕ) → Memᴰ k (numbers t) → k < n

-- trees that wait one after the other, from a place of the row to its last
abbrev pub Along : List ℕ → ℕ → Row → ℕ → List Tree → Type 0
Along w n r at [] = Unit {0}
Along w n r at (t ∷ []) = Waits w n at t r.last
Along w n r at (t ∷ u ∷ more) = Waits w n at t (item_at r at) × Along w n r (suc at) (u ∷ more)

-- most rounds: so often can the number of leaves be halved
abbrev pub most_rounds : ℕ
most_rounds = 10

-- what keeps a row small: as many rounds are left as halve it to nothing, each tree has twice the marks of a round
-- before, and the last tree may be one level higher
pub record Level (n : ℕ) (r : Row) : Type 0 where
  pub left : ℕ
  pub few : r.count < 2 ^ left
  pub low : r.height + left ≡ most_rounds
  pub total : r.total ≡ leaf_built * 2 ^ r.height
  pub last_total : r.last.tree.length ≤ 2 * r.total
  pub not_lower : r.height ≤ r.last.height
  pub not_higher : r.last.height ≤ suc r.height
  pub placed : r.count ≤ suc r.first
  pub within : r.first < n

-- the trees that wait for a round, the rightmost first, their numbers below n
pub record Waiting (w : List ℕ) (n : ℕ) (r : Row) (ts : List Tree) : Type 0 where
  pub many : length ts ≡ r.count
  pub trees : Along w n r 0 ts
  pub level : Level n r

-- a tree that stands in these words with its top at r, its numbers below n
pub record Finished (w : List ℕ) (n : ℕ) (t : Tree) (r : ℕ) : Type 0 where
  pub at : r ≡ top t
  pub holds : Holds w t
  pub below : (k : ℕ) → Memᴰ k (numbers t) → k < n

-- the nodes below n are as they were
abbrev pub Kept : List ℕ → List ℕ → ℕ → Type 0
Kept w w' n = (k : ℕ) → k < n → node_at w' k ≡ node_at w k

-- ---- the builder's steps

-- so many marks of some words fit so many leaves, and there is a node for each leaf
pub record Leafy (w words : List ℕ) (total leaves : ℕ) : Type 0 where
  pub all : leaves ≡ leaf_count total
  pub most : leaves ≤ most_leaves most_nodes
  pub enough : leaves ≤ nodes_in w
  pub given : total ≤ leaf_built * length words

-- after the leaves are put: they wait for the first round
pub record Planted (w w' : List ℕ) (xs : List Bool) (leaves : ℕ) (r : Row) : Type 0 where
  pub kept : length w' ≡ length w
  pub many : r.count ≡ leaves
  pub wait : Waiting w' r.count r (reverse (built_leaves 0 leaves xs))

-- before a round: the trees wait, and from `next` on there are nodes for the forks of all rounds
pub record Ready (w : List ℕ) (r : Row) (next : ℕ) : Type 0 where
  pub enough : next + r.count ≤ nodes_in w + 1
  pub few : nodes_in w ≤ most_nodes
  pub these : List Tree
  pub wait : Waiting w next r these

-- after a round: whichever trees waited, the model's round on them waits
pub record Rounded (w w' : List ℕ) (r made : Row) (next : ℕ) : Type 0 where
  pub kept : length w' ≡ length w
  pub half : made.count ≡ r.count / 2
  pub done : (ts : List Tree) → Waiting w next r ts
      → Waiting w' (next + (r.count - r.count / 2)) made (round next ts)

-- after all rounds: whichever trees waited, the tree that the model makes of them stands
pub record AllJoined (w w' : List ℕ) (row : Row) (r : ℕ) : Type 0 where
  pub kept : length w' ≡ length w
  pub done : (ts : List Tree) → Waiting w row.count row ts
      → Finished w' (2 * row.count - 1) (rounds row.count row.count ts) r

-- after the chain is made: it goes over the numbers from `first` on, and the nodes below are as they were
pub record Freeing (w w' : List ℕ) (first : ℕ) (r : Chain) : Type 0 where
  pub kept : length w' ≡ length w
  pub begin : r.first ≡ first
  pub many : r.count ≡ nodes_in w - first
  pub below : Kept w w' first
  pub chain : Chained w' (nodes_in w) (numbers_from first (nodes_in w - first))
