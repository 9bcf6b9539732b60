-- How a node stands in six words, and what a pool's words hold at a node's number.
--
--     free        0, next free number, 0, 0, 0, 0
--     leaf        1, low word, high word, 0, 0, 0
--     fork        2, left, right, left total, left ones, balance + 2
use Rattle.std.specs.Prelude.{ℕ, zero, suc, ◌+◌, ◌-◌, ◌*◌, ◌/◌, ◌≤◌, ◌<◌, ◌≡◌, true, false, List, ltb, length, get_or, set}
use Rattle.std.specs.Prelude.{Result, MatchResult}
use Rattle.bits.specs.declared.leaf.Leaf.{Leaf}
use Rattle.pool.specs.declared.node.Cell.{Cell}
use Rattle.pool.specs.declared.node.Fork.{Fork}
use Rattle.pool.specs.declared.node.Kind.{Kind}
use Rattle.pool.specs.declared.node.Kind.TheVariants.{Free as Kind_as_Free, Leaf as Kind_as_Leaf, Fork as Kind_as_Fork}
use Rattle.pool.specs.declared.node.Node.{Node}
use Rattle.pool.specs.declared.node.TreeNode.{TreeNode}
use Rattle.pool.specs.declared.node.UnknownKind.{UnknownKind}
use Rattle.pool.specs.declared.node.TreeNode.TheVariants.{Leaf as TreeNode_as_Leaf, Fork as TreeNode_as_Fork}
use Rattle.pool.specs.declared.node.Node.TheVariants.{Free as free, Leaf as leaf, Fork as fork, Broken as broken}

-- the kind that a first word names, or that it names none
abbrev pub kind_number : Kind → ℕ
kind_number Kind_as_Free = 0
kind_number Kind_as_Leaf = 1
kind_number Kind_as_Fork = 2

abbrev pub IsKind : ℕ → Result Kind UnknownKind → Type 0
IsKind word r = MatchResult r (λ kind. kind_number kind ≡ word) (λ e. (e.0 ≡ word) × (2 < word))

-- the words of a node
abbrev pub node_words : ℕ
node_words = 6

-- ---- a node in six words

abbrev pub free_cell : ℕ → Cell
free_cell next = record { kind = 0; second = next; third = 0; fourth = 0; fifth = 0; sixth = 0 }

abbrev pub leaf_cell : Leaf → Cell
leaf_cell l = record { kind = 1; second = l.low; third = l.high; fourth = 0; fifth = 0; sixth = 0 }

abbrev pub fork_cell : Fork → Cell
fork_cell f =
    record {
      kind = 2;
      second = f.left;
      third = f.right;
      fourth = f.left_total;
      fifth = f.left_ones;
      sixth = f.balance;
    }

-- the leaf that six words hold, and the fork
abbrev pub leaf_words : Cell → Leaf
leaf_words w = record { low = w.second; high = w.third }

abbrev pub fork_words : Cell → Fork
fork_words w =
    record { left = w.second; right = w.third; left_total = w.fourth; left_ones = w.fifth; balance = w.sixth }

-- a node, if the word beside it is zero
abbrev pub if_zero : ℕ → Node → Node
if_zero zero x = x
if_zero (suc n) x = broken

-- what six words are laid out as, by the first of them
abbrev pub of_kind : ℕ → Cell → Node
of_kind zero w = if_zero w.third (if_zero w.fourth (if_zero w.fifth (if_zero w.sixth (free w.second))))
of_kind (suc zero) w = if_zero w.fourth (if_zero w.fifth (if_zero w.sixth (leaf (leaf_words w))))
of_kind (suc (suc zero)) w = fork (fork_words w)
of_kind (suc (suc (suc k))) w = broken

abbrev pub node_of : Cell → Node
node_of w = of_kind w.kind w

-- ---- a pool's nodes

-- how many nodes these words have room for
abbrev pub nodes_in : List ℕ → ℕ
nodes_in w = length w / node_words

-- the six words of node n
abbrev pub cell_at : List ℕ → ℕ → Cell
cell_at w n =
    record {
      kind = get_or w (n * node_words) 0;
      second = get_or w (n * node_words + 1) 0;
      third = get_or w (n * node_words + 2) 0;
      fourth = get_or w (n * node_words + 3) 0;
      fifth = get_or w (n * node_words + 4) 0;
      sixth = get_or w (n * node_words + 5) 0;
    }

-- node n, or that there is none
unfoldable pub node_at : List ℕ → ℕ → Node
node_at w n = elim (ltb n (nodes_in w)) [ true ↦ node_of (cell_at w n) | false ↦ broken ]

-- the words with six others at node n, if there is such a node
unfoldable pub put : List ℕ → ℕ → Cell → List ℕ
put w n x =
    let at : ℕ = n * node_words in
    elim (ltb n (nodes_in w)) [
      | true ↦
          let w1 : List ℕ = set (set w at x.kind) (at + 1) x.second in
          let w2 : List ℕ = set (set w1 (at + 2) x.third) (at + 3) x.fourth in
          set (set w2 (at + 4) x.fifth) (at + 5) x.sixth
      | false ↦ w
    ]

-- a fork whose left child holds so many marks now, so many of them strikes
abbrev pub with_left : Fork → ℕ → ℕ → Fork
with_left f total ones =
    record { left = f.left; right = f.right; left_total = total; left_ones = ones; balance = f.balance }

-- one whose left child has so many marks less, so many of them strikes
abbrev pub less_left : Fork → ℕ → ℕ → Fork
less_left f total ones = with_left f (f.left_total - total) (f.left_ones - ones)

-- all that is known of a store: w' is w but for node n, which is x in it
pub record Put (w w' : List ℕ) (n : ℕ) (x : Node) : Type 0 where
  pub size : length w' ≡ length w
  pub here : node_at w' n ≡ x
  pub else : (k : ℕ) → (k ≡ n → ⊥) → node_at w' k ≡ node_at w k

-- ---- the readers' answers

-- a tree's node, as a node
abbrev pub as_node : TreeNode → Node
as_node (TreeNode_as_Leaf l) = leaf l
as_node (TreeNode_as_Fork f) = fork f

-- a leaf or a fork
abbrev pub OfTree : Node → Type 0
OfTree (leaf l) = Unit {0}
OfTree (fork f) = Unit {0}
OfTree (free k) = ⊥
OfTree broken = ⊥

-- a leaf, or a fork whose left child has a mark
abbrev pub LeafOrFork : Node → Type 0
LeafOrFork (leaf l) = Unit {0}
LeafOrFork (fork f) = 1 ≤ f.left_total
LeafOrFork (free k) = ⊥
LeafOrFork broken = ⊥

-- the leaf of a node, an empty one where it is none
abbrev pub leaf_in : Node → Leaf
leaf_in (leaf l) = l
leaf_in (free k) = record { low = 0; high = 0 }
leaf_in (fork f) = record { low = 0; high = 0 }
leaf_in broken = record { low = 0; high = 0 }

-- the fork of a node, one of nothing where it is none
abbrev pub fork_in : Node → Fork
fork_in (fork f) = f
fork_in (free k) = record { left = 0; right = 0; left_total = 0; left_ones = 0; balance = 2 }
fork_in (leaf l) = record { left = 0; right = 0; left_total = 0; left_ones = 0; balance = 2 }
fork_in broken = record { left = 0; right = 0; left_total = 0; left_ones = 0; balance = 2 }

-- the balance that a fork stores, and 0 of any other node
abbrev pub balance_in : Node → ℕ
balance_in (fork f) = f.balance
balance_in (leaf l) = 0
balance_in (free k) = 0
balance_in broken = 0

-- the number after a node in the chain, and the chain's end after a node that is not free
abbrev pub next_in : ℕ → Node → ℕ
next_in end (free k) = k
next_in end (leaf l) = end
next_in end (fork f) = end
next_in end broken = end

-- the words with a tree's node put at a number, and as they are where it is none
abbrev pub put_node : List ℕ → ℕ → Node → List ℕ
put_node w n (leaf l) = put w n (leaf_cell l)
put_node w n (fork f) = put w n (fork_cell f)
put_node w n (free k) = w
put_node w n broken = w
