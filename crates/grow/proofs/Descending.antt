-- An insert at a leaf and at a fork: what it may assume there, and what it leaves if its call on the child does.
use Prim.Native.Nat.{ℕ, suc, ◌+◌, ◌-◌, ◌≤◌, ◌<◌, ◌^◌}
use native.Mathlib.Nat.{add-zero}
use native.Mathlib.Omega.{arith}
use mathlib.Core.Path.{◌≡◌, refl, sym, ap, ◌∙◌}
use mathlib.Core.Bool.{Bool, true, false, ◌&&◌}
use mathlib.Core.List.{List}
use borrow.Author.Tests.{le-leb, lt-ltb, le-ltb}
use lib.IntN.{ℤ, pos}
use lib.ListN.{length}
use mir.Val.{bool_byte}
use Rattle.model.specs.Edit.{insert, splits, leaf_at}
use Rattle.model.specs.Marks as Marks
use Rattle.model.specs.Marks.{count}
use Rattle.model.specs.Tree.{Tree, fork, top, marks, size, height, numbers}
use Rattle.model.specs.Turn.{rebalance}
use Rattle.model.specs.Word.{digit}
use Rattle.model.proofs.Cases.{splits_left, splits_right}
use Rattle.model.proofs.Content.{insert_size}
use Rattle.model.proofs.MarksEdits.{length_insert}
use Rattle.model.proofs.Paths.{count_size}
use Rattle.model.proofs.Tops.{insert_top}
use Rattle.bits.specs.Leaf.{bits_of, leaf_of}
use Rattle.bits.specs.declared.leaf.Leaf.{Leaf}
use Rattle.bits.proofs.Held.{insert_held}
use Rattle.pool.specs.Layout.{fork_of}
use Rattle.pool.specs.Node.{fork_cell, node_at, put, with_left, Put}
use Rattle.pool.specs.declared.node.Fork.{Fork}
use Rattle.pool.specs.declared.node.Node.TheVariants as Node
use Rattle.pool.proofs.Cells.{put_fork, fork_says, leaf_says}
use Rattle.pool.proofs.Standing.{leaf_small}
use Rattle.tree.specs.declared.steps.Step.{Step}
use Rattle.model.specs.Side.{side}
use Rattle.turn.specs.Sites.{After, Site, fork_at_heights}
use Rattle.turn.proofs.Differences.{equal}
use Rattle.turn.proofs.Sites.{around_first, by_fork_at, first_stays, top_apart}
use Rattle.descent.proofs.Back.{Changed, Levels, ToLevel, changes, level, leveled, to_level}
use Rattle.descent.proofs.Digits.{byte_digit}
use Rattle.descent.proofs.Down.{Down, IsLeaf, Stepped, Toward, by_step, child_stands, down, is_leaf, top_put}
use Rattle.grow.specs.Inserting.{Inserted, Settled, ToInsert, ToSettle, rest}
use Rattle.grow.proofs.Altering.{insert_count, insert_alters}

-- ---- a leaf was read

module _ {w : List ℕ} {n levels head total index : ℕ} {x y : Leaf} (b : ToInsert w n levels head total index) (bit : Bool)
    (read : node_at w n ≡ Node.Leaf x) (made : y ≡ leaf_of (Marks.insert index bit (bits_of x))) where
  here : IsLeaf n x b.at.tree
  here = is_leaf b.at.site.rooted read

  stands : Site w n levels b.at.end head (Tree.leaf n here.marks) b.at.free
  stands = rw here.is at b.at.site

  long : length here.marks ≡ total
  unfolding size
  long = rw here.is at b.at.total_is

  -- the leaf with the mark can be settled
  pub to_settle : ToSettle w n head y (total + 1)
  unfolding numbers splits leaf_at
  to_settle =
      let within : index ≤ length here.marks = omega (arith, b.within, long) in
      let small = leaf_small n here.marks stands.rooted in
      let longer = length_insert index bit here.marks within in
      let split = rw here.is at b.room in
      record {
        end = b.at.end;
        marks = Marks.insert index bit here.marks;
        free = b.at.free;
        held =
            made ∙ ap (λ (z : Leaf). leaf_of (Marks.insert index bit (bits_of z))) here.says
            ∙ insert_held here.marks index bit small within;
        total_is = omega (arith, long);
        most = omega arith;
        there = (leaf_says w n x read).0;
        once = stands.once;
        chained = stands.chained;
        first = stands.first;
        room = λ full. split (le-leb 128 (suc (length here.marks)) (omega arith));
      }

  -- and settled it is the tree with the mark
  pub settled_leaf : {w' : List ℕ} {head' : ℕ} {g : ℤ} → Settled to_settle w' head' g → Inserted b w' head' g bit
  unfolding numbers height insert splits leaf_at Marks.insert to_settle
  settled_leaf {w'} {head'} {g} a =
      let same : total + 1 ≡ suc (length here.marks) = omega (arith, long) in
      rw here.is
      (record {
        edited = record { size = a.edited.size; holds = a.edited.holds; else = a.edited.else };
        chained = rw (← same) a.chained;
        first = rw (← same) a.first;
        change = equal g _ _ a.change refl refl;
      })

-- ---- a fork was read

-- with one mark more in the left child its totals fit a word
pub left_fits : {w : List ℕ} {n levels head total index : ℕ} {f : Fork} → ToInsert w n levels head total index
    → node_at w n ≡ Node.Fork f → (f.left_total + 1 < 2 ^ 64) × (f.left_ones + 1 < 2 ^ 64)
unfolding fork_of size
left_fits {w} {n} {f = f} b read =
    by_fork_at
    (λ (t : Tree). suc (size t) < 2 ^ 32 → (f.left_total + 1 < 2 ^ 64) × (f.left_ones + 1 < 2 ^ 64)) b.at.tree f
    b.at.site.rooted read
    (λ l r _ says few.
    let left_total = ap (λ (g : Fork). g.left_total) says in
    let left_ones = ap (λ (g : Fork). g.left_ones) says in
    let most = count_size l in
    (omega arith, omega arith)) b.at.site.few

-- what a step to the child that the place leads to says of an insert
record Leads (s : Step) (n i : ℕ) (l r : Tree) : Type 0 where
  splits_same : splits i (fork n l r) ≡ splits s.index (side s.left l r)
  inserts : (b : Bool) (free : List ℕ) → let u : Tree = insert s.index b free (side s.left l r) in
      insert i b free (fork n l r) ≡ rebalance n (side s.left u l) (side s.left r u)

leads : {f : Fork} {total i : ℕ} {s : Step} (n : ℕ) (l r : Tree) → f ≡ fork_of l r → Toward f total i s → Leads s n i l r
unfolding fork_of insert
leads {i = i} n l r e toward =
    by_step n l r e toward (λ (s : Step). Leads s n i l r)
    (λ k. record { splits_same = splits_left i n l r k; inserts = λ b free. rw (insert, lt-ltb i (size l) k) })
    (λ k. record { splits_same = splits_right i n l r k; inserts = λ b free. rw (insert, le-ltb i (size l) k) })

-- a fork with one mark more in its left child or in its right one
abbrev with_mark : Fork → Bool → Bool → Fork
with_mark f left bit = with_left f (f.left_total + digit left) (f.left_ones + digit (left && bit))

-- it says all of the trees afterwards but how they lean
recounted : (left : Bool) (f : Fork) (i : ℕ) (b : Bool) (free : List ℕ) (l r : Tree) → f ≡ fork_of l r → i ≤ size (side left l r)
    → let u : Tree = insert i b free (side left l r) in
    with_mark f left b ≡ fork_at_heights (height l) (height r) (side left u l) (side left r u)
unfolding fork_of digit
recounted true f i b free l r e h =
    let u : Tree = insert i b free l in
    let total : size l + 1 ≡ size u = omega (arith, insert_size i b free l h) in
    rw e (λ j. record {
      left = sym (insert_top i b free l) j;
      right = top r;
      left_total = total j;
      left_ones = sym (insert_count i b free l h) j;
      balance = (height r + 2) - height l;
    })
recounted false f i b free l r e h =
    rw e (λ j. record {
      left = top l;
      right = sym (insert_top i b free r) j;
      left_total = add-zero (size l) j;
      left_ones = add-zero (count true (marks l)) j;
      balance = (height r + 2) - height l;
    })

-- a step from the fork f at n to the child that the place leads to; the fork counts the mark now
pub record Counted (w v : List ℕ) (n total index : ℕ) (bit : Bool) (f : Fork) (s : Step) : Type 0 where
  pub step : Stepped w n total index f s
  pub counts : Put w v n (Node.Fork (with_mark f s.left bit))

pub counted_here : {w v : List ℕ} {n total index : ℕ} (bit : Bool) {f : Fork} {s : Step} → Stepped w n total index f s
    → ((g : Fork) → node_at w n ≡ Node.Fork g
    → v ≡ put w n (fork_cell (with_left g (f.left_total + bool_byte s.left) (f.left_ones + bool_byte (s.left && bit)))))
    → Counted w v n total index bit f s
counted_here {w} {v} {n} bit {f} {s} step stored =
    record {
      step = step;
      counts =
          rw (stored f step.read, byte_digit s.left, byte_digit (s.left && bit))
          (put_fork w n (with_mark f s.left bit) (fork_says w n f step.read).0);
    }

module _ {w v : List ℕ} {n levels head total index : ℕ} {bit : Bool} {f : Fork} {s : Step}
    (p : Counted w v n total index bit f s) (b : ToInsert w n levels head total index) where
  d : Down b.at index f s
  d = down b.at p.step

  -- the child that the place leads to, and the child with the mark
  abbrev old : Tree
  old = side s.left d.l d.r

  abbrev new : Tree
  new = insert s.index bit b.at.free old

  way : Leads s n index d.l d.r
  way = leads n d.l d.r d.says p.step.toward

  in_child : s.index ≤ size old
  in_child = omega (arith, d.child.up_to b.within, d.child.total_is)

  -- the mark can be put into it
  pub to_child : ToInsert v s.child.node (levels - 1) head s.child.length s.index
  to_child =
      record {
        at = child_stands b.at d (top_put b.at d p.counts);
        within = d.child.up_to b.within;
        room = λ split. b.room (rw d.is (way.splits_same ∙ split));
      }

  module _ {v' : List ℕ} {head' : ℕ} {by : ℤ} (done : Inserted to_child v' head' by bit) where
    changed : Changed w v' n b.at.end head' by s.left d.l d.r new b.at.free (rest (splits s.index old) b.at.free)
    unfolding to_child
    changed =
        changes b.at d
        (insert_alters s.index bit b.at.free old in_child to_child.room to_child.at.site.balanced)
        (around_first p.counts done)
        (first_stays p.counts done (top_apart s.left n d.l d.r b.at.free d.site.once)
        ∙ ap Node.Fork (recounted s.left f s.index bit b.at.free d.l d.r d.says in_child))

    -- what the tree becomes, told by the child's edit
    whole : {x : List ℕ} {grown : ℤ}
        → After w x b.at.end head' grown (fork n d.l d.r) (rebalance n (side s.left new d.l) (side s.left d.r new))
        b.at.free (rest (splits s.index old) b.at.free)
        → Inserted b x head' grown bit
    whole a = rw (d.is, way.inserts bit b.at.free, way.splits_same) a

    -- the fork says all but how it leans now; balanced again, it is the tree with the mark
    pub insert_stale : ToLevel v' n s.left by
    insert_stale = to_level changed

    pub insert_leveled : {x : List ℕ} {grown : ℤ} → Levels v' x n s.left by grown → Inserted b x head' grown bit
    insert_leveled levels = whole (leveled changed levels)

    -- so it is where the child has kept its height
    pub insert_level : by ≡ pos 0 → Inserted b v' head' (pos 0) bit
    insert_level zero = whole (level changed zero)
