-- The right edge of a tree: a tree that stands at the root goes on at the node reached, and what its fork says of the left children that were passed
-- is the rest of its strikes and of its levels.
use Prim.Native.Nat.{ℕ, ◌+◌, ◌-◌, ◌≤◌, max}
use native.Mathlib.Omega.{arith}
use mathlib.Core.Path.{◌≡◌, sym, ap}
use Rattle.std.specs.Prelude.{None, Some}
use Rattle.std.proofs.lemmas.Option.{none-some}
use mathlib.Core.Bool.{Bool, true}
use mathlib.Core.List.{List}
use lib.ListN.{take, length-take}
use Rattle.model.specs.Marks.{count, rank, wanted}
use Rattle.model.specs.Tree.{Tree}
use Rattle.model.proofs.Counting.{ones_le}
use Rattle.model.proofs.Paths.{count_size}
use Rattle.bits.specs.Leaf.{bits_of}
use Rattle.bits.specs.declared.leaf.Leaf.{Leaf}
use Rattle.pool.specs.Node.{node_at}
use Rattle.pool.specs.declared.node.Fork.{Fork}
use Rattle.pool.specs.declared.node.Node.TheVariants.{Free as free, Leaf as leaf, Fork as fork, Broken as broken}
use Rattle.sound.specs.Part.{Agrees, Part, Told, most_levels}
use Rattle.sound.specs.declared.edge.Edge.{Edge}
use Rattle.sound.proofs.Parts.{by_forked, part_broken, part_free, part_leaf}

-- no more bits are set before a place than there are
pub rank_most : (r n : ℕ) (xs : List Bool) → r ≡ rank true n xs → r ≤ n
unfolding rank count wanted
rank_most r n xs e = omega (arith, ones_le (take n xs), length-take n xs)

-- what is left of a tree from the node reached on
pub record Rest (w : List ℕ) (least n total ones left strikes depth : ℕ) : Type 0 where
  pub own : ℕ
  pub low : ℕ
  pub tree : Tree
  pub part : Part w least n total own low tree
  pub sum : ones + own ≡ strikes
  pub high : left + depth ≡ most_levels + low

-- how far the edge has been followed
pub record Down (w : List ℕ) (root length n total ones left : ℕ) : Type 0 where
  pub fits : ones + total ≤ length
  pub few : left ≤ most_levels
  pub on : (least strikes depth : ℕ) (t : Tree) → Part w least root length strikes depth t → depth ≤ most_levels
      → Rest w least n total ones left strikes depth

module _ {w : List ℕ} {root length n total ones left : ℕ} (d : Down w root length n total ones left) where
  -- nothing stands there
  told_none : ((least own low : ℕ) (t : Tree) → Part w least n total own low t → low ≤ left → ⊥) → Told w root length None
  told_none out =
      record {
        low = λ e is. absurd (none-some e is);
        so = λ least strikes depth t p h. let r = d.on least strikes depth t p h in
            absurd (out least r.own r.low r.tree r.part (omega (arith, r.high)));
      }

  pub told_free : (k : ℕ) → node_at w n ≡ free k → Told w root length None
  told_free k read = told_none (λ least own low t p h. part_free t k read p)

  pub told_broken : node_at w n ≡ broken → Told w root length None
  told_broken read = told_none (λ least own low t p h. part_broken t read p)

  -- the edge is too long
  pub told_long : left ≡ 0 → Told w root length None
  told_long end = told_none (λ least own low t p h. omega (arith, p.tall))

  -- a leaf ends it
  pub told_leaf : (x : Leaf) → node_at w n ≡ leaf x → 1 ≤ left → (e : Edge) → e.ones ≡ ones + rank true total (bits_of x)
      → e.levels + left ≡ most_levels + 1 → Told w root length (Some e)
  unfolding rank
  told_leaf x read some e sum high =
      record {
        low = λ g is. let same : e ≡ g = cc in rw (sym same) (omega arith);
        so = λ least strikes depth t p h.
            let r = d.on least strikes depth t p h in
            let f = (part_leaf x read r.tree r.part).0 in
            let o : e.ones ≡ strikes = omega (arith, f.ones, r.sum) in
            let l : e.levels ≡ depth = omega (arith, f.low, r.high) in
            ap Some (λ i. record { ones = o i; levels = l i });
      }

  module _ (f : Fork) (read : node_at w n ≡ fork f) where
    -- what a fork says is true of every tree there
    fork_true : {least own low : ℕ} (t : Tree) → Part w least n total own low t → low ≤ left → Agrees f total f.left_total left
    fork_true t p room =
        by_forked f (λ _. Agrees f total f.left_total left) t read p
        (λ m l r e h.
        let a = h.agrees in
        record {
          high = omega (arith, a.high);
          leans = a.leans;
          even = a.even;
          marks = a.marks;
          ones = omega (arith, h.left.ones, h.left.counts, count_size l);
        })

    pub told_untrue : (Agrees f total f.left_total left → ⊥) → Told w root length None
    told_untrue out = told_none (λ least own low t p h. out (fork_true t p h))

    -- what is left is its right child's
    rest_more : {least strikes depth : ℕ} (own low : ℕ) (t : Tree) → 2 ≤ left → Part w least n total own low t → ones + own ≡ strikes
        → left + depth ≡ most_levels + low
        → Rest w least f.right (total - f.left_total) (ones + f.left_ones) (left - max 1 (3 - f.balance)) strikes depth
    rest_more {least} {strikes} {depth} own low t room p sum high =
        by_forked f
        (λ _. Rest w least f.right (total - f.left_total) (ones + f.left_ones) (left - max 1 (3 - f.balance)) strikes depth)
        t read p
        (λ m l r e h.
        let a = h.agrees in
        let small : max 1 (3 - f.balance) ≤ 2 = omega (arith, a.leans) in
        record {
          own = own - f.left_ones;
          low = low - max 1 (3 - f.balance);
          tree = r;
          part = h.right;
          sum = omega (arith, a.ones);
          high = omega (arith, a.high);
        })

    pub down_more : {next : ℕ} → Agrees f total f.left_total left → next ≡ left - max 1 (3 - f.balance)
        → Down w root length f.right (total - f.left_total) (ones + f.left_ones) next
    down_more a e =
        let fits = d.fits in
        let few = d.few in
        let marks = a.marks in
        let strikes = a.ones in
        rw e record {
          fits = omega arith;
          few = omega arith;
          on = λ least strikes depth t p h. let r = d.on least strikes depth t p h in
              rest_more r.own r.low r.tree a.high r.part r.sum r.high;
        }
