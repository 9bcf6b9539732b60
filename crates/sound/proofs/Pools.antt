-- From a tree and a chain to a pool and back. A sound pool's numbers are all the numbers of its nodes, each once; and a tree that has no node twice
-- and a chain that ends have, where they have as many nodes as there are, all of them.
use Prim.Native.Nat.{ℕ, zero, suc, ◌+◌, ◌-◌, ◌*◌, ◌/◌, ◌%◌, ◌^◌, ◌≤◌, ◌<◌, min}
use native.Mathlib.Nat.{zero-div}
use native.Mathlib.Omega.{arith}
use mathlib.Core.Path.{◌≡◌, refl, sym, ap, ◌∙◌}
use mathlib.Core.Bool.{Bool, true, false}
use mathlib.Core.List.Memᴰ
use mathlib.Core.List.{List, [], ◌∷◌, ◌++◌, Memᴰ}
use mathlib.Core.Logic.{◌⊎◌, ⊎_elim}
use lib.ListN.{length, get_or, replicate, length-append}
use Rattle.model.specs.Pool.{Pool, numbers_from}
use Rattle.model.specs.Marks.{count}
use Rattle.model.specs.Sound.{Distinct, Sized, Whole, all_numbers}
use Rattle.model.specs.Tree.{Tree, marks, height, numbers}
use Rattle.model.specs.Word.{odd}
use Rattle.model.specs.Limits.{most_nodes}
use Rattle.model.proofs.Depth.{depth}
use Rattle.model.proofs.Distincts.{distinct_join}
use Rattle.model.proofs.NumbersFrom.{numbers_from_bounds, numbers_from_distinct, numbers_from_length}
use Rattle.model.proofs.Rearranged.{rearranged_distinct, rearranged_length, rearranged_member, rearranged_sym}
use Rattle.bits.specs.Leaf.{leaf_of}
use Rattle.pool.specs.Layout.{Chained, Holds, first_of, fork_of}
use Rattle.pool.specs.Node.{node_at, node_words, nodes_in}
use Rattle.pool.specs.declared.chain.Chain.{Chain}
use Rattle.pool.specs.declared.node.Node.TheVariants.{Free as free}
use Rattle.pool.proofs.Cells.{leaf_says, fork_says, free_says}
use Rattle.model.specs.Says.{Says}
use Rattle.sound.specs.Judged.{Judged, Correct}
use Rattle.sound.specs.Links.{Linked}
use Rattle.std.specs.Prelude.{Option, None, Some}
use Rattle.std.proofs.lemmas.Option.{none-some}
use Rattle.sound.specs.Met.{Fresh, met_at, met_words, none_met}
use Rattle.sound.specs.Part.{Stands, Told, Visited}
use Rattle.sound.specs.declared.met.Met.{Met}
use Rattle.sound.specs.declared.visit.Claim.{Claim}
use Rattle.sound.specs.declared.edge.Edge.{Edge}
use Rattle.sound.proofs.Answers.{never, no_leaf, no_fork}
use Rattle.sound.proofs.Bitmap.{fresh_first}
use Rattle.sound.proofs.Chains.{chain_distinct}
use Rattle.sound.proofs.Pigeonhole.{all_of}

-- ---- nothing is met at first

zeros : (n j : ℕ) → ◌≡◌ {A = ℕ} (get_or (replicate n 0) j 0) 0
zeros zero j = refl
zeros (suc n) zero = refl
zeros (suc n) (suc j) = zeros n j

unmet : (n k : ℕ) → met_at (replicate n 0) k ≡ false
unfolding met_at odd
unmet n k = rw (met_at, zeros n (k / 64), zero-div (2 ^ (k % 64)))

-- ---- the nodes that stand in words have numbers

tree_below : (w : List ℕ) (t : Tree) → Holds w t → (k : ℕ) → Memᴰ k (numbers t) → k < nodes_in w
unfolding numbers
tree_below w (Tree.leaf n xs) h k m =
    ⊎_elim (λ (e : k ≡ n). let low = leaf_says w n (leaf_of xs) h in omega (arith, low.0)) (λ l. absurd (Memᴰ.not-nil l))
    (Memᴰ.cases_cons m)
tree_below w (Tree.fork n l r) h k m =
    ⊎_elim
    (λ (e : k ≡ n). let low = fork_says w n (fork_of l r) h.0 in omega (arith, low.0))
    (λ s. ⊎_elim (tree_below w l h.1 k) (tree_below w r h.2 k) (Memᴰ.append_cases (numbers l) s))
    (Memᴰ.cases_cons m)

chain_below : (w : List ℕ) (end : ℕ) (ns : List ℕ) → Chained w end ns → (k : ℕ) → Memᴰ k ns → k < nodes_in w
chain_below w end [] h k m = absurd (Memᴰ.not-nil m)
chain_below w end (n ∷ ns) h k m =
    ⊎_elim (λ (e : k ≡ n). let low = free_says w n (first_of end ns) h.0 in omega (arith, low.0)) (chain_below w end ns h.1 k)
    (Memᴰ.cases_cons m)

-- ---- no node is of the tree and of the chain

tree_taken : (w : List ℕ) (t : Tree) → Holds w t → (k : ℕ) → Memᴰ k (numbers t) → (j : ℕ) → node_at w k ≡ free j → ⊥
unfolding numbers
tree_taken w (Tree.leaf n xs) h k m j e = no_leaf (sym h ∙ ap (node_at w) (sym (Memᴰ.eq_of_singleton m)) ∙ e)
tree_taken w (Tree.fork n l r) h k m j e =
    ⊎_elim
    (λ (s : k ≡ n). no_fork (sym h.0 ∙ ap (node_at w) (sym s) ∙ e))
    (λ s. ⊎_elim (λ i. tree_taken w l h.1 k i j e) (λ i. tree_taken w r h.2 k i j e) (Memᴰ.append_cases (numbers l) s))
    (Memᴰ.cases_cons m)

chain_free : (w : List ℕ) (end : ℕ) (ns : List ℕ) → Chained w end ns → (k : ℕ) → Memᴰ k ns → (j : ℕ) × (node_at w k ≡ free j)
chain_free w end [] h k m = absurd (Memᴰ.not-nil m)
chain_free w end (n ∷ ns) h k m =
    ⊎_elim (λ (e : k ≡ n). (first_of end ns, ap (node_at w) e ∙ h.0)) (chain_free w end ns h.1 k) (Memᴰ.cases_cons m)

-- ---- how few marks the last leaf may hold

whole_least : (t : Tree) (least : ℕ) → least ≡ min 1 (height t) → Whole t → Sized least t
unfolding height
whole_least (Tree.leaf n xs) least e s = let none : least ≡ 0 = omega arith in rw none s
whole_least (Tree.fork n l r) least e s = let one : least ≡ 1 = omega arith in rw one s

least_whole : (t : Tree) (least : ℕ) → least ≡ min 1 (height t) → Sized least t → Whole t
unfolding height
least_whole (Tree.leaf n xs) least e s = let none : least ≡ 0 = omega arith in rw none at s
least_whole (Tree.fork n l r) least e s = let one : least ≡ 1 = omega arith in rw one at s

-- ---- a pool

abbrev unmarked : List ℕ
unmarked = replicate met_words 0

-- what is claimed of the whole tree
abbrev pub told_claim : ℕ → ℕ → Edge → ℕ → Claim
told_claim root total e least = record { root = root; total = total; ones = e.ones; least = least; levels = e.levels }

module _ {w : List ℕ} {root total : ℕ} {chain : Chain} (most : nodes_in w ≤ most_nodes) where
  -- what is told of the right edge is so of the pool's tree
  correct_told : {r : Option Edge} → Told w root total r → (p : Pool) → Correct w root total chain p
      → r ≡ Some (record { ones = count true (marks p.tree); levels = height p.tree + 1 })
  correct_told told p h =
      let deep = depth (nodes_in w) p most h.sound in
      told.so (min 1 (height p.tree)) (count true (marks p.tree)) (height p.tree + 1) p.tree
      (record {
        at = h.rooted;
        holds = h.laid.tree;
        counts = h.counts;
        ones = refl;
        sized = whole_least p.tree (min 1 (height p.tree)) refl h.sound.whole;
        balanced = h.sound.balanced;
        tall = refl;
      })
      (omega arith)

  correct_part : (e : Edge) → Told w root total (Some e) → (least : ℕ) → least ≡ min 1 (e.levels - 1) → (p : Pool) → Correct w root total chain p
      → Stands w (told_claim root total e least) p.tree
  correct_part e told least low p h =
      let some = correct_told told p h in
      let same : e ≡ record { ones = count true (marks p.tree); levels = height p.tree + 1 } = cc in
      let ones : e.ones ≡ count true (marks p.tree) = ap (λ (x : Edge). x.ones) same in
      let tall : e.levels ≡ height p.tree + 1 = ap (λ (x : Edge). x.levels) same in
      record {
        at = h.rooted;
        holds = h.laid.tree;
        counts = h.counts;
        ones = sym ones;
        sized = whole_least p.tree least (omega arith) h.sound.whole;
        balanced = h.sound.balanced;
        tall = sym tall;
      }

  correct_fresh : (p : Pool) → Correct w root total chain p → Fresh unmarked (numbers p.tree ++ p.free)
  unfolding all_numbers
  correct_fresh p h =
      let all = numbers p.tree ++ p.free in
      record {
        distinct = rearranged_distinct (numbers_from 0 (nodes_in w)) all h.sound.each (numbers_from_distinct 0 (nodes_in w));
        room = λ k m. omega (
          arith,
          numbers_from_bounds k 0 (nodes_in w)
              (rearranged_member k all (numbers_from 0 (nodes_in w)) (rearranged_sym _ all h.sound.each) m),
        );
        unmet = λ k _. unmet met_words k;
      }

  correct_amount : (p : Pool) → Correct w root total chain p → length (numbers p.tree) + chain.count ≡ nodes_in w
  unfolding all_numbers
  correct_amount p h =
      let all = numbers p.tree ++ p.free in
      omega (
        arith,
        rearranged_length (numbers_from 0 (nodes_in w)) all h.sound.each,
        numbers_from_length 0 (nodes_in w),
        length-append
            (numbers p.tree) p.free,
        h.amount,
      )

  -- no pool stands there
  refused : ((p : Pool) → Correct w root total chain p → ⊥) → Judged w root total chain false
  refused out = record { yes = λ t. never t refl; no = λ p h. absurd (out p h) }

  -- the chain has more nodes than there are
  pub judged_long : nodes_in w < chain.count → Judged w root total chain false
  judged_long long = refused (λ p h. omega (arith, correct_amount p h))

  -- no tree has such a right edge
  pub judged_edgeless : Told w root total None → Judged w root total chain false
  judged_edgeless told = refused (λ p h. none-some _ (correct_told told p h))

-- ---- after the visit

-- what is known then: what the right edge told, for how many nodes there was room, and what the visit answers
pub record Seen (w : List ℕ) (root total : ℕ) (chain : Chain) (m : Met) (r : Bool) : Type 0 where
  pub words : length w ≡ nodes_in w * node_words
  pub most : nodes_in w ≤ most_nodes
  pub edge : Edge
  pub told : Told w root total (Some edge)
  pub room : ℕ
  pub fits : room + chain.count ≡ nodes_in w
  pub least : ℕ
  pub low : least ≡ min 1 (edge.levels - 1)
  pub visited : Visited w (none_met room) m (told_claim root total edge least) r

pub seen : {w : List ℕ} {root total : ℕ} {chain : Chain} {e : Edge} {count room least : ℕ} {none m : Met} {r : Bool}
    → (length w ≡ nodes_in w * node_words) × (nodes_in w ≤ most_nodes) → count ≡ nodes_in w → (chain.count ≤ count) × (room ≡ count - chain.count)
    → Told w root total (Some e) → least ≡ min 1 (e.levels - 1) → none ≡ none_met room → Visited w none m (told_claim root total e least) r
    → Seen w root total chain m r
seen {e} {room} {least} asked all left told low start v =
    record {
      words = asked.0;
      most = asked.1;
      edge = e;
      told = told;
      room = room;
      fits = omega (arith, left.0, left.1);
      least = least;
      low = low;
      visited = rw (sym start) v;
    }

module _ {w : List ℕ} {root total : ℕ} {chain : Chain} {m : Met} {r : Bool} (s : Seen w root total chain m r) where
  -- a pool's tree is found, and takes all the room
  correct_seen : (p : Pool) → Correct w root total chain p → (r ≡ true) × (m.room ≡ 0)
  correct_seen p h =
      let part = correct_part s.most s.edge s.told s.least s.low p h in
      let amount = correct_amount s.most p h in
      let fits = s.fits in
      let fresh = fresh_first (numbers p.tree) p.free (correct_fresh s.most p h) in
      let no = s.visited.no p.tree part fresh (omega arith) in
      (no.0, omega (arith, no.1))

  -- it was not found, or left some room
  pub judged_unseen : {b : Bool} → ((r ≡ true) × (m.room ≡ 0 → ⊥)) ⊎ (r ≡ false) → b ≡ false → Judged w root total chain b
  judged_unseen out off =
      rw off (refused s.most (λ p h. let seen = correct_seen p h in ⊎_elim (λ o. o.1 seen.1) (never seen.0) out))

  pool_right : r ≡ true → m.room ≡ 0 → Linked w (nodes_in w) chain.first chain.count → (p : Pool) × Correct w root total chain p
  unfolding all_numbers
  pool_right stands full l =
      let v = s.visited.yes stands in
      let t = v.0 in
      let part = v.1.part in
      let ks = l.0 in
      let k = l.1 in
      let apart : Distinct (numbers t ++ ks) = distinct_join (numbers t) ks v.1.fresh.distinct (chain_distinct w ks k.chained)
      (λ i m n. let f = chain_free w (nodes_in w) ks k.chained i n in tree_taken w t part.holds i m f.0 f.1) in
      let amount : length (numbers t ++ ks) ≡ nodes_in w = omega (arith, length-append (numbers t) ks, v.1.rest, k.counts, s.fits) in
      let below : (i : ℕ) → Memᴰ i (numbers t ++ ks) → i < nodes_in w =
      λ i m. ⊎_elim (tree_below w t part.holds i) (chain_below w (nodes_in w) ks k.chained i) (Memᴰ.append_cases (numbers t) m) in (
        record { tree = t; free = ks },
        record {
          laid = record { words = s.words; tree = part.holds; chain = k.chained };
          sound = record {
            balanced = part.balanced;
            whole = least_whole t s.least (omega (arith, s.low, part.tall)) part.sized;
            each = all_of (nodes_in w) (numbers t ++ ks) apart below amount;
          };
          rooted = part.at;
          counts = part.counts;
          begins = k.begins;
          amount = k.counts;
        },
      )

  -- a pool stands there exactly where the chain does
  pub judged_chain : {b : Bool} → r ≡ true → m.room ≡ 0 → Says (Linked w (nodes_in w) chain.first chain.count) b
      → Judged w root total chain b
  judged_chain stands full says =
      record {
        yes = λ t. pool_right stands full (says.yes t);
        no = λ p h. says.no (p.free, record { chained = h.laid.chain; begins = h.begins; counts = h.amount });
      }
