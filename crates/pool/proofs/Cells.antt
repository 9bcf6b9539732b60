-- A node's six words lie at six times its number, so a store of six words is a run of stores that meets one node and no other. What six words
-- are laid out as is laid out as those six words again, so words whose nodes are the same, none of them broken, are the same words.
use Prim.Native.Nat.{ℕ, zero, suc, ◌+◌, ◌*◌, ◌/◌, ◌%◌, ◌≤◌, ◌<◌}
use native.Mathlib.Omega.{arith}
use mathlib.Core.Path.{◌≡◌, refl, sym, ap, ap₂, ◌∙◌}
use mathlib.Core.Bool.{Bool, true, false}
use mathlib.Core.List.{List, [], ◌∷◌}
use mathlib.Core.Logic.{◌⊎◌, inl, inr, ⊎_elim}
use borrow.Author.Tests.{ltb-true, ltb-false, lt-ltb, le-ltb}
use lib.Dec.{ltb}
use lib.ListN.{length, get_or, set, length-set}
use lib.Seq.{sets, length-sets, get_or-set_same, get_or-set_other, set-get_or, ext_get_or}
use Rattle.bits.specs.declared.leaf.Leaf.{Leaf}
use Rattle.pool.specs.Node.{LeafOrFork, OfTree, balance_in, free_cell, leaf_cell, leaf_words, fork_cell, fork_words, of_kind, node_of}
use Rattle.pool.specs.Node.{nodes_in, cell_at, node_at, put, put_node, with_left, Put}
use Rattle.pool.specs.declared.node.Cell.{Cell}
use Rattle.pool.specs.declared.node.Fork.{Fork}
use Rattle.pool.specs.declared.node.Node.{Node}
use Rattle.pool.specs.declared.node.Node.TheVariants.{Free as free, Leaf as leaf, Fork as fork, Broken as broken}

below_or_not : (k n : ℕ) → (k < n) ⊎ (n ≤ k)
below_or_not k n = tested (ltb k n) refl
  where
    tested : (t : Bool) → ltb k n ≡ t → (k < n) ⊎ (n ≤ k)
    tested true e = inl (ltb-true k n e)
    tested false e = inr (ltb-false k n e)

-- ---- a node's number is in range or not

module _ (w : List ℕ) (n : ℕ) where
  pub node_in : n < nodes_in w → node_at w n ≡ node_of (cell_at w n)
  unfolding node_at
  node_in h = rw (node_at, lt-ltb n (nodes_in w) h)

  pub node_out : nodes_in w ≤ n → node_at w n ≡ broken
  unfolding node_at
  node_out h = rw (node_at, le-ltb n (nodes_in w) h)

  pub put_out : (x : Cell) → nodes_in w ≤ n → put w n x ≡ w
  unfolding put
  put_out x h = rw (put, le-ltb n (nodes_in w) h)

-- ---- a cell by its words

abbrev words : Cell → List ℕ
words x = x.kind ∷ x.second ∷ x.third ∷ x.fourth ∷ x.fifth ∷ x.sixth ∷ []

-- cells with the same words are the same
cell_same : (x y : Cell) → ((j : ℕ) → j < 6 → get_or (words x) j 0 ≡ get_or (words y) j 0) → x ≡ y
cell_same x y h i =
    record {
      kind = h 0 (omega arith) i;
      second = h 1 (omega arith) i;
      third = h 2 (omega arith) i;
      fourth = h 3 (omega arith) i;
      fifth = h 4 (omega arith) i;
      sixth = h 5 (omega arith) i;
    }

-- word j of node n stands at 6 n + j
word_at : (w : List ℕ) (n j : ℕ) → j < 6 → get_or (words (cell_at w n)) j 0 ≡ get_or w (n * 6 + j) 0
word_at w n zero h = ap (λ (i : ℕ). get_or w i 0) (omega arith)
word_at w n (suc zero) h = refl
word_at w n (suc (suc zero)) h = refl
word_at w n (suc (suc (suc zero))) h = refl
word_at w n (suc (suc (suc (suc zero)))) h = refl
word_at w n (suc (suc (suc (suc (suc zero))))) h = refl
word_at w n (suc (suc (suc (suc (suc (suc j)))))) h = absurd (omega arith)

-- ---- a run of stores

-- beside the run all is as it was
getD_sets_out : (l : List ℕ) (i : ℕ) (vs : List ℕ) (j : ℕ) → (j < i) ⊎ (i + length vs ≤ j) → get_or (sets l i vs) j 0 ≡ get_or l j 0
getD_sets_out l i [] j h = refl
getD_sets_out l i (v ∷ vs) j (inl h) = getD_sets_out (set l i v) (suc i) vs j (inl (omega arith)) ∙ get_or-set_other l i j v 0 (λ e. omega arith)
getD_sets_out l i (v ∷ vs) j (inr h) = getD_sets_out (set l i v) (suc i) vs j (inr (omega arith)) ∙ get_or-set_other l i j v 0 (λ e. omega arith)

-- in the run stands what was stored
getD_sets_in : (l : List ℕ) (i : ℕ) (vs : List ℕ) (j : ℕ) → j < length vs → i + length vs ≤ length l → get_or (sets l i vs) (i + j) 0 ≡ get_or vs j 0
getD_sets_in l i [] j h f = absurd (omega arith)
getD_sets_in l i (v ∷ vs) zero h f =
    ap (λ (k : ℕ). get_or (sets l i (v ∷ vs)) k 0) (omega arith)
    ∙ getD_sets_out (set l i v) (suc i) vs i (inl (omega arith)) ∙ get_or-set_same l i v 0 (omega arith)
getD_sets_in l i (v ∷ vs) (suc j) h f =
    ap (λ (k : ℕ). get_or (sets l i (v ∷ vs)) k 0) (omega arith)
    ∙ getD_sets_in (set l i v) (suc i) vs j (omega arith) (rw length-set (omega arith))

-- a node's store is a run of six
put_in : (w : List ℕ) (n : ℕ) (x : Cell) → n < nodes_in w → put w n x ≡ sets w (n * 6) (words x)
unfolding put
put_in w n x h =
    let a : n * 6 + 1 ≡ suc (n * 6) = omega arith in
    let b : n * 6 + 2 ≡ suc (suc (n * 6)) = omega arith in
    let c : n * 6 + 3 ≡ suc (suc (suc (n * 6))) = omega arith in
    let d : n * 6 + 4 ≡ suc (suc (suc (suc (n * 6)))) = omega arith in
    let e : n * 6 + 5 ≡ suc (suc (suc (suc (suc (n * 6))))) = omega arith in
    rw (put, lt-ltb n (nodes_in w) h, a, b, c, d, e)

-- ---- what a store of six words does

module _ (w : List ℕ) (n : ℕ) (x : Cell) where
  pub put_length : length (put w n x) ≡ length w
  put_length =
      ⊎_elim (λ h. ap length (put_in w n x h) ∙ length-sets w (n * 6) (words x)) (λ h. ap length (put_out w n x h)) (below_or_not n (nodes_in w))

  pub cell_here : n < nodes_in w → cell_at (put w n x) n ≡ x
  cell_here h =
      cell_same (cell_at (put w n x) n) x
      (λ j l. word_at (put w n x) n j l ∙ ap (λ (v : List ℕ). get_or v (n * 6 + j) 0) (put_in w n x h)
      ∙ getD_sets_in w (n * 6) (words x) j l (omega arith))

  pub cell_else : (k : ℕ) → (k ≡ n → ⊥) → cell_at (put w n x) k ≡ cell_at w k
  cell_else k ne =
      ⊎_elim
      (λ h. cell_same (cell_at (put w n x) k) (cell_at w k)
      (λ j l. word_at (put w n x) k j l ∙ ap (λ (v : List ℕ). get_or v (k * 6 + j) 0) (put_in w n x h)
      ∙ getD_sets_out w (n * 6) (words x) (k * 6 + j) (⊎_elim (λ m. inl (omega arith)) (λ m. inr (omega arith)) (below_or_not k n))
      ∙ sym (word_at w k j l)))
      (λ h. ap (λ (v : List ℕ). cell_at v k) (put_out w n x h))
      (below_or_not n (nodes_in w))

  -- one node is put, the one that the six words are laid out as
  pub put_cell : n < nodes_in w → Put w (put w n x) n (node_of x)
  unfolding node_at
  put_cell h =
      let size = put_length in
      record {
        size = size;
        here = node_in (put w n x) n (omega arith) ∙ ap node_of (cell_here h);
        else = λ k ne. ap₂ (λ (m : ℕ) (y : Cell). elim (ltb k (m / 6)) [ true ↦ node_of y | false ↦ broken ]) size (cell_else k ne);
      }

module _ (w : List ℕ) (n : ℕ) where
  pub put_leaf : (l : Leaf) → n < nodes_in w → Put w (put w n (leaf_cell l)) n (leaf l)
  put_leaf l h = put_cell w n (leaf_cell l) h

  pub put_fork : (f : Fork) → n < nodes_in w → Put w (put w n (fork_cell f)) n (fork f)
  put_fork f h = put_cell w n (fork_cell f) h

  pub put_free : (k : ℕ) → n < nodes_in w → Put w (put w n (free_cell k)) n (free k)
  put_free k h = put_cell w n (free_cell k) h

pub put_keeps : {w w' : List ℕ} {n : ℕ} {x : Node} → Put w w' n x → nodes_in w' ≡ nodes_in w
put_keeps p = ap (λ (m : ℕ). m / 6) p.size

-- ---- what a node says of its words

-- the words of a node; a broken one has none of its own
abbrev pub cell_of : Node → Cell
cell_of (free k) = free_cell k
cell_of (leaf l) = leaf_cell l
cell_of (fork f) = fork_cell f
cell_of broken = free_cell 0

-- six words that are no broken node are that node's own
laid_out : (k a b c d e : ℕ)
    → let x : Cell = record { kind = k; second = a; third = b; fourth = c; fifth = d; sixth = e } in
    (of_kind k x ≡ broken → ⊥) → x ≡ cell_of (of_kind k x)
laid_out zero a zero zero zero zero h = refl
laid_out zero a zero zero zero (suc e) h = absurd (h refl)
laid_out zero a zero zero (suc d) e h = absurd (h refl)
laid_out zero a zero (suc c) d e h = absurd (h refl)
laid_out zero a (suc b) c d e h = absurd (h refl)
laid_out (suc zero) a b zero zero zero h = refl
laid_out (suc zero) a b zero zero (suc e) h = absurd (h refl)
laid_out (suc zero) a b zero (suc d) e h = absurd (h refl)
laid_out (suc zero) a b (suc c) d e h = absurd (h refl)
laid_out (suc (suc zero)) a b c d e h = refl
laid_out (suc (suc (suc k))) a b c d e h = absurd (h refl)

module _ (w : List ℕ) (n : ℕ) where
  said : (node_at w n ≡ broken → ⊥) → (n < nodes_in w) × (cell_at w n ≡ cell_of (node_at w n))
  said ne =
      ⊎_elim
      (λ h. let x = cell_at w n in (
        h,
        laid_out x.kind x.second x.third x.fourth x.fifth x.sixth (λ e. ne (node_in w n h ∙ e))
            ∙ ap cell_of (sym (node_in w n h)),
      ))
      (λ h. absurd (ne (node_out w n h)))
      (below_or_not n (nodes_in w))

  says : (x : Node) → (x ≡ broken → ⊥) → node_at w n ≡ x → (n < nodes_in w) × (cell_at w n ≡ cell_of x)
  says x ne e = let s = said (λ b. ne (sym e ∙ b)) in (s.0, s.1 ∙ ap cell_of e)

  pub leaf_says : (l : Leaf) → node_at w n ≡ leaf l → (n < nodes_in w) × (cell_at w n ≡ leaf_cell l)
  leaf_says l = says (leaf l) (λ b. let z : ◌≡◌ {A = ℕ} 0 1 = cc in omega arith)

  pub fork_says : (f : Fork) → node_at w n ≡ fork f → (n < nodes_in w) × (cell_at w n ≡ fork_cell f)
  fork_says f = says (fork f) (λ b. let z : ◌≡◌ {A = ℕ} 0 1 = cc in omega arith)

  pub free_says : (k : ℕ) → node_at w n ≡ free k → (n < nodes_in w) × (cell_at w n ≡ free_cell k)
  free_says k = says (free k) (λ b. let z : ◌≡◌ {A = ℕ} 0 1 = cc in omega arith)

-- ---- a leaf or a fork

pub of_tree : (x : Node) → LeafOrFork x → OfTree x
of_tree (leaf l) h = tt
of_tree (fork f) h = tt
of_tree (free k) h = absurd h
of_tree broken h = absurd h

module _ (w : List ℕ) (n : ℕ) where
  -- a leaf's or a fork's words stand at its number
  tree_node_says : (x : Node) → node_at w n ≡ x → OfTree x → (n < nodes_in w) × (cell_at w n ≡ cell_of x)
  tree_node_says (leaf l) e h = leaf_says w n l e
  tree_node_says (fork f) e h = fork_says w n f e
  tree_node_says (free k) e h = absurd h
  tree_node_says broken e h = absurd h

  pub tree_node_in : OfTree (node_at w n) → n < nodes_in w
  tree_node_in h = (tree_node_says (node_at w n) refl h).0

  pub tree_node_cell : OfTree (node_at w n) → cell_at w n ≡ cell_of (node_at w n)
  tree_node_cell h = (tree_node_says (node_at w n) refl h).1

-- the word that counts a left child's marks is 0 in a leaf, and not in a fork
pub a_leaf : (x : Cell) (y : Node) → LeafOrFork y → x ≡ cell_of y → x.fourth ≡ 0 → leaf (leaf_words x) ≡ y
a_leaf x (leaf l) h e z = ap (λ (u : Cell). leaf (leaf_words u)) e
a_leaf x (fork f) h e z = absurd (omega (arith, ap (λ (u : Cell). u.fourth) e))
a_leaf x (free k) h e z = absurd h
a_leaf x broken h e z = absurd h

pub a_fork : (x : Cell) (y : Node) → LeafOrFork y → x ≡ cell_of y → 1 ≤ x.fourth → fork (fork_words x) ≡ y
a_fork x (leaf l) h e z = absurd (omega (arith, ap (λ (u : Cell). u.fourth) e))
a_fork x (fork f) h e z = ap (λ (u : Cell). fork (fork_words u)) e
a_fork x (free k) h e z = absurd h
a_fork x broken h e z = absurd h

-- a leaf's sixth word is 0, and a fork's its balance
pub a_balance : (y : Node) → OfTree y → (cell_of y).sixth ≡ balance_in y
a_balance (leaf l) h = refl
a_balance (fork f) h = refl
a_balance (free k) h = absurd h
a_balance broken h = absurd h

-- a tree's node is put by putting its words
pub put_words : (w : List ℕ) (n : ℕ) (y : Node) → OfTree y → put w n (cell_of y) ≡ put_node w n y
put_words w n (leaf l) h = refl
put_words w n (fork f) h = refl
put_words w n (free k) h = absurd h
put_words w n broken h = absurd h

-- ---- two words of a fork

-- a word that is set to what it is
kept : (w : List ℕ) (i x : ℕ) → get_or w i 0 ≡ x → set w i x ≡ w
kept w i x e = ap (set w i) (sym e) ∙ set-get_or w i 0

-- setting what a fork says of its left child is putting the fork that says so
pub put_left : (w : List ℕ) (n : ℕ) (f : Fork) (total ones : ℕ) → node_at w n ≡ fork f
    → set (set w (n * 6 + 3) total) (n * 6 + 4) ones ≡ put w n (fork_cell (with_left f total ones))
unfolding put
put_left w n f total ones e =
    let s = fork_says w n f e in
    let v : List ℕ = set (set w (n * 6 + 3) total) (n * 6 + 4) ones in
    let e0 : set w (n * 6) 2 ≡ w = kept w (n * 6) 2 (ap (λ (x : Cell). x.kind) s.1) in
    let e1 : set w (n * 6 + 1) f.left ≡ w = kept w (n * 6 + 1) f.left (ap (λ (x : Cell). x.second) s.1) in
    let e2 : set w (n * 6 + 2) f.right ≡ w = kept w (n * 6 + 2) f.right (ap (λ (x : Cell). x.third) s.1) in
    let e5 : set v (n * 6 + 5) f.balance ≡ v =
    kept v (n * 6 + 5) f.balance
    (get_or-set_other (set w (n * 6 + 3) total) (n * 6 + 4) (n * 6 + 5) ones 0 (λ q. omega arith)
    ∙ get_or-set_other w (n * 6 + 3) (n * 6 + 5) total 0 (λ q. omega arith) ∙ ap (λ (x : Cell). x.sixth) s.1) in
    rw (put, lt-ltb n (nodes_in w) s.0, e0, e1, e2, e5)

-- ---- words of whole nodes

pub nodes_in_of : (N : ℕ) (w : List ℕ) → length w ≡ 6 * N → nodes_in w ≡ N
nodes_in_of N w e = omega arith

pub same_nodes : (N : ℕ) (w w' : List ℕ) → length w ≡ 6 * N → length w' ≡ 6 * N → ((n : ℕ) → n < N → node_at w n ≡ node_at w' n)
    → ((n : ℕ) → n < N → node_at w n ≡ broken → ⊥) → w ≡ w'
same_nodes N w w' e e' same whole =
    ext_get_or 0 w w' (e ∙ sym e')
    (λ i h.
    let n : ℕ = i / 6 in
    let j : ℕ = i % 6 in
    let at : i ≡ n * 6 + j = omega arith in
    let m : n < N = omega arith in
    let l : j < 6 = omega arith in
    let s = same n m in
    let cells : cell_at w n ≡ cell_at w' n = (said w n (whole n m)).1 ∙ ap cell_of s ∙ sym (said w' n (λ b. whole n m (s ∙ b))).1 in
    ap (λ (k : ℕ). get_or w k 0) at ∙ sym (word_at w n j l) ∙ ap (λ (x : Cell). get_or (words x) j 0) cells ∙ word_at w' n j l
    ∙ ap (λ (k : ℕ). get_or w' k 0) (sym at))
