-- Edits that leave every node where it is: a mark taken out of a leaf that holds 34 or more, and a mark put in before the first where its leaf has
-- room. So a pool can be brought, mark by mark, to hold 33 marks in each leaf but the first, which is filled, and the last.
use Prim.Native.Nat.{ℕ, zero, suc, ◌+◌, ◌-◌, ◌*◌, ◌≤◌, ◌<◌}
use native.Mathlib.Omega.{arith}
use mathlib.Core.Path.{◌≡◌, refl, sym, ap, ◌∙◌}
use mathlib.Core.Bool.{Bool, true, false}
use mathlib.Core.List.{List, [], ◌∷◌, ◌++◌, map, reverse, reverse_aux}
use Rattle.std.specs.Prelude.{Option, Some}
use lib.ListN.{length, take, drop, length-take, length-drop}
use lib.Dec.{ltb}
use borrow.Author.Tests.{lt-ltb, le-ltb}
use Rattle.model.specs.Build.{build, built_leaves, leaf_built, leaf_count, round}
use Rattle.model.specs.Edit as Edit
use Rattle.model.specs.Edit.{Trimmed, leaf_at, leaf_split, put_before, splits}
use Rattle.model.specs.Sharp.{Becomes, Change, out, put}
use Rattle.model.specs.Marks as Marks
use Rattle.model.specs.Pool.{Pool, insert, remove, two_free}
use Rattle.model.specs.Edit.{leaf_least}
use Rattle.model.specs.Sound.{Balanced, Sized, Sound, leaf_most}
use Rattle.model.specs.Tree.{Tree, leaf, fork, first_leaf, last_leaf, leaf_total, size}
use Rattle.model.specs.Turn.{rebalance}
use Rattle.model.proofs.Balance.{rebalance_level}
use Rattle.model.proofs.Cases.{by_leb, by_ltb, insert_cases, mend_left_cases, mend_right_cases, settle_cases}
use Rattle.model.proofs.Floor.{whole_sized}
use Rattle.model.proofs.Leaves.{sized_size}
use Rattle.model.proofs.MarksEdits.{length_remove}
use Rattle.model.proofs.PoolCases.{insert_outcomes, two_free_yes}
use Rattle.model.proofs.PoolSound.{insert_sound, remove_sound}
use Rattle.model.proofs.Rounds.{build_keeps}
use Rattle.model.proofs.Shape.{alike_balanced, alike_height, put_before_shape, shape}

-- ---- one mark less

-- the tree with the mark at place i gone, and every node where it was
unfoldable pub lessen : ℕ → Tree → Tree
lessen i (leaf n xs) = leaf n (Marks.remove i xs)
lessen i (fork n l r) = elim (ltb i (size l)) [ true ↦ fork n (lessen i l) r | false ↦ fork n l (lessen (i - size l) r) ]

lessen_left : (i n : ℕ) (l r : Tree) → i < size l → lessen i (fork n l r) ≡ fork n (lessen i l) r
unfolding lessen
lessen_left i n l r h = rw (lessen, lt-ltb i (size l) h)

lessen_right : (i n : ℕ) (l r : Tree) → size l ≤ i → lessen i (fork n l r) ≡ fork n l (lessen (i - size l) r)
unfolding lessen
lessen_right i n l r h = rw (lessen, le-ltb i (size l) h)

leaf_left : (i n : ℕ) (l r : Tree) → i < size l → leaf_at i (fork n l r) ≡ leaf_at i l
unfolding leaf_at
leaf_left i n l r h = rw (leaf_at, lt-ltb i (size l) h)

leaf_right : (i n : ℕ) (l r : Tree) → size l ≤ i → leaf_at i (fork n l r) ≡ leaf_at (i - size l) r
unfolding leaf_at
leaf_right i n l r h = rw (leaf_at, le-ltb i (size l) h)

-- a leaf holds no more than its tree
leaf_at_size : (i : ℕ) (t : Tree) → length (leaf_at i t) ≤ size t
unfolding leaf_at size
leaf_at_size i (leaf n xs) = omega arith
leaf_at_size i (fork n l r) =
    by_ltb i (size l)
    (λ _ h. rw (leaf_left i n l r h) (omega (arith, leaf_at_size i l)))
    (λ _ h. rw (leaf_right i n l r h) (omega (arith, leaf_at_size (i - size l) r)))

lessen_shape : (i : ℕ) (t : Tree) → shape (lessen i t) ≡ shape t
unfolding shape lessen
lessen_shape i (leaf n xs) = refl
lessen_shape i (fork n l r) =
    by_ltb i (size l)
    (λ _ h. rw (lessen_left i n l r h) (simp (shape, lessen_shape i l)))
    (λ _ h. rw (lessen_right i n l r h) (simp (shape, lessen_shape (i - size l) r)))

lessen_size : (i : ℕ) (t : Tree) → i < size t → suc (size (lessen i t)) ≡ size t
unfolding lessen size
lessen_size i (leaf n xs) h = length_remove i xs h
lessen_size i (fork n l r) k =
    by_ltb i (size l)
    (λ _ h. rw (lessen_left i n l r h) (omega (arith, lessen_size i l h)))
    (λ _ h. rw (lessen_right i n l r h) (omega (arith, lessen_size (i - size l) r (omega arith))))

-- that is what a remove leaves where the leaf holds 34 marks or more, and it frees no number
remove_lessens : (i : ℕ) (t : Tree) → Balanced t → i < size t → suc leaf_least ≤ length (leaf_at i t)
    → Edit.remove i t ≡ record { tree = lessen i t; freed = [] }
unfolding Edit.remove lessen size
remove_lessens i (leaf n xs) b k full = refl
remove_lessens i (fork n l r) b k full =
    by_ltb i (size l)
    (λ e h.
    let far : suc leaf_least ≤ length (leaf_at i l) = rw (leaf_left i n l r h) at full in
    let same = remove_lessens i l b.0 h far in
    let high = alike_height (lessen i l) l (lessen_shape i l) in
    rw (Edit.remove, e, same, lessen_left i n l r h)
    (mend_left_cases (λ (t : Trimmed). t ≡ record { tree = fork n (lessen i l) r; freed = [] }) n (record { tree = lessen i l; freed = [] }) r
    (λ low _. absurd (omega (arith, lessen_size i l h, leaf_at_size i l)))
    (λ low _. absurd (omega (arith, lessen_size i l h, leaf_at_size i l)))
    (λ _. ap (λ (u : Tree). record { tree = u; freed = [] }) (rebalance_level n (lessen i l) r (omega arith) (omega arith)))))
    (λ e h.
    let far : suc leaf_least ≤ length (leaf_at (i - size l) r) = rw (leaf_right i n l r h) at full in
    let inside : i - size l < size r = omega arith in
    let same = remove_lessens (i - size l) r b.1 inside far in
    let high = alike_height (lessen (i - size l) r) r (lessen_shape (i - size l) r) in
    rw (Edit.remove, e, same, lessen_right i n l r h)
    (mend_right_cases (λ (t : Trimmed). t ≡ record { tree = fork n l (lessen (i - size l) r); freed = [] }) n l
    (record { tree = lessen (i - size l) r; freed = [] })
    (λ low _. absurd (omega (arith, lessen_size (i - size l) r inside, leaf_at_size (i - size l) r)))
    (λ low _. absurd (omega (arith, lessen_size (i - size l) r inside, leaf_at_size (i - size l) r)))
    (λ _. ap (λ (u : Tree). record { tree = u; freed = [] }) (rebalance_level n l (lessen (i - size l) r) (omega arith) (omega arith)))))

-- ---- many marks less

-- marks taken out at these places, one after the other, each from a leaf of 34 or more
abbrev pub Drops : List ℕ → Tree → Tree → Type 0
Drops [] t u = t ≡ u
Drops (i ∷ more) t u = (i < size t) × (suc leaf_least ≤ length (leaf_at i t)) × Drops more (lessen i t) u

drops_both : (is js : List ℕ) (t u v : Tree) → Drops is t u → Drops js u v → Drops (is ++ js) t v
drops_both [] js t u v e d = rw e d
drops_both (i ∷ is) js t u v d e = (d.0, d.1, drops_both is js (lessen i t) u v d.2 e)

-- in the left child, and in the right one
drops_left : (n : ℕ) (r : Tree) (is : List ℕ) (l u : Tree) → Drops is l u → Drops is (fork n l r) (fork n u r)
unfolding size
drops_left n r [] l u e = ap (λ (x : Tree). fork n x r) e
drops_left n r (i ∷ is) l u d = (
  omega (arith, d.0),
  rw (leaf_left i n l r d.0) d.1,
  rw (lessen_left i n l r d.0) (drops_left n r is (lessen i l) u d.2),
)

drops_right : (n : ℕ) (l : Tree) (is : List ℕ) (r u : Tree) → Drops is r u → Drops (map (λ i. size l + i) is) (fork n l r) (fork n l u)
unfolding size
drops_right n l [] r u e = ap (λ (x : Tree). fork n l x) e
drops_right n l (i ∷ is) r u d =
    let back : (size l + i) - size l ≡ i = omega arith in (
      omega (arith, d.0),
      rw (leaf_right (size l + i) n l r (omega arith), back) d.1,
      rw (lessen_right (size l + i) n l r (omega arith), back) (drops_right n l is (lessen i r) u d.2),
    )

-- marks can be taken out of t until it is u
abbrev pub Thins : Tree → Tree → Type 0
Thins t u = (is : List ℕ) × Drops is t u

pub thins_fork : (n : ℕ) (l r u v : Tree) → Thins l u → Thins r v → Thins (fork n l r) (fork n u v)
thins_fork n l r u v d e =
    let further = map (λ i. size u + i) e.0 in
    let first = drops_left n r d.0 l u d.1 in
    (d.0 ++ further, drops_both d.0 further (fork n l r) (fork n u r) (fork n u v) first (drops_right n u e.0 r v e.1))

-- a leaf down to 33
thin_leaf : (k n : ℕ) (xs : List Bool) → length xs ≡ leaf_least + k → (ys : List Bool) × (length ys ≡ leaf_least) × Thins (leaf n xs) (leaf n ys)
unfolding lessen leaf_at size
thin_leaf zero n xs e = (xs, e, ([], refl))
thin_leaf (suc k) n xs e =
    let Some : 0 < length xs = omega arith in
    let t = thin_leaf k n (Marks.remove 0 xs) (omega (arith, length_remove 0 xs Some)) in
    (t.0, t.1, (0 ∷ t.2.0, (Some, omega arith, t.2.1)))

-- all leaves down to 33
thin_all : (t : Tree) → Sized leaf_least t → (u : Tree) × Thins t u × (size u ≡ leaf_least * leaf_total u)
unfolding size leaf_total
thin_all (leaf n xs) s = let t = thin_leaf (length xs - leaf_least) n xs (omega (arith, s.0)) in (leaf n t.0, t.2, omega (arith, t.1))
thin_all (fork n l r) s =
    let a = thin_all l s.0 in
    let b = thin_all r s.1 in
    (fork n a.0 b.0, thins_fork n l r a.0 b.0 a.1 b.1, omega (arith, a.2, b.2))

-- all but the first, which is full
pub thin_behind : (t : Tree) → Sized leaf_least t → length (first_leaf t) ≡ leaf_most
    → (u : Tree) × Thins t u × (size u + leaf_least ≡ leaf_least * leaf_total u + leaf_most) × (length (first_leaf u) ≡ leaf_most)
unfolding size leaf_total first_leaf
thin_behind (leaf n xs) s e = (leaf n xs, ([], refl), omega arith, e)
thin_behind (fork n l r) s e =
    let a = thin_behind l s.0 e in
    let b = thin_all r s.1 in
    (fork n a.0 b.0, thins_fork n l r a.0 b.0 a.1 b.1, omega (arith, a.2, b.2), a.3)

-- all but the last, which holds a single mark
pub thin_before : (t : Tree) → Sized 1 t → length (last_leaf t) ≡ 1 → (u : Tree) × Thins t u × (size u + leaf_least ≡ leaf_least * leaf_total u + 1)
unfolding size leaf_total last_leaf
thin_before (leaf n xs) s e = (leaf n xs, ([], refl), omega arith)
thin_before (fork n l r) s e =
    let a = thin_all l s.0 in
    let b = thin_before r s.1 e in
    (fork n a.0 b.0, thins_fork n l r a.0 b.0 a.1 b.1, omega (arith, a.2, b.2))

-- ---- the same of a pool

pub becomes_both : (cs ds : List Change) (p q r : Pool) → Becomes cs p q → Becomes ds q r → Becomes (cs ++ ds) p r
becomes_both [] ds p q r e b = rw e b
becomes_both (put i x ∷ cs) ds p q r b d = (b.0, b.1, b.2, becomes_both cs ds b.1 q r b.3 d)
becomes_both (out i ∷ cs) ds p q r b d = (b.0, becomes_both cs ds (remove i p) q r b.1 d)

-- a pool stays sound
pub becomes_sound : (n : ℕ) (cs : List Change) (p q : Pool) → Becomes cs p q → Sound n p → Sound n q
becomes_sound n [] p q e s = rw (sym e) s
becomes_sound n (put i x ∷ cs) p q b s =
    becomes_sound n cs b.1 q b.3 (insert_sound n (two_free p) i x p b.1 b.0 (two_free_yes p) b.2 s)
becomes_sound n (out i ∷ cs) p q b s = becomes_sound n cs (remove i p) q b.1 (remove_sound n i p b.0 s)

remove_pool : (i : ℕ) (p : Pool) → Balanced p.tree → i < size p.tree → suc leaf_least ≤ length (leaf_at i p.tree)
    → remove i p ≡ record { tree = lessen i p.tree; free = p.free }
unfolding remove
remove_pool i p b h k = ap (λ (t : Trimmed). record { tree = t.tree; free = t.freed ++ p.free }) (remove_lessens i p.tree b h k)

pub becomes_thin : (is : List ℕ) (t u : Tree) (free : List ℕ) → Balanced t → Drops is t u
    → Becomes (map out is) (record { tree = t; free = free }) (record { tree = u; free = free })
becomes_thin [] t u free b e = ap (λ (x : Tree). record { tree = x; free = free }) e
becomes_thin (i ∷ is) t u free b d = (
  d.0,
  rw (remove_pool i (record { tree = t; free = free }) b d.0 d.1)
      (becomes_thin is (lessen i t) u free (alike_balanced (lessen i t) t (lessen_shape i t) b) d.2),
)

-- ---- marks put in before the first

pub leaf_front : (least : ℕ) (t : Tree) → Sized least t → leaf_at 0 t ≡ first_leaf t
unfolding leaf_at first_leaf
leaf_front least (leaf n xs) s = refl
leaf_front least (fork n l r) s = leaf_left 0 n l r (omega (arith, sized_size leaf_least l s.0)) ∙ leaf_front leaf_least l s.0

insert_front : (least : ℕ) (x : Bool) (free : List ℕ) (t : Tree) → Sized least t → Balanced t → length (first_leaf t) < leaf_most
    → Edit.insert 0 x free t ≡ put_before (x ∷ []) t
unfolding Edit.insert Marks.insert put_before first_leaf
insert_front least x free (leaf n xs) s b h =
    settle_cases (λ (t : Tree). t ≡ leaf n (x ∷ xs)) n (x ∷ xs) free (λ long. absurd (omega arith)) (λ _. refl)
insert_front least x free (fork n l r) s b h =
    let same = insert_front leaf_least x free l s.0 b.0 h in
    let high = alike_height (put_before (x ∷ []) l) l (put_before_shape (x ∷ []) l) in
    insert_cases (λ (t : Tree). t ≡ fork n (put_before (x ∷ []) l) r) 0 x free n l r
    (λ _. ap (λ (u : Tree). rebalance n u r) same ∙ rebalance_level n (put_before (x ∷ []) l) r (omega arith) (omega arith))
    (λ none. absurd (omega (arith, sized_size leaf_least l s.0)))

first_longer : (x : Bool) (t : Tree) → length (first_leaf (put_before (x ∷ []) t)) ≡ suc (length (first_leaf t))
unfolding first_leaf put_before
first_longer x (leaf n xs) = refl
first_longer x (fork n l r) = first_longer x l

insert_pool : (n : ℕ) (p : Pool) (x : Bool) → Sound n p → length (first_leaf p.tree) < leaf_most
    → insert (two_free p) 0 x p ≡ Some (record { tree = put_before (x ∷ []) p.tree; free = p.free })
unfolding splits
insert_pool n p x s h =
    let sized = whole_sized p.tree s.whole in
    let front = ap length (leaf_front 0 p.tree sized) in
    let short : splits 0 p.tree ≡ false =
    by_leb leaf_split (suc (length (leaf_at 0 p.tree))) (λ _ k. absurd (omega arith)) (λ e _. rw (splits, e)) in
    insert_outcomes (λ (o : Option Pool). o ≡ Some (record { tree = put_before (x ∷ []) p.tree; free = p.free })) (two_free p) 0 x p
    (λ split _. let z : ◌≡◌ {A = ℕ} 0 1 = cc in absurd (omega arith))
    (λ split _. let z : ◌≡◌ {A = ℕ} 0 1 = cc in absurd (omega arith))
    (λ _. ap (λ (t : Tree). Some (record { tree = t; free = p.free })) (insert_front 0 x p.free p.tree sized s.balanced h))

-- the rightmost leaf of several holds a single mark
abbrev pub Ended : Tree → Type 0
Ended (leaf n xs) = Unit {0}
Ended (fork n l r) = length (last_leaf r) ≡ 1

put_ended : (x : Bool) (t : Tree) → Ended t → Ended (put_before (x ∷ []) t)
unfolding put_before
put_ended x (leaf n xs) e = tt
put_ended x (fork n l r) e = e

-- the first leaf filled up
pub record Filled (n : ℕ) (p q : Pool) : Type 0 where
  pub sound : Sound n q
  pub free : q.free ≡ p.free
  pub first : length (first_leaf q.tree) ≡ leaf_most
  pub ended : Ended q.tree

pub fill : (k n : ℕ) (p : Pool) → Sound n p → length (first_leaf p.tree) + k ≡ leaf_most → Ended p.tree
    → (cs : List Change) × (q : Pool) × Becomes cs p q × Filled n p q
fill zero n p s e t = ([], p, refl, record { sound = s; free = refl; first = omega arith; ended = t })
fill (suc k) n p s e t =
    let next : Pool = record { tree = put_before (false ∷ []) p.tree; free = p.free } in
    let put_in = insert_pool n p false s (omega arith) in
    let low : 0 ≤ size p.tree = omega arith in
    let long = first_longer false p.tree in
    let sound_next = insert_sound n (two_free p) 0 false p next low (two_free_yes p) put_in s in
    let more = fill k n next sound_next (omega arith) (put_ended false p.tree t) in (
      put 0 false ∷ more.0,
      more.1,
      (low, next, put_in, more.2),
      record { sound = more.3.sound; free = more.3.free; first = more.3.first; ended = more.3.ended },
    )

-- ---- a tree of which only the rightmost leaf is short

-- the first of some trees, the rightmost first, has a last leaf of a single mark
abbrev Short : List Tree → Type 0
Short [] = Unit {0}
Short (t ∷ ts) = length (last_leaf t) ≡ 1

round_short : (n : ℕ) (ts : List Tree) → Short ts → Short (round n ts)
unfolding round last_leaf
round_short n [] e = tt
round_short n (t ∷ []) e = e
round_short n (r ∷ l ∷ []) e = e
round_short n (r ∷ l ∷ odd ∷ []) e = e
round_short n (r ∷ l ∷ s ∷ t ∷ more) e = e

leaves_short : (n k : ℕ) (xs : List Bool) (seen : List Tree) → length xs ≡ leaf_built * k + 1 → Short (reverse_aux (built_leaves n (suc k) xs) seen)
unfolding built_leaves last_leaf
leaves_short n zero xs seen e = simp (length-take leaf_built xs) (omega arith)
leaves_short n (suc k) xs seen e =
    leaves_short (suc n) k (drop leaf_built xs) (leaf n (take leaf_built xs) ∷ seen) (omega (arith, length-drop leaf_built xs))

short_ended : (t : Tree) → length (last_leaf t) ≡ 1 → Ended t
unfolding last_leaf
short_ended (leaf n xs) e = tt
short_ended (fork n l r) e = e

pub leaf_count_short : (k : ℕ) → leaf_count (leaf_built * k + 1) ≡ suc k
unfolding leaf_count
leaf_count_short k = let e : leaf_built * k + 1 ≡ suc (leaf_built * k) = omega arith in rw e (omega arith)

-- a tree built from one mark more than some leaves take
pub build_short : (k : ℕ) (xs : List Bool) → length xs ≡ leaf_built * k + 1 → Ended (build xs)
build_short k xs e =
    let many : leaf_count (length xs) ≡ suc k = ap leaf_count e ∙ leaf_count_short k in
    let start : Short (reverse (built_leaves 0 (leaf_count (length xs)) xs)) = rw many (leaves_short 0 k xs [] e) in
    short_ended (build xs) (build_keeps (λ (_ : ℕ). Short) round_short xs start).1
