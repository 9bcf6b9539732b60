-- Two pools of different sizes that hold the same tree: the free chain of the larger begins with that of the smaller. An insert that has room in
-- the smaller, and a remove, keep it so.
use Prim.Native.Nat.{ℕ, zero, suc, ◌+◌, ◌-◌, ◌≤◌}
use native.Mathlib.Omega.{arith}
use mathlib.Core.Path.{◌≡◌, refl, sym, ap, ap₂, ◌∙◌}
use mathlib.Core.Bool.{Bool, true, false}
use mathlib.Core.List.{List, [], ◌∷◌, ◌++◌}
use Rattle.std.specs.Prelude.{Option, None, Some}
use lib.Dec.{leb, ltb}
use lib.ListN.{length, drop, get_or, length-append}
use Rattle.model.specs.Build as Build
use Rattle.model.specs.Edit as Edit
use Rattle.model.specs.Edit.{splits, leaf_split, leaf_at, settle}
use Rattle.model.specs.Marks as Marks
use Rattle.model.specs.Pool.{Pool, build, insert, remove, numbers_from, nodes_for, two_free}
use Rattle.model.specs.Tree.{Tree, leaf, fork, size}
use Rattle.model.proofs.Cases.{by_test, by_ltb, splits_left, splits_right}
use Rattle.model.proofs.MarksEdits.{length_insert}
use Rattle.model.proofs.PoolCases.{build_outcomes, insert_outcomes, two_free_no, two_free_yes}

-- the larger pool is the smaller one with more nodes at the end of its free chain
pub record Wider (p q : Pool) : Type 0 where
  pub more : List ℕ
  pub tree : q.tree ≡ p.tree
  pub free : q.free ≡ p.free ++ more

-- ---- what an insert takes of the free chain

-- a leaf that splits takes the first two free numbers, and one that does not takes none
settle_taken : (n : ℕ) (xs : List Bool) (f g : List ℕ) → get_or f 0 0 ≡ get_or g 0 0 → get_or f 1 0 ≡ get_or g 1 0 → settle n xs f ≡ settle n xs g
unfolding settle
settle_taken n xs f g first second = by_test (leb leaf_split (length xs)) (λ e. rw (settle, e, first, second)) (λ e. rw (settle, e))

settle_not_taken : (n : ℕ) (xs : List Bool) (f g : List ℕ) → leb leaf_split (length xs) ≡ false → settle n xs f ≡ settle n xs g
unfolding settle
settle_not_taken n xs f g e = rw (settle, e)

-- an insert takes the first two
pub insert_taken : (i : ℕ) (b : Bool) (f g : List ℕ) (t : Tree) → get_or f 0 0 ≡ get_or g 0 0 → get_or f 1 0 ≡ get_or g 1 0
    → Edit.insert i b f t ≡ Edit.insert i b g t
unfolding Edit.insert
insert_taken i b f g (leaf n xs) first second = settle_taken n (Marks.insert i b xs) f g first second
insert_taken i b f g (fork n l r) first second =
    by_test (ltb i (size l))
    (λ e. rw (Edit.insert, e, insert_taken i b f g l first second))
    (λ e. rw (Edit.insert, e, insert_taken (i - size l) b f g r first second))

-- and none where it splits no leaf
pub insert_not_taken : (i : ℕ) (b : Bool) (f g : List ℕ) (t : Tree) → i ≤ size t → splits i t ≡ false → Edit.insert i b f t ≡ Edit.insert i b g t
unfolding Edit.insert splits leaf_at size
insert_not_taken i b f g (leaf n xs) h e =
    settle_not_taken n (Marks.insert i b xs) f g (ap (leb leaf_split) (length_insert i b xs h) ∙ e)
insert_not_taken i b f g (fork n l r) h e =
    by_ltb i (size l)
    (λ t k. rw (Edit.insert, t, insert_not_taken i b f g l (omega arith) (sym (splits_left i n l r k) ∙ e)))
    (λ t k. rw (Edit.insert, t, insert_not_taken (i - size l) b f g r (omega arith) (sym (splits_right i n l r k) ∙ e)))

-- ---- lists

first_two : (f g : List ℕ) → 2 ≤ length f → (get_or (f ++ g) 0 0 ≡ get_or f 0 0) × (get_or (f ++ g) 1 0 ≡ get_or f 1 0)
    × (drop 2 (f ++ g) ≡ drop 2 f ++ g)
first_two [] g h = absurd (omega arith)
first_two (a ∷ []) g h = absurd (omega arith)
first_two (a ∷ b ∷ f) g h = (refl, refl, refl)

append_assoc : (xs ys zs : List ℕ) → xs ++ (ys ++ zs) ≡ (xs ++ ys) ++ zs
append_assoc [] ys zs = refl
append_assoc (x ∷ xs) ys zs = ap (λ (v : List ℕ). x ∷ v) (append_assoc xs ys zs)

along : (n j : ℕ) → suc n + j ≡ n + suc j
along n j = omega arith

numbers_split : (n j k m : ℕ) → m ≡ j + k → numbers_from n m ≡ numbers_from n j ++ numbers_from (n + j) k
unfolding numbers_from
numbers_split n zero k m e =
    let a : n ≡ n + 0 = omega arith in
    let c : m ≡ k = omega arith in
    ap₂ numbers_from a c
numbers_split n (suc j) k zero e = absurd (omega arith)
numbers_split n (suc j) k (suc m) e =
    ap (λ (v : List ℕ). n ∷ v) (numbers_split (suc n) j k m (omega arith) ∙ ap (λ (l : ℕ). numbers_from (suc n) j ++ numbers_from l k) (along n j))

-- ---- the steps

-- the same build
pub build_wider : (n m : ℕ) (xs : List Bool) (p q : Pool) → n ≤ m → build n xs ≡ Some p → build m xs ≡ Some q → Wider p q
build_wider n m xs p q h =
    build_outcomes (λ (o : Option Pool). o ≡ Some p → build m xs ≡ Some q → Wider p q) n xs
    (λ _ e. let z : ◌≡◌ {A = ℕ} 0 1 = cc in absurd (omega arith))
    (λ room e. build_outcomes (λ (o : Option Pool). o ≡ Some q → Wider p q) m xs
    (λ _ f. let z : ◌≡◌ {A = ℕ} 0 1 = cc in absurd (omega arith))
    (λ more f.
    let need : ℕ = nodes_for (Build.leaf_count (length xs)) in
    let y : p ≡ record { tree = Build.build xs; free = numbers_from need (n - need) } = cc in
    let z : q ≡ record { tree = Build.build xs; free = numbers_from need (m - need) } = cc in
    record {
      more = numbers_from (need + (n - need)) (m - n);
      tree = rw (y, z);
      free = rw (y, z) (numbers_split need (n - need) (m - n) (m - need) (sum need room));
    }))
  where
    sum : (need : ℕ) → need ≤ n → m - need ≡ (n - need) + (m - n)
    sum need room = omega arith

-- a remove
pub remove_wider : (i : ℕ) (p q : Pool) → Wider p q → Wider (remove i p) (remove i q)
unfolding remove
remove_wider i p q w =
    record {
      more = w.more;
      tree = rw w.tree;
      free = rw (w.tree, w.free) (append_assoc (Edit.remove i p.tree).freed p.free w.more);
    }

-- An insert. Both have room for it and stay as they are to each other; or neither has; or the smaller has none, and the larger has.
pub data Steps (o o' : Option Pool) : Type 0 where
  alike : (p q : Pool) → o ≡ Some p → o' ≡ Some q → Wider p q → Steps o o'
  both_full : o ≡ None → o' ≡ None → Steps o o'
  one_full : (q : Pool) → o ≡ None → o' ≡ Some q → Steps o o'

other : {A : Type 0} {b : Bool} → b ≡ true → b ≡ false → A
other {b = b} t f = let e : ◌≡◌ {A = Bool} true false = sym t ∙ f in let z : ◌≡◌ {A = ℕ} 0 1 = cc in absurd (omega arith)

pub insert_wider : (i : ℕ) (b : Bool) (p q : Pool) → i ≤ size p.tree → Wider p q → Steps (insert (two_free p) i b p) (insert (two_free q) i b q)
insert_wider i b p q h w =
    let same : splits i q.tree ≡ splits i p.tree = ap (splits i) w.tree in
    let more : length q.free ≡ length p.free + length w.more = ap length w.free ∙ length-append p.free w.more in
    insert_outcomes (λ (o : Option Pool). Steps o (insert (two_free q) i b q)) (two_free p) i b p
    (λ split few. insert_outcomes (Steps None) (two_free q) i b q
    (λ _ _. both_full refl refl)
    (λ _ _. one_full _ refl refl)
    (λ room. other split (sym same ∙ room)))
    (λ split two. insert_outcomes (Steps _) (two_free q) i b q
    (λ _ few. absurd (omega (arith, two_free_no q few, two_free_yes p two)))
    (λ _ _. alike _ _ refl refl (split_wider (two_free_yes p two)))
    (λ room. other split (sym same ∙ room)))
    (λ room. insert_outcomes (Steps _) (two_free q) i b q
    (λ split _. other (sym same ∙ split) room)
    (λ split _. other (sym same ∙ split) room)
    (λ _. alike _ _ refl refl (room_wider room)))
  where
    split_wider : 2 ≤ length p.free
        → Wider (record { tree = Edit.insert i b p.free p.tree; free = drop 2 p.free })
        (record { tree = Edit.insert i b q.free q.tree; free = drop 2 q.free })
    split_wider two =
        let k = first_two p.free w.more two in
        record {
          more = w.more;
          tree = rw (w.tree, w.free) (insert_taken i b (p.free ++ w.more) p.free p.tree k.0 k.1);
          free = rw w.free k.2;
        }

    room_wider : splits i p.tree ≡ false
        → Wider (record { tree = Edit.insert i b p.free p.tree; free = p.free })
        (record { tree = Edit.insert i b q.free q.tree; free = q.free })
    room_wider room =
        record {
          more = w.more;
          tree = rw w.tree (insert_not_taken i b q.free p.free p.tree h room);
          free = w.free;
        }
