-- Every public contract determines its result: two results that it allows, where a tree stands as the contract asks, are equal, and for a function
-- that writes words of whole nodes so are the words afterwards. `Post` takes the lifetimes, the arguments, the result and what the call leaves
-- behind references.
use Prim.Native.Nat.{ℕ}
use mathlib.Core.Path.{◌≡◌, sym, ◌∙◌}
use mathlib.Core.Bool.{Bool}
use mathlib.Core.List.{List, [], ◌∷◌}
use borrow.Fn.Kinds.{Dens}
use Rattle.model.specs.Edit.{put_before, put_after, drop_first, drop_last}
use Rattle.model.specs.Tree.{Tree}
use Rattle.model.proofs.Shape.{put_before_shape, put_after_shape, drop_first_shape, drop_last_shape, alike_numbers}
use Rattle.pool.proofs.Once.{Unbroken, edited_once}
use Rattle.tree.specs.TreeAt.{TreeAt}
use Rattle.spine.specs.Edges.{ToPutBefore, ToPutAfter, ToDropFirst, ToDropLast}
use Rattle.spine.proofs.edges.first_leaf_size.Reads as first_leaf_size
use Rattle.spine.proofs.edges.first_leaf_size.Kinds as first_leaf_size_kinds
use Rattle.spine.proofs.edges.last_leaf_size.Reads as last_leaf_size
use Rattle.spine.proofs.edges.last_leaf_size.Kinds as last_leaf_size_kinds
use Rattle.spine.proofs.edges.put_before.Reads as before
use Rattle.spine.proofs.edges.put_before.Kinds as before_kinds
use Rattle.spine.proofs.edges.put_after.Reads as after
use Rattle.spine.proofs.edges.put_after.Kinds as after_kinds
use Rattle.spine.proofs.edges.drop_first.Reads as first
use Rattle.spine.proofs.edges.drop_first.Kinds as first_kinds
use Rattle.spine.proofs.edges.drop_last.Reads as last
use Rattle.spine.proofs.edges.drop_last.Kinds as last_kinds

pub first_leaf_size_pinned : (κs : _) (a : Dens {n = 1} κs first_leaf_size_kinds.ps) (r r' : _) (w w' : _) → TreeAt a.0.now a.1.0 a.1.1.0
    → first_leaf_size.Post κs a r w → first_leaf_size.Post κs a r' w' → r ≡ r'
first_leaf_size_pinned κs a r r' w w' s p q = p s ∙ sym (q s)

pub last_leaf_size_pinned : (κs : _) (a : Dens {n = 1} κs last_leaf_size_kinds.ps) (r r' : _) (w w' : _) → TreeAt a.0.now a.1.0 a.1.1.0
    → last_leaf_size.Post κs a r w → last_leaf_size.Post κs a r' w' → r ≡ r'
last_leaf_size_pinned κs a r r' w w' s p q = p s ∙ sym (q s)

pub put_before_pinned : (κs : _) (a : Dens {n = 1} κs before_kinds.ps) (r r' : _) (w w' : _) (n : ℕ) (t : Tree) (ys : List Bool)
    → Unbroken n a.0.now → ToPutBefore a.0.now a.1.0 a.1.1.1.1.1.0 a.1.1.0 a.1.1.1.0 a.1.1.1.1.0 t ys
    → before.Post κs a r w → before.Post κs a r' w' → w.0.now ≡ w'.0.now
put_before_pinned κs a r r' w w' n t ys whole h p q =
    edited_once n whole (sym (alike_numbers (put_before ys t) t (put_before_shape ys t))) (p t ys h) (q t ys h)

pub put_after_pinned : (κs : _) (a : Dens {n = 1} κs after_kinds.ps) (r r' : _) (w w' : _) (n : ℕ) (t : Tree) (ys : List Bool)
    → Unbroken n a.0.now → ToPutAfter a.0.now a.1.0 a.1.1.1.0 a.1.1.0 t ys
    → after.Post κs a r w → after.Post κs a r' w' → w.0.now ≡ w'.0.now
put_after_pinned κs a r r' w w' n t ys whole h p q =
    edited_once n whole (sym (alike_numbers (put_after ys t) t (put_after_shape ys t))) (p t ys h) (q t ys h)

-- the lone element of a list
same_one : {b c : Bool} {xs : List Bool} → xs ≡ b ∷ [] → xs ≡ c ∷ [] → b ≡ c
same_one p q = cc

pub drop_first_pinned : (κs : _) (a : Dens {n = 1} κs first_kinds.ps) (r r' : _) (w w' : _) (n : ℕ) (t : Tree) → Unbroken n a.0.now
    → ToDropFirst a.0.now a.1.0 a.1.1.0 t → first.Post κs a r w → first.Post κs a r' w' → (r ≡ r') × (w.0.now ≡ w'.0.now)
drop_first_pinned κs a r r' w w' n t whole h p q = (
  same_one (p t h).marked (q t h).marked,
  edited_once n whole (sym (alike_numbers (drop_first t) t (drop_first_shape t))) (p t h).edited (q t h).edited,
)

pub drop_last_pinned : (κs : _) (a : Dens {n = 1} κs last_kinds.ps) (r r' : _) (w w' : _) (n : ℕ) (t : Tree) → Unbroken n a.0.now
    → ToDropLast a.0.now a.1.0 a.1.1.0 t → last.Post κs a r w → last.Post κs a r' w'
    → (r ≡ r') × (w.0.now ≡ w'.0.now)
drop_last_pinned κs a r r' w w' n t whole h p q = (
  same_one (p t h).marked (q t h).marked,
  edited_once n whole (sym (alike_numbers (drop_last t) t (drop_last_shape t))) (p t h).edited (q t h).edited,
)
