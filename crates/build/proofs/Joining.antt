-- What stores do to the trees that wait: a leaf or a fork that is put at a number which no tree has yet keeps them all, and stands itself.
use Prim.Native.Nat.{ℕ, suc, ◌+◌, ◌-◌, ◌≤◌, ◌<◌, max}
use native.Mathlib.Omega.{arith}
use mathlib.Core.Path.{◌≡◌, refl, sym, ap, ap₂, ◌∙◌}
use mathlib.Core.Bool.{Bool, true}
use mathlib.Core.List.Memᴰ
use mathlib.Core.List.{List, [], ◌∷◌}
use mathlib.Core.Logic.{⊎_elim}
use Rattle.model.specs.Limits.{levels}
use Rattle.model.specs.Marks.{count}
use Rattle.model.specs.Tree.{Tree, leaf, fork, top, marks, size, height, numbers}
use Rattle.model.proofs.Leaves.{sized_weaken}
use Rattle.bits.specs.Leaf.{leaf_of}
use Rattle.pool.specs.Layout.{fork_of}
use Rattle.pool.specs.Node.{Put}
use Rattle.pool.specs.declared.node.Node.TheVariants as Node
use Rattle.pool.proofs.Standing.{holds_same}
use Rattle.tree.specs.TreeAt.{TreeAt}
use Rattle.build.specs.Waiting.{Along, FitsLeft, Kept, Waits, fork_over, item_over}
use Rattle.build.specs.declared.building.Item.{Item}
use Rattle.build.specs.declared.building.Row.{Row}

-- ---- what is kept

pub put_kept : {w w' : List ℕ} {n : ℕ} {x : _} → Put w w' n x → Kept w w' n
put_kept {n} p k h = p.else k (λ e. omega arith)

pub kept_kept : (w w' w'' : List ℕ) (n m : ℕ) → n ≤ m → Kept w w' n → Kept w' w'' m → Kept w w'' n
kept_kept w w' w'' n m h p q k l = q k (omega arith) ∙ p k l

module _ (w w' : List ℕ) (n m : ℕ) (kept : Kept w w' n) (h : n ≤ m) where
  pub waits_kept : {at : ℕ} {t : Tree} {x : Item} → Waits w n at t x → Waits w' m at t x
  waits_kept {t = t} s =
      record {
        node = s.node;
        levels = s.levels;
        filled = s.filled;
        holds = holds_same w w' t (λ k q. kept k (s.below k q)) s.holds;
        below = λ k q. let l = s.below k q in omega arith;
      }

  pub along_kept : (r : Row) (at : ℕ) (ts : List Tree) → Along w n r at ts → Along w' m r at ts
  along_kept r at [] p = tt
  along_kept r at (t ∷ []) p = waits_kept p
  along_kept r at (t ∷ u ∷ more) p = (waits_kept p.0, along_kept r (suc at) (u ∷ more) p.1)

-- ---- a leaf and a fork

pub leaf_waits : {w w' : List ℕ} {n : ℕ} (at total : ℕ) (xs : List Bool) → Put w w' n (Node.Leaf (leaf_of xs)) → (0 < at → FitsLeft total (leaf n xs))
    → Waits w' (suc n) at (leaf n xs) (record { tree = record { node = n; length = total }; height = 0 })
unfolding top height numbers
leaf_waits {n = n} at total xs p filled =
    record {
      node = refl;
      levels = refl;
      filled = filled;
      holds = p.here;
      below = λ k q. ⊎_elim (λ e. omega arith) (λ none. absurd (Memᴰ.not-nil none)) (Memᴰ.cases_cons q);
    }

-- a tree that is not the rightmost stands as its item says
abbrev pub waits_standing : {w : List ℕ} {n at : ℕ} {t : Tree} {x : Item} → Waits w n at t x → 0 < at → x.height ≤ levels
    → TreeAt w x.tree levels
waits_standing {t = t} s some low =
    record {
      tree = t;
      rooted = record {
        at = sym s.node;
        holds = s.holds;
        deep = omega (arith, s.levels);
        sized = sized_weaken 0 33 t (omega arith) (s.filled some).sized;
      };
      total = sym (s.filled some).marks;
    }

module _ {w w' : List ℕ} (n i : ℕ) (l r : Tree) (a b : Item) (p : Put w w' n (Node.Fork (fork_over a b (count true (marks l))))) {at to : ℕ}
    (left : Waits w n at l a) (right : Waits w n to r b) (some : 0 < at) (more : 0 < i → 0 < to) where
  pub fork_waits : Waits w' (suc n) i (fork n l r) (item_over n a b)
  unfolding top size height numbers fork_of
  fork_waits =
      let over : fork_over a b (count true (marks l)) ≡ fork_of l r =
      λ j. record {
        left = left.node j;
        right = right.node j;
        left_total = (left.filled some).marks j;
        left_ones = count true (marks l);
        balance = (right.levels j + 2) - left.levels j;
      } in
      record {
        node = refl;
        levels = ap₂ (λ (x y : ℕ). suc (max x y)) left.levels right.levels;
        filled = λ h.
            record {
              marks = ap₂ (λ (x y : ℕ). x + y) (left.filled some).marks (right.filled (more h)).marks;
              sized = ((left.filled some).sized, (right.filled (more h)).sized);
            };
        holds = (
          p.here ∙ ap Node.Fork over,
          (waits_kept w w' n n (put_kept p) (omega arith) left).holds,
          (waits_kept w w' n n (put_kept p) (omega arith) right).holds,
        );
        below = λ k q.
            ⊎_elim
            (λ e. omega arith)
            (λ deeper.
            ⊎_elim (λ m. let h = left.below k m in omega arith) (λ m. let h = right.below k m in omega arith)
            (Memᴰ.append_cases (numbers l) deeper))
            (Memᴰ.cases_cons q);
      }
