-- What an insert does to a tree, apart from words: it counts one mark more, and of the numbers of the tree and of the
-- free ones none is lost or doubled.
use Prim.Native.Nat.{ℕ, ◌+◌, ◌≤◌}
use native.Mathlib.Omega.{arith}
use mathlib.Core.Path.{◌≡◌, sym, ap, ◌∙◌}
use mathlib.Core.Bool.{Bool, true, false}
use mathlib.Core.List.{List, ◌∷◌, ◌++◌}
use Rattle.std.specs.Prelude.{Option, Some}
use lib.ListN.{length, take, drop, take-append-drop}
use Rattle.model.specs.Edit.{insert, splits}
use Rattle.model.specs.Marks as Marks
use Rattle.model.specs.Marks.{count}
use Rattle.model.specs.Pool as Pool
use Rattle.model.specs.Pool.{Pool}
use Rattle.model.specs.Sound.{Balanced, Rearranged, all_numbers}
use Rattle.model.specs.Tree.{Tree, marks, size, numbers}
use Rattle.model.specs.Word.{digit}
use Rattle.model.proofs.Balance.{insert_balanced}
use Rattle.model.proofs.Content.{insert_marks, insert_size}
use Rattle.model.proofs.Counting.{count_append}
use Rattle.model.proofs.PoolCases.{insert_outcomes}
use Rattle.model.proofs.PoolNumbers.{insert_rearranged}
use Rattle.turn.proofs.Sites.{Altered}
use Rattle.descent.proofs.Digits.{count_cons}
use Rattle.grow.specs.Inserting.{rest}

-- ---- one mark more

count_insert : (i : ℕ) (b : Bool) (xs : List Bool) → count true (Marks.insert i b xs) ≡ count true xs + digit b
unfolding Marks.insert
count_insert i b xs =
    omega (
      arith,
      count_append true (take i xs) (b ∷ drop i xs),
      count_cons b (drop i xs),
      count_append true (take i xs) (drop i xs),
      ap (count true) (take-append-drop i xs),
    )

pub insert_count : (i : ℕ) (b : Bool) (free : List ℕ) (t : Tree) → i ≤ size t
    → count true (marks (insert i b free t)) ≡ count true (marks t) + digit b
insert_count i b free t h = ap (count true) (insert_marks i b free t h) ∙ count_insert i b (marks t)

-- ---- the numbers

module _ (i : ℕ) (b : Bool) (free : List ℕ) (t : Tree) (h : i ≤ size t) (room : splits i t ≡ true → 2 ≤ length free) where
  abbrev before : Pool
  before = record { tree = t; free = free }

  abbrev after : Pool
  after = record { tree = insert i b free t; free = rest (splits i t) free }

  -- two nodes may be taken where the leaf splits
  inserted : Pool.insert (splits i t) i b before ≡ Some after
  inserted =
      insert_outcomes (λ (o : Option Pool). o ≡ Some after) (splits i t) i b before
      (λ e f. let z : ◌≡◌ {A = Bool} true false = sym e ∙ f in let n : ◌≡◌ {A = ℕ} 0 1 = cc in absurd (omega arith))
      (λ e _. rw e)
      (λ e. rw e)

  pub insert_all : Rearranged (numbers t ++ free) (numbers (insert i b free t) ++ rest (splits i t) free)
  unfolding all_numbers
  insert_all = insert_rearranged (splits i t) i b before after h room inserted

  pub insert_alters : Balanced t → Altered t (insert i b free t) free (rest (splits i t) free)
  insert_alters balanced =
      let g = insert_balanced i b free t balanced in
      record {
        balanced = g.balanced;
        rose = g.most;
        fell = omega (arith, g.least);
        larger = omega (arith, insert_size i b free t h);
        numbers_are = insert_all;
      }
