-- A pool that is built is sound: balanced, its leaves within their bounds, and each number standing once. An insert that has room and a remove keep
-- it so.
use Prim.Native.Nat.{ℕ, ◌≤◌, ◌<◌}
use mathlib.Core.Path.{◌≡◌, sym, ◌∙◌}
use mathlib.Core.Bool.{Bool, true}
use mathlib.Core.List.{List}
use Rattle.std.specs.Prelude.{Option, Some}
use lib.ListN.{length, drop}
use native.Mathlib.Omega.{arith}
use Rattle.model.specs.Build as Build
use Rattle.model.specs.Edit as Edit
use Rattle.model.specs.Pool.{Pool, build, insert, remove}
use Rattle.model.specs.Sound.{Sound}
use Rattle.model.specs.Tree.{marks, size}
use Rattle.model.specs.Marks as Marks
use Rattle.model.proofs.Balance.{insert_balanced}
use Rattle.model.proofs.BalanceMended.{remove_balanced}
use Rattle.model.proofs.BuiltBalance.{build_balanced}
use Rattle.model.proofs.BuiltLeaves.{build_whole}
use Rattle.model.proofs.BuiltNumbers.{pool_numbers}
use Rattle.model.proofs.Content.{insert_marks, remove_marks}
use Rattle.model.proofs.Leaves.{insert_whole}
use Rattle.model.proofs.LeavesMended.{remove_whole}
use Rattle.model.proofs.PoolCases.{build_outcomes, insert_outcomes}
use Rattle.model.proofs.PoolNumbers.{insert_rearranged, remove_rearranged}

-- ---- build

pub build_tree : (n : ℕ) (xs : List Bool) (p : Pool) → build n xs ≡ Some p → p.tree ≡ Build.build xs
build_tree n xs p =
    build_outcomes (λ (o : Option Pool). o ≡ Some p → p.tree ≡ Build.build xs) n xs
    (λ _ e. let z : ◌≡◌ {A = ℕ} 0 1 = cc in absurd (omega arith))
    (λ _ e. cc)

pub build_sound : (n : ℕ) (xs : List Bool) (p : Pool) → build n xs ≡ Some p → Sound n p
build_sound n xs p e =
    let same = build_tree n xs p e in
    record {
      balanced = rw (sym same) at (build_balanced xs);
      whole = rw (sym same) at (build_whole xs);
      each = pool_numbers n xs p e;
    }

-- ---- insert and remove

-- the tree after an insert that has room
pub insert_tree : (may : Bool) (i : ℕ) (b : Bool) (p q : Pool) → insert may i b p ≡ Some q → q.tree ≡ Edit.insert i b p.free p.tree
insert_tree may i b p q =
    insert_outcomes (λ (o : Option Pool). o ≡ Some q → q.tree ≡ Edit.insert i b p.free p.tree) may i b p
    (λ _ _ e. let z : ◌≡◌ {A = ℕ} 0 1 = cc in absurd (omega arith))
    (λ _ _ e. let z : q ≡ record { tree = Edit.insert i b p.free p.tree; free = drop 2 p.free } = cc in rw z)
    (λ _ e. let z : q ≡ record { tree = Edit.insert i b p.free p.tree; free = p.free } = cc in rw z)

pub insert_sound : (n : ℕ) (may : Bool) (i : ℕ) (b : Bool) (p q : Pool) → i ≤ size p.tree → (may ≡ true → 2 ≤ length p.free)
    → insert may i b p ≡ Some q
    → Sound n p → Sound n q
insert_sound n may i b p q h two e s =
    record {
      balanced = rw (insert_tree may i b p q e) (insert_balanced i b p.free p.tree s.balanced).balanced;
      whole = rw (insert_tree may i b p q e) (insert_whole i b p.free p.tree h s.whole);
      each = λ w. s.each w ∙ insert_rearranged may i b p q h two e w;
    }

pub remove_sound : (n i : ℕ) (p : Pool) → i < size p.tree → Sound n p → Sound n (remove i p)
unfolding remove
remove_sound n i p h s =
    record {
      balanced = (remove_balanced i p.tree h s.whole s.balanced).balanced;
      whole = remove_whole i p.tree h s.whole;
      each = λ w. s.each w ∙ remove_rearranged i p h s.whole w;
    }

-- and their marks are the list's
pub insert_pool_marks : (may : Bool) (i : ℕ) (b : Bool) (p q : Pool) → i ≤ size p.tree → insert may i b p ≡ Some q
    → marks q.tree ≡ Marks.insert i b (marks p.tree)
insert_pool_marks may i b p q h e = rw (insert_tree may i b p q e) (insert_marks i b p.free p.tree h)

pub remove_pool_marks : (i : ℕ) (p : Pool) → i < size p.tree → marks (remove i p).tree ≡ Marks.remove i (marks p.tree)
unfolding remove
remove_pool_marks i p h = remove_marks i p.tree h
