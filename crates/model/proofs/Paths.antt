-- Asking along a path: an answer for a fork is one for its left child, or one for its right child with what stands before it counted in.
use Prim.Native.Nat.{ℕ, ◌+◌, ◌-◌, ◌≤◌, ◌<◌}
use native.Mathlib.Omega.{arith}
use mathlib.Core.Path.{◌≡◌, sym, ap, ◌∙◌}
use mathlib.Core.Bool.{Bool, true, false}
use mathlib.Core.List.{◌++◌}
use lib.ListN.{length, take, get_or-append}
use lib.Seq.{take-append-le, take-append-add, get_or-append-add}
use Rattle.model.specs.Marks.{access, count, further, rank, select}
use Rattle.model.specs.Tree.{Tree, marks, size}
use Rattle.model.proofs.Content.{size_marks}
use Rattle.model.proofs.Counting.{count_append, count_both, select_in_first, select_in_second}

module _ (l r : Tree) where
  pub access_left : (i : ℕ) → i < size l → access i (marks l ++ marks r) ≡ access i (marks l)
  unfolding access
  access_left i h = get_or-append (marks l) (marks r) false i (omega (arith, size_marks l))

  pub access_right : (i : ℕ) → size l ≤ i → access i (marks l ++ marks r) ≡ access (i - size l) (marks r)
  unfolding access
  access_right i h =
      let at : length (marks l) + (i - size l) ≡ i = omega (arith, size_marks l) in
      rw at at (get_or-append-add (marks l) (marks r) (i - size l) false)

  pub rank_left : (b : Bool) (end : ℕ) → end ≤ size l → rank b end (marks l ++ marks r) ≡ rank b end (marks l)
  unfolding rank
  rank_left b end h = ap (count b) (take-append-le end (marks l) (marks r) (omega (arith, size_marks l)))

  pub rank_right : (b : Bool) (end : ℕ) → size l ≤ end → rank b end (marks l ++ marks r) ≡ count b (marks l) + rank b (end - size l) (marks r)
  unfolding rank
  rank_right b end h =
      let at : length (marks l) + (end - size l) ≡ end = omega (arith, size_marks l) in
      ap (count b) (rw at at (take-append-add (marks l) (marks r) (end - size l))) ∙ count_append b (marks l) (take (end - size l) (marks r))

  pub select_left : (b : Bool) (k : ℕ) → k ≤ count b (marks l) → select b k (marks l ++ marks r) ≡ select b k (marks l)
  select_left b k h = select_in_first b k (marks l) (marks r) h

  pub select_right : (b : Bool) (k : ℕ) → count b (marks l) < k
      → select b k (marks l ++ marks r) ≡ further (size l) (select b (k - count b (marks l)) (marks r))
  select_right b k h =
      select_in_second b k (marks l) (marks r) h ∙ ap (λ (n : ℕ). further n (select b (k - count b (marks l)) (marks r))) (sym (size_marks l))

-- strikes and quiets make up the marks
pub count_size : (t : Tree) → count true (marks t) + count false (marks t) ≡ size t
count_size t = count_both (marks t) ∙ sym (size_marks t)
