-- The free chain over the numbers from one on: each free node holds the next number, and the last the number of nodes.
use Prim.Native.Nat.{ℕ, zero, suc, ◌+◌, ◌≤◌, ◌<◌}
use native.Mathlib.Omega.{arith}
use mathlib.Core.Path.{◌≡◌, refl, sym, ap, ◌∙◌}
use mathlib.Core.List.{List}
use lib.ListN.{length}
use Rattle.model.specs.Pool.{numbers_from}
use Rattle.model.proofs.Cases.{by_ltb}
use Rattle.pool.specs.Layout.{Chained, first_of}
use Rattle.pool.specs.Node.{Put, free_cell, node_at, nodes_in, put}
use Rattle.pool.specs.declared.node.Node.TheVariants as Node
use Rattle.pool.proofs.Cells.{put_free}
use Rattle.build.specs.Waiting.{Kept}

-- the chain's first number is where it starts, and the end where it is empty
pub first_from : (end n k : ℕ) → n + k ≡ end → first_of end (numbers_from n k) ≡ n
unfolding first_of numbers_from
first_from end n zero e = omega arith
first_from end n (suc k) e = refl

pub chained_from : (w : List ℕ) (end n k : ℕ) → n + k ≡ end → ((j : ℕ) → n ≤ j → j < end → node_at w j ≡ Node.Free (suc j))
    → Chained w end (numbers_from n k)
unfolding numbers_from
chained_from w end n zero e free = tt
chained_from w end n (suc k) e free = (
  free n (omega arith) (omega arith) ∙ ap Node.Free (sym (first_from end (suc n) k (omega arith))),
  chained_from w end (suc n) k (omega arith) (λ j l h. free j (omega arith) h),
)

-- the numbers from the first up to n are free, each holding the next, and all below the first is as it was
pub record Freed (before w : List ℕ) (first n : ℕ) : Type 0 where
  pub size : length w ≡ length before
  pub kept : Kept before w first
  pub free : (k : ℕ) → first ≤ k → k < n → node_at w k ≡ Node.Free (suc k)

pub none_freed : (w : List ℕ) (first : ℕ) → Freed w w first first
none_freed w first = record { size = refl; kept = λ k h. refl; free = λ k l h. absurd (omega arith) }

pub one_freed : {before w : List ℕ} {first n : ℕ} (w' : List ℕ) → Freed before w first n → first ≤ n → n < nodes_in before
    → w' ≡ put w n (free_cell (n + 1)) → Freed before w' first (n + 1)
one_freed {before} {w} {first} {n} w' f l h e =
    let size = f.size in
    let put : Put w w' n (Node.Free (n + 1)) = rw e (put_free w n (n + 1) (omega arith)) in
    record {
      size = put.size ∙ size;
      kept = λ k m. put.else k (λ same. omega arith) ∙ f.kept k m;
      free = λ k m below.
          by_ltb k n
          (λ _ older. put.else k (λ same. omega arith) ∙ f.free k m older)
          (λ _ newer. let same : k ≡ n = omega arith in rw same (put.here ∙ ap Node.Free (omega arith)));
    }
