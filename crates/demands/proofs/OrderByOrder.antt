-- One order at a time: a pool stays sound whatever is ordered, and where there is room its marks become those of the plain list.
use Prim.Native.Nat.{ℕ, zero, suc, ◌≤◌}
use native.Mathlib.Omega.{arith}
use mathlib.Core.Path.{◌≡◌, refl, ap}
use mathlib.Core.Bool.{Bool, true, false}
use mathlib.Core.List.{List}
use Rattle.std.specs.Prelude.{Option, None, Some, Ok}
use lib.Dec.{leb, ltb}
use lib.ListN.{length, drop}
use Rattle.model.specs.Edit as Edit
use Rattle.model.specs.Marks as Marks
use Rattle.model.specs.Pool as Pool
use Rattle.model.specs.Pool.{Pool, two_free}
use Rattle.model.specs.Tree.{marks}
use Rattle.model.proofs.Cases.{by_leb, by_ltb, by_test}
use Rattle.model.proofs.Content.{size_marks}
use Rattle.model.proofs.PoolSound.{insert_pool_marks, remove_pool_marks}
pub use Rattle.serve.proofs.Orderly.{never}
use Rattle.serve.specs.Orders as Serve
use Rattle.model.specs.Word.{digit}
use Rattle.order.specs.Asked.{Asked, asks, with_bit, with_zero, inserting, removing, accessing, ranking, selecting, quiet, unknown}
use Rattle.order.specs.Plain.{in_range, placed, list_answer, list_after}
use Rattle.serve.specs.Orders.{or_else}
use Rattle.run.specs.Orders.{no_room, after}
use Rattle.order.specs.Answer.{code}

-- 1 for an insert, and 0 for any other order
unfoldable pub inserting_count : Asked → ℕ
inserting_count (inserting i b) = 1
inserting_count (removing i) = 0
inserting_count (accessing i) = 0
inserting_count (ranking end b) = 0
inserting_count (selecting k b) = 0
inserting_count quiet = 0
inserting_count unknown = 0

pub not_inserting : {A : Type 0} (o : Asked) (i : ℕ) (b : Bool) → inserting_count o ≡ 0 → o ≡ inserting i b → A
unfolding inserting_count
not_inserting o i b z e = absurd (omega (arith, z, ap inserting_count e))

-- an order that asks and changes nothing
pub record Asks (n : ℕ) (o : Asked) : Type 0 where
  pub number : 3 ≤ n
  pub leaves : (p : Pool) → after o p ≡ p
  pub no_insert : inserting_count o ≡ 0

-- what three words ask: an insert, a remove, a question, or nothing that is known
pub by_kind : {P : Type 0} (n x y : ℕ) → ((b : Bool) → n ≡ 1 → y ≡ digit b → asks n x y ≡ inserting x b → P)
    → (n ≡ 2 → asks n x y ≡ removing x → P) → (Asks n (asks n x y) → P) → (asks n x y ≡ unknown → P) → P
unfolding asks with_bit with_zero Serve.after inserting_count digit
by_kind {P = P} n x y ins rem ask unk = kinds n x y ins rem ask unk
  where
    question : {n : ℕ} {o : Asked} → 3 ≤ n → ((p : Pool) → after o p ≡ p) → inserting_count o ≡ 0 → Asks n o
    question late e z = record { number = late; leaves = e; no_insert = z }

    kinds : (n x y : ℕ) → ((b : Bool) → n ≡ 1 → y ≡ digit b → asks n x y ≡ inserting x b → P)
        → (n ≡ 2 → asks n x y ≡ removing x → P) → (Asks n (asks n x y) → P) → (asks n x y ≡ unknown → P) → P
    kinds zero x y ins rem ask unk = unk refl
    kinds (suc zero) x zero ins rem ask unk = ins false refl refl refl
    kinds (suc zero) x (suc zero) ins rem ask unk = ins true refl refl refl
    kinds (suc zero) x (suc (suc y)) ins rem ask unk = unk refl
    kinds (suc (suc zero)) x zero ins rem ask unk = rem refl refl
    kinds (suc (suc zero)) x (suc y) ins rem ask unk = unk refl
    kinds (suc (suc (suc zero))) x zero ins rem ask unk = ask (question (omega arith) (λ p. refl) refl)
    kinds (suc (suc (suc zero))) x (suc y) ins rem ask unk = unk refl
    kinds (suc (suc (suc (suc zero)))) x zero ins rem ask unk = ask (question (omega arith) (λ p. refl) refl)
    kinds (suc (suc (suc (suc zero)))) x (suc zero) ins rem ask unk = ask (question (omega arith) (λ p. refl) refl)
    kinds (suc (suc (suc (suc zero)))) x (suc (suc y)) ins rem ask unk = unk refl
    kinds (suc (suc (suc (suc (suc zero))))) x zero ins rem ask unk = ask (question (omega arith) (λ p. refl) refl)
    kinds (suc (suc (suc (suc (suc zero))))) x (suc zero) ins rem ask unk = ask (question (omega arith) (λ p. refl) refl)
    kinds (suc (suc (suc (suc (suc zero))))) x (suc (suc y)) ins rem ask unk = unk refl
    kinds (suc (suc (suc (suc (suc (suc zero)))))) zero zero ins rem ask unk = ask (question (omega arith) (λ p. refl) refl)
    kinds (suc (suc (suc (suc (suc (suc zero)))))) zero (suc y) ins rem ask unk = unk refl
    kinds (suc (suc (suc (suc (suc (suc zero)))))) (suc x) y ins rem ask unk = unk refl
    kinds (suc (suc (suc (suc (suc (suc (suc n))))))) x y ins rem ask unk = unk refl

-- an insert has room or has none
pub by_room : {P : Type 0} (i : ℕ) (b : Bool) (p : Pool) → (Pool.full (two_free p) i p ≡ true → Pool.insert (two_free p) i b p ≡ None → P)
    → ((q : Pool) → Pool.full (two_free p) i p ≡ false → Pool.insert (two_free p) i b p ≡ Some q → P) → P
unfolding Pool.insert
by_room i b p f g =
    by_test (Pool.full (two_free p) i p)
    (λ e. f e (rw (Pool.insert, e)))
    (λ e. g (record {
      tree = Edit.insert i b p.free p.tree;
      free = elim (Edit.splits i p.tree) [ true ↦ drop 2 p.free | false ↦ p.free ];
    }) e (rw (Pool.insert, e)))

-- what the list answers is never Full, and never that a leaf lacks a mark
pub list_codes : (o : Asked) (xs : List Bool) → (code (list_answer o xs) ≡ 4 → ⊥) × (code (list_answer o xs) ≤ 5)
unfolding list_answer code
list_codes o xs = listed o
  where
    ranged : (b : Bool) (v : ℕ) → (code (in_range b (Ok v)) ≡ 4 → ⊥) × (code (in_range b (Ok v)) ≤ 5)
    ranged true v = ((λ e. omega arith), omega arith)
    ranged false v = ((λ e. omega arith), omega arith)

    found : (m : Option ℕ) → (code (placed m) ≡ 4 → ⊥) × (code (placed m) ≤ 5)
    found None = ((λ e. omega arith), omega arith)
    found (Some v) = ((λ e. omega arith), omega arith)

    listed : (o : Asked) → (code (list_answer o xs) ≡ 4 → ⊥) × (code (list_answer o xs) ≤ 5)
    listed (inserting i b) = ranged (leb i (length xs)) 0
    listed (removing i) = ranged (ltb i (length xs)) _
    listed (accessing i) = ranged (ltb i (length xs)) _
    listed (ranking end b) = ranged (leb end (length xs)) _
    listed (selecting zero b) = ((λ e. omega arith), omega arith)
    listed (selecting (suc k) b) = found (Marks.select b (suc k) xs)
    listed quiet = ((λ e. omega arith), omega arith)
    listed unknown = ((λ e. omega arith), omega arith)

-- an order that finds no room changes nothing
pub after_full : (o : Asked) (p : Pool) → no_room o p ≡ true → after o p ≡ p
unfolding Serve.no_room Serve.after
after_full (inserting i b) p e =
    by_leb i (length (marks p.tree))
    (λ t h. by_room i b p
    (λ _ f. rw (Serve.after, t, f))
    (λ q f _. never (rw (Serve.no_room, t, f) at e) refl))
    (λ t h. rw (Serve.after, t))
after_full (removing i) p e = never e refl
after_full (accessing i) p e = refl
after_full (ranking i b) p e = refl
after_full (selecting i b) p e = refl
after_full quiet p e = refl
after_full unknown p e = refl

-- with room, the marks become those of the list
pub after_marks : (o : Asked) (p : Pool) → no_room o p ≡ false → marks (after o p).tree ≡ list_after o (marks p.tree)
unfolding Serve.no_room Serve.after list_after
after_marks (inserting i b) p e =
    let s = size_marks p.tree in
    by_leb i (length (marks p.tree))
    (λ t h. by_room i b p
    (λ f _. never (rw (Serve.no_room, t, f)) e)
    (λ q _ f. rw (Serve.after, list_after, t, f) (insert_pool_marks (two_free p) i b p q (omega arith) f)))
    (λ t h. rw (Serve.after, list_after, t))
after_marks (removing i) p e =
    let s = size_marks p.tree in
    by_ltb i (length (marks p.tree)) (λ t h. rw (Serve.after, list_after, t) (remove_pool_marks i p (omega arith)))
    (λ t h. rw (Serve.after, list_after, t))
after_marks (accessing i) p e = refl
after_marks (ranking i b) p e = refl
after_marks (selecting i b) p e = refl
after_marks quiet p e = refl
after_marks unknown p e = refl
