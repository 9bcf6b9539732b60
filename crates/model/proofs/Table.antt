-- The reference table holds: one test that the checker computes over all rows, and one law that carries it to each row.
use Prim.Native.Nat.{ℕ}
use mathlib.Core.Path.{◌≡◌, refl, ap₂}
use mathlib.Core.Bool.{Bool, true, false, ◌&&◌}
use mathlib.Core.List.{List, [], ◌∷◌, Memᴰ}
use lib.Dec.{T, eqb, eqb→eq}
use mathlib.Core.List.Memᴰ
use mathlib.Core.Logic.{⊎_elim}
use Rattle.model.specs.Build as Build
use Rattle.model.specs.Build.{leaf_count, built_leaves, round, foremost, rounds}
use Rattle.model.specs.Edit as Edit
use Rattle.model.specs.Edit.{leaf_at, splits, settle, put_before, put_after, drop_first, drop_last, first_mark, last_mark, mend_left, mend_right}
use Rattle.model.specs.Marks as Marks
use Rattle.model.specs.Marks.{select, place, wanted, further}
use Rattle.model.specs.Pool as Pool
use Rattle.model.specs.Pool.{numbers_from, nodes_for, full}
use Rattle.model.specs.Reference.{Row, answer, table, same, agree, found, sizes, sizes_of, shape, tall, turns, lone_pool}
use Rattle.model.specs.Tree.{height, leaves, size, marks, top, renumber, first_leaf, last_leaf}
use Rattle.model.specs.Turn.{turn_right, turn_left, higher_by, leaning_left, leaning_right, rebalance}
use Rattle.model.specs.Word.{bits, odd}

left : (a b : Bool) → T (a && b) → T a
left true b t = tt
left false b t = t

right : (a b : Bool) → T (a && b) → T b
right true b t = t
right false b t = absurd t

same_eq : (ms ns : List ℕ) → T (same ms ns) → ms ≡ ns
unfolding same
same_eq [] [] t = refl
same_eq [] (n ∷ ns) t = absurd t
same_eq (m ∷ ms) [] t = absurd t
same_eq (m ∷ ms) (n ∷ ns) t =
    ap₂ {C = List ℕ} (λ x xs. x ∷ xs) (eqb→eq m n (left (eqb m n) (same ms ns) t)) (same_eq ms ns (right (eqb m n) (same ms ns) t))

each : (rows : List Row) → T (agree rows) → (r : Row) → Memᴰ r rows → answer r.question ≡ r.given
unfolding agree
each [] t r m = absurd (Memᴰ.not-nil m)
each (x ∷ xs) t r m =
    ⊎_elim (λ (e : r ≡ x). rw e (same_eq (answer x.question) x.given (left (same (answer x.question) x.given) (agree xs) t)))
    (λ k. each xs (right (same (answer x.question) x.given) (agree xs) t) r k) (Memᴰ.cases_cons m)

-- the model gives every answer of the reference table
pub reference : (r : Row) → Memᴰ r table → answer r.question ≡ r.given
unfolding agree same table answer found sizes sizes_of shape tall turns lone_pool select place wanted further bits odd height leaves size marks top
    renumber first_leaf last_leaf turn_right turn_left higher_by leaning_left leaning_right rebalance leaf_count built_leaves round foremost rounds
    Build.build Marks.insert Marks.remove leaf_at splits settle Edit.insert put_before put_after drop_first drop_last first_mark last_mark mend_left
    mend_right Edit.remove numbers_from nodes_for Pool.build full Pool.two_free Pool.insert Pool.remove
reference r m = each table tt r m
