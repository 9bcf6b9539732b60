-- What a tree with its free numbers answers to each order and becomes, by the tests that the code makes: the place beside the number of marks, and
-- whether there is room.
use Prim.Native.Nat.{ℕ, zero, suc, ◌≤◌, ◌<◌}
use native.Mathlib.Omega.{arith}
use mathlib.Core.Path.{◌≡◌, refl, sym, ap, ◌∙◌}
use mathlib.Core.Bool.{Bool, true, false}
use mathlib.Core.List.{List}
use Rattle.std.specs.Option.{ok_or}
use Rattle.std.specs.Prelude.{Option, None, Some, Ok, Err}
use lib.Dec.{leb, ltb}
use lib.ListN.{length}
use mir.Val.{bool_byte}
use borrow.Author.Tests.{lt-ltb, le-ltb, le-leb, lt-leb}
use Rattle.model.specs.Edit as Edit
use Rattle.model.specs.Marks as Marks
use Rattle.model.specs.Pool as Pool
use Rattle.model.specs.Pool.{Pool}
use Rattle.model.specs.Sound.{Sound}
use Rattle.model.specs.Tree.{Tree, marks, size, top}
use Rattle.model.proofs.Cases.{by_leb, by_ltb, by_test}
use Rattle.model.proofs.Content.{insert_size, remove_size, size_marks}
use Rattle.model.proofs.PoolSound.{insert_sound, remove_sound}
use Rattle.model.proofs.Tops.{insert_top}
use Rattle.grow.specs.Inserting.{rest}
use Rattle.shrink.proofs.Trimming.{remove_top}
use Rattle.order.specs.Asked.{Asked, inserting, removing, accessing, ranking, selecting, quiet, unknown}
use Rattle.order.specs.Plain.{placed, list_answer}
use Rattle.serve.specs.Orders.{no_room, answer, after}
use Rattle.order.proofs.Asking.{bit_word}
use Rattle.order.specs.declared.answer.Refusal.TheVariants.{OutOfRange, NoZeroth, TooFew, Full, Malformed}

-- true is not false
pub never : {A : Type 0} {b : Bool} → b ≡ true → b ≡ false → A
never {b = b} t f = let e : ◌≡◌ {A = Bool} true false = sym t ∙ f in let z : ◌≡◌ {A = ℕ} 0 1 = cc in absurd (omega arith)

-- ---- tests of a place

module _ (i : ℕ) (t : Tree) where
  within : i ≤ size t → leb i (length (marks t)) ≡ true
  within h = le-leb i (length (marks t)) (rw (← size_marks t) h)

  past : size t < i → leb i (length (marks t)) ≡ false
  past h = lt-leb i (length (marks t)) (rw (← size_marks t) h)

  below : i < size t → ltb i (length (marks t)) ≡ true
  below h = lt-ltb i (length (marks t)) (rw (← size_marks t) h)

  above : size t ≤ i → ltb i (length (marks t)) ≡ false
  above h = le-ltb i (length (marks t)) (rw (← size_marks t) h)

-- ---- insert

-- what it is after an insert that has room
abbrev pub with_mark : ℕ → Bool → Pool → Pool
with_mark i b p = record { tree = Edit.insert i b p.free p.tree; free = rest (Edit.splits i p.tree) p.free }

module _ (may : Bool) (i : ℕ) (b : Bool) (p : Pool) where
  pub insert_some : Pool.full may i p ≡ false → Pool.insert may i b p ≡ Some (with_mark i b p)
  unfolding Pool.insert
  insert_some e = by_test (Edit.splits i p.tree) (λ s. rw (Pool.insert, e, s)) (λ s. rw (Pool.insert, e, s))

  pub insert_none : Pool.full may i p ≡ true → Pool.insert may i b p ≡ None
  unfolding Pool.insert
  insert_none e = rw (Pool.insert, e)

  -- where its leaf splits, two nodes may be taken
  pub room_taken : Pool.full may i p ≡ false → Edit.splits i p.tree ≡ true → may ≡ true
  unfolding Pool.full
  room_taken e s = by_test may (λ y. y) (λ n. never (rw (Pool.full, s, n)) e)

  pub insert_out : size p.tree < i → (Err OutOfRange ≡ answer may (inserting i b) p) × (after may (inserting i b) p ≡ p)
  unfolding answer no_room list_answer after
  insert_out h = (rw (answer, no_room, past i p.tree h, list_answer, past i p.tree h), rw (after, past i p.tree h))

  pub insert_full : i ≤ size p.tree → Pool.full may i p ≡ true → (Err Full ≡ answer may (inserting i b) p) × (after may (inserting i b) p ≡ p)
  unfolding answer no_room after
  insert_full h e = (rw (answer, no_room, within i p.tree h, e), rw (after, within i p.tree h, insert_none e))

  pub insert_done : i ≤ size p.tree → Pool.full may i p ≡ false
      → (Ok 0 ≡ answer may (inserting i b) p) × (after may (inserting i b) p ≡ with_mark i b p)
  unfolding answer no_room list_answer after
  insert_done h e =
      (rw (answer, no_room, within i p.tree h, e, list_answer, within i p.tree h), rw (after, within i p.tree h, insert_some e))

  -- by what becomes of it
  pub by_insert : (P : Pool → Type 0) → (size p.tree < i → P p) → (i ≤ size p.tree → Pool.full may i p ≡ true → P p)
      → (i ≤ size p.tree → Pool.full may i p ≡ false → P (with_mark i b p)) → P (after may (inserting i b) p)
  by_insert P out full done =
      by_leb i (size p.tree)
      (λ _ h. by_test (Pool.full may i p)
      (λ e. rw (insert_full h e).1 (full h e))
      (λ e. rw (insert_done h e).1 (done h e)))
      (λ _ h. rw (insert_out h).1 (out h))

-- ---- remove

module _ (may : Bool) (i : ℕ) (p : Pool) where
  pub remove_out : size p.tree ≤ i → (Err OutOfRange ≡ answer may (removing i) p) × (after may (removing i) p ≡ p)
  unfolding answer no_room list_answer after
  remove_out h = (rw (answer, no_room, list_answer, above i p.tree h), rw (after, above i p.tree h))

  pub remove_after : i < size p.tree → after may (removing i) p ≡ Pool.remove i p
  unfolding after
  remove_after h = rw (after, below i p.tree h)

  pub remove_done : (b : Bool) → i < size p.tree → b ≡ Marks.access i (marks p.tree) → Ok (bool_byte b) ≡ answer may (removing i) p
  unfolding answer no_room list_answer
  remove_done b h e = rw (answer, no_room, list_answer, below i p.tree h, bit_word b, e)

  pub by_remove : (P : Pool → Type 0) → (size p.tree ≤ i → P p) → (i < size p.tree → P (Pool.remove i p)) → P (after may (removing i) p)
  by_remove P out done = by_ltb i (size p.tree) (λ _ h. rw (remove_after h) (done h)) (λ _ h. rw (remove_out h).1 (out h))

-- ---- the questions

module _ (i : ℕ) (t : Tree) where
  pub access_out : size t ≤ i → Err OutOfRange ≡ list_answer (accessing i) (marks t)
  unfolding list_answer
  access_out h = rw (list_answer, above i t h)

  pub access_done : (b : Bool) → i < size t → b ≡ Marks.access i (marks t) → Ok (bool_byte b) ≡ list_answer (accessing i) (marks t)
  unfolding list_answer
  access_done b h e = rw (list_answer, below i t h, bit_word b, e)

  pub rank_out : (b : Bool) → size t < i → Err OutOfRange ≡ list_answer (ranking i b) (marks t)
  unfolding list_answer
  rank_out b h = rw (list_answer, past i t h)

  pub rank_done : (b : Bool) (r : ℕ) → i ≤ size t → r ≡ Marks.rank b i (marks t) → Ok r ≡ list_answer (ranking i b) (marks t)
  unfolding list_answer
  rank_done b r h e = rw (list_answer, within i t h, e)

pub select_first : (k : ℕ) (b : Bool) (xs : List Bool) → k ≡ 0 → Err NoZeroth ≡ list_answer (selecting k b) xs
unfolding list_answer
select_first zero b xs e = refl
select_first (suc k) b xs e = absurd (omega arith)

-- a place that was found, or too few, is told as the list tells it
told_place : (o : Option ℕ) → ok_or o TooFew ≡ placed o
told_place None = refl
told_place (Some v) = refl

pub select_done : (k : ℕ) (b : Bool) (xs : List Bool) (o : Option ℕ) → 1 ≤ k → o ≡ Marks.select b k xs
    → ok_or o TooFew ≡ list_answer (selecting k b) xs
unfolding list_answer
select_done zero b xs o h e = absurd (omega arith)
select_done (suc k) b xs o h e = told_place o ∙ ap placed e

pub quiet_done : (xs : List Bool) (r : ℕ) → r ≡ Marks.longest_quiet xs → Ok r ≡ list_answer quiet xs
unfolding list_answer
quiet_done xs r e = ap Ok e

-- ---- any order

-- an order changes nothing, or it is an insert or a remove that is carried out
pub by_after : (P : Pool → Type 0) (may : Bool) (o : Asked) (p : Pool) → P p
    → ((i : ℕ) (b : Bool) → i ≤ size p.tree → Pool.full may i p ≡ false → P (with_mark i b p))
    → ((i : ℕ) → i < size p.tree → P (Pool.remove i p))
    → P (after may o p)
unfolding after
by_after P may (inserting i b) p same put taken = by_insert may i b p P (λ _. same) (λ _ _. same) (put i b)
by_after P may (removing i) p same put taken = by_remove may i p P (λ _. same) (taken i)
by_after P may (accessing i) p same put taken = same
by_after P may (ranking end b) p same put taken = same
by_after P may (selecting k b) p same put taken = same
by_after P may quiet p same put taken = same
by_after P may unknown p same put taken = same

-- the top stays
pub after_top : (may : Bool) (o : Asked) (p : Pool) → top (after may o p).tree ≡ top p.tree
unfolding Pool.remove
after_top may o p =
    by_after (λ (q : Pool). top q.tree ≡ top p.tree) may o p refl
    (λ i b _ _. insert_top i b p.free p.tree)
    (λ i _. remove_top i p.tree)

-- where the marks are as many as before, nothing has changed
pub after_still : (may : Bool) (o : Asked) (p : Pool) → size (after may o p).tree ≡ size p.tree → after may o p ≡ p
unfolding Pool.remove
after_still may o p =
    by_after (λ (q : Pool). size q.tree ≡ size p.tree → q ≡ p) may o p (λ _. refl)
    (λ i b h _ e. absurd (omega (arith, insert_size i b p.free p.tree h)))
    (λ i h e. absurd (omega (arith, remove_size i p.tree h)))

-- a pool that is sound stays sound, where two nodes may be taken only if they are free
pub after_sound : (n : ℕ) (may : Bool) (o : Asked) (p : Pool) → (may ≡ true → 2 ≤ length p.free) → Sound n p → Sound n (after may o p)
after_sound n may o p two s =
    by_after (Sound n) may o p s
    (λ i b h e. insert_sound n may i b p (with_mark i b p) h two (insert_some may i b p e) s)
    (λ i h. remove_sound n i p h s)

-- ---- orders that ask

-- it is answered what the list answers, and changes nothing
pub record Asks (o : Asked) : Type 0 where
  pub answers : (may : Bool) (p : Pool) → answer may o p ≡ list_answer o (marks p.tree)
  pub leaves : (may : Bool) (p : Pool) → after may o p ≡ p

pub access_asks : (i : ℕ) → Asks (accessing i)
unfolding answer no_room after
access_asks i = record { answers = λ may p. refl; leaves = λ may p. refl }

pub rank_asks : (end : ℕ) (b : Bool) → Asks (ranking end b)
unfolding answer no_room after
rank_asks end b = record { answers = λ may p. refl; leaves = λ may p. refl }

pub select_asks : (k : ℕ) (b : Bool) → Asks (selecting k b)
unfolding answer no_room after
select_asks k b = record { answers = λ may p. refl; leaves = λ may p. refl }

pub quiet_asks : Asks quiet
unfolding answer no_room after
quiet_asks = record { answers = λ may p. refl; leaves = λ may p. refl }

-- what asks nothing is malformed
pub unknown_asks : Asks unknown
unfolding answer no_room after
unknown_asks = record { answers = λ may p. refl; leaves = λ may p. refl }

pub unknown_answer : (xs : List Bool) → Err Malformed ≡ list_answer unknown xs
unfolding list_answer
unknown_answer xs = refl
