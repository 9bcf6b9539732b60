-- What is promised, each sentence as a statement of the calls: of the words that a host lends, and of the codes and
-- values that it reads. What a call answers and leaves is said in window/specs/Calls.antt, how a pool stands in words
-- in window/specs/Layout.antt. The proofs are cited in proofs/Kept.antt.
use Rattle.std.specs.Prelude.{ℕ, ◌+◌, ◌≤◌, ◌<◌, ◌≡◌, Bool, List, ◌++◌, length, take, drop, Ok, Err}
use Rattle.std.specs.Prelude.{Some}
use Rattle.model.specs.Edit.{leaf_at}
use Rattle.model.specs.Limits.{least_full}
use Rattle.model.specs.Marks as Marks
use Rattle.model.specs.Pool as Pool
use Rattle.model.specs.Pool.{Pool}
use Rattle.model.specs.Sound.{Sound, leaf_most}
use Rattle.model.specs.Tree.{marks}
use Rattle.model.specs.Word.{digit, marks_of, words_of}
use Rattle.order.specs.Answer.{Answer, code}
use Rattle.run.specs.Runs.{Ran, order_count}
use Rattle.window.specs.Calls.{BuildsTo, Checked, Valued}
use Rattle.window.specs.Layout.{Counted, Stands}
use Rattle.order.specs.Asked.{Asked, inserting}
use Rattle.order.specs.Plain.{list_after}
use Rattle.run.specs.Orders.{after_all, answer, answer_words, list_after_all, list_answers, orders_of}
use Rattle.order.specs.declared.answer.Refusal.TheVariants.{Full}
use Rattle.demands.specs.Following.{full, ListAnswers, TellsFull, Follows, NoneFull, AllRefused, AgreeOrFull, carried_out, done}
use Rattle.demands.specs.History.{Accepted, Entry, Exchange, History, InRun, all_orders, asked, log, trailer}

-- the marks that a build is given: the first of some words, so many
abbrev pub given : List ℕ → ℕ → List Bool
given words len = take len (marks_of words)

-- a pool stands in these words whose marks are xs
abbrev pub HoldsMarks : List ℕ → List Bool → Type 0
HoldsMarks ws xs = (n : ℕ) × (p : Pool) × Stands ws n p × (marks p.tree ≡ xs)

-- ---- 1: a refusal changes nothing

-- a call that is not answered 0 leaves every lent word as it was
abbrev pub RefusedBuildChangesNothing : Type 0
RefusedBuildChangesNothing =
    (ws words : List ℕ) (len : ℕ) (r : Answer) (ws' : List ℕ)
    → BuildsTo ws words len r ws' → (code r ≡ 0 → ⊥) → ws' ≡ ws

abbrev pub RefusedValuesChangesNothing : Type 0
RefusedValuesChangesNothing =
    (ws out : List ℕ) (r : Answer) (out' : List ℕ) → Valued ws out r out' → (code r ≡ 0 → ⊥) → out' ≡ out

abbrev pub RefusedRunChangesNothing : Type 0
RefusedRunChangesNothing =
    (ws orders out : List ℕ) (r : Answer) (ws' out' : List ℕ)
    → Ran ws orders out r ws' out' → (code r ≡ 0 → ⊥) → (ws' ≡ ws) × (out' ≡ out)

-- an order of a run that is not answered 0 leaves every word of the pool as it was before that order
abbrev pub RefusedOrderChangesNoWord : Type 0
RefusedOrderChangesNoWord = (ws : List ℕ) (e : Exchange) → InRun ws e → (e.entry.code ≡ 0 → ⊥) → e.after ≡ e.before

-- and a list of orders of which none is answered 0 leaves every word of the pool
abbrev pub RefusedListChangesNoWord : Type 0
RefusedListChangesNoWord =
    (ws orders ws' told : List ℕ) → Accepted ws orders ws' told → AllRefused (log orders told) → ws' ≡ ws

-- ---- 2: answers and marks are those of a plain list of bits

-- over a history every order has its answer, and it is that of the plain list, which began with the marks of the build;
-- or it is 4, 0, and the list stays
abbrev pub AnswersAreTheLists : Type 0
AnswersAreTheLists =
    (slice words : List ℕ) (len : ℕ) (lists : List (List ℕ)) (ws told : List ℕ)
    → History slice words len lists ws told
    → (length (log (all_orders lists) told) ≡ order_count (all_orders lists))
    × Follows (log (all_orders lists) told) (given words len)
    (carried_out (log (all_orders lists) told) (given words len))

-- where no answer is 4, every word that was answered is the plain list's, and so are the marks that are held then
abbrev pub WithRoomAllIsTheLists : Type 0
WithRoomAllIsTheLists =
    (slice words : List ℕ) (len : ℕ) (lists : List (List ℕ)) (ws told : List ℕ)
    → History slice words len lists ws told → NoneFull (log (all_orders lists) told)
    → (told ≡ answer_words (list_answers (orders_of (all_orders lists)) (given words len)))
    × HoldsMarks ws (list_after_all (orders_of (all_orders lists)) (given words len))

-- the three words of an insert: 1, a place, and a bit
pub record Inserts (e : Entry) : Type 0 where
  pub number : e.number ≡ 1
  pub bit : e.third ≤ 1

-- an insert at place i finds no room in the words ws of a pool p: the place is at most the length, the leaf that it
-- leads to holds 127 marks, and the trailer counts fewer than two free nodes
pub record NoRoom (ws : List ℕ) (p : Pool) (i : ℕ) : Type 0 where
  pub in_range : i ≤ (trailer ws).held.tree.length
  pub leaf_full : length (leaf_at i p.tree) ≡ leaf_most
  pub few_free : (trailer ws).held.chain.count < 2

-- that is exactly when an insert is answered 4, 0
abbrev pub FullExactly : Type 0
FullExactly =
    (ws : List ℕ) (e : Exchange) (n : ℕ) (p : Pool) → InRun ws e → Stands e.before n p → Inserts e.entry
    → (TellsFull e.entry → NoRoom e.before p e.entry.second)
    × (NoRoom e.before p e.entry.second → TellsFull e.entry)

-- ---- 3: the size of a pool shows in Full alone, and never below a floor

-- the same build and the same lists in two slices of any sizes
abbrev pub SizesAgree : Type 0
SizesAgree =
    (small large words : List ℕ) (len : ℕ) (lists : List (List ℕ)) (ws ws' told told' : List ℕ)
    → length small ≤ length large → History small words len lists ws told → History large words len lists ws' told'
    → AgreeOrFull (log (all_orders lists) told) (log (all_orders lists) told')

-- after any history, an order that is answered 4 finds a trailer that tells so many marks at the least
abbrev pub NoFullBelowTheFloor : Type 0
NoFullBelowTheFloor =
    (slice words : List ℕ) (len : ℕ) (lists : List (List ℕ)) (ws told : List ℕ) (n : ℕ) (e : Exchange)
    → Counted slice n → History slice words len lists ws told → InRun ws e → e.entry.code ≡ full
    → least_full n ≤ (trailer e.before).held.tree.length

-- a window's pool: 6,144 words
abbrev pub NoFullBelow16958 : Type 0
NoFullBelow16958 =
    (slice words : List ℕ) (len : ℕ) (lists : List (List ℕ)) (ws told : List ℕ) (e : Exchange)
    → length slice ≡ 6144 → History slice words len lists ws told → InRun ws e → e.entry.code ≡ full
    → 16958 ≤ (trailer e.before).held.tree.length

-- no greater number can be promised: for every count of nodes there are a build and orders after which a sound pool
-- holds exactly so many marks and has no room for an insert
abbrev pub FloorIsSharp : Type 0
FloorIsSharp =
    (n : ℕ) → 1 ≤ n
    → (xs : List Bool) × (p : Pool) × (os : List Asked) × (i : ℕ)
    × (Pool.build n xs ≡ Some p) × Sound n (after_all os p)
    × (length (marks (after_all os p).tree) ≡ least_full n)
    × ((b : Bool) → answer (inserting i b) (after_all os p) ≡ Err Full)

-- ---- 4: nothing is lost

-- by count: what check tells after a history, and the removes answered 0, are as many as the marks of the build and the
-- inserts answered 0
abbrev pub NothingLostByCount : Type 0
NothingLostByCount =
    (slice words : List ℕ) (len : ℕ) (lists : List (List ℕ)) (ws told : List ℕ) (count : ℕ)
    → History slice words len lists ws told → Checked ws (Ok count)
    → count + done 2 (log (all_orders lists) told) ≡ len + done 1 (log (all_orders lists) told)

-- by marks: what values writes after a history are the marks of the build with exactly the orders answered 0 carried
-- out on the plain list, one after the other
abbrev pub NothingLostByMarks : Type 0
NothingLostByMarks =
    (slice words : List ℕ) (len : ℕ) (lists : List (List ℕ)) (ws told out : List ℕ) (k : ℕ) (out' : List ℕ)
    → History slice words len lists ws told → Valued ws out (Ok k) out'
    → out' ≡ words_of k (carried_out (log (all_orders lists) told) (given words len)) ++ drop k out

-- an insert that is answered 0 is in the marks, and a remove that is answered 0 is out of them
abbrev pub DoneIsDone : Type 0
DoneIsDone =
    (ws : List ℕ) (e : Exchange) (n m : ℕ) (p q : Pool)
    → InRun ws e → Stands e.before n p → Stands e.after m q → e.entry.code ≡ 0
    → ((b : Bool) → e.entry.number ≡ 1 → e.entry.third ≡ digit b
    → marks q.tree ≡ Marks.insert e.entry.second b (marks p.tree))
    × (e.entry.number ≡ 2 → marks q.tree ≡ Marks.remove e.entry.second (marks p.tree))

-- ---- 5: a quiet storm and a full queue never look the same

-- an order is answered 4 exactly where it is an insert that finds no room; and whatever is not answered 4 is answered
-- what the list answers, and leaves the marks that it leaves
abbrev pub FullIsTold : Type 0
FullIsTold =
    (ws : List ℕ) (e : Exchange) (n : ℕ) (p : Pool) → InRun ws e → Stands e.before n p
    → (e.entry.code ≡ full → Inserts e.entry × NoRoom e.before p e.entry.second)
    × (Inserts e.entry → NoRoom e.before p e.entry.second → e.entry.code ≡ full)
    × ((e.entry.code ≡ full → ⊥)
    → ListAnswers e.entry (marks p.tree)
    × HoldsMarks e.after (list_after (asked e.entry) (marks p.tree)))

-- ---- 6: codes, and lists that are cut

-- an order is answered by one of the codes 0 to 5; no order is answered 11
abbrev pub OrderCodes : Type 0
OrderCodes = (ws : List ℕ) (e : Exchange) → InRun ws e → e.entry.code ≤ 5

-- two lists, one after the other, are answered and leave what one list of all their orders is answered and leaves
abbrev pub ListsMayBeCut : Type 0
ListsMayBeCut =
    (ws front back next end end' first rest told : List ℕ)
    → Accepted ws front next first → Accepted next back end rest → Accepted ws (front ++ back) end' told
    → (end' ≡ end) × (told ≡ first ++ rest)
