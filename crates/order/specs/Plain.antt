-- The plain list of marks: what it answers to an order, and what it is afterwards. A mark is answered as a number, a
-- strike as 1.
use Rattle.std.specs.Prelude.{ℕ, zero, suc, Bool, true, false, List, leb, ltb, length}
use Rattle.std.specs.Prelude.{Option, None, Some, Ok, Err}
use Rattle.model.specs.Marks as Marks
use Rattle.model.specs.Word.{digit}
use Rattle.order.specs.Asked.{Asked, inserting, removing, accessing, ranking, selecting, quiet, unknown}
use Rattle.order.specs.Answer.{Answer}
use Rattle.order.specs.declared.answer.Refusal.TheVariants.{OutOfRange, NoZeroth, TooFew, Malformed}

-- a place that the list has, or that it has too few
abbrev pub placed : Option ℕ → Answer
placed (Some p) = Ok p
placed None = Err TooFew

-- an answer, if a place is in the list
abbrev pub in_range : Bool → Answer → Answer
in_range true a = a
in_range false a = Err OutOfRange

-- what the list answers
unfoldable pub list_answer : Asked → List Bool → Answer
list_answer (inserting i b) xs = in_range (leb i (length xs)) (Ok 0)
list_answer (removing i) xs = in_range (ltb i (length xs)) (Ok (digit (Marks.access i xs)))
list_answer (accessing i) xs = in_range (ltb i (length xs)) (Ok (digit (Marks.access i xs)))
list_answer (ranking end b) xs = in_range (leb end (length xs)) (Ok (Marks.rank b end xs))
list_answer (selecting zero b) xs = Err NoZeroth
list_answer (selecting (suc k) b) xs = placed (Marks.select b (suc k) xs)
list_answer quiet xs = Ok (Marks.longest_quiet xs)
list_answer unknown xs = Err Malformed

-- the list afterwards: only an insert and a remove change it
unfoldable pub list_after : Asked → List Bool → List Bool
list_after (inserting i b) xs = elim (leb i (length xs)) [ true ↦ Marks.insert i b xs | false ↦ xs ]
list_after (removing i) xs = elim (ltb i (length xs)) [ true ↦ Marks.remove i xs | false ↦ xs ]
list_after (accessing i) xs = xs
list_after (ranking end b) xs = xs
list_after (selecting k b) xs = xs
list_after quiet xs = xs
list_after unknown xs = xs
