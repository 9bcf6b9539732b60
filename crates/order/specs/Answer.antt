-- The number and the value of each answer, and the text of each refusal. A refusal has the value 0.
use Rattle.std.specs.Prelude.{ℕ, ◌≡◌, List, Result, Ok, Err, codes}
use Rattle.order.specs.declared.answer.Refusal.{Refusal}
use Rattle.order.specs.declared.answer.Refusal.TheVariants.{OutOfRange, NoZeroth, TooFew, Full, Malformed, WrongSize, NotSound, ShortOutput, PartOrder, TooLong, LeafLacks}
use Rattle.order.specs.declared.answer.TwoWords.{TwoWords}

abbrev pub Answer : Type 0
Answer = Result ℕ Refusal

unfoldable pub code : Answer → ℕ
code (Ok v) = 0
code (Err OutOfRange) = 1
code (Err NoZeroth) = 2
code (Err TooFew) = 3
code (Err Full) = 4
code (Err Malformed) = 5
code (Err WrongSize) = 6
code (Err NotSound) = 7
code (Err ShortOutput) = 8
code (Err PartOrder) = 9
code (Err TooLong) = 10
code (Err LeafLacks) = 11

unfoldable pub value : Answer → ℕ
value (Ok v) = v
value (Err r) = 0

-- two words are an answer's number and its value
abbrev pub InWords : Answer → TwoWords → Type 0
InWords a words = (words.code ≡ code a) × (words.value ≡ value a)

-- what is printed of a refusal
abbrev pub printed_as : Refusal → List ℕ
printed_as OutOfRange = codes "index or end out of range"
printed_as NoZeroth = codes "there is no mark before the first"
printed_as TooFew = codes "too few such marks"
printed_as Full = codes "no room"
printed_as Malformed = codes "no such order"
printed_as WrongSize = codes "not as many words as a pool has"
printed_as NotSound = codes "no sound pool"
printed_as ShortOutput = codes "the output is too short"
printed_as PartOrder = codes "a part of an order"
printed_as TooLong = codes "more marks than the words have"
printed_as LeafLacks = codes "the leaf lacks the mark"
