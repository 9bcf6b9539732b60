-- Name by name.
use Rattle.std.proofs.Common.{◌∙◌, ℕ}
use Rattle.std.specs.Prelude.{Some}
use Rattle.order.specs.Asked.{accessing, inserting, ranking, removing, selecting}
use Rattle.text.specs.Text.{fields_left}
use Rattle.grammar.specs.Lines.{line_of, load_of, no_field, one_number, ordering, pooling, two_numbers}
use Rattle.grammar.proofs.Asking.{one_number_is, some_field}
use Rattle.grammar.proofs.reading.asked.Goals as goal

-- ---- words

pub returns-in-Load-Some : goal.returns-in-Load-Some
unfolding line_of fields_left
returns-in-Load-Some c = rw (c.in-Load-Some.is-0, c.in-Load-Some.is-1) c.load_line.ensures

-- ---- one number

pub returns-in_err-decimal-in-Pool-Some : goal.returns-in_err-decimal-in-Pool-Some
unfolding line_of fields_left
returns-in_err-decimal-in-Pool-Some c =
    rw (c.from_residual.ensures, c.in-Pool-Some.is-0, c.in-Pool-Some.is-1)
    (one_number_is _ (λ (n : ℕ). Some (pooling n)) ∙ rw (← c.in_err-decimal-in-Pool-Some.ensures))

pub returns-in_ok-decimal-in-Pool-Some : goal.returns-in_ok-decimal-in-Pool-Some
unfolding line_of fields_left
returns-in_ok-decimal-in-Pool-Some c =
    rw (c.in-Pool-Some.is-0, c.in-Pool-Some.is-1)
    (one_number_is _ (λ (n : ℕ). Some (pooling n)) ∙ rw (← c.in_ok-decimal-in-Pool-Some.ensures))

pub returns-in_err-decimal-in-Remove-Some : goal.returns-in_err-decimal-in-Remove-Some
unfolding line_of fields_left
returns-in_err-decimal-in-Remove-Some c =
    rw (c.from_residual-in_err-decimal-in-Remove-Some.ensures, c.in-Remove-Some.is-0, c.in-Remove-Some.is-1)
    (one_number_is _ (λ (i : ℕ). Some (ordering (removing i))) ∙ rw (← c.in_err-decimal-in-Remove-Some.ensures))

pub returns-in_ok-decimal-in-Remove-Some : goal.returns-in_ok-decimal-in-Remove-Some
unfolding line_of fields_left
returns-in_ok-decimal-in-Remove-Some c =
    rw (c.in-Remove-Some.is-0, c.in-Remove-Some.is-1)
    (one_number_is _ (λ (i : ℕ). Some (ordering (removing i))) ∙ rw (← c.in_ok-decimal-in-Remove-Some.ensures))

pub returns-in_err-decimal-in-Get-Some : goal.returns-in_err-decimal-in-Get-Some
unfolding line_of fields_left
returns-in_err-decimal-in-Get-Some c =
    rw (c.from_residual-in_err-decimal-in-Get-Some.ensures, c.in-Get-Some.is-0, c.in-Get-Some.is-1)
    (one_number_is _ (λ (i : ℕ). Some (ordering (accessing i))) ∙ rw (← c.in_err-decimal-in-Get-Some.ensures))

pub returns-in_ok-decimal-in-Get-Some : goal.returns-in_ok-decimal-in-Get-Some
unfolding line_of fields_left
returns-in_ok-decimal-in-Get-Some c =
    rw (c.in-Get-Some.is-0, c.in-Get-Some.is-1)
    (one_number_is _ (λ (i : ℕ). Some (ordering (accessing i))) ∙ rw (← c.in_ok-decimal-in-Get-Some.ensures))

-- ---- a place and a bit

pub returns-in_err-index-in-Insert-Some : goal.returns-in_err-index-in-Insert-Some
unfolding line_of fields_left
returns-in_err-index-in-Insert-Some c =
    rw (c.from_residual-in_err-index-in-Insert-Some.ensures, c.in-Insert-Some.is-0, c.in-Insert-Some.is-1)
    (c.in_err-index-in-Insert-Some.ensures inserting)

pub returns-in_ok-index-in-Insert-Some : goal.returns-in_ok-index-in-Insert-Some
unfolding line_of fields_left
returns-in_ok-index-in-Insert-Some c =
    rw (c.in-Insert-Some.is-0, c.in-Insert-Some.is-1) (c.in_ok-index-in-Insert-Some.ensures inserting)

pub returns-in_err-end-in-Rank-Some : goal.returns-in_err-end-in-Rank-Some
unfolding line_of fields_left
returns-in_err-end-in-Rank-Some c =
    rw (c.from_residual-in_err-end-in-Rank-Some.ensures, c.in-Rank-Some.is-0, c.in-Rank-Some.is-1)
    (c.in_err-end-in-Rank-Some.ensures ranking)

pub returns-in_ok-end-in-Rank-Some : goal.returns-in_ok-end-in-Rank-Some
unfolding line_of fields_left
returns-in_ok-end-in-Rank-Some c =
    rw (c.in-Rank-Some.is-0, c.in-Rank-Some.is-1) (c.in_ok-end-in-Rank-Some.ensures ranking)

pub returns-in_err-k-in-Select-Some : goal.returns-in_err-k-in-Select-Some
unfolding line_of fields_left
returns-in_err-k-in-Select-Some c =
    rw (c.from_residual-in_err-k-in-Select-Some.ensures, c.in-Select-Some.is-0, c.in-Select-Some.is-1)
    (c.in_err-k-in-Select-Some.ensures selecting)

pub returns-in_ok-k-in-Select-Some : goal.returns-in_ok-k-in-Select-Some
unfolding line_of fields_left
returns-in_ok-k-in-Select-Some c =
    rw (c.in-Select-Some.is-0, c.in-Select-Some.is-1) (c.in_ok-k-in-Select-Some.ensures selecting)

-- ---- a name alone

pub returns-in-Gap-None : goal.returns-in-Gap-None
unfolding line_of fields_left no_field
returns-in-Gap-None c = rw (c.in-Gap-None.is-0, c.in-Gap-None.is-1)

pub returns-in-Dump-None : goal.returns-in-Dump-None
unfolding line_of fields_left no_field
returns-in-Dump-None c = rw (c.in-Dump-None.is-0, c.in-Dump-None.is-1)

-- ---- no field where one is wanted

pub returns-in_default : goal.returns-in_default
unfolding line_of fields_left one_number
returns-in_default c = rw (c.in_default.is-0, c.in_default.is-1)

pub returns-in_default-2 : goal.returns-in_default-2
unfolding line_of fields_left load_of
returns-in_default-2 c = rw (c.in_default.is-0, c.in_default.is-1)

pub returns-in_default-3 : goal.returns-in_default-3
unfolding line_of fields_left two_numbers
returns-in_default-3 c = rw (c.in_default.is-0, c.in_default.is-1)

pub returns-in_default-4 : goal.returns-in_default-4
unfolding line_of fields_left one_number
returns-in_default-4 c = rw (c.in_default.is-0, c.in_default.is-1)

pub returns-in_default-5 : goal.returns-in_default-5
unfolding line_of fields_left one_number
returns-in_default-5 c = rw (c.in_default.is-0, c.in_default.is-1)

pub returns-in_default-6 : goal.returns-in_default-6
unfolding line_of fields_left two_numbers
returns-in_default-6 c = rw (c.in_default.is-0, c.in_default.is-1)

pub returns-in_default-7 : goal.returns-in_default-7
unfolding line_of fields_left two_numbers
returns-in_default-7 c = rw (c.in_default.is-0, c.in_default.is-1)

-- ---- a field where none is wanted

pub returns-in_default-8 : goal.returns-in_default-8
unfolding line_of fields_left
returns-in_default-8 c = rw (c.in_default.is-0, c.in_default.is-1) (some_field _ _)

pub returns-in_default-9 : goal.returns-in_default-9
unfolding line_of fields_left
returns-in_default-9 c = rw (c.in_default.is-0, c.in_default.is-1) (some_field _ _)
