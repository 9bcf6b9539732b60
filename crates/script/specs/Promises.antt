-- What is promised of a script's lines. The proofs are in proofs/Refused.antt.
use Rattle.std.specs.Prelude.{ℕ, ◌≡◌, List}
use Rattle.std.specs.Prelude.{Option, None, Some, Err}
use Rattle.order.specs.Answer.{code}
use Rattle.order.specs.declared.answer.Refusal.TheVariants.{Malformed}
use Rattle.grammar.specs.Lines.{Wanted}
use Rattle.script.specs.Prints.{State, answered, leaves}
use Rattle.script.specs.Playing.{desk, Played}

-- the code that a line prints
abbrev pub line_code : Option Wanted → State → ℕ
line_code None s = code (Err Malformed)
line_code (Some w) s = code (answered w s)

-- a line that is not answered 0 leaves what is held as it was
abbrev pub RefusedLineLeavesAll : Type 0
RefusedLineLeavesAll = (w : Option Wanted) (s : State) → (line_code w s ≡ 0 → ⊥) → leaves w s ≡ s

-- and changes no word of the pool, nor which pool is in use
abbrev pub RefusedLineChangesNoWord : Type 0
RefusedLineChangesNoWord =
    (w : Option Wanted) (s : State) (ws : List ℕ) (n : ℕ) (out : List ℕ) (n' end : ℕ) (ws' out' : List ℕ)
    → Played w s (desk ws n out) (desk ws' n' out') end → (line_code w s ≡ 0 → ⊥) → (n' ≡ n) × (ws' ≡ ws)
