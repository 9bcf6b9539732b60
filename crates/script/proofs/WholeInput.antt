-- Line after line, a whole input prints what it is to print.
use Prim.Native.Nat.{ℕ, zero, suc, ◌≤◌, ◌<◌}
use native.Mathlib.Omega.{arith}
use mathlib.Core.Path.{◌≡◌, refl, sym, ap, ap₂, ◌∙◌}
use mathlib.Core.Bool.{false}
use mathlib.Core.List.{List, [], ◌∷◌, ◌++◌, append-nil}
use Rattle.std.specs.Prelude.{Option}
use lib.ListN.{length, take, drop, get_or, drop_of_length-le}
use lib.Seq.{drop-cons, take_at}
use Rattle.model.proofs.Cases.{by_leb}
use Rattle.text.specs.Text.{lines}
use Rattle.grammar.specs.Lines.{Wanted, wanted}
use Rattle.text.specs.Text.{over}
use Rattle.text.proofs.Putting.{over_first}
use Rattle.script.specs.Prints.{State, Undamaged, all_leave, all_say, leaves, most_input, nothing, prints, says, sized, too_long}
use Rattle.script.specs.Playing.{Keeps, PlaysAll, after_line, first_line}
use Rattle.script.proofs.Effects.{settled}
use Rattle.script.proofs.Ends.{lines_are, no_lines}

-- the bytes that were written
written : (ts out out' : List ℕ) (end : ℕ) → end ≡ length ts → out' ≡ over 0 ts out → take end out' ≡ ts
written ts out out' end e o = ap₂ take e (o ∙ over_first ts out) ∙ take_at ts (drop (length ts) out) (length ts) refl

nothing_left : (input : List ℕ) (at : ℕ) → length input ≤ at → lines (drop at input) ≡ []
nothing_left input at h = ap lines (drop_of_length-le input {i = at} h) ∙ no_lines

lines_from : (input : List ℕ) (at : ℕ) → at < length input → lines (drop at input) ≡ first_line (drop at input) ∷ lines (after_line (drop at input))
lines_from input at h =
    let e = drop-cons input at 0 h in
    ap lines e ∙ lines_are (get_or input at 0) (drop (suc at) input) ∙ ap (λ (bs : List ℕ). first_line bs ∷ lines (after_line bs)) (sym e)

-- what is held at a place of the input decides what the lines from there on say
pub plays_from : (k : ℕ) (input : List ℕ) (at : ℕ) (ws : List ℕ) (n : ℕ) (printed : List ℕ) (s : State) → length input ≤ most_input → Keeps ws n s
    → PlaysAll k input at ws n printed
    → printed ≡ all_say (lines (drop at input)) s
unfolding PlaysAll all_say
plays_from zero input at ws n printed s short h p = p.1 ∙ ap (λ (ls : List (List ℕ)). all_say ls s) (sym (nothing_left input at p.0))
plays_from (suc k) input at ws n printed s short h p =
    let out = p.1.0 in
    let r = p.1.1 in
    let ws' = p.1.2 in
    let out' = p.1.3 in
    let rest = p.1.4 in
    let t = p.1.5 in
    let l = t.line p.0 short s h in
    let w = wanted (first_line (drop at input)) in
    p.1.7
    ∙ ap₂ (λ (a b : List ℕ). a ++ b) (written (says w s) out out' r.end l.3.end_is l.3.written)
    (plays_from k input r.at ws' r.nodes rest (leaves w s) short l.3.keeps p.1.6)
    ∙ ap (λ (ls : List (List ℕ)). says w s ++ all_say ls (leaves w s)) (ap lines l.2)
    ∙ ap (λ (ls : List (List ℕ)). all_say ls s) (sym (lines_from input at p.0))

-- nothing follows the end
plays_end : (k : ℕ) (input : List ℕ) (at : ℕ) (ws : List ℕ) (n : ℕ) (printed : List ℕ) → length input ≤ at → PlaysAll k input at ws n printed
    → printed ≡ []
unfolding PlaysAll
plays_end zero input at ws n printed h p = p.1
plays_end (suc k) input at ws n printed h p = absurd (omega (arith, p.0))

long_from : (k : ℕ) (input ws : List ℕ) (n : ℕ) (printed : List ℕ) → most_input < length input → PlaysAll k input 0 ws n printed → printed ≡ too_long
unfolding PlaysAll
long_from zero input ws n printed h p = absurd (omega (arith, p.0))
long_from (suc k) input ws n printed h p =
    let r = p.1.1 in
    let l = p.1.5.long p.0 h in
    let at_end : r.at ≡ length input = ap (λ r. r.at) l.0 in
    p.1.7
    ∙ ap₂ (λ (a b : List ℕ). a ++ b) (written too_long p.1.0 p.1.3 r.end (ap (λ r. r.end) l.0) l.2)
    (plays_end k input r.at p.1.2 r.nodes p.1.4 (omega (arith, at_end)) p.1.6)
    ∙ append-nil too_long

-- an input that is played from its beginning, before any pool, prints what it is to print
pub plays_whole : (k : ℕ) (input ws : List ℕ) (n : ℕ) (printed : List ℕ) → sized n ≡ false → PlaysAll k input 0 ws n printed → printed ≡ prints input
unfolding prints Keeps
plays_whole k input ws n printed none_yet p =
    by_leb (length input) most_input
    (λ e h. rw (prints, e) (plays_from k input 0 ws n printed nothing h none_yet p))
    (λ e h. rw (prints, e) (long_from k input ws n printed h p))

-- ---- what a script holds

-- a line does not damage a pool
pub never_damaged : (w : Option Wanted) (s : State) → Undamaged s → Undamaged (leaves w s)
never_damaged w s h = settled w s (λ m p e. rw e tt) (λ e. rw e h)

-- so a script, which begins with nothing, never comes to words in which no pool stands
pub script_undamaged : (ls : List (List ℕ)) (s : State) → Undamaged s → Undamaged (all_leave ls s)
unfolding all_leave
script_undamaged [] s h = h
script_undamaged (l ∷ ls) s h = script_undamaged ls (leaves (wanted l) s) (never_damaged (wanted l) s h)
