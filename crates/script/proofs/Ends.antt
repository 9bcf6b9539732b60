-- A line ends at the first newline, or with the input; and the lines of an input are the first one and those after it.
use Prim.Native.Nat.{ℕ, suc, ◌+◌, ◌-◌, ◌≤◌, ◌<◌}
use native.Mathlib.Omega.{arith}
use mathlib.Core.Path.{◌≡◌, refl, sym, ap, ap₂, ◌∙◌}
use mathlib.Core.List.{List, [], ◌∷◌}
use lib.Dec.{eqb}
use lib.ListN.{length, take, drop, drop_of_length-le, length-drop}
use lib.Seq.{drop-drop, take_all}
use Rattle.text.specs.Bytes.{index_of}
use Rattle.model.proofs.Cases.{by_ltb, by_test}
use Rattle.text.proofs.Cutting.{pieces_more, pieces_one}
use Rattle.text.specs.Text.{closed, lines}
use Rattle.text.specs.Text.{newline, pieces}
use Rattle.grammar.specs.Lines.{wanted}
use Rattle.text.specs.Text.{over}
use Rattle.script.specs.Prints.{State, line_text, most_input, too_long}
use Rattle.script.specs.Playing.{after_line, desk, first_line, Keeps, Played, LinePlayed}

pub first_is : (bs : List ℕ) → first_line bs ≡ take (index_of newline bs) bs
unfolding first_line index_of
first_is [] = refl
first_is (b ∷ bs) =
    by_test (eqb b newline) (λ e. rw (first_line, index_of, e) refl) (λ e. rw (first_line, index_of, e) (ap (λ (l : List ℕ). b ∷ l)
    (first_is bs)))

pub after_is : (bs : List ℕ) → after_line bs ≡ drop (suc (index_of newline bs)) bs
unfolding after_line index_of
after_is [] = refl
after_is (b ∷ bs) = by_test (eqb b newline) (λ e. rw (after_line, index_of, e) refl) (λ e. rw (after_line, index_of, e) (after_is bs))

-- ---- the lines of an input

some_piece : (mark : ℕ) (bs : List ℕ) → (p : List ℕ) × (ps : List (List ℕ)) × (pieces mark bs ≡ p ∷ ps)
some_piece mark bs =
    by_ltb (index_of mark bs) (length bs)
    (λ _ h. (take (index_of mark bs) bs, pieces mark (drop (suc (index_of mark bs)) bs), pieces_more mark bs h))
    (λ _ h. (bs, [], pieces_one mark bs h))

-- a line that a newline ends
closed_more : (l : List ℕ) (mark : ℕ) (bs : List ℕ) → closed (l ∷ pieces mark bs) ≡ l ∷ closed (pieces mark bs)
unfolding closed
closed_more l mark bs =
    let x = some_piece mark bs in
    ap (λ (ps : List (List ℕ)). closed (l ∷ ps)) x.2 ∙ ap (λ (ps : List (List ℕ)). l ∷ closed ps) (sym x.2)

-- the last line, which none ends
last_line : (b : ℕ) (bs : List ℕ) → closed ((b ∷ bs) ∷ []) ≡ (b ∷ bs) ∷ closed (pieces newline [])
unfolding closed pieces
last_line b bs = refl

-- the lines of an input that is not empty are its first line and the lines after it
pub lines_are : (b : ℕ) (bs : List ℕ) → lines (b ∷ bs) ≡ first_line (b ∷ bs) ∷ lines (after_line (b ∷ bs))
unfolding lines
lines_are b bs =
    by_ltb (index_of newline (b ∷ bs)) (length (b ∷ bs))
    (λ _ h.
    ap closed (pieces_more newline (b ∷ bs) h) ∙ closed_more (take (index_of newline (b ∷ bs)) (b ∷ bs)) newline
    (drop (suc (index_of newline (b ∷ bs))) (b ∷ bs))
    ∙ ap₂ (λ (l rest : List ℕ). l ∷ closed (pieces newline rest)) (sym (first_is (b ∷ bs))) (sym (after_is (b ∷ bs))))
    (λ _ h.
    ap closed (pieces_one newline (b ∷ bs) h) ∙ last_line b bs
    ∙ ap₂ (λ (l rest : List ℕ). l ∷ closed (pieces newline rest))
    (sym (first_is (b ∷ bs) ∙ take_all (index_of newline (b ∷ bs)) (b ∷ bs) h))
    (sym (after_is (b ∷ bs) ∙ drop_of_length-le (b ∷ bs) {i = suc (index_of newline (b ∷ bs))} (omega arith))))

pub no_lines : lines [] ≡ []
unfolding lines closed pieces
no_lines = refl

-- ---- a line

pub ended_line : (input : List ℕ) (at : ℕ) (ws : List ℕ) (n : ℕ) (out : List ℕ) → length input ≤ at
    → LinePlayed input at (desk ws n out) (record { at = at; nodes = n; end = 0 }) ws out
ended_line input at ws n out h = record {
  ended = λ _. (refl, refl, refl);
  long = λ g _. absurd (omega arith);
  line = λ g _ _ _. absurd (omega arith);
}

pub long_line : (input : List ℕ) (at : ℕ) (ws : List ℕ) (n : ℕ) (out : List ℕ) (end : ℕ) (out' : List ℕ) → at < length input
    → most_input < length input
    → (end ≡ length (line_text 12 0 [])) × (out' ≡ over 0 (line_text 12 0 []) out)
    → LinePlayed input at (desk ws n out) (record { at = length input; nodes = n; end = end }) ws out'
unfolding too_long
long_line input at ws n out end out' h g t = record {
  ended = λ k. absurd (omega arith);
  long = λ _ _. (λ i. record { at = length input; nodes = n; end = t.0 i }, refl, t.1);
  line = λ _ k _ _. absurd (omega arith);
}

pub next_line : (input : List ℕ) (at : ℕ) (rest : List ℕ) (taken : ℕ) (line : List ℕ) (ws : List ℕ) (n : ℕ) (out : List ℕ) (n' end : ℕ)
    (ws' out' : List ℕ) → at < length input → length input ≤ most_input → rest ≡ drop at input → 0 < taken → taken ≤ length rest
    → line ≡ first_line rest → drop taken rest ≡ after_line rest
    → ((s : State) → Keeps ws n s → Played (wanted line) s (desk ws n out) (desk ws' n' out') end)
    → LinePlayed input at (desk ws n out) (record { at = at + taken; nodes = n'; end = end }) ws' out'
next_line input at rest taken line ws n out n' end ws' out' h g from some within first after p = record {
  ended = λ k. absurd (omega arith);
  long = λ _ k. absurd (omega arith);
  line = λ _ _ s holds. (
    omega arith,
    omega (arith, length-drop at input, ap length from),
    sym (drop-drop taken at input) ∙ rw from at after,
    rw (first, from) at (p s holds),
  );
}

-- all that stands from a place on
pub rest_is : (input : List ℕ) (at : ℕ) → take (length input - at) (drop at input) ≡ drop at input
rest_is input at = take_all (length input - at) (drop at input) (omega (arith, length-drop at input))
