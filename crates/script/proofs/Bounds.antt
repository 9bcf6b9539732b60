-- A line writes no more bytes than there is room for.
use Prim.Native.Nat.{ℕ, ◌+◌, ◌*◌, ◌≤◌}
use native.Mathlib.Omega.{arith}
use mathlib.Core.Path.{◌≡◌, ap}
use mathlib.Core.List.{List, [], ◌∷◌, ◌++◌}
use Rattle.std.specs.Prelude.{Option, None, Some, Err}
use lib.ListN.{length, drop, length-append}
use Rattle.model.specs.Tree.{marks, size}
use Rattle.model.specs.Word.{words_for}
use Rattle.model.proofs.Cases.{by_leb, by_ltb}
use Rattle.model.proofs.Words.{words_length}
use Rattle.order.specs.Answer.{code, value}
use Rattle.order.specs.declared.answer.Refusal.TheVariants.{Malformed}
use Rattle.grammar.specs.Lines.{Wanted, dumping, loading, ordering, pooling, wanted}
use Rattle.text.specs.Text.{newline}
use Rattle.script.specs.Prints.{State, answered, damaged, holding, line_text, most_input, nothing, says, shown, too_long, words_text}
use Rattle.script.specs.Playing.{desk, first_line, Keeps, LinePlayed}
use Rattle.script.specs.declared.playing.Next.{Next}
use Rattle.script.proofs.Effects.{dump_words, state_likely}
use Rattle.script.proofs.Letters.{two_length, two_text, words_text_length}

pub line_length : (c v : ℕ) (ws : List ℕ) → length (line_text c v ws) ≤ 42 + 17 * length ws
unfolding line_text
line_length c v ws =
    omega (
      arith,
      length-append (two_text c v ++ words_text ws) (newline ∷ []),
      length-append (two_text c v) (words_text ws),
      two_length c v,
      words_text_length ws,
    )

few_shown : (w : Wanted) (s : State) (ws : List ℕ) (n : ℕ) → Keeps ws n s → length (shown w s) ≤ 1016
unfolding shown Keeps
few_shown (pooling m) s ws n h = omega arith
few_shown (loading len vs) s ws n h = omega arith
few_shown (ordering o) s ws n h = omega arith
few_shown dumping nothing ws n h = omega arith
few_shown dumping (holding m p) ws n h =
    omega (arith, words_length (words_for (size p.tree)) (marks p.tree), dump_words n p h.1.counted.most h.1.sound)
few_shown dumping (damaged m) ws n h = omega arith

says_length : (w : Option Wanted) (s : State) (ws : List ℕ) (n : ℕ) → Keeps ws n s → length (says w s) ≤ 17408
unfolding says
says_length None s ws n h = omega (arith, line_length (code (Err Malformed)) (value (Err Malformed)) [])
says_length (Some w) s ws n h = omega (arith, line_length (code (answered w s)) (value (answered w s)) (shown w s), few_shown w s ws n h)

module _ (input : List ℕ) (at : ℕ) (ws : List ℕ) (n : ℕ) (out : List ℕ) (r : Next) (ws' out' : List ℕ) (whole : length ws ≡ 6144)
    (t : LinePlayed input at (desk ws n out) r ws' out') where
  -- a line's bytes fit
  pub line_fits : r.end ≤ 17408
  unfolding too_long
  line_fits =
      by_ltb at (length input)
      (λ _ h.
      by_leb (length input) most_input
      (λ _ g.
      by_leb r.end 17408 (λ _ k. k)
      (λ _ k.
      absurd
      (state_likely ws n {G = r.end ≤ 17408} whole
      (λ s held. let l = t.line h g s held in omega (arith, l.3.end_is, says_length (wanted (first_line (drop at input))) s ws n held))
      (λ small. omega arith))))
      (λ _ g. omega (arith, ap (λ (r : Next). r.end) (t.long h g).0, line_length 12 0 [])))
      (λ _ h. omega (arith, ap (λ (r : Next). r.end) (t.ended h).0))
