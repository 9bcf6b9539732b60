-- What the fields of a line ask for, by the first one and those behind it.
use Prim.Native.Nat.{ℕ, zero, suc, ◌≤◌, ◌<◌}
use native.Mathlib.Omega.{arith}
use mathlib.Core.Path.{◌≡◌, refl, sym, ap, ◌∙◌, fun_ext}
use mathlib.Core.Bool.{Bool, false, ◌&&◌}
use mathlib.Core.List.{List, [], ◌∷◌}
use Rattle.std.specs.Prelude.{Option, None, Some, option_and_then}
use lib.Dec.{eqb, leb, ltb}
use lib.ListN.{length, take, drop}
use borrow.Author.Tests.{eqb-true, le-ltb}
use Rattle.text.specs.Bytes.{index_of}
use Rattle.model.proofs.Cases.{by_test}
use Rattle.order.specs.Asked.{Asked}
use Rattle.text.specs.Text.{fields}
use Rattle.grammar.specs.Lines.{no_field, one_number, order_with, two_numbers, Wanted}
use Rattle.text.specs.Text.{all_digits, decimal, space, worth}
use Rattle.text.proofs.Cutting.{by_mark, fields_some, pieces_more, pieces_one, pieces_some}
use Rattle.text.proofs.Digits.{numeral_not}

-- ---- a space is no digit

-- a text with a space is not all digits
spaced_digits : (base : ℕ) → base ≤ 16 → (bs : List ℕ) → index_of space bs < length bs → all_digits base bs ≡ false
unfolding all_digits index_of worth
spaced_digits base most [] h = absurd (omega arith)
spaced_digits base most (b ∷ bs) h =
    by_test (eqb b space)
    (λ e. rw (eqb-true b space e, le-ltb 16 base most))
    (λ e.
    let later : all_digits base bs ≡ false =
    spaced_digits base most bs (let less : suc (index_of space bs) < suc (length bs) = rw (index_of, e) at h in omega arith) in
    by_test (ltb (worth b) base) (λ t. rw t later) (λ t. rw t))

-- and no decimal
decimal_spaced : (bs : List ℕ) → index_of space bs < length bs → decimal bs ≡ None
unfolding decimal
decimal_spaced bs h =
    by_test (leb 1 (length bs) && leb (length bs) 18)
    (λ e. rw (decimal, e) (numeral_not 10 bs (spaced_digits 10 (omega arith) bs h))) (λ e. rw (decimal, e))

-- there is a field in any case
pub some_field : (bs : List ℕ) (w : Option Wanted) → no_field (fields bs) w ≡ None
unfolding no_field
some_field bs w = fields_some (λ (fs : List (List ℕ)). no_field fs w ≡ None) bs (λ f fs. refl)

-- ---- what the fields ask for

-- a field that is a decimal has no space
pub one_number_is : (bs : List ℕ) (ask : ℕ → Option Wanted) → one_number (fields bs) ask ≡ option_and_then ask (decimal bs)
unfolding fields one_number
one_number_is bs ask =
    by_mark space bs (λ h. ap (λ (fs : List (List ℕ)). one_number fs ask) (pieces_one space bs h))
    (λ h.
    ap (λ (fs : List (List ℕ)). one_number fs ask) (pieces_more space bs h)
    ∙ pieces_some space (λ (fs : List (List ℕ)). one_number (take (index_of space bs) bs ∷ fs) ask ≡ None) (drop (suc (index_of space bs)) bs)
    (λ f fs. refl)
    ∙ ap (λ (o : Option ℕ). option_and_then ask o) (sym (decimal_spaced bs h)))

-- whatever number there is, nothing is asked
nothing : (o : Option ℕ) → option_and_then {T = ℕ} {U = Wanted} (λ n. None) o ≡ None
nothing None = refl
nothing (Some n) = refl

-- one field is not two
pub two_alone : (f : List ℕ) (ask : ℕ → ℕ → Option Wanted) → two_numbers (f ∷ []) ask ≡ None
unfolding two_numbers one_number
two_alone f ask = nothing (decimal f)

-- the first field, and all that stands behind it
pub two_more : (f rest : List ℕ) (ask : ℕ → ℕ → Option Wanted)
    → two_numbers (f ∷ fields rest) ask ≡ option_and_then (λ m. option_and_then (ask m) (decimal rest)) (decimal f)
unfolding two_numbers
two_more f rest ask = ap (λ (g : ℕ → Option Wanted). option_and_then g (decimal f)) (fun_ext (λ m. one_number_is rest (ask m)))

-- ---- orders

-- a number that is no bit
pub no_bit : (b : ℕ) (ask : Bool → Asked) → (b ≡ 0 → ⊥) → (b ≡ 1 → ⊥) → order_with b ask ≡ None
unfolding order_with
no_bit zero ask h g = absurd (h refl)
no_bit (suc zero) ask h g = absurd (g refl)
no_bit (suc (suc b)) ask h g = refl
