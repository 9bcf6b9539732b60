-- Texts that are put one behind the other make one text.
use Prim.Native.Nat.{ℕ, suc, ◌+◌, ◌*◌, ◌≤◌, ◌<◌}
use native.Mathlib.Nat.{zero-add}
use native.Mathlib.Omega.{arith}
use mathlib.Core.Path.{◌≡◌, refl, sym, ap, ap₂, ◌∙◌}
use mathlib.Core.List.{List, [], ◌∷◌, ◌++◌, append_assoc, append-nil}
use lib.ListN.{length, take, get_or, length-append}
use lib.Seq.{length-take-le, take_all, take-suc}
use Rattle.text.specs.Text.{decimal_text, hex_text, newline, over, space}
use Rattle.text.proofs.Putting.{decimal_length, hex_length, over_behind, over_length}
use Rattle.script.specs.Prints.{line_text, words_text}

-- a text was put at a place, and ends there
pub record Put (at : ℕ) (ts bs : List ℕ) (end : ℕ) (bs' : List ℕ) : Type 0 where
  pub ends : end ≡ at + length ts
  pub bytes : bs' ≡ over at ts bs

pub put_length : (at : ℕ) (a bs : List ℕ) (mid : ℕ) (bs' : List ℕ) → Put at a bs mid bs' → at + length a ≤ length bs → length bs' ≡ length bs
put_length at a bs mid bs' p h = ap length p.bytes ∙ over_length at a bs h

pub put_both : (at : ℕ) (a b bs : List ℕ) (mid end : ℕ) (bs' bs'' : List ℕ) → Put at a bs mid bs' → Put mid b bs' end bs''
    → at + length a + length b ≤ length bs → Put at (a ++ b) bs end bs''
put_both at a b bs mid end bs' bs'' p q h = record {
  ends = omega (arith, q.ends, p.ends, length-append a b);
  bytes = q.bytes ∙ ap₂ (λ (m : ℕ) (xs : List ℕ). over m b xs) p.ends p.bytes ∙ over_behind at a b bs h;
}

-- ---- a code and a value

abbrev pub two_text : ℕ → ℕ → List ℕ
two_text c v = decimal_text c ++ (space ∷ decimal_text v)

pub two_length : (c v : ℕ) → length (two_text c v) ≤ 41
two_length c v = omega (arith, length-append (decimal_text c) (space ∷ decimal_text v), (decimal_length c).1, (decimal_length v).1)

module _ (c v : ℕ) (out : List ℕ) (e₁ : ℕ) (out₁ : List ℕ) (room : 41 ≤ length out) (p : Put 0 (decimal_text c) out e₁ out₁) where
  code_put : (e₁ ≤ 20) × (length out₁ ≡ length out)
  code_put = let l = (decimal_length c).1 in (omega (arith, p.ends), put_length 0 (decimal_text c) out e₁ out₁ p (omega arith))

  -- there is room for the space
  pub space_room : e₁ < length out₁
  space_room = let k = code_put in omega arith

  module _ (e₂ : ℕ) (out₂ : List ℕ) (q : Put e₁ (space ∷ []) out₁ e₂ out₂) where
    space_put : Put 0 (decimal_text c ++ (space ∷ [])) out e₂ out₂
    space_put = let l = (decimal_length c).1 in put_both 0 (decimal_text c) (space ∷ []) out e₁ e₂ out₁ out₂ p q (omega arith)

    -- and for the value
    pub value_room : e₂ + 20 ≤ length out₂
    value_room =
        let k = code_put in
        let j = put_length e₁ (space ∷ []) out₁ e₂ out₂ q (omega arith) in
        omega (arith, q.ends)

    pub two_put : (e₃ : ℕ) (out₃ : List ℕ) → Put e₂ (decimal_text v) out₂ e₃ out₃ → Put 0 (two_text c v) out e₃ out₃
    two_put e₃ out₃ r =
        rw (append_assoc (decimal_text c) (space ∷ []) (decimal_text v)) at
        (put_both 0 (decimal_text c ++ (space ∷ [])) (decimal_text v) out e₂ e₃ out₂ out₃ space_put r
        (omega (arith, length-append (decimal_text c) (space ∷ []), (decimal_length c).1, (decimal_length v).1)))

-- ---- words

pub words_text_length : (ws : List ℕ) → length (words_text ws) ≡ 17 * length ws
unfolding words_text
words_text_length [] = refl
words_text_length (w ∷ ws) = length-append (space ∷ hex_text w) (words_text ws) ∙ omega (arith, hex_length w, words_text_length ws)

words_text_append : (ws vs : List ℕ) → words_text (ws ++ vs) ≡ words_text ws ++ words_text vs
unfolding words_text
words_text_append [] vs = refl
words_text_append (w ∷ ws) vs =
    ap (◌++◌ (space ∷ hex_text w)) (words_text_append ws vs) ∙ sym (append_assoc (space ∷ hex_text w) (words_text ws) (words_text vs))

one_more : (i : ℕ) (ws : List ℕ) → i < length ws → words_text (take (suc i) ws) ≡ words_text (take i ws) ++ (space ∷ hex_text (get_or ws i 0))
unfolding words_text
one_more i ws h =
    ap words_text (take-suc ws i 0 h) ∙ words_text_append (take i ws) (get_or ws i 0 ∷ [])
    ∙ ap (λ (xs : List ℕ). words_text (take i ws) ++ xs) (append-nil (space ∷ hex_text (get_or ws i 0)))

-- a line so far: its answer, and the first i of its words
abbrev pub Begun : (c v : ℕ) (ws : List ℕ) (i : ℕ) (out : List ℕ) (end : ℕ) (out' : List ℕ) → Type 0
Begun c v ws i out end out' = Put 0 (two_text c v ++ words_text (take i ws)) out end out'

-- there is no word yet
pub begun_none : (c v : ℕ) (ws out : List ℕ) (end : ℕ) (out' : List ℕ) → Put 0 (two_text c v) out end out' → Begun c v ws 0 out end out'
unfolding words_text
begun_none c v ws out end out' p = rw (append-nil (two_text c v)) p

module _ (c v : ℕ) (ws : List ℕ) (i : ℕ) (out : List ℕ) (e₁ : ℕ) (out₁ : List ℕ) (room : 42 + 17 * length ws ≤ length out)
    (p : Begun c v ws i out e₁ out₁) where
  long : i ≤ length ws → length (two_text c v ++ words_text (take i ws)) ≤ 41 + 17 * i
  long h =
      omega (
        arith,
        length-append (two_text c v) (words_text (take i ws)),
        two_length c v,
        words_text_length (take i ws),
        length-take-le i ws h,
      )

  so_far : i ≤ length ws → (e₁ ≤ 41 + 17 * i) × (length out₁ ≡ length out)
  so_far h = (omega (arith, p.ends, long h), put_length 0 (two_text c v ++ words_text (take i ws)) out e₁ out₁ p (omega (arith, long h)))

  -- there is room for a space, or for the end of the line
  pub byte_room : i ≤ length ws → e₁ < length out₁
  byte_room h = let k = so_far h in omega arith

  module _ (here : i < length ws) (e₂ : ℕ) (out₂ : List ℕ) (q : Put e₁ (space ∷ []) out₁ e₂ out₂) where
    -- and for a word
    pub word_room : e₂ + 16 ≤ length out₂
    word_room =
        let k = so_far (omega arith) in
        let j = put_length e₁ (space ∷ []) out₁ e₂ out₂ q (omega arith) in
        omega (arith, q.ends)

    pub word_put : (e₃ : ℕ) (out₃ : List ℕ) → Put e₂ (hex_text (get_or ws i 0)) out₂ e₃ out₃ → Begun c v ws (suc i) out e₃ out₃
    word_put e₃ out₃ r =
        let k = so_far (omega arith) in
        let l = long (omega arith) in
        let x = hex_length (get_or ws i 0) in
        let both = put_both e₁ (space ∷ []) (hex_text (get_or ws i 0)) out₁ e₂ e₃ out₂ out₃ q r (omega arith) in
        rw (one_more i ws here, ← append_assoc (two_text c v) (words_text (take i ws)) (space ∷ hex_text (get_or ws i 0)))
        (put_both 0 (two_text c v ++ words_text (take i ws)) (space ∷ hex_text (get_or ws i 0)) out e₁ e₃ out₁ out₃ p both (omega arith))

  -- every word is there, and the line ends
  pub line_put : i ≡ length ws → (e₂ : ℕ) (out₂ : List ℕ) → Put e₁ (newline ∷ []) out₁ e₂ out₂
      → (e₂ ≡ length (line_text c v ws)) × (out₂ ≡ over 0 (line_text c v ws) out)
  unfolding line_text
  line_put all e₂ out₂ r =
      let whole : take i ws ≡ ws = take_all i ws (omega arith) in
      let l = long (omega arith) in
      let b = put_both 0 (two_text c v ++ words_text (take i ws)) (newline ∷ []) out e₁ e₂ out₁ out₂ p r (omega arith) in
      let same : line_text c v (take i ws) ≡ line_text c v ws = ap (line_text c v) whole in
      (b.ends ∙ zero-add _ ∙ ap length same, b.bytes ∙ ap (λ (ts : List ℕ). over 0 ts out) same)
