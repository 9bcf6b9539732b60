-- The marks of a built leaf are the first bits of one word: words stand 64 marks apart. So the leaf holds that word, cut where the marks end.
use Prim.Native.Nat.{ℕ, zero, suc, ◌+◌, ◌-◌, ◌*◌, ◌≤◌, ◌<◌, min}
use native.Mathlib.Omega.{arith}
use mathlib.Core.Path.{◌≡◌, refl, ap, ap₂, ◌∙◌}
use mathlib.Core.Bool.{Bool, false}
use mathlib.Core.List.{List, [], ◌∷◌, ◌++◌}
use lib.ListN.{length, take, drop, get_or, length-append, length-take, length-drop, drop_of_length-le, replicate-append-replicate}
use lib.Seq.{take_all, take-take, take-add, take-append-le, length-take-le, drop-append-add, drop_at, drop-cons, drop-nil}
use Rattle.model.specs.Word.{bits, marks_of, number}
use Rattle.model.proofs.Cases.{by_ltb}
use Rattle.model.proofs.Words.{bits_length, bits_zero}
use Rattle.bits.specs.Leaf.{leaf_of, bits_of, packed}
use Rattle.bits.specs.declared.leaf.Leaf.{Leaf}
use Rattle.bits.proofs.Held.{leaf_padded}
use Rattle.build.specs.Waiting.{leaf_marks}

-- ---- the marks of words

pub marks_of_length : (ws : List ℕ) → length (marks_of ws) ≡ length ws * 64
unfolding marks_of
marks_of_length [] = refl
marks_of_length (w ∷ ws) = rw length-append (omega (arith, bits_length 64 w, marks_of_length ws))

marks_past : (i : ℕ) (ws : List ℕ) → drop (i * 64) (marks_of ws) ≡ marks_of (drop i ws)
unfolding marks_of
marks_past zero ws = refl
marks_past (suc i) [] = drop-nil (suc i * 64)
marks_past (suc i) (w ∷ ws) =
    let past : suc i * 64 ≡ length (bits 64 w) + i * 64 = omega (arith, bits_length 64 w) in
    rw past (drop-append-add (bits 64 w) (marks_of ws) (i * 64) ∙ marks_past i ws)

drop_take : (n m : ℕ) (xs : List Bool) → n ≤ m → n ≤ length xs → drop n (take m xs) ≡ take (m - n) (drop n xs)
drop_take n m xs h l =
    let e : m ≡ n + (m - n) = omega arith in
    ap (λ (k : ℕ). drop n (take k xs)) e ∙ ap (drop n) (take-add n (m - n) xs)
    ∙ drop_at (take n xs) (take (m - n) (drop n xs)) n (length-take-le n xs l)

take_least : (n m : ℕ) (xs : List Bool) → take n (take m xs) ≡ take (min n m) xs
take_least n m xs =
    by_ltb m n
    (λ _ h. let e : min n m ≡ m = omega arith in rw e (take_all n (take m xs) (omega (arith, length-take m xs))))
    (λ _ h. let e : min n m ≡ n = omega arith in rw e (take-take n m xs (omega arith)))

-- ---- the leaf i

module _ (ws : List ℕ) (total i : ℕ) where
  pub leaf_marks_none : total ≤ i * 64 → leaf_marks ws total i ≡ []
  unfolding leaf_marks
  leaf_marks_none h =
      ap (take 64) (drop_of_length-le (take total (marks_of ws)) {i = i * 64} (omega (arith, length-take total (marks_of ws))))

  pub leaf_marks_word : i * 64 ≤ total → i < length ws → leaf_marks ws total i ≡ take (min 64 (total - i * 64)) (bits 64 (get_or ws i 0))
  unfolding leaf_marks marks_of
  leaf_marks_word h l =
      let size = marks_of_length ws in
      let left : ℕ = total - i * 64 in
      let w : ℕ = get_or ws i 0 in
      ap (take 64) (drop_take (i * 64) total (marks_of ws) h (omega arith) ∙ ap (take left) (marks_past i ws ∙ ap marks_of (drop-cons ws i 0 l)))
      ∙ take_least 64 left (bits 64 w ++ marks_of (drop (suc i) ws))
      ∙ take-append-le (min 64 left) (bits 64 w) (marks_of (drop (suc i) ws)) (omega (arith, bits_length 64 w))

  pub leaf_marks_length : i * 64 ≤ total → total ≤ 64 * length ws → length (leaf_marks ws total i) ≡ min 64 (total - i * 64)
  unfolding leaf_marks
  leaf_marks_length h l =
      let size = marks_of_length ws in
      length-take 64 (drop (i * 64) (take total (marks_of ws)))
      ∙ omega (arith, length-drop (i * 64) (take total (marks_of ws)), length-take-le total (marks_of ws) (omega arith))

-- ---- and in a leaf

-- the first marks of a word, alone in a leaf
pub first_of_word : (w n : ℕ) → n ≤ 64 → leaf_of (take n (bits_of (record { low = w; high = 0 })) ++ bits_of (record { low = 0; high = 0 }))
    ≡ leaf_of (take n (bits 64 w))
unfolding bits_of
first_of_word w n h =
    ap₂ (λ (xs ys : List Bool). leaf_of (xs ++ ys)) (take-append-le n (bits 64 w) (bits 64 0) (omega (arith, bits_length 64 w)))
    (ap₂ (λ (xs ys : List Bool). xs ++ ys) (bits_zero 64) (bits_zero 64) ∙ replicate-append-replicate 64 64 false)
    ∙ leaf_padded 128 (take n (bits 64 w))

-- a leaf of nothing has no bits set
pub leaf_of_none : ◌≡◌ {A = Leaf} (record { low = 0; high = 0 }) (leaf_of [])
unfolding leaf_of packed number
leaf_of_none = refl
