-- Marks as words: the first words of marks do not change when more come, one more word holds the next 64, and a word that fills up
-- is cut where it is full. So taking in some marks keeps what is written the words of the marks.
use Prim.Native.Nat.{ℕ, zero, suc, ◌+◌, ◌-◌, ◌*◌, ◌/◌, ◌%◌, ◌^◌, ◌≤◌, ◌<◌}
use native.Mathlib.Nat.{zero-mod, zero-div, suc-mul, add_comm, mod-eq_of_lt, lt_of_lt_of_le, div-one, mod-one}
use native.Mathlib.Numerals.{add-one, one-add}
use native.Mathlib.Omega.{arith}
use mathlib.Core.Path.{◌≡◌, refl, sym, ap, ap₂, ◌∙◌}
use mathlib.Core.Bool.{Bool}
use mathlib.Core.List.{List, [], ◌∷◌, ◌++◌, append_assoc}
use lib.Arith.{digits_div, digits_mod}
use lib.Bits.{bit_or}
use lib.ListN.{length, take, drop, get_or, set, length-append, length-drop, drop_of_length-le}
use lib.Pow.{pow_mono, shr-shr, mod-pow-add}
use lib.Seq.{take_all, take-append-le, drop-append-le, drop-append-add, drop-drop, drop-cons, set_at}
use Rattle.bits.specs.Leaf.{leaf_of, packed}
use Rattle.bits.specs.declared.leaf.Leaf.{Leaf}
use Rattle.model.specs.Tree.{Tree, marks, size}
use Rattle.model.proofs.Content.{size_marks}
use Rattle.model.specs.Word.{number, digit, words_for, words_of}
use Rattle.model.proofs.Words.{digit_lt, number_append, number_lt, words_length}
use Rattle.bits.proofs.Packed.{shl_or}
use Rattle.values.specs.Writing.{Adds, Moved, Written}
use Rattle.values.specs.declared.writing.Tail.{Tail}

-- ---- numbers of parts

pub number_take : (n : ℕ) (xs : List Bool) → number (take n xs) ≡ number xs % 2 ^ n
unfolding number
number_take zero xs = sym (mod-one (number xs))
number_take (suc n) [] = sym (zero-mod (2 ^ suc n))
number_take (suc n) (b ∷ xs) =
    let half : (number xs * 2 + digit b) / 2 ≡ number xs = digits_div (number xs) (digit_lt b) in
    let low : (number xs * 2 + digit b) % 2 ≡ digit b = digits_mod (number xs) (digit_lt b) in
    ap (λ (x : ℕ). x * 2 + digit b) (number_take n xs)
    ∙ sym (ap (λ (k : ℕ). (number xs * 2 + digit b) % 2 ^ k) (sym (add-one n)) ∙ mod-pow-add (number xs * 2 + digit b) n 1
    ∙ ap₂ (λ (x y : ℕ). x % 2 ^ n * 2 + y) half low)

pub number_drop : (n : ℕ) (xs : List Bool) → number (drop n xs) ≡ number xs / 2 ^ n
unfolding number
number_drop zero xs = sym (div-one (number xs))
number_drop (suc n) [] = sym (zero-div (2 ^ suc n))
number_drop (suc n) (b ∷ xs) =
    number_drop n xs
    ∙ ap (λ (x : ℕ). x / 2 ^ n) (sym (digits_div (number xs) (digit_lt b)))
    ∙ shr-shr (number xs * 2 + digit b) 1 n ∙ ap (λ (k : ℕ). (number xs * 2 + digit b) / 2 ^ k) (one-add n)

-- ---- words of marks

-- more marks leave the full words
pub words_more : (k : ℕ) (xs ys : List Bool) → k * 64 ≤ length xs → words_of k (xs ++ ys) ≡ words_of k xs
unfolding words_of
words_more zero xs ys h = refl
words_more (suc k) xs ys h =
    let n : 64 ≤ length xs = omega arith in
    ap₂ {C = List ℕ} (λ x r. x ∷ r) (ap number (take-append-le 64 xs ys n))
    (ap (words_of k) (drop-append-le 64 xs ys n) ∙ words_more k (drop 64 xs) ys (rw (length-drop 64 xs) (omega arith)))

-- one word more
pub words_next : (k : ℕ) (xs : List Bool) → words_of (suc k) xs ≡ words_of k xs ++ number (take 64 (drop (k * 64) xs)) ∷ []
unfolding words_of
words_next zero xs = refl
words_next (suc k) xs =
    let past : drop (k * 64) (drop 64 xs) ≡ drop (suc k * 64) xs =
    drop-drop (k * 64) 64 xs ∙ ap (λ (n : ℕ). drop n xs) (add_comm 64 (k * 64) ∙ sym (suc-mul k 64)) in
    ap {B = List ℕ} (λ r. number (take 64 xs) ∷ r) (words_next k (drop 64 xs))
    ∙ ap (λ (ys : List Bool). number (take 64 xs) ∷ (words_of k (drop 64 xs) ++ number (take 64 ys) ∷ [])) past

-- the next 64 marks are written over the next word of the output
next_written : (o : List ℕ) (xs : List Bool) (k v : ℕ) (out : List ℕ) → out ≡ words_of k xs ++ drop k o → k < length o
    → v ≡ number (take 64 (drop (k * 64) xs)) → set out k v ≡ words_of (suc k) xs ++ drop (suc k) o
next_written o xs k v out s h e =
    ap (λ (y : List ℕ). set y k v) (s ∙ ap (λ (y : List ℕ). words_of k xs ++ y) (drop-cons o k 0 h))
    ∙ set_at (words_of k xs) (get_or o k 0) (drop (suc k) o) v k (words_length k xs)
    ∙ ap (λ (x : ℕ). words_of k xs ++ x ∷ drop (suc k) o) e
    ∙ sym (append_assoc (words_of k xs) (number (take 64 (drop (k * 64) xs)) ∷ []) (drop (suc k) o))
    ∙ ap (λ (y : List ℕ). y ++ drop (suc k) o) (sym (words_next k xs))

-- ---- taking in the marks ys after xs

module _ (o : List ℕ) (xs ys : List Bool) (out : List ℕ) (t : Tail) (w : Written o xs out t) where
  waiting_length : length (drop (t.full * 64) xs) ≡ t.filled
  waiting_length = length-drop (t.full * 64) xs ∙ omega (arith, w.count)

  -- what waits then
  both : drop (t.full * 64) (xs ++ ys) ≡ drop (t.full * 64) xs ++ ys
  both = drop-append-le (t.full * 64) xs ys (omega (arith, w.count))

  -- what is written stays
  still : out ≡ words_of t.full (xs ++ ys) ++ drop t.full o
  still = w.words ∙ ap (λ (v : List ℕ). v ++ drop t.full o) (sym (words_more t.full xs ys (omega (arith, w.count))))

  -- the or of what waits and what comes in above it
  value : bit_or ((number ys * 2 ^ t.filled) % 2 ^ 64) t.word ≡ number (drop (t.full * 64) (xs ++ ys)) % 2 ^ 64
  value =
      let small : t.word < 2 ^ t.filled = rw (w.rest, ← waiting_length) (number_lt (drop (t.full * 64) xs)) in
      shl_or t.filled (64 - t.filled) (number ys) t.word (omega (arith, w.part)) small
      ∙ ap (λ (x : ℕ). x % 2 ^ 64)
      (ap (λ (x : ℕ). number ys * 2 ^ t.filled + x) w.rest
      ∙ ap (λ (k : ℕ). number ys * 2 ^ k + number (drop (t.full * 64) xs)) (sym waiting_length)
      ∙ sym (ap number both ∙ number_append (drop (t.full * 64) xs) ys))

  module _ (n bits : ℕ) (e : length ys ≡ n) (b : bits ≡ number ys) where
    -- the word is not yet full
    pub not_full : t.filled + n < 64
        → Written o (xs ++ ys) out (record { full = t.full; filled = t.filled + n; word = bit_or ((bits * 2 ^ t.filled) % 2 ^ 64) t.word })
    not_full h = record {
      count = length-append xs ys ∙ omega (arith, w.count);
      part = h;
      words = still;
      rest =
          let fits : length (drop (t.full * 64) (xs ++ ys)) ≤ 64 = rw (both, length-append, waiting_length) (omega arith) in
          rw b (value ∙ mod-eq_of_lt (lt_of_lt_of_le (number_lt (drop (t.full * 64) (xs ++ ys))) (pow_mono {j = 64} fits)));
    }

    -- it is full, and what comes over waits for the next
    pub filled_up : t.full < length o → n ≤ 64 → 64 ≤ t.filled + n
        → Written o (xs ++ ys) (set out t.full (bit_or ((bits * 2 ^ t.filled) % 2 ^ 64) t.word))
        (record { full = t.full + 1; filled = t.filled + n - 64; word = bits / 2 ^ (63 - t.filled) / 2 })
    filled_up room m h = record {
      count = length-append xs ys ∙ omega (arith, w.count);
      part = omega (arith, w.part);
      words =
          let waits : List Bool = drop (t.full * 64) (xs ++ ys) in
          let full = ap (λ (x : ℕ). bit_or ((x * 2 ^ t.filled) % 2 ^ 64) t.word) b ∙ value ∙ sym (number_take 64 waits) in
          next_written o (xs ++ ys) t.full _ out still room full ∙ ap (λ (k : ℕ). words_of k (xs ++ ys) ++ drop k o) (sym (add-one t.full));
      rest =
          let shift : (63 - t.filled) + 1 ≡ 64 - t.filled = omega (arith, w.part) in
          let reach : length (drop (t.full * 64) xs) + (64 - t.filled) ≡ 64 = omega (arith, waiting_length, w.part) in
          let next : t.full * 64 + 64 ≡ (t.full + 1) * 64 = omega arith in
          let gone : drop ((t.full + 1) * 64) (xs ++ ys) ≡ drop (64 - t.filled) ys =
          ap (λ (k : ℕ). drop k (xs ++ ys)) (sym next) ∙ sym (drop-drop 64 (t.full * 64) (xs ++ ys)) ∙ ap (drop 64) both
          ∙ ap (λ (k : ℕ). drop k (drop (t.full * 64) xs ++ ys)) (sym reach) ∙ drop-append-add (drop (t.full * 64) xs) ys (64 - t.filled) in
          ap (λ (x : ℕ). x / 2 ^ (63 - t.filled) / 2) b ∙ shr-shr (number ys) (63 - t.filled) 1 ∙ ap (λ (k : ℕ). number ys / 2 ^ k) shift
          ∙ sym (number_drop (64 - t.filled) ys) ∙ ap number (sym gone);
    }

-- ---- a leaf's two words

-- a leaf of fewer than 64 marks has them in its low word, any other the first 64 there and the rest in its high word
module _ (ys : List Bool) (x : Leaf) (e : x ≡ leaf_of ys) where
  pub low_few : length ys < 64 → x.low ≡ number ys
  unfolding leaf_of packed
  low_few h = rw e (ap number (take_all 64 ys (omega arith)))

  pub low_first : x.low ≡ number (take 64 ys)
  unfolding leaf_of packed
  low_first = rw e

  pub high_rest : length ys ≤ 128 → x.high ≡ number (drop 64 ys)
  unfolding leaf_of packed
  high_rest h = rw e (ap number (take_all 64 (drop 64 ys) (rw (length-drop 64 ys) (omega arith))))

-- ---- one after the other

pub adds_both : {ys zs : List Bool} {start middle end : List ℕ} {t m r : Tail} {n : ℕ} → Moved t n m → length ys ≡ n
    → Adds ys start t middle m → Adds zs middle m end r → Adds (ys ++ zs) start t end r
adds_both {ys} {zs} moved e first second = λ o xs room w.
    let both = length-append ys zs in
    rw (append_assoc xs ys zs) at (second o (xs ++ ys) (omega (arith, moved.count)) (first o xs (omega arith) w))

-- ---- the end of the output

module _ (o : List ℕ) (xs : List Bool) (out : List ℕ) (t : Tail) (words : ℕ) (w : Written o xs out t) (e : words ≡ words_for (length xs)) where
  -- nothing waits
  pub finished_full : words ≤ t.full → out ≡ words_of words xs ++ drop words o
  unfolding words_for
  finished_full h =
      let same : words ≡ t.full = omega (arith, w.count, w.part) in
      rw same w.words

  -- what waits is written
  first_more : words ≤ length o → t.full < words → set out t.full t.word ≡ words_of (suc t.full) xs ++ drop (suc t.full) o
  first_more m h =
      let short : length (drop (t.full * 64) xs) ≤ 64 = rw (length-drop (t.full * 64) xs) (omega (arith, w.count, w.part)) in
      next_written o xs t.full t.word out w.words (omega arith) (w.rest ∙ ap number (sym (take_all 64 (drop (t.full * 64) xs) short)))

  pub finished_one : words ≤ length o → t.full < words → words ≤ t.full + 1 → set out t.full t.word ≡ words_of words xs ++ drop words o
  finished_one m h k =
      let same : words ≡ suc t.full = omega arith in
      rw same (first_more m h)

  -- and a zero word after it
  pub finished_two : words ≤ length o → t.full < words → t.full + 1 < words
      → set (set out t.full t.word) (t.full + 1) 0 ≡ words_of words xs ++ drop words o
  unfolding words_for number
  finished_two m h k =
      let same : words ≡ suc (suc t.full) = omega (arith, w.count, w.part) in
      let none : drop (suc t.full * 64) xs ≡ [] = drop_of_length-le xs {i = suc t.full * 64} (omega (arith, w.count, w.part)) in
      rw (same, add-one t.full) (next_written o xs (suc t.full) 0 _ (first_more m h) (omega arith) (rw none))

-- nothing has been taken in yet
pub begun : (o : List ℕ) → Written o [] o (record { full = 0; filled = 0; word = 0 })
unfolding words_of number
begun o = record { count = refl; part = omega arith; words = refl; rest = refl }

-- so many words have room for the marks
pub room_for : (t : Tree) (len : ℕ) → size t ≡ len → (n : ℕ) → words_for len ≤ n → 0 * 64 + 0 + length (marks t) ≤ 64 * n
unfolding words_for
room_for t len e n h = omega (arith, size_marks t)
