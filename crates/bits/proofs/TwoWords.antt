-- A leaf's 128 bits are its low word's 64 and then its high word's 64. Each edit of the list falls apart into edits of the words;
-- what moves from one word to the other is one bit, or the top of a word.
use Prim.Native.Nat.{ℕ, suc, ◌+◌, ◌-◌, ◌/◌, ◌%◌, ◌^◌, ◌≤◌, ◌<◌, min}
use native.Mathlib.Numerals.{add-one}
use native.Mathlib.Omega.{arith}
use mathlib.Core.Path.{◌≡◌, refl, sym, ap, ap₂, ◌∙◌}
use mathlib.Core.Bool.{Bool, true, false}
use mathlib.Core.List.{List, [], ◌∷◌, ◌++◌, append_assoc, append-nil}
use lib.ListN.{length, take, drop, length-append, length-take, get_or-append, get_or-eq_default}
use lib.Pow.{shr-shr}
use lib.Seq.{length-take-le, take-append-le, take-append-add, take_all, drop_at, take_at, get_or-append-add}
use Rattle.model.specs.Marks.{access, insert, ones, rank, count, remove, wanted}
use Rattle.model.specs.Word.{odd, bits, number}
use Rattle.model.proofs.Cases.{by_test}
use Rattle.model.proofs.Counting.{count_both, ones_append, ones_le}
use Rattle.model.proofs.MarksEdits.{insert_first, insert_past, remove_first, remove_past, length_insert, length_remove}
use Rattle.model.proofs.Words.{bits_add, bits_at, bits_length, take_bits}
use Rattle.bits.specs.Choice.{Picked}
use Rattle.bits.specs.Leaf.{packed, leaf_of, halves_of}
use Rattle.bits.specs.declared.leaf.Leaf.{Leaf}
use Rattle.bits.proofs.Packed.{packed_own, packed_enough, packed_padded}

-- a leaf by its two words: 64 marks in the low one, the rest in the high one
pub leaf_is : (xs first rest : List Bool) {low high : ℕ} → xs ≡ first ++ rest → length first ≡ 64 → low ≡ packed first → high ≡ packed rest
    → ◌≡◌ {A = Leaf} (record { low = low; high = high }) (leaf_of xs)
unfolding leaf_of
leaf_is xs first rest e n l h =
    rw e (λ i. record {
      low = (l ∙ sym (packed_enough first rest (omega arith))) i;
      high = (h ∙ ap packed (sym (drop_at first rest 64 n))) i;
    })

insert_front : (x : Bool) (xs : List Bool) → insert 0 x xs ≡ x ∷ xs
unfolding insert
insert_front x xs = refl

-- a word alone
lone : (a : ℕ) → a < 2 ^ 64 → ◌≡◌ {A = Leaf} (record { low = a; high = 0 }) (leaf_of (bits 64 a))
unfolding packed number
lone a h = leaf_is (bits 64 a) (bits 64 a) [] (sym (append-nil (bits 64 a))) (bits_length 64 a) (sym (packed_own a h)) refl

remove_front : (x : Bool) (xs : List Bool) → remove 0 (x ∷ xs) ≡ xs
unfolding remove
remove_front x xs = refl

-- ---- the two words of a leaf, a below b

module _ (self : Leaf) where
  abbrev a : ℕ
  a = self.low

  abbrev b : ℕ
  b = self.high

  -- the low word's last bit goes with the high word's
  last_apart : bits 64 a ++ bits 64 b ≡ bits 63 a ++ odd (a / 2 ^ 63) ∷ bits 64 b
  unfolding bits
  last_apart = ap (λ (xs : List Bool). xs ++ bits 64 b) (bits_add 63 1 a) ∙ append_assoc (bits 63 a) (odd (a / 2 ^ 63) ∷ []) (bits 64 b)

  pub both_length : length (bits 64 a ++ bits 64 b) ≡ 128
  both_length = length-append (bits 64 a) (bits 64 b) ∙ ap₂ (λ (x y : ℕ). x + y) (bits_length 64 a) (bits_length 64 b)

  -- an edit of the high word leaves the low one
  high_edit : (a < 2 ^ 64) → (xs rest : List Bool) {high : ℕ} → xs ≡ bits 64 a ++ rest → high ≡ packed rest
      → ◌≡◌ {A = Leaf} (record { low = a; high = high }) (leaf_of xs)
  high_edit h xs rest e m = leaf_is xs (bits 64 a) rest e (bits_length 64 a) (sym (packed_own a h)) m

  -- past both words nothing is held
  past_edit : (a < 2 ^ 64) → (b < 2 ^ 64) → (xs rest : List Bool) → xs ≡ bits 64 a ++ bits 64 b ++ rest
      → ◌≡◌ {A = Leaf} (record { low = a; high = b }) (leaf_of xs)
  past_edit h l xs rest e =
      high_edit h xs (bits 64 b ++ rest) (e ∙ append_assoc (bits 64 a) (bits 64 b) rest)
      (sym (packed_enough (bits 64 b) rest (omega (arith, bits_length 64 b)) ∙ packed_own b l))

  -- ---- an edit at a place of the leaf

  -- It edits the word that the place is in. Where that is the low one, another word stands above it afterwards.
  pub edit_chosen : (edit : Bool → ℕ → ℕ → ℕ) {i word put above low high : ℕ} {first : Bool} {r : Leaf} → i < 128
      → (first ≡ true → i < 64) → (first ≡ false → 64 ≤ i) → Picked first a b word → put ≡ edit first word (i % 64)
      → Picked first put a low → Picked first above put high
      → (i < 64 → ◌≡◌ {A = Leaf} (record { low = edit true a i; high = above }) r)
      → (64 ≤ i → ◌≡◌ {A = Leaf} (record { low = a; high = edit false b (i - 64) }) r)
      → ◌≡◌ {A = Leaf} (record { low = low; high = high }) r
  edit_chosen edit {i} {first = first} h passed failed w e l m in_low in_high =
      by_test first
      (λ t. let k : i % 64 ≡ i = omega (arith, passed t) in rw (l.one t, m.one t, e, w.one t, t, k) (in_low (passed t)))
      (λ t. let k : i % 64 ≡ i - 64 = omega (arith, failed t) in rw (l.other t, m.other t, e, w.other t, t, k) (in_high (failed t)))

  -- ---- insert

  module _ (i : ℕ) (x : Bool) where
    pub insert_low : {low high : ℕ} → i < 64 → low ≡ packed (insert i x (bits 64 a))
        → high ≡ packed (insert 0 (odd (a / 2 ^ 63)) (bits 64 b))
        → ◌≡◌ {A = Leaf} (record { low = low; high = high }) (leaf_of (insert i x (bits 64 a ++ bits 64 b)))
    unfolding bits
    insert_low h l m =
        let n : length (bits 63 a) ≡ 63 = bits_length 63 a in
        let fits : i ≤ length (bits 63 a) = omega arith in
        let size : length (insert i x (bits 63 a)) ≡ 64 = length_insert i x (bits 63 a) fits ∙ ap suc n in
        leaf_is _ (insert i x (bits 63 a)) (odd (a / 2 ^ 63) ∷ bits 64 b)
        (ap (insert i x) last_apart ∙ insert_first i x (bits 63 a) (odd (a / 2 ^ 63) ∷ bits 64 b) fits) size
        (l ∙ ap (λ (xs : List Bool). packed (insert i x xs)) (bits_add 63 1 a) ∙ ap packed (insert_first i x (bits 63 a) (odd (a / 2 ^ 63) ∷ []) fits)
        ∙ packed_enough (insert i x (bits 63 a)) (odd (a / 2 ^ 63) ∷ []) (omega arith))
        (m ∙ ap packed (insert_front (odd (a / 2 ^ 63)) (bits 64 b)))

    pub insert_high : {high : ℕ} → a < 2 ^ 64 → 64 ≤ i → high ≡ packed (insert (i - 64) x (bits 64 b))
        → ◌≡◌ {A = Leaf} (record { low = a; high = high }) (leaf_of (insert i x (bits 64 a ++ bits 64 b)))
    insert_high h l m =
        let n : length (bits 64 a) ≡ 64 = bits_length 64 a in
        high_edit h _ (insert (i - 64) x (bits 64 b)) (rw n at (insert_past i x (bits 64 a) (bits 64 b) (omega arith))) m

    pub insert_none : a < 2 ^ 64 → b < 2 ^ 64 → 128 ≤ i
        → ◌≡◌ {A = Leaf} (record { low = a; high = b }) (leaf_of (insert i x (bits 64 a ++ bits 64 b)))
    unfolding insert
    insert_none h l m =
        let n = both_length in
        past_edit h l _ (x ∷ drop i (bits 64 a ++ bits 64 b))
        (ap (λ (xs : List Bool). xs ++ x ∷ drop i (bits 64 a ++ bits 64 b)) (take_all i (bits 64 a ++ bits 64 b) (omega arith)))

  -- ---- remove

  module _ (i : ℕ) where
    pub remove_low : {low high : ℕ} → i < 64 → low ≡ packed (remove i (bits 64 a) ++ odd b ∷ [])
        → high ≡ packed (remove 0 (bits 64 b) ++ false ∷ [])
        → ◌≡◌ {A = Leaf} (record { low = low; high = high }) (leaf_of (remove i (bits 64 a ++ bits 64 b)))
    unfolding bits
    remove_low h l m =
        let n : length (bits 64 a) ≡ 64 = bits_length 64 a in
        let fits : i < length (bits 64 a) = omega arith in
        let size : length (remove i (bits 64 a) ++ odd b ∷ []) ≡ 64 =
        length-append (remove i (bits 64 a)) (odd b ∷ []) ∙ add-one (length (remove i (bits 64 a))) ∙ length_remove i (bits 64 a) fits ∙ n in
        leaf_is _ (remove i (bits 64 a) ++ odd b ∷ []) (bits 63 (b / 2))
        (remove_first i (bits 64 a) (bits 64 b) fits ∙ sym (append_assoc (remove i (bits 64 a)) (odd b ∷ []) (bits 63 (b / 2)))) size l
        (m ∙ packed_padded 1 (remove 0 (bits 64 b)) ∙ ap packed (remove_front (odd b) (bits 63 (b / 2))))

    pub remove_high : {high : ℕ} → a < 2 ^ 64 → 64 ≤ i → high ≡ packed (remove (i - 64) (bits 64 b) ++ false ∷ [])
        → ◌≡◌ {A = Leaf} (record { low = a; high = high }) (leaf_of (remove i (bits 64 a ++ bits 64 b)))
    remove_high h l m =
        let n : length (bits 64 a) ≡ 64 = bits_length 64 a in
        high_edit h _ (remove (i - 64) (bits 64 b)) (rw n at (remove_past i (bits 64 a) (bits 64 b) (omega arith)))
        (m ∙ packed_padded 1 (remove (i - 64) (bits 64 b)))

    pub remove_none : a < 2 ^ 64 → b < 2 ^ 64 → 128 ≤ i
        → ◌≡◌ {A = Leaf} (record { low = a; high = b }) (leaf_of (remove i (bits 64 a ++ bits 64 b)))
    unfolding remove
    remove_none h l m =
        let n = both_length in
        past_edit h l _ (drop (suc i) (bits 64 a ++ bits 64 b))
        (ap (λ (xs : List Bool). xs ++ drop (suc i) (bits 64 a ++ bits 64 b)) (take_all i (bits 64 a ++ bits 64 b) (omega arith)))

  -- ---- join: n bits of this leaf, and then the words c and d of another

  module _ (n : ℕ) (other : Leaf) where
    abbrev c : ℕ
    c = other.low

    abbrev d : ℕ
    d = other.high

    abbrev joined : List Bool
    joined = take n (bits 64 a ++ bits 64 b) ++ (bits 64 c ++ bits 64 d)

    -- the other's low word is cut where this one is full
    pub join_low : {low high over : ℕ} → n < 64 → over ≡ c / 2 ^ (63 - n) / 2 → low ≡ packed (take n (bits 64 a) ++ bits 64 c)
        → high ≡ packed (take n (bits 64 over) ++ bits 64 d) → ◌≡◌ {A = Leaf} (record { low = low; high = high }) (leaf_of joined)
    join_low h e l m =
        let k : length (bits 64 a) ≡ 64 = bits_length 64 a in
        let first : List Bool = take n (bits 64 a) ++ bits (64 - n) c in
        let top : List Bool = bits n (c / 2 ^ (64 - n)) in
        let width : 64 ≡ (64 - n) + n = omega arith in
        let cut : bits 64 c ≡ bits (64 - n) c ++ top = ap (λ (x : ℕ). bits x c) width ∙ bits_add (64 - n) n c in
        let shift : (63 - n) + 1 ≡ 64 - n = omega arith in
        let above = e ∙ shr-shr c (63 - n) 1 ∙ ap (λ (x : ℕ). c / 2 ^ x) shift in
        let carried : take n (bits 64 _) ≡ top = take_bits n 64 _ (omega arith) ∙ ap (bits n) above in
        let size : length first ≡ 64 =
        length-append (take n (bits 64 a)) (bits (64 - n) c)
        ∙ ap₂ (λ (x y : ℕ). x + y) (length-take-le n (bits 64 a) (omega arith)) (bits_length (64 - n) c) ∙ omega arith in
        leaf_is _ first (top ++ bits 64 d)
        (ap₂ (λ (xs ys : List Bool). xs ++ (ys ++ bits 64 d)) (take-append-le n (bits 64 a) (bits 64 b) (omega arith)) cut
        ∙ simp append_assoc) size
        (l ∙ ap (λ (xs : List Bool). packed (take n (bits 64 a) ++ xs)) cut
        ∙ ap packed (sym (append_assoc (take n (bits 64 a)) (bits (64 - n) c) top))
        ∙ packed_enough first top (omega arith))
        (m ∙ ap (λ (xs : List Bool). packed (xs ++ bits 64 d)) carried)

    pub join_high : {high : ℕ} → a < 2 ^ 64 → 64 ≤ n → high ≡ packed (take (n - 64) (bits 64 b) ++ bits 64 c)
        → ◌≡◌ {A = Leaf} (record { low = a; high = high }) (leaf_of joined)
    join_high h l m =
        let k : length (bits 64 a) ≡ 64 = bits_length 64 a in
        let j : length (bits 64 c) ≡ 64 = bits_length 64 c in
        let at : length (bits 64 a) + (n - 64) ≡ n = omega arith in
        let front : List Bool = take (n - 64) (bits 64 b) in
        high_edit h _ (front ++ (bits 64 c ++ bits 64 d))
        (ap (λ (xs : List Bool). xs ++ (bits 64 c ++ bits 64 d)) (rw at at (take-append-add (bits 64 a) (bits 64 b) (n - 64)))
        ∙ append_assoc (bits 64 a) front (bits 64 c ++ bits 64 d))
        (m ∙ sym (packed_enough (front ++ bits 64 c) (bits 64 d) (rw length-append (omega arith)))
        ∙ ap packed (append_assoc front (bits 64 c) (bits 64 d)))

    pub join_none : a < 2 ^ 64 → b < 2 ^ 64 → 128 ≤ n → ◌≡◌ {A = Leaf} (record { low = a; high = b }) (leaf_of joined)
    join_none h l m =
        let k = both_length in
        past_edit h l _ (bits 64 c ++ bits 64 d)
        (ap (λ (xs : List Bool). xs ++ (bits 64 c ++ bits 64 d)) (take_all n (bits 64 a ++ bits 64 b) (omega arith)))

  -- ---- split: each word as a leaf

  pub split_both : a < 2 ^ 64 → b < 2 ^ 64
      → ◌≡◌ {A = Leaf × Leaf} (record { low = a; high = 0 }, record { low = b; high = 0 }) (halves_of (bits 64 a ++ bits 64 b))
  unfolding halves_of
  split_both h l =
      rw (take_at (bits 64 a) (bits 64 b) 64 (bits_length 64 a), drop_at (bits 64 a) (bits 64 b) 64 (bits_length 64 a))
      (λ i. (lone a h i, lone b l i))

  -- ---- the bit at a place, and the count before it

  module _ (i : ℕ) where
    pub bit_low : i < 64 → odd (a / 2 ^ i) ≡ access i (bits 64 a ++ bits 64 b)
    unfolding access
    bit_low h = sym (get_or-append (bits 64 a) (bits 64 b) false i (omega (arith, bits_length 64 a)) ∙ bits_at 64 a i h)

    pub bit_high : 64 ≤ i → i < 128 → odd (b / 2 ^ (i - 64)) ≡ access i (bits 64 a ++ bits 64 b)
    unfolding access
    bit_high h l =
        let at : length (bits 64 a) + (i - 64) ≡ i = omega (arith, bits_length 64 a) in
        sym (rw at at (get_or-append-add (bits 64 a) (bits 64 b) (i - 64) false) ∙ bits_at 64 b (i - 64) (omega arith))

    pub bit_none : 128 ≤ i → false ≡ access i (bits 64 a ++ bits 64 b)
    unfolding access
    bit_none h = sym (get_or-eq_default (bits 64 a ++ bits 64 b) false (omega (arith, both_length)))

    pub ones_low : i ≤ 64 → ones (take i (bits 64 a)) ≡ rank true i (bits 64 a ++ bits 64 b)
    unfolding rank count wanted
    ones_low h = ap ones (sym (take-append-le i (bits 64 a) (bits 64 b) (omega (arith, bits_length 64 a))))

    pub ones_both : 64 ≤ i → ones (take i (bits 64 a)) + ones (take (i - 64) (bits 64 b)) ≡ rank true i (bits 64 a ++ bits 64 b)
    unfolding rank count wanted
    ones_both h =
        let n : length (bits 64 a) ≡ 64 = bits_length 64 a in
        let at : length (bits 64 a) + (i - 64) ≡ i = omega arith in
        ap (λ (xs : List Bool). ones xs + ones (take (i - 64) (bits 64 b))) (take_all i (bits 64 a) (omega arith))
        ∙ sym (ones_append (bits 64 a) (take (i - 64) (bits 64 b)))
        ∙ ap ones (sym (rw at at (take-append-add (bits 64 a) (bits 64 b) (i - 64))))

    -- strikes and quiets before a place make up the place, as far as the leaf reaches
    pub rank_both : rank true i (bits 64 a ++ bits 64 b) + rank false i (bits 64 a ++ bits 64 b) ≡ min i 128
    unfolding rank
    rank_both = count_both (take i (bits 64 a ++ bits 64 b)) ∙ length-take i (bits 64 a ++ bits 64 b) ∙ ap (min i) both_length

-- a word has at most 64 set bits before any place
pub ones_most : (n w : ℕ) → ones (take n (bits 64 w)) ≤ 64
ones_most n w = omega (arith, ones_le (take n (bits 64 w)), length-take n (bits 64 w), bits_length 64 w)
