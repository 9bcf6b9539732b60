-- The bits of the nodes that have been met. Nodes met one after the other: what was fresh and has been marked was fresh together.
use Prim.Native.Nat.{ℕ, suc, ◌+◌, ◌-◌, ◌*◌, ◌/◌, ◌%◌, ◌^◌, ◌≤◌, ◌<◌, max}
use native.Mathlib.Nat.{div_self, div-eq_of_lt, pow-suc}
use native.Mathlib.Omega.{arith}
use mathlib.Core.Path.{◌≡◌, refl, sym, ap, ◌∙◌}
use mathlib.Core.Bool.{true, false}
use mathlib.Core.List.Memᴰ
use mathlib.Core.List.{List, [], ◌∷◌, ◌++◌}
use mathlib.Core.Logic.{◌⊎◌, inl, inr, ⊎_elim}
use borrow.Author.Tests.{eqb-true, eqb-false, eq-eqb}
use lib.Bits.{bit_or, or_step, or_shr}
use lib.Dec.{eqb}
use lib.ListN.{length, get_or, set, length-set}
use lib.Pow.{pow_pos, pow-add, pow-lt, shl-shr}
use lib.Seq.{get_or-set_same, get_or-set_other}
use Rattle.model.specs.Word.{odd}
use Rattle.model.proofs.Cases.{by_test, by_ltb}
use Rattle.sound.specs.Met.{met_at, Fresh, Marked, Meets}
use Rattle.sound.specs.declared.met.Met.{Met}
use Rattle.sound.proofs.Answers.{never}
use Rattle.model.proofs.Distincts.{distinct_join, distinct_first, distinct_second, distinct_apart}

-- ---- one after the other

pub fresh_first : {met : List ℕ} (ms ns : List ℕ) → Fresh met (ms ++ ns) → Fresh met ms
fresh_first ms ns f =
    record {
      distinct = distinct_first ms ns f.distinct;
      room = λ k h. f.room k (Memᴰ.append_left ns h);
      unmet = λ k h. f.unmet k (Memᴰ.append_left ns h);
    }

module _ {met met₁ : List ℕ} (ms ns : List ℕ) where
  pub fresh_second : Fresh met (ms ++ ns) → Marked met met₁ ms → Fresh met₁ ns
  fresh_second f m =
      record {
        distinct = distinct_second ms ns f.distinct;
        room = λ k h. omega (arith, f.room k (Memᴰ.append_right ms h), m.size);
        unmet = λ k h. by_test (met_at met₁ k)
            (λ e. ⊎_elim (λ l. absurd (distinct_apart ms ns f.distinct k l h)) (λ l. never l (f.unmet k (Memᴰ.append_right ms h))) (m.only k e))
            (λ e. e);
      }

  pub fresh_join : Fresh met ms → Marked met met₁ ms → Fresh met₁ ns → Fresh met (ms ++ ns)
  fresh_join f m g =
      record {
        distinct = distinct_join ms ns f.distinct g.distinct (λ k h l. never (m.here k h) (g.unmet k l));
        room = λ k h. ⊎_elim (f.room k) (λ l. omega (arith, g.room k l, m.size)) (Memᴰ.append_cases ms h);
        unmet = λ k h. ⊎_elim (f.unmet k) (λ l. by_test (met_at met k) (λ e. never (m.kept k e) (g.unmet k l)) (λ e. e))
            (Memᴰ.append_cases ms h);
      }

  pub marked_join : {met₂ : List ℕ} → Marked met met₁ ms → Marked met₁ met₂ ns → Marked met met₂ (ms ++ ns)
  marked_join m l =
      record {
        size = l.size ∙ m.size;
        here = λ k h. ⊎_elim (λ x. l.kept k (m.here k x)) (l.here k) (Memᴰ.append_cases ms h);
        kept = λ k e. l.kept k (m.kept k e);
        only = λ k e. ⊎_elim (λ x. inl (Memᴰ.append_right ms x))
            (λ x. ⊎_elim (λ y. inl (Memᴰ.append_left ns y)) inr (m.only k x)) (l.only k e);
      }

-- ---- one bit of a word

odd_is : (x : ℕ) → x % 2 ≡ 1 → odd x ≡ true
unfolding odd
odd_is x e = eq-eqb (x % 2) 1 e

odd_says : (x : ℕ) → odd x ≡ true → x % 2 ≡ 1
unfolding odd
odd_says x e = eqb-true (x % 2) 1 e

even_is : (x : ℕ) → x % 2 ≡ 0 → odd x ≡ false
even_is x e = by_test (odd x) (λ h. absurd (omega (arith, odd_says x h))) (λ h. h)

even_says : (x : ℕ) → odd x ≡ false → x % 2 ≡ 0
even_says x e = by_test (eqb (x % 2) 1) (λ h. never (odd_is x (eqb-true (x % 2) 1 h)) e) (λ h. omega (arith, eqb-false (x % 2) 1 h))

-- the bits of an or
or_bit : (a b j : ℕ) → bit_or a b / 2 ^ j % 2 ≡ max (a / 2 ^ j % 2) (b / 2 ^ j % 2)
or_bit a b j = let s = or_step (a / 2 ^ j) (b / 2 ^ j) in ap (λ (x : ℕ). x % 2) (or_shr a b j) ∙ omega arith

-- a power of two has one bit
power_same : (j : ℕ) → 2 ^ j / 2 ^ j % 2 ≡ 1
power_same j = ap (λ (x : ℕ). x % 2) (div_self (pow_pos j))

power_other : (j b : ℕ) → (j ≡ b → ⊥) → 2 ^ b / 2 ^ j % 2 ≡ 0
power_other j b ne =
    by_ltb j b
    (λ _ h.
    let m : ℕ = b - suc j in
    let e : b ≡ suc m + j = omega arith in
    let quotient : 2 ^ b / 2 ^ j ≡ 2 ^ m * 2 =
    ap (λ (x : ℕ). 2 ^ x / 2 ^ j) e ∙ ap (λ (x : ℕ). x / 2 ^ j) (pow-add 2 (suc m) j) ∙ shl-shr (2 ^ suc m) j ∙ pow-suc 2 m in
    omega arith)
    (λ _ h. ap (λ (x : ℕ). x % 2) (div-eq_of_lt (pow-lt {j = j} (omega arith))))

-- ---- marking a node

module _ (met : List ℕ) (n : ℕ) (here : n / 64 < length met) where
  -- the word that has the node's bit, and the words with that bit set
  abbrev word : ℕ
  word = get_or met (n / 64) 0

  abbrev marked : List ℕ
  marked = set met (n / 64) (bit_or word (2 ^ (n % 64)))

  -- a node of the same word, and of another
  same_word : (k : ℕ) → k / 64 ≡ n / 64 → met_at marked k ≡ odd (bit_or word (2 ^ (n % 64)) / 2 ^ (k % 64))
  unfolding met_at
  same_word k e = ap (λ (x : ℕ). odd (x / 2 ^ (k % 64)))
      (ap (λ (x : ℕ). get_or marked x 0) e ∙ get_or-set_same met (n / 64) (bit_or word (2 ^ (n % 64))) 0 here)

  met_word : (k : ℕ) → k / 64 ≡ n / 64 → met_at met k ≡ odd (word / 2 ^ (k % 64))
  unfolding met_at
  met_word k e = ap (λ (x : ℕ). odd (get_or met x 0 / 2 ^ (k % 64))) e

  other_word : (k : ℕ) → (k / 64 ≡ n / 64 → ⊥) → met_at marked k ≡ met_at met k
  unfolding met_at
  other_word k ne = ap (λ (x : ℕ). odd (x / 2 ^ (k % 64))) (get_or-set_other met (n / 64) (k / 64) (bit_or word (2 ^ (n % 64))) 0 ne)

  by_word : {P : Type 0} (k : ℕ) → (k / 64 ≡ n / 64 → P) → ((k / 64 ≡ n / 64 → ⊥) → P) → P
  by_word k p q = by_test (eqb (k / 64) (n / 64)) (λ e. p (eqb-true (k / 64) (n / 64) e)) (λ e. q (eqb-false (k / 64) (n / 64) e))

  mark_here : met_at marked n ≡ true
  mark_here = same_word n refl ∙ odd_is _ (or_bit word (2 ^ (n % 64)) (n % 64) ∙ rw (power_same (n % 64)) (omega arith))

  mark_kept : (k : ℕ) → met_at met k ≡ true → met_at marked k ≡ true
  mark_kept k e =
      by_word k
      (λ same.
      let was : word / 2 ^ (k % 64) % 2 ≡ 1 = odd_says _ (sym (met_word k same) ∙ e) in
      let bit : bit_or word (2 ^ (n % 64)) / 2 ^ (k % 64) % 2 ≡ 1 = or_bit word (2 ^ (n % 64)) (k % 64) ∙ omega arith in
      same_word k same ∙ odd_is _ bit)
      (λ ne. other_word k ne ∙ e)

  mark_only : (k : ℕ) → met_at marked k ≡ true → (k ≡ n) ⊎ (met_at met k ≡ true)
  mark_only k e =
      by_word k
      (λ same. by_test (eqb (k % 64) (n % 64))
      (λ t. let bit : k % 64 ≡ n % 64 = eqb-true (k % 64) (n % 64) t in inl (omega arith))
      (λ t.
      let none = power_other (k % 64) (n % 64) (eqb-false (k % 64) (n % 64) t) in
      let is : bit_or word (2 ^ (n % 64)) / 2 ^ (k % 64) % 2 ≡ 1 = odd_says _ (sym (same_word k same) ∙ e) in
      let or = or_bit word (2 ^ (n % 64)) (k % 64) in
      let was : word / 2 ^ (k % 64) % 2 ≡ 1 = omega arith in
      inr (met_word k same ∙ odd_is _ was)))
      (λ ne. inr (sym (other_word k ne) ∙ e))

  -- a bit that was clear is set now, and no other
  meet_set : (bit : ℕ) → bit ≡ 2 ^ (n % 64) → word / 2 ^ (n % 64) % 2 ≡ 0
      → Fresh met (n ∷ []) × Marked met (set met (n / 64) (bit_or word bit)) (n ∷ [])
  meet_set bit one clear =
      rw one (
        record {
          distinct = (Memᴰ.not-nil, tt);
          room = λ k h. rw (Memᴰ.eq_of_singleton h) (omega arith);
          unmet = λ k h. rw (Memᴰ.eq_of_singleton h) (met_word n refl ∙ even_is _ clear);
        },
        record {
          size = length-set met (n / 64) (bit_or word (2 ^ (n % 64)));
          here = λ k h. rw (Memᴰ.eq_of_singleton h) mark_here;
          kept = mark_kept;
          only = λ k e. ⊎_elim (λ same. inl (Memᴰ.head same)) inr (mark_only k e);
        },
      )

  -- a bit that was set
  met_before : (word / 2 ^ (n % 64) % 2 ≡ 0 → ⊥) → Fresh met (n ∷ []) → ⊥
  met_before set f = set (even_says _ (sym (met_word n refl) ∙ f.unmet n (Memᴰ.head refl)))

module _ (m m' : Met) (n : ℕ) where
  pub meet_yes : (here : n / 64 < length m.words) → m'.room + 1 ≡ m.room → (bit : ℕ) → bit ≡ 2 ^ (n % 64)
      → get_or m.words (n / 64) 0 / 2 ^ (n % 64) % 2 ≡ 0 → m'.words ≡ set m.words (n / 64) (bit_or (get_or m.words (n / 64) 0) bit)
      → Meets m m' n true
  meet_yes here room bit one clear e =
      let met = meet_set m.words n here bit one clear in
      record { yes = λ _. (room, met.0, rw e met.1); no = λ _ _. refl }

  pub meet_no : (here : n / 64 < length m.words) → (get_or m.words (n / 64) 0 / 2 ^ (n % 64) % 2 ≡ 0 → ⊥) → Meets m m' n false
  meet_no here set = record { yes = λ e. never e refl; no = λ _ f. absurd (met_before m.words n here set f) }

  -- there is no such bit
  pub meet_out : length m.words ≤ n / 64 → Meets m m' n false
  meet_out h = record { yes = λ e. never e refl; no = λ _ f. absurd (omega (arith, f.room n (Memᴰ.head refl))) }
