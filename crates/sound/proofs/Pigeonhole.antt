-- Numbers below n of which none stands twice can be made up to all the numbers below n. So n of them are all.
use Prim.Native.Nat.{ℕ, zero, suc, ◌+◌, ◌<◌}
use native.Mathlib.Numerals.{add-one}
use native.Mathlib.Omega.{arith}
use mathlib.Core.Path.{◌≡◌, refl, sym, ap, ◌∙◌}
use mathlib.Core.List.Memᴰ
use mathlib.Core.List.{List, [], ◌∷◌, ◌++◌, Memᴰ}
use mathlib.Core.Logic.{◌⊎◌, inl, inr, ⊎_elim}
use borrow.Author.Tests.{eqb-true, eqb-false}
use lib.Dec.{eqb}
use lib.ListN.{length, length-append}
use Rattle.model.specs.Pool.{numbers_from}
use Rattle.model.specs.Sound.{Distinct, Rearranged, weigh}
use Rattle.model.proofs.Cases.{by_test}
use Rattle.model.proofs.NumbersFrom.{numbers_from_length, numbers_more}
use Rattle.model.proofs.Rearranged.{rearranged_length, weigh_append}

member_or_not : (k : ℕ) (ns : List ℕ) → Memᴰ k ns ⊎ (Memᴰ k ns → ⊥)
member_or_not k [] = inr Memᴰ.not-nil
member_or_not k (n ∷ ns) =
    by_test (eqb k n)
    (λ e. inl (Memᴰ.head (eqb-true k n e)))
    (λ e. ⊎_elim (λ h. inl (Memᴰ.tail h)) (λ out. inr (λ h. ⊎_elim (eqb-false k n e) out (Memᴰ.cases_cons h))) (member_or_not k ns))

-- ---- a list without one of its numbers

record Without (n : ℕ) (ks : List ℕ) : Type 0 where
  less : List ℕ
  same : (w : ℕ → ℕ) → weigh w ks ≡ w n + weigh w less
  member : (k : ℕ) → Memᴰ k less → Memᴰ k ks
  distinct : Distinct less
  out : Memᴰ n less → ⊥

without : (n : ℕ) (ks : List ℕ) → Distinct ks → Memᴰ n ks → Without n ks
unfolding weigh
without n [] d h = elim h [ ]
without n (k ∷ ks) d (Memᴰ.head e) =
    record {
      less = ks;
      same = λ w. ap (λ (m : ℕ). w m + weigh w ks) (sym e);
      member = λ m h. Memᴰ.tail h;
      distinct = d.1;
      out = λ h. d.0 (Memᴰ.cast (sym e) h);
    }
without n (k ∷ ks) d (Memᴰ.tail h) =
    let rest : Without n ks = without n ks d.1 h in
    record {
      less = k ∷ rest.less;
      same = λ w. omega (arith, rest.same w);
      member = λ m l. ⊎_elim (λ (e : m ≡ k). Memᴰ.head e) (λ (l' : Memᴰ m rest.less). Memᴰ.tail (rest.member m l'))
          (Memᴰ.cases_cons l);
      distinct = (λ l. d.0 (rest.member k l), rest.distinct);
      out = λ l. ⊎_elim (λ (e : n ≡ k). d.0 (Memᴰ.cast (sym e) h)) rest.out (Memᴰ.cases_cons l);
    }

-- ---- numbers made up to all

numbers_last : (w : ℕ → ℕ) (n : ℕ) → weigh w (numbers_from 0 (suc n)) ≡ weigh w (numbers_from 0 n) + w n
unfolding weigh numbers_from
numbers_last w n =
    let e : 0 + n ≡ n = omega arith in
    ap (λ (m : ℕ). weigh w (numbers_from 0 m)) (sym (add-one n)) ∙ numbers_more w 0 n 1 ∙ ap (λ (m : ℕ). weigh w (numbers_from 0 n) + (w m + 0)) e
    ∙ omega arith

abbrev Completed : ℕ → List ℕ → Type 0
Completed n ks = (rest : List ℕ) × ((w : ℕ → ℕ) → weigh w (numbers_from 0 n) ≡ weigh w ks + weigh w rest)

completed : (n : ℕ) (ks : List ℕ) → Distinct ks → ((k : ℕ) → Memᴰ k ks → k < n) → Completed n ks
unfolding weigh numbers_from
completed zero [] d low = ([], λ w. refl)
completed zero (k ∷ ks) d low = absurd (omega (arith, low k (Memᴰ.head refl)))
completed (suc n) ks d low =
    ⊎_elim
    (λ h.
    let r : Without n ks = without n ks d h in
    let fewer : (k : ℕ) → Memᴰ k r.less → k < n = λ k l. other k (low k (r.member k l)) (λ (e : k ≡ n). r.out (Memᴰ.cast (sym e) l)) in
    let c : Completed n r.less = completed n r.less r.distinct fewer in
    (c.0, λ w. omega (arith, numbers_last w n, c.1 w, r.same w)))
    (λ out.
    let c : Completed n ks = completed n ks d (λ k l. other k (low k l) (λ (e : k ≡ n). out (Memᴰ.cast (sym e) l))) in
    (n ∷ c.0, λ w. omega (arith, numbers_last w n, c.1 w)))
    (member_or_not n ks)
  where
    other : (k : ℕ) → k < suc n → (k ≡ n → ⊥) → k < n
    other k l ne = by_test (eqb k n) (λ e. absurd (ne (eqb-true k n e))) (λ e. omega (arith, eqb-false k n e))

made_up : (n : ℕ) (ks : List ℕ) (c : Completed n ks) → n ≡ length ks + length c.0
made_up n ks c =
    sym (numbers_from_length 0 n) ∙ rearranged_length (numbers_from 0 n) (ks ++ c.0) (λ w. c.1 w ∙ sym (weigh_append w ks c.0))
    ∙ length-append ks c.0

rest_none : (n : ℕ) (ks rest : List ℕ) → length rest ≡ 0 → ((w : ℕ → ℕ) → weigh w (numbers_from 0 n) ≡ weigh w ks + weigh w rest)
    → Rearranged (numbers_from 0 n) ks
unfolding weigh
rest_none n ks [] z same w = omega (arith, same w)
rest_none n ks (k ∷ rest) z same w = absurd (omega arith)

-- n of them are all
pub all_of : (n : ℕ) (ks : List ℕ) → Distinct ks → ((k : ℕ) → Memᴰ k ks → k < n) → length ks ≡ n → Rearranged (numbers_from 0 n) ks
all_of n ks d low e = let c = completed n ks d low in rest_none n ks c.0 (omega (arith, made_up n ks c)) c.1
