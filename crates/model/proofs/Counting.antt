-- Counting marks and finding the k-th: a list in two parts is counted part by part, and the k-th set bit stands in the first part exactly where
-- that part has k of them. Quiets are counted as the set bits of the opposites.
use Prim.Native.Nat.{ℕ, zero, suc, ◌+◌, ◌-◌, ◌≤◌, ◌<◌}
use native.Mathlib.Nat.{zero-add, add_assoc, sub-zero, suc-sub-suc, not-suc-le-zero, le_of_suc-le-suc}
use native.Mathlib.Numerals.{one-add}
use native.Mathlib.Omega.{arith}
use mathlib.Core.Path.{◌≡◌, refl, sym, ap, ◌∙◌}
use mathlib.Core.Bool.{Bool, true, false, not}
use mathlib.Core.List.{List, [], ◌∷◌, ◌++◌, append-nil}
use Rattle.std.specs.Prelude.{Option, None, Some}
use lib.ListN.{length, length-map}
use Rattle.model.specs.Marks.{ones, further, place, wanted, count, select}

-- ---- parts

pub ones_append : (xs ys : List Bool) → ones (xs ++ ys) ≡ ones xs + ones ys
unfolding ones
ones_append [] ys = sym (zero-add (ones ys))
ones_append (true ∷ xs) ys = let h = ones_append xs ys in omega arith
ones_append (false ∷ xs) ys = ones_append xs ys

pub ones_le : (xs : List Bool) → ones xs ≤ length xs
unfolding ones
ones_le [] = omega arith
ones_le (true ∷ xs) = let h = ones_le xs in omega arith
ones_le (false ∷ xs) = let h = ones_le xs in omega arith

pub further_zero : (o : Option ℕ) → further 0 o ≡ o
unfolding further
further_zero None = refl
further_zero (Some p) = ap Some (zero-add p)

pub further_further : (m n : ℕ) (o : Option ℕ) → further m (further n o) ≡ further (m + n) o
unfolding further
further_further m n None = refl
further_further m n (Some p) = ap Some (sym (add_assoc m n p))

-- the k-th set bit stands in the first part, where that has k of them
pub place_in_first : (k : ℕ) (xs ys : List Bool) → k ≤ ones xs → place k (xs ++ ys) ≡ place k xs
unfolding ones place
place_in_first zero xs ys h = refl
place_in_first (suc k) [] ys h = absurd (not-suc-le-zero h)
place_in_first (suc zero) (true ∷ xs) ys h = refl
place_in_first (suc (suc k)) (true ∷ xs) ys h = ap (further 1) (place_in_first (suc k) xs ys (le_of_suc-le-suc h))
place_in_first (suc k) (false ∷ xs) ys h = ap (further 1) (place_in_first (suc k) xs ys h)

-- else it stands in the second part, where those of the first do not count
pub place_in_second : (k : ℕ) (xs ys : List Bool) → ones xs < k → place k (xs ++ ys) ≡ further (length xs) (place (k - ones xs) ys)
unfolding ones place
place_in_second zero xs ys h = absurd (not-suc-le-zero h)
place_in_second (suc k) [] ys h = rw sub-zero (sym (further_zero (place (suc k) ys)))
place_in_second (suc zero) (true ∷ xs) ys h = absurd (omega arith)
place_in_second (suc (suc k)) (true ∷ xs) ys h =
    ap (further 1) (place_in_second (suc k) xs ys (le_of_suc-le-suc h))
    ∙ further_further 1 (length xs) (place (suc k - ones xs) ys)
    ∙ simp (one-add, suc-sub-suc)
place_in_second (suc k) (false ∷ xs) ys h =
    ap (further 1) (place_in_second (suc k) xs ys h) ∙ further_further 1 (length xs) (place (suc k - ones xs) ys)
    ∙ simp one-add

never : {A : Type 0} {p : ℕ} → None ≡ Some p → A
never e = let z : ◌≡◌ {A = ℕ} 0 1 = cc in absurd (omega arith)

-- one place further on in a list that is one longer
step : {n : ℕ} (o : Option ℕ) → ((q : ℕ) → o ≡ Some q → q < n) → (p : ℕ) → further 1 o ≡ Some p → p < suc n
unfolding further
step None f p e = never e
step (Some q) f p e = let z : 1 + q ≡ p = cc in omega (arith, f q refl)

-- there is no k-th set bit where there are fewer
pub place_none : (k : ℕ) (xs : List Bool) → ones xs < k → place k xs ≡ None
unfolding place further
place_none k xs h = rw (← append-nil xs) (place_in_second k xs [] h ∙ ap (further (length xs)) (nowhere (k - ones xs)))
  where
    nowhere : (j : ℕ) → place j [] ≡ None
    nowhere zero = refl
    nowhere (suc j) = refl

-- there is one where there are as many
pub place_some : (k : ℕ) (xs : List Bool) → 1 ≤ k → k ≤ ones xs → (p : ℕ) × (place k xs ≡ Some p)
unfolding place further ones
place_some zero xs h l = absurd (omega arith)
place_some (suc k) [] h l = absurd (omega arith)
place_some (suc zero) (true ∷ xs) h l = (zero, refl)
place_some (suc (suc k)) (true ∷ xs) h l = let q = place_some (suc k) xs (omega arith) (omega arith) in (1 + q.0, ap (further 1) q.1)
place_some (suc k) (false ∷ xs) h l = let q = place_some (suc k) xs h l in (1 + q.0, ap (further 1) q.1)

-- a place that is found lies in the list
pub place_below : (k : ℕ) (xs : List Bool) (p : ℕ) → place k xs ≡ Some p → p < length xs
unfolding place further
place_below zero xs p e = never e
place_below (suc k) [] p e = never e
place_below (suc zero) (true ∷ xs) p e = let z : 0 ≡ p = cc in omega arith
place_below (suc (suc k)) (true ∷ xs) p e = step (place (suc k) xs) (place_below (suc k) xs) p e
place_below (suc k) (false ∷ xs) p e = step (place (suc k) xs) (place_below (suc k) xs) p e

pub place_zero : (xs : List Bool) → place zero xs ≡ None
unfolding place
place_zero xs = refl

-- ---- strikes and quiets

pub wanted_append : (b : Bool) (xs ys : List Bool) → wanted b (xs ++ ys) ≡ wanted b xs ++ wanted b ys
unfolding wanted
wanted_append true xs ys = refl
wanted_append false [] ys = refl
wanted_append false (x ∷ xs) ys = ap {B = List Bool} (λ r. not x ∷ r) (wanted_append false xs ys)

pub wanted_length : (b : Bool) (xs : List Bool) → length (wanted b xs) ≡ length xs
unfolding wanted
wanted_length true xs = refl
wanted_length false xs = length-map xs not

-- every mark is a strike or a quiet one
pub count_both : (xs : List Bool) → count true xs + count false xs ≡ length xs
unfolding count wanted ones
count_both [] = refl
count_both (true ∷ xs) = let h = count_both xs in omega arith
count_both (false ∷ xs) = let h = count_both xs in omega arith

pub count_append : (b : Bool) (xs ys : List Bool) → count b (xs ++ ys) ≡ count b xs + count b ys
unfolding count
count_append b xs ys = rw wanted_append (ones_append (wanted b xs) (wanted b ys))

-- the k-th mark that is b stands in the first part where that has k of them, else in the second
pub select_in_first : (b : Bool) (k : ℕ) (xs ys : List Bool) → k ≤ count b xs → select b k (xs ++ ys) ≡ select b k xs
unfolding count select
select_in_first b k xs ys h = rw wanted_append (place_in_first k (wanted b xs) (wanted b ys) h)

pub select_in_second : (b : Bool) (k : ℕ) (xs ys : List Bool) → count b xs < k
    → select b k (xs ++ ys) ≡ further (length xs) (select b (k - count b xs) ys)
unfolding count select
select_in_second b k xs ys h =
    rw (wanted_append, ← wanted_length b xs) (place_in_second k (wanted b xs) (wanted b ys) h)

-- there is no k-th mark that is b where there are fewer, and none for k = 0
pub select_none : (b : Bool) (k : ℕ) (xs : List Bool) → count b xs < k → select b k xs ≡ None
unfolding count select
select_none b k xs h = place_none k (wanted b xs) h

pub select_zero : (b : Bool) (xs : List Bool) → select b zero xs ≡ None
unfolding select
select_zero b xs = place_zero (wanted b xs)

pub select_some : (b : Bool) (k : ℕ) (xs : List Bool) → 1 ≤ k → k ≤ count b xs → (p : ℕ) × (select b k xs ≡ Some p)
unfolding count select
select_some b k xs h l = place_some k (wanted b xs) h l

pub select_below : (b : Bool) (k : ℕ) (xs : List Bool) (p : ℕ) → select b k xs ≡ Some p → p < length xs
unfolding select
select_below b k xs p e = rw (← wanted_length b xs) (place_below k (wanted b xs) p e)
