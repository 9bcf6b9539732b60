-- The marks at the ends of a tree: what an edit there does to its totals, and what a leaf call does to the leaf that holds them.
use Prim.Native.Nat.{ℕ, suc, ◌+◌, ◌-◌, ◌≤◌, ◌<◌}
use native.Mathlib.Omega.{arith}
use mathlib.Core.Path.{◌≡◌, refl, sym, ap, ap₂, ◌∙◌}
use mathlib.Core.Bool.{Bool, true, false}
use mathlib.Core.List.{List, [], ◌∷◌, ◌++◌, append-nil}
use lib.ListN.{length, take, drop, length-append, drop_of_length-le}
use lib.Seq.{drop-cons}
use Rattle.model.specs.Edit.{put_before, drop_first, first_mark}
use Rattle.model.specs.Marks.{access, count, ones, remove, wanted}
use Rattle.model.specs.Tree.{Tree, marks, size}
use Rattle.model.proofs.Content.{size_marks, put_before_marks, drop_first_marks}
use Rattle.model.proofs.Counting.{count_append, count_both}
use Rattle.bits.specs.Leaf.{bits_of, leaf_of}
use Rattle.bits.specs.declared.leaf.Leaf.{Leaf}
use Rattle.bits.proofs.Held.{join_held, remove_held, access_held}
use Rattle.model.specs.Word.{digit}

-- ---- totals

pub put_before_size : (ys : List Bool) (t : Tree) → size t + length ys ≡ size (put_before ys t)
put_before_size ys t =
    omega (arith, size_marks t, size_marks (put_before ys t), ap length (put_before_marks ys t), length-append ys (marks t))

pub put_before_count : (ys : List Bool) (t : Tree) → count true (marks t) + count true ys ≡ count true (marks (put_before ys t))
put_before_count ys t = omega (arith, ap (count true) (put_before_marks ys t), count_append true ys (marks t))

-- a lone mark counts for itself
pub count_one : (b : Bool) → count true (b ∷ []) ≡ digit b
unfolding count wanted ones digit
count_one true = refl
count_one false = refl

module _ (t : Tree) (b : Bool) (e : first_mark t ≡ b ∷ []) where
  parts : (b ∷ []) ++ marks (drop_first t) ≡ marks t
  parts = rw e at (drop_first_marks t)

  pub drop_first_size : size t ≡ suc (size (drop_first t))
  drop_first_size = omega (arith, size_marks t, size_marks (drop_first t), ap length parts, length-append (b ∷ []) (marks (drop_first t)))

  pub drop_first_count : count true (marks t) ≡ digit b + count true (marks (drop_first t))
  drop_first_count = omega (arith, ap (count true) parts, count_append true (b ∷ []) (marks (drop_first t)), count_one b)

-- no more strikes than marks
pub count_most : (xs : List Bool) → count true xs ≤ length xs
count_most xs = omega (arith, count_both xs)

pub strikes_most : (t : Tree) → count true (marks t) ≤ size t
strikes_most t = omega (arith, count_most (marks t), size_marks t)

-- ---- leaves

-- two leaves joined
pub joined : {a b c : Leaf} {n : ℕ} (xs ys : List Bool) → a ≡ leaf_of xs → length xs ≡ n → b ≡ leaf_of ys → length xs + length ys ≤ 128
    → c ≡ leaf_of (take n (bits_of a) ++ bits_of b) → c ≡ leaf_of (xs ++ ys)
joined {a} {b} xs ys p e q h s = s ∙ rw (p, q, ← e) (join_held xs ys h)

module _ {a : Leaf} (i : ℕ) (xs : List Bool) (p : a ≡ leaf_of xs) (h : length xs ≤ 127) where
  removed : {c : Leaf} → i < length xs → c ≡ leaf_of (remove i (bits_of a)) → c ≡ leaf_of (remove i xs)
  removed l s = s ∙ rw p (remove_held xs i (omega arith) l)

  marked : {b : Bool} → b ≡ access i (bits_of a) → b ≡ access i xs
  marked s = s ∙ rw p (access_held xs i (omega arith))

module _ {a : Leaf} (xs : List Bool) (p : a ≡ leaf_of xs) (h : length xs ≤ 127) (some : 1 ≤ length xs) where
  -- the first mark taken off
  pub first_removed : {c : Leaf} → c ≡ leaf_of (remove 0 (bits_of a)) → c ≡ leaf_of (drop 1 xs)
  unfolding remove
  first_removed s = removed 0 xs p h some s

  pub first_marked : {b : Bool} → b ≡ access 0 (bits_of a) → take 1 xs ≡ b ∷ []
  unfolding access
  first_marked s = begins xs some ∙ ap (λ (x : Bool). x ∷ []) (sym (marked 0 xs p h s))
    where
      begins : (xs : List Bool) → 1 ≤ length xs → take 1 xs ≡ access 0 xs ∷ []
      begins [] some = absurd (omega arith)
      begins (x ∷ xs) some = refl

  -- the last mark taken off
  past : drop (suc (length xs - 1)) xs ≡ []
  past = drop_of_length-le xs {i = suc (length xs - 1)} (omega arith)

  pub last_removed : {c : Leaf} → c ≡ leaf_of (remove (length xs - 1) (bits_of a)) → c ≡ leaf_of (take (length xs - 1) xs)
  unfolding remove
  last_removed s = removed (length xs - 1) xs p h (omega arith) s ∙ ap leaf_of (rw past (append-nil (take (length xs - 1) xs)))

  pub last_marked : {b : Bool} → b ≡ access (length xs - 1) (bits_of a) → drop (length xs - 1) xs ≡ b ∷ []
  unfolding access
  last_marked s =
      drop-cons xs (length xs - 1) false (omega arith)
      ∙ ap₂ {C = List Bool} (λ (x : Bool) (ys : List Bool). x ∷ ys) (sym (marked (length xs - 1) xs p h s)) past
