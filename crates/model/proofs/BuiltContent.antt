-- A built tree holds the marks that it was built from: the leaves take them all, and each round of joining keeps the marks of all the trees,
-- read from the last tree of the list to the first.
use Prim.Native.Nat.{ℕ, zero, suc, ◌*◌, ◌≤◌}
use native.Mathlib.Omega.{arith}
use mathlib.Core.Path.{◌≡◌, refl, ◌∙◌}
use mathlib.Core.Bool.{Bool}
use mathlib.Core.List.{List, [], ◌∷◌, ◌++◌, append_assoc, append-nil, reverse_aux}
use lib.ListN.{length, drop, length-drop, take-append-drop}
use Rattle.model.specs.Tree.{Tree, marks}
use Rattle.model.specs.Build.{leaf_built, built_leaves, round, build}
use Rattle.model.proofs.Rounds.{build_keeps, leaf_count_covers}

-- the marks of some trees, the first tree's first
unfoldable marks_onward : List Tree → List Bool
marks_onward [] = []
marks_onward (t ∷ ts) = marks t ++ marks_onward ts

-- the marks of some trees, the first tree's last
unfoldable marks_backward : List Tree → List Bool
marks_backward [] = []
marks_backward (t ∷ ts) = marks_backward ts ++ marks t

-- trees reversed and read backward are the trees read onward
reversed_marks : (ts seen : List Tree) → marks_backward (reverse_aux ts seen) ≡ marks_backward seen ++ marks_onward ts
unfolding marks_backward marks_onward
reversed_marks [] seen = simp append-nil
reversed_marks (t ∷ ts) seen = simp (reversed_marks ts (t ∷ seen), append_assoc)

-- enough leaves take all the marks
leaves_marks : (n k : ℕ) (xs : List Bool) → length xs ≤ k * leaf_built → marks_onward (built_leaves n k xs) ≡ xs
unfolding marks_onward built_leaves marks
leaves_marks n zero [] h = refl
leaves_marks n zero (x ∷ xs) h = absurd (omega arith)
leaves_marks n (suc k) xs h =
    let h' : length (drop leaf_built xs) ≤ k * leaf_built = simp length-drop (omega arith) in
    rw (leaves_marks (suc n) k (drop leaf_built xs) h') (take-append-drop leaf_built xs)

-- a round changes no marks
round_marks : (n : ℕ) (ts : List Tree) → marks_backward (round n ts) ≡ marks_backward ts
unfolding marks_backward round marks
round_marks n [] = refl
round_marks n (t ∷ []) = refl
round_marks n (r ∷ l ∷ []) = refl
round_marks n (r ∷ l ∷ odd ∷ []) = simp append_assoc
round_marks n (r ∷ l ∷ s ∷ t ∷ more) = simp (round_marks (suc n) (s ∷ t ∷ more), append_assoc)

-- a built tree holds the marks that it was built from
pub build_marks : (xs : List Bool) → marks (build xs) ≡ xs
unfolding marks_backward
build_marks xs =
    (build_keeps (λ (_ : ℕ) (ts : List Tree). marks_backward ts ≡ xs) (λ n ts p. round_marks n ts ∙ p) xs
    (reversed_marks _ [] ∙ leaves_marks zero _ xs (leaf_count_covers (length xs)))).1
