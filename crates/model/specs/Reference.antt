-- The reference cases R1 to R14 of docs/REFERENCE.md, as one table: each row is a question to the model and its answer.
-- An answer is a list of numbers; the empty list says that there is none.
use Rattle.std.specs.Prelude.{ℕ, zero, suc, ◌+◌, ◌-◌, ◌^◌, Bool, true, false, ◌&&◌, List, [], ◌∷◌, ◌++◌, map, eqb, length, replicate}
use Rattle.std.specs.Prelude.{Option, None, Some}
use Rattle.model.specs.Marks.{select}
use Rattle.model.specs.Word.{bits}
use Rattle.model.specs.Tree.{Tree, leaf, fork, height, leaves}
use Rattle.model.specs.Turn.{turn_right}
use Rattle.model.specs.Build as Build
use Rattle.model.specs.Pool as Pool

-- ---- the questions

pub data Question : Type 0 where
  -- the place of the k-th bit of a word of 64 bits
  place_in_word : (word : ℕ) (bit : Bool) (k : ℕ) → Question
  -- the sizes of the leaves, where so many marks are built into a pool of so many nodes
  built_leaves : (nodes : ℕ) (marks : ℕ) → Question
  -- the shape of the tree built from so many marks, told from the top, the left before the right: 0 for a leaf, balance
  -- + 2 for a fork
  built_shape : (marks : ℕ) → Question
  -- the sizes of the leaves after an insert at place 0 into a lone leaf of so many marks, in a pool of so many nodes
  inserted : (nodes : ℕ) (marks : ℕ) → Question
  -- the sizes of the leaves after a remove at a place from two leaves of these sizes
  removed : (left : ℕ) (right : ℕ) (place : ℕ) → Question
  -- a fork whose left child has subtrees of heights a and c and whose right child has height e, turned right: the
  -- lowered fork's balance + 2, the risen one's, the height after and the height before
  turned : (a : ℕ) (c : ℕ) (e : ℕ) → Question

-- ---- the model's answers

abbrev pub quiet : ℕ → List Bool
quiet n = replicate n false

unfoldable pub found : Option ℕ → List ℕ
found None = []
found (Some p) = p ∷ []

unfoldable pub sizes : Tree → List ℕ
sizes t = map length (leaves t)

unfoldable pub sizes_of : Option Pool.Pool → List ℕ
sizes_of None = []
sizes_of (Some p) = sizes p.tree

unfoldable pub shape : Tree → List ℕ
shape (leaf n xs) = 0 ∷ []
shape (fork n l r) = ((height r + 2) - height l) ∷ shape l ++ shape r

-- a tree of a height
unfoldable pub tall : ℕ → Tree
tall zero = leaf 0 []
tall (suc h) = fork 0 (tall h) (leaf 0 [])

unfoldable pub turns : Tree → Tree → List ℕ
turns before (leaf n xs) = []
turns before (fork n a (leaf m xs)) = []
turns before (fork n a (fork m c e)) =
    let t : Tree = fork m c e in
    ((height e + 2) - height c) ∷ ((height t + 2) - height a) ∷ height (fork n a t) ∷ height before ∷ []

unfoldable pub lone_pool : ℕ → ℕ → Pool.Pool
lone_pool nodes n = record { tree = leaf 0 (quiet n); free = Pool.numbers_from 1 (nodes - 1) }

unfoldable pub answer : Question → List ℕ
answer (place_in_word w b k) = found (select b k (bits 64 w))
answer (built_leaves nodes n) = sizes_of (Pool.build nodes (quiet n))
answer (built_shape n) = shape (Build.build (quiet n))
answer (inserted nodes n) =
    let p : Pool.Pool = lone_pool nodes n in
    sizes_of (Pool.insert (Pool.two_free p) 0 false p)
answer (removed l r i) =
    let p : Pool.Pool = record { tree = fork 2 (leaf 0 (quiet l)) (leaf 1 (quiet r)); free = [] } in
    sizes (Pool.remove i p).tree
answer (turned a c e) = let t : Tree = fork 0 (fork 1 (tall a) (tall c)) (tall e) in turns t (turn_right t)

-- ---- the table

pub record Row : Type 0 where
  pub question : Question
  pub given : List ℕ

abbrev pub row : Question → List ℕ → Row
row q a = record { question = q; given = a }

unfoldable pub table : List Row
table =
    -- R1, R2
    row (place_in_word 22 true 1) (1 ∷ [])
    ∷ row (place_in_word 22 true 2) (2 ∷ [])
    ∷ row (place_in_word 22 true 3) (4 ∷ [])
    ∷ row (place_in_word 22 true 4) []
    ∷ row (place_in_word 22 false 1) (0 ∷ [])
    ∷ row (place_in_word 22 false 2) (3 ∷ [])
    ∷ row (place_in_word 22 false 3) (5 ∷ [])
    -- R3, R4
    ∷ row (place_in_word 22 true 0) []
    ∷ row (place_in_word 22 false 0) []
    ∷ row (place_in_word 22 true (2 ^ 32 + 1)) []
    -- R5, R6
    ∷ row (built_leaves 1 64) (64 ∷ [])
    ∷ row (built_leaves 2 65) []
    ∷ row (built_leaves 3 65) (64 ∷ 1 ∷ [])
    -- R7: ((A,(B,C)),(D,E)), root balance -1
    ∷ row (built_shape 320) (1 ∷ 3 ∷ 0 ∷ 2 ∷ 0 ∷ 0 ∷ 2 ∷ 0 ∷ 0 ∷ [])
    -- R8, R9
    ∷ row (inserted 1 126) (127 ∷ [])
    ∷ row (inserted 3 127) (64 ∷ 64 ∷ [])
    ∷ row (inserted 2 127) []
    -- R10, R11, R12
    ∷ row (removed 33 34 0) (33 ∷ 33 ∷ [])
    ∷ row (removed 33 33 0) (65 ∷ [])
    ∷ row (removed 64 1 64) (63 ∷ 1 ∷ [])
    -- R13: both 0, height -1; R14: lowered -1, risen 1, height 0
    ∷ row (turned 1 0 0) (2 ∷ 2 ∷ 2 ∷ 3 ∷ [])
    ∷ row (turned 1 1 0) (1 ∷ 3 ∷ 3 ∷ 3 ∷ [])
    ∷ []

-- two lists of numbers are the same
unfoldable pub same : List ℕ → List ℕ → Bool
same [] [] = true
same [] (n ∷ ns) = false
same (m ∷ ms) [] = false
same (m ∷ ms) (n ∷ ns) = eqb m n && same ms ns

-- every row's answer is the given one
unfoldable pub agree : List Row → Bool
agree [] = true
agree (r ∷ rs) = same (answer r.question) r.given && agree rs
