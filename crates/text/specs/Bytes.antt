-- A byte's first place in a row of bytes.
use Rattle.std.specs.Prelude.{ℕ, suc, true, false, List, [], ◌∷◌, eqb}

-- the place of the first such byte, the length where there is none
unfoldable pub index_of : ℕ → List ℕ → ℕ
index_of byte [] = 0
index_of byte (b ∷ bs) = elim (eqb b byte) [ true ↦ 0 | false ↦ suc (index_of byte bs) ]
