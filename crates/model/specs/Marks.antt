-- A window's marks are a plain list of bits, the oldest first: `true` is a strike (the trigger fired), `false` a quiet
-- frame. Here is what the storm analysts' orders mean on that list. It knows no tree, no word and no pool.
use Rattle.std.specs.Prelude.{ℕ, zero, suc, ◌+◌, max, Bool, true, false, not, List, [], ◌∷◌, ◌++◌, map, take, drop, get_or}
use Rattle.std.specs.Prelude.{Option, None, Some}

-- the marks with b put in at place i: what stood at i and after it moves one place on
unfoldable pub insert : ℕ → Bool → List Bool → List Bool
insert i b xs = take i xs ++ b ∷ drop i xs

-- the marks without the one at place i
unfoldable pub remove : ℕ → List Bool → List Bool
remove i xs = take i xs ++ drop (suc i) xs

-- the mark at place i, counted from 0; quiet past the end
unfoldable pub access : ℕ → List Bool → Bool
access i xs = get_or xs i false

-- which marks are b: for strikes the marks themselves, for quiets their opposites
unfoldable pub wanted : Bool → List Bool → List Bool
wanted true xs = xs
wanted false xs = map not xs

-- how many of the bits are set
unfoldable pub ones : List Bool → ℕ
ones [] = zero
ones (true ∷ xs) = suc (ones xs)
ones (false ∷ xs) = ones xs

-- a place, counted from n places further back
unfoldable pub further : ℕ → Option ℕ → Option ℕ
further n None = None
further n (Some p) = Some (n + p)

-- the place of the k-th set bit, k counted from 1; none for k = 0 and for k above their number
unfoldable pub place : ℕ → List Bool → Option ℕ
place zero xs = None
place (suc k) [] = None
place (suc zero) (true ∷ xs) = Some zero
place (suc (suc k)) (true ∷ xs) = further 1 (place (suc k) xs)
place (suc k) (false ∷ xs) = further 1 (place (suc k) xs)

-- how many marks are b
unfoldable pub count : Bool → List Bool → ℕ
count b xs = ones (wanted b xs)

-- how many of the marks before place end are b
unfoldable pub rank : Bool → ℕ → List Bool → ℕ
rank b end xs = count b (take end xs)

-- the place of the k-th mark that is b
unfoldable pub select : Bool → ℕ → List Bool → Option ℕ
select b k xs = place k (wanted b xs)

-- the numbers of quiet frames between neighbouring strikes, where n quiet frames have passed since the last strike
unfoldable pub quiets_since : ℕ → List Bool → List ℕ
quiets_since n [] = []
quiets_since n (true ∷ xs) = n ∷ quiets_since zero xs
quiets_since n (false ∷ xs) = quiets_since (suc n) xs

-- the numbers of quiet frames between neighbouring strikes
unfoldable pub quiets : List Bool → List ℕ
quiets [] = []
quiets (true ∷ xs) = quiets_since zero xs
quiets (false ∷ xs) = quiets xs

-- the greatest of some numbers, 0 for none
unfoldable pub greatest : List ℕ → ℕ
greatest [] = zero
greatest (n ∷ ns) = max n (greatest ns)

-- the longest quiet: most quiet frames between two neighbouring strikes, 0 with fewer than two strikes
unfoldable pub longest_quiet : List Bool → ℕ
longest_quiet xs = greatest (quiets xs)
