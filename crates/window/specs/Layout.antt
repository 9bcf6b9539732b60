-- A pool in words: the nodes, and then a trailer of six words that points back into them.
--
--     root, length, first free (N for none), count of free nodes, N, 0
use Rattle.std.specs.Prelude.{ℕ, suc, ◌*◌, ◌≤◌, ◌≡◌, List, [], ◌∷◌, length, take, drop, get_or}
use Rattle.model.specs.Limits.{most_nodes}
use Rattle.model.specs.Pool.{Pool}
use Rattle.model.specs.Sound.{Sound}
use Rattle.model.specs.Tree.{top, size}
use Rattle.pool.specs.Node.{node_words}
use Rattle.pool.specs.Layout.{Laid, first_of}
use Rattle.window.specs.declared.trailer.Trailer.{Trailer}

-- the words are as many as those of a pool of n nodes
pub record Counted (ws : List ℕ) (n : ℕ) : Type 0 where
  pub words : length ws ≡ suc n * node_words
  pub some : 1 ≤ n
  pub most : n ≤ most_nodes

-- the six words after the nodes
unfoldable pub trailer_of : ℕ → Pool → List ℕ
trailer_of n p = top p.tree ∷ size p.tree ∷ first_of n p.free ∷ length p.free ∷ n ∷ 0 ∷ []

-- six words as a trailer
abbrev pub trailer_in : List ℕ → Trailer
trailer_in ws =
    record {
      held =
          record {
            tree = record { node = get_or ws 0 0; length = get_or ws 1 0 };
            chain = record { first = get_or ws 2 0; count = get_or ws 3 0 };
          };
      nodes = get_or ws 4 0;
      last = get_or ws 5 0;
    }

-- these words are the pool p of n nodes
pub record Stands (ws : List ℕ) (n : ℕ) (p : Pool) : Type 0 where
  pub counted : Counted ws n
  pub nodes : Laid (take (n * node_words) ws) n p
  pub trailer : drop (n * node_words) ws ≡ trailer_of n p
  pub sound : Sound n p

-- some sound pool stands in exactly these words
abbrev pub WellFormed : List ℕ → Type 0
WellFormed ws = (n : ℕ) × (p : Pool) × Stands ws n p
