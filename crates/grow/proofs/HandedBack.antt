-- The chain is handed back. No number stands twice in it, nor is its end one of them, so its head has moved exactly
-- where a leaf was split.
use Prim.Native.Nat.{ℕ, ◌+◌, ◌≤◌}
use native.Mathlib.Omega.{arith}
use mathlib.Core.Path.{◌≡◌, sym, ◌∙◌}
use mathlib.Core.Bool.{Bool, true}
use mathlib.Core.List.{List, [], ◌∷◌, Memᴰ}
use lib.IntN.{ℤ}
use lib.ListN.{length, length-drop}
use Rattle.model.specs.Edit.{splits}
use Rattle.model.specs.Limits.{levels}
use Rattle.model.specs.Sound.{Distinct}
use Rattle.model.specs.Tree.{numbers}
use Rattle.model.proofs.Cases.{by_test}
use Rattle.model.proofs.Distincts.{distinct_second}
use Rattle.pool.specs.Layout.{first_of}
use Rattle.descent.specs.SiteAt.{SiteAt}
use Rattle.tree.specs.declared.root.Held.{Held}
use Rattle.grow.specs.Inserting.{Inserted, InsertedInto, ToInsertInto, rest}

-- a split moves the head
moves : (end : ℕ) (free : List ℕ) → 2 ≤ length free → Distinct free → (Memᴰ end free → ⊥)
    → first_of end (rest true free) ≡ first_of end free → ⊥
unfolding first_of
moves end [] two once past e = omega arith
moves end (a ∷ []) two once past e = omega arith
moves end (a ∷ b ∷ []) two once past e = past (Memᴰ.head e)
moves end (a ∷ b ∷ c ∷ cs) two once past e = once.0 (Memᴰ.tail (Memᴰ.head (sym e)))

module _ {w w' : List ℕ} {h : Held} {head index : ℕ} {by : ℤ} (bit : Bool)
    (q : ToInsertInto w h index) (a : Inserted q.place w' head by bit) where
  abbrev at : SiteAt w h.tree.node levels h.chain.first h.tree.length
  at = q.place.at

  -- the head is where it was: no leaf was split
  pub chain_stays : head ≡ h.chain.first → InsertedInto q w' h.chain bit
  chain_stays e =
      by_test (splits index at.tree)
      (λ split.
      absurd (moves at.end at.free (q.place.room split)
      (distinct_second (numbers at.tree) at.free at.site.once) q.past
      (rw split at a.first ∙ e ∙ sym at.site.first)))
      (λ whole. record { edited = a.edited; chained = a.chained; first = a.first ∙ e; count_is = rw whole q.count_is })

  module _ (moved : head ≡ h.chain.first → ⊥) where
    was_split : splits index at.tree ≡ true
    was_split =
        by_test (splits index at.tree) (λ split. split)
        (λ whole. absurd (moved (sym (rw whole at a.first) ∙ at.site.first)))

    -- two nodes were free
    pub chain_two : 2 ≤ h.chain.count
    chain_two = let two = q.place.room was_split in omega (arith, q.count_is)

    pub chain_moves : (count : ℕ) → count + 2 ≡ h.chain.count → InsertedInto q w' (record { first = head; count = count }) bit
    chain_moves count fewer =
        record {
          edited = a.edited;
          chained = a.chained;
          first = a.first;
          count_is = rw was_split (omega (arith, length-drop 2 at.free, q.count_is));
        }
