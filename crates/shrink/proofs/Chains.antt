-- The free chain after a remove begins elsewhere exactly where something was freed: a number that is freed was the
-- tree's, so it neither stood in the chain nor is its end.
use Prim.Native.Nat.{ℕ, ◌+◌, ◌<◌}
use native.Mathlib.Omega.{arith}
use mathlib.Core.Path.{◌≡◌, refl, sym, ◌∙◌}
use mathlib.Core.Bool.{Bool}
use mathlib.Core.List.{List, [], ◌∷◌, Memᴰ}
use lib.IntN.{ℤ}
use Rattle.model.specs.Edit.{remove}
use Rattle.model.specs.Tree.{Tree, numbers, size}
use Rattle.model.proofs.Distincts.{distinct_apart}
use Rattle.pool.specs.Layout.{first_of}
use Rattle.tree.specs.declared.root.Held.{Held}
use Rattle.shrink.specs.Removing.{Gone, RemovedFrom, ToRemoveFrom}
use Rattle.shrink.proofs.Trimming.{NoneOrTwo, freed_few, freed_in}

-- nothing was freed, or two numbers
freed_cases : {P : Type 0} (xs : List ℕ) → NoneOrTwo xs → (xs ≡ [] → P) → ((a b : ℕ) → xs ≡ a ∷ b ∷ [] → P) → P
freed_cases [] h p q = p refl
freed_cases (a ∷ []) h p q = absurd h
freed_cases (a ∷ b ∷ []) h p q = q a b refl
freed_cases (a ∷ b ∷ c ∷ xs) h p q = absurd h

-- a number that is neither in the chain nor its end is not where the chain begins
not_first : (a end : ℕ) (free : List ℕ) → (a ≡ end → ⊥) → (Memᴰ a free → ⊥) → a ≡ first_of end free → ⊥
unfolding first_of
not_first a end [] past out e = past e
not_first a end (k ∷ ks) past out e = out (mathlib.Core.List.Memᴰ.head e)

module _ {w w' : List ℕ} {h : Held} {index head : ℕ} {by : ℤ} {bit : Bool}
    (q : ToRemoveFrom w h index) (g : Gone q.place w' head by bit) where
  abbrev tree : Tree
  tree = q.place.at.tree

  abbrev freed : List ℕ
  freed = (remove index tree).freed

  inside : index < size tree
  inside = omega (arith, q.place.within, q.place.at.total_is)

  few : NoneOrTwo freed
  few = freed_few index tree inside q.place.at.site.whole

  -- where two numbers were freed, the chain begins at the first of them, which is not where it did
  moves : (a b : ℕ) → freed ≡ a ∷ b ∷ [] → head ≡ h.chain.first → ⊥
  unfolding first_of
  moves a b e same =
      let s = q.place.at.site in
      let m : Memᴰ a (numbers tree) = freed_in index tree inside s.whole a (rw e (mathlib.Core.List.Memᴰ.head refl)) in
      let begins : a ≡ head = rw e at g.after.first in
      not_first a q.place.at.end q.place.at.free (λ p. q.past (mathlib.Core.List.Memᴰ.cast (sym p) m))
      (distinct_apart (numbers tree) q.place.at.free s.once a m) (begins ∙ same ∙ sym s.first)

  -- where none were, it begins where it did
  stays : freed ≡ [] → head ≡ h.chain.first
  stays e = sym (rw e at g.after.first) ∙ q.place.at.site.first

  pub one_removed : head ≡ h.chain.first → RemovedFrom q w' (record { bit = bit; chain = h.chain })
  one_removed same =
      freed_cases freed few
      (λ e. record {
        edited = g.after.edited;
        chained = g.after.chained;
        first = g.after.first ∙ same;
        count_is = rw e q.count_is;
        mark = g.mark;
      })
      (λ a b e. absurd (moves a b e same))

  pub two_freed : (head ≡ h.chain.first → ⊥)
      → RemovedFrom q w' (record { bit = bit; chain = record { first = head; count = h.chain.count + 2 } })
  two_freed other =
      freed_cases freed few
      (λ e. absurd (other (stays e)))
      (λ a b e. record {
        edited = g.after.edited;
        chained = g.after.chained;
        first = g.after.first;
        count_is = rw e (omega (arith, q.count_is));
        mark = g.mark;
      })
