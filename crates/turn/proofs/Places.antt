-- What stores do to the trees that stand in words: two forks put at the numbers of a tree make another of its parts, and an edit of a child is one of
-- the tree above it.
use Prim.Native.Nat.{ℕ, ◌+◌, ◌-◌}
use native.Mathlib.Omega.{arith}
use mathlib.Core.Path.{◌≡◌, refl, sym, ap, ◌∙◌}
use mathlib.Core.Bool.{Bool, true, false}
use mathlib.Core.List.Memᴰ
use mathlib.Core.List.{List, ◌∷◌, ◌++◌, Memᴰ}
use lib.ListN.{length}
use Rattle.model.specs.Marks.{count}
use Rattle.model.specs.Sound.{Distinct, Rearranged}
use Rattle.model.specs.Tree as Tree
use Rattle.model.specs.Tree.{Tree, marks, size, height, numbers}
use Rattle.model.proofs.Content.{size_marks}
use Rattle.model.proofs.Distincts.{distinct_first, distinct_apart}
use Rattle.model.proofs.Rearranged.{weigh, weigh_append, rearranged_sym, rearranged_member, rearranged_distinct}
use Rattle.pool.specs.Layout.{fork_of, Holds, Edited}
use Rattle.pool.specs.Node.{node_at, fork_cell, put, Put}
use Rattle.pool.specs.declared.node.Fork.{Fork}
use Rattle.pool.specs.declared.node.Node.TheVariants as Node
use Rattle.pool.proofs.Cells.{fork_says, put_fork}
use Rattle.pool.proofs.Standing.{holds_same}
use Rattle.turn.specs.Forks.{joined, over}
use Rattle.turn.specs.Words.{Turns, turn, unturned}
use Rattle.turn.proofs.Joined.{joined_numbers, joined_parts, joined_holds, turned_is}
use Rattle.turn.proofs.Leaning.{Alike}

-- ---- one edit after another

-- the second changes no other nodes than the first
pub then : {w w' w'' : List ℕ} {ms ns : List ℕ} {t u : Tree} → Edited w w' ms t → Edited w' w'' ns u
    → ((k : ℕ) → Memᴰ k ns → Memᴰ k ms) → Edited w w'' ms u
then p q of =
    record {
      size = q.size ∙ p.size;
      holds = q.holds;
      else = λ k out. q.else k (λ m. out (of k m)) ∙ p.else k out;
    }

-- nothing was done
pub untouched : (w ns : List ℕ) (t : Tree) → Holds w t → Edited w w ns t
untouched w ns t h = record { size = refl; holds = h; else = λ k out. refl }

-- ---- a turn

-- the numbers of the tree: the top's, the child's, and those of A, C and E
module _ (left : Bool) (n b : ℕ) (a c e : Tree) where
  spread : Rearranged (numbers (joined left n a (joined left b c e))) (n ∷ (b ∷ (numbers a ++ (numbers c ++ numbers e))))
  unfolding weigh
  spread w =
      let top = simp weigh_append at (joined_numbers left n a (joined left b c e) w) in
      let child = simp weigh_append at (joined_numbers left b c e w) in
      simp weigh_append (omega arith)

  module _ (d : Distinct (numbers (joined left n a (joined left b c e)))) where
    apart : Distinct (n ∷ (b ∷ (numbers a ++ (numbers c ++ numbers e))))
    apart = rearranged_distinct _ _ spread d

    two : n ≡ b → ⊥
    two p = apart.0 (Memᴰ.head p)

-- the child's fork is put, and then the top's
module _ {w w₁ w₂ : List ℕ} {n b : ℕ} {f g : Fork} (p : Put w w₁ b (Node.Fork f)) (q : Put w₁ w₂ n (Node.Fork g)) where
  both_else : (k : ℕ) → (k ≡ n → ⊥) → (k ≡ b → ⊥) → node_at w₂ k ≡ node_at w k
  both_else k top low = q.else k top ∙ p.else k low

  turned_edited : (left : Bool) (a c e : Tree) → f ≡ over left a c → g ≡ over left (joined left b a c) e
      → Holds w (joined left n a (joined left b c e)) → Distinct (numbers (joined left n a (joined left b c e)))
      → Edited w w₂ (numbers (joined left n a (joined left b c e))) (joined left n (joined left b a c) e)
  turned_edited left a c e fe ge h d =
      let clear = apart left n b a c e d in
      let all = numbers a ++ (numbers c ++ numbers e) in
      let kept : (t : Tree) → ((k : ℕ) → Memᴰ k (numbers t) → Memᴰ k all) → Holds w t → Holds w₂ t =
      λ t of. holds_same w w₂ t
      (λ k m.
      both_else k (λ same. clear.0 (Memᴰ.tail (Memᴰ.cast (sym same) (of k m)))) (λ same. clear.1.0 (Memᴰ.cast (sym same) (of k m)))) in
      let parts = joined_parts left w n a (joined left b c e) h in
      let below = joined_parts left w b c e parts.1 in
      let low = q.else b (λ same. two left n b a c e d (sym same)) ∙ p.here ∙ ap Node.Fork fe in
      let old : (k : ℕ) → Memᴰ k (n ∷ (b ∷ all)) → Memᴰ k (numbers (joined left n a (joined left b c e))) =
      λ k. rearranged_member k _ _ (rearranged_sym _ _ (spread left n b a c e)) in
      record {
        size = q.size ∙ p.size;
        holds =
            joined_holds left w₂ n (joined left b a c) e (q.here ∙ ap Node.Fork ge)
            (joined_holds left w₂ b a c low
            (kept a (λ k m. Memᴰ.append_left (numbers c ++ numbers e) m) parts.0)
            (kept c (λ k m. Memᴰ.append_right (numbers a) (Memᴰ.append_left (numbers e) m)) below.0))
            (kept e (λ k m. Memᴰ.append_right (numbers a) (Memᴰ.append_right (numbers c) m)) below.1);
        else = λ j out. both_else j (λ m. out (old j (Memᴰ.head m))) (λ m. out (old j (Memᴰ.tail (Memᴰ.head m))));
      }

-- what is put in the place of two forks, the lower first
two_puts : {w w₁ w₂ : List ℕ} (n b : ℕ) (f g lo hi : Fork) → (n ≡ b → ⊥) → node_at w b ≡ Node.Fork f → node_at w n ≡ Node.Fork g
    → w₁ ≡ put w b (fork_cell lo) → w₂ ≡ put w₁ n (fork_cell hi) → Put w w₁ b (Node.Fork lo) × Put w₁ w₂ n (Node.Fork hi)
two_puts {w} {w₁} n b f g lo hi two low top e₁ e₂ =
    let p : Put w w₁ b (Node.Fork lo) = rw e₁ (put_fork w b lo (fork_says w b f low).0) in
    (p, rw e₂ (put_fork w₁ n hi (fork_says w₁ n g (p.else n two ∙ top)).0))

pub turned_words : {w w₁ w₂ : List ℕ} (left : Bool) {n : ℕ} (b : ℕ) (lo hi : Fork) (t : Turns left w n) → w₁ ≡ put w b (fork_cell lo)
    → w₂ ≡ put w₁ n (fork_cell hi) → b ≡ t.b → lo ≡ over left t.a t.c → hi ≡ over left (joined left t.b t.a t.c) t.e
    → Edited w w₂ (numbers (unturned left n t)) (turn left (unturned left n t))
turned_words {w} left {n} b lo hi t e₁ e₂ at lo_is hi_is =
    let h = t.stands.holds in
    let d = t.stands.distinct in
    let child = (joined_parts left w n t.a (joined left t.b t.c t.e) h).1 in
    let p = two_puts n t.b _ _ lo hi (two left n t.b t.a t.c t.e d) child.0 h.0 (rw (← at) e₁) e₂ in
    rw (turned_is left n t.b t.a t.c t.e) (turned_edited p.0 p.1 left t.a t.c t.e lo_is hi_is h d)

-- ---- an edit of a child

pub alike_size : (t u : Tree) → Alike t u → size u ≡ size t
alike_size t u e = size_marks u ∙ ap length e.marks_are ∙ sym (size_marks t)

-- the fork above says the same
over_alike : (left : Bool) (x t y : Tree) → Alike x t → over left x y ≡ over left t y
unfolding fork_of
over_alike true x t y e =
    λ i. record {
      left = sym e.top_is i;
      right = Tree.top y;
      left_total = sym (alike_size x t e) i;
      left_ones = count true (sym e.marks_are i);
      balance = (height y + 2) - sym e.height_is i;
    }
over_alike false x t y e =
    λ i. record {
      left = Tree.top y;
      right = sym e.top_is i;
      left_total = size y;
      left_ones = count true (marks y);
      balance = (sym e.height_is i + 2) - height y;
    }

module _ (left : Bool) (n : ℕ) (x y : Tree) where
  pub near_distinct : Distinct (numbers (joined left n x y)) → Distinct (numbers x)
  near_distinct d = distinct_first (numbers x) (numbers y) (rearranged_distinct _ _ (joined_numbers left n x y) d).1

  -- the fork above has the same numbers
  pub alike_joined : (t : Tree) → Alike x t → Rearranged (numbers (joined left n x y)) (numbers (joined left n t y))
  unfolding weigh
  alike_joined t e w =
      let old = simp weigh_append at (joined_numbers left n x y w) in
      let new = simp weigh_append at (joined_numbers left n t y w) in
      omega (arith, e.numbers_are w)

  pub under : {w w' : List ℕ} (t : Tree) → Holds w (joined left n x y) → Distinct (numbers (joined left n x y)) → Alike x t
      → Edited w w' (numbers x) t → Edited w w' (numbers (joined left n x y)) (joined left n t y)
  under {w} {w'} t h d e p =
      let apart = rearranged_distinct _ _ (joined_numbers left n x y) d in
      let top = p.else n (λ m. apart.0 (Memᴰ.append_left (numbers y) m)) ∙ h.0 ∙ ap Node.Fork (over_alike left x t y e) in
      let other = (joined_parts left w n x y h).1 in
      record {
        size = p.size;
        holds =
            joined_holds left w' n t y top p.holds
            (holds_same w w' y (λ k m. p.else k (λ m'. distinct_apart (numbers x) (numbers y) apart.1 k m' m)) other);
        else =
            λ k out. p.else k
            (λ m. out (rearranged_member k _ _ (rearranged_sym _ _ (joined_numbers left n x y)) (Memᴰ.tail (Memᴰ.append_left (numbers y) m))));
      }
