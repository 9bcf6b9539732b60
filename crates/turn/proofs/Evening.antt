-- A fork is made even in two steps: its higher child is turned where it leans, and then the fork itself. What both leave is one edit of the fork.
use Prim.Native.Nat.{ℕ, ◌+◌}
use native.Mathlib.Omega.{arith}
use mathlib.Core.Path.{◌≡◌, refl, sym, ap, subst, ◌∙◌}
use mathlib.Core.Bool.{Bool, true, false, not}
use mathlib.Core.List.{List}
use lib.IntN.{ℤ, pos}
use mir.Syntax.{w64}
use mir.Val.{SFits}
use mir.ValLaws.{to_z-of_z}
use Rattle.model.specs.Sound.{Balanced}
use Rattle.model.specs.Tree as Tree
use Rattle.model.specs.Tree.{Tree, leaf, fork, height, numbers}
use Rattle.model.specs.Turn.{rebalance}
use Rattle.model.proofs.Balance.{rebalance_balanced}
use Rattle.model.proofs.Cases.{rebalance_cases}
use Rattle.model.proofs.Rearranged.{rearranged_sym, rearranged_member, rearranged_distinct}
use Rattle.pool.specs.Layout.{fork_of, Edited}
use Rattle.pool.specs.Node.{OfTree, balance_in, node_at}
use Rattle.turn.specs.Forks.{Leans, joined}
use Rattle.model.specs.Side.{side}
use Rattle.turn.specs.Words.{Standing, Turns, Child, Uneven, Moved, Evened, leaning, turn, unturned}
use Rattle.turn.proofs.Differences.{equal, none, none_or_one, held}
use Rattle.turn.proofs.Joined.{joined_height, joined_parts, joined_size}
use Rattle.turn.proofs.Leaning.{Alike, Away, balance_of, leans_away, leaning_turns, leaning_stays, leaning_alike, ready}
use Rattle.turn.proofs.Places.{then, untouched, under, alike_size, alike_joined, near_distinct}
use Rattle.turn.proofs.Read.{fork_height}

-- what is turned to a side is the tree that was asked for
abbrev Turned : Bool → List ℕ → List ℕ → ℕ → ℤ → Type 0
Turned left w w' n g = (t : Turns left w n) → Moved w w' g (unturned left n t) (turn left (unturned left n t))

-- ---- a child

module _ {w : List ℕ} {n : ℕ} where
  -- a leaf or a fork stands there, and the balance that is read is the tree's
  pub child_node : (t : Tree) → Child w n t → OfTree (node_at w n) × (balance_in (node_at w n) ≡ balance_of t)
  unfolding Tree.top fork_of
  child_node (leaf m xs) k = let e = ap (node_at w) (sym k.at) ∙ k.stands.holds in (rw e tt, ap balance_in e)
  child_node (fork m l r) k = let e = ap (node_at w) (sym k.at) ∙ k.stands.holds.0 in (rw e tt, ap balance_in e)

  at_n : (left : Bool) (m : ℕ) (x y : Tree) → Child w n (joined left m x y) → m ≡ n
  unfolding Tree.top
  at_n left m x y k = k.at

  abbrev turns_of : (left : Bool) (m b : ℕ) (a c e : Tree) → Leans (height e) (height c) (height a)
      → Child w n (joined left m a (joined left b c e)) → Turns left w n
  turns_of left m b a c e h k =
      record {
        b = b;
        a = a;
        c = c;
        e = e;
        stands = subst (λ (i : ℕ). Standing w (joined left i a (joined left b c e))) (at_n left m a (joined left b c e) k) k.stands;
        leans = h;
      }

  -- one that leans can be turned
  pub child_turns : (left : Bool) (t : Tree) → Child w n t → Away left t → Turns left w n
  child_turns left t k h =
      leans_away left (λ (u : Tree). Child w n u → Turns left w n) t k.balanced h (λ m b a c e leans _ q. turns_of left m b a c e leans q) k

  -- turned, it is the tree that was asked for
  pub leant : (left : Bool) {w' : List ℕ} {g : ℤ} (t : Tree) → Child w n t → Away left t → Turned left w w' n g
      → Edited w w' (numbers t) (leaning left t)
  leant left {w'} t k h done =
      leans_away left (λ (u : Tree). Child w n u → Edited w w' (numbers u) (leaning left u)) t k.balanced h
      (λ m b a c e leans high q.
      let y = joined left b c e in
      rw (leaning_turns left m a y high)
      (subst (λ (i : ℕ). Edited w w' (numbers (joined left i a y)) (turn left (joined left i a y))) (sym (at_n left m a y q))
      (done (turns_of left m b a c e leans q)).edited))
      k

  -- one that does not lean is left as it is
  pub stood : (left : Bool) (t : Tree) → Child w n t → (Away left t → ⊥) → Edited w w (numbers t) (leaning left t)
  stood left t k h = rw (leaning_stays left t h) (untouched w (numbers t) t k.stands.holds)

-- ---- the fork above, whose child on one side is two levels higher than the other

-- seen from the other side
flipped : (left : Bool) (n : ℕ) (x y : Tree) → joined (not left) n x y ≡ joined left n y x
flipped true n x y = refl
flipped false n x y = refl

both_flipped : (left : Bool) (n b : ℕ) (a e c : Tree) → joined (not left) n a (joined (not left) b c e) ≡ joined left n (joined left b e c) a
both_flipped left n b a e c = rw (flipped left b c e) (flipped left n a (joined left b e c))

near_balanced : {w : List ℕ} {n : ℕ} (left : Bool) (x y : Tree) → Uneven w n (side left x y) (side left y x) → Balanced x
near_balanced true x y u = u.left
near_balanced false x y u = u.right

rebalance_high : (left : Bool) (n : ℕ) (x y : Tree) → height x ≡ height y + 2
    → turn (not left) (joined left n (leaning left x) y) ≡ rebalance n (side left x y) (side left y x)
rebalance_high true n x y h =
    rebalance_cases (λ (t : Tree). turn false (fork n (leaning true x) y) ≡ t) n x y
    (λ _. refl) (λ other. absurd (omega arith)) (λ other _. absurd (other h))
rebalance_high false n x y h =
    rebalance_cases (λ (t : Tree). turn true (fork n y (leaning false x)) ≡ t) n y x
    (λ other. absurd (omega arith)) (λ _. refl) (λ _ other. absurd (other h))

module _ {w : List ℕ} {n : ℕ} (left : Bool) (x y : Tree) (u : Uneven w n (side left x y) (side left y x)) where
  pub near_child : Child w (Tree.top x) x
  near_child =
      let h = u.stands in
      record {
        at = refl;
        stands =
            record {
              holds = (joined_parts left w n x y h.holds).0;
              distinct = near_distinct left n x y h.distinct;
              few = omega (arith, h.few, joined_size left n x y);
            };
        balanced = near_balanced left x y u;
      }

  module _ {w' : List ℕ} where
    stands_with : (t : Tree) → Alike x t → Edited w w' (numbers x) t → Standing w' (joined left n t y)
    stands_with t e p =
        let h = u.stands in
        record {
          holds = (under left n x y t h.holds h.distinct e p).holds;
          distinct = rearranged_distinct _ _ (alike_joined left n x y t e) h.distinct;
          few = omega (arith, h.few, joined_size left n x y, joined_size left n t y, alike_size x t e);
        }

    abbrev high_turns : (b : ℕ) (e c : Tree) → Leans (height e) (height c) (height y) → Alike x (joined left b e c)
        → Edited w w' (numbers x) (joined left b e c) → Turns (not left) w' n
    high_turns b e c h k p =
        record { b = b; a = y; c = c; e = e; stands = rw (both_flipped left n b y e c) (stands_with (joined left b e c) k p); leans = h }

    -- its higher child turned where it leans, it can be turned itself
    pub turns_over : height x ≡ height y + 2 → Edited w w' (numbers x) (leaning left x) → Turns (not left) w' n
    turns_over h p =
        ready left (λ (t : Tree). Alike x t → Edited w w' (numbers x) t → Turns (not left) w' n) y x (near_balanced left x y u) h
        (λ b e c leans k q. high_turns b e c leans k q) (leaning_alike left x) p

    module _ {w'' : List ℕ} {g : ℤ} where
      moved_with : (t v : Tree) → Alike x t → Edited w w' (numbers x) t → Moved w' w'' g (joined left n t y) v → Moved w w'' g (joined left n x y) v
      moved_with t v e p m =
          record {
            edited =
                then (under left n x y t u.stands.holds u.stands.distinct e p) m.edited
                (λ k. rearranged_member k _ _ (rearranged_sym _ _ (alike_joined left n x y t e)));
            change = equal g _ _ m.change refl (omega (arith, joined_height left n t y, joined_height left n x y, e.height_is));
          }

      -- and turned, it is the balanced tree
      pub moved_over : height x ≡ height y + 2 → Edited w w' (numbers x) (leaning left x) → Turned (not left) w' w'' n g
          → Moved w w'' g (joined left n x y) (rebalance n (side left x y) (side left y x))
      moved_over h p done =
          rw (← rebalance_high left n x y h)
          (ready left
          (λ (t : Tree). Alike x t → Edited w w' (numbers x) t → Moved w w'' g (joined left n x y) (turn (not left) (joined left n t y)))
          y x (near_balanced left x y u) h
          (λ b e c leans k q.
          let t = joined left b e c in
          moved_with t (turn (not left) (joined left n t y)) k q (rw (both_flipped left n b y e c) at (done (high_turns b e c leans k q))))
          (leaning_alike left x) p)

-- ---- the fork, made even

module _ {w : List ℕ} {n : ℕ} (l r : Tree) (u : Uneven w n l r) where
  -- a fork of which neither child is too high stays
  pub stayed : (height l ≡ height r + 2 → ⊥) → (height r ≡ height l + 2 → ⊥) → Moved w w (pos 0) (fork n l r) (rebalance n l r)
  stayed p q =
      rebalance_cases (Moved w w (pos 0) (fork n l r)) n l r
      (λ high. absurd (p high))
      (λ high. absurd (q high))
      (λ _ _. record { edited = untouched w (numbers (fork n l r)) (fork n l r) u.stands.holds; change = none (height (fork n l r)) })

  pub evened : {w' : List ℕ} {g : ℤ} → Moved w w' g (fork n l r) (rebalance n l r) → Evened w w' g n l r
  evened {g} m =
      let b = rebalance_balanced n l r u.left u.right u.left_most u.right_most in
      let h = fork_height n l r in
      let least = b.least in
      let most = b.most in
      record { edited = m.edited; change = m.change; small = none_or_one g m.change (omega arith) (omega arith) }

  -- the same of a change that is handed on
  pub evened_read : {w' : List ℕ} (g : ℤ) → SFits w64 g → Moved w w' g (fork n l r) (rebalance n l r) → Evened w w' (held g) n l r
  evened_read g f m = rw (to_z-of_z w64 g f) (evened m)
