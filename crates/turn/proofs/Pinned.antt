-- Each public contract determines its result, and the nodes that the call leaves: two that it allows for the same arguments are equal, and so are
-- the words where all of them lie in nodes, none of which is broken. The laws speak of the contracts as the check reads them off the source.
use Prim.Native.Nat.{ℕ}
use native.Mathlib.Omega.{arith}
use mathlib.Core.Path.{◌≡◌, sym, ◌∙◌}
use mathlib.Core.List.{List}
use Rattle.model.specs.Tree.{Tree, fork, numbers}
use Rattle.model.specs.Turn as Turn
use Rattle.model.proofs.Numbers.{rebalance_numbers}
use Rattle.model.proofs.Rearranged.{rearranged_member}
use Rattle.pool.specs.Layout.{Edited}
use Rattle.pool.specs.Node.{node_at}
use Rattle.pool.proofs.Cells.{same_nodes}
use Rattle.pool.proofs.Once.{Unbroken, by_member, its_node}
use Rattle.turn.proofs.Differences.{both, one}
use Rattle.turn.proofs.balance.stored.Reads as stored
use Rattle.turn.proofs.changed.child_changed.Reads as child_changed
use Rattle.turn.proofs.turning.rebalance.Reads as rebalance

-- a balance is stored as one number only
pub stored_pinned : (κs : _) (a : _) (r r' : _) (w w' : _) → stored.Post κs a r w → stored.Post κs a r' w' → r ≡ r'
stored_pinned κs a r r' w w' p q = omega (arith, both a.0 p q)

-- two edits of a fork that leave it balanced
module _ {w u v : List ℕ} (n : ℕ) (l r : Tree) (p : Edited w u (numbers (fork n l r)) (Turn.rebalance n l r))
    (q : Edited w v (numbers (fork n l r)) (Turn.rebalance n l r)) where
  pub one_node : (k : ℕ) → node_at u k ≡ node_at v k
  one_node k =
      by_member k (numbers (fork n l r))
      (λ m.
      let s = its_node (Turn.rebalance n l r) k (rearranged_member k _ _ (rebalance_numbers n l r) m) in
      s.2 u p.holds ∙ sym (s.2 v q.holds))
      (λ out. p.else k out ∙ sym (q.else k out))

  pub one_words : (N : ℕ) → Unbroken N w → u ≡ v
  one_words N whole =
      same_nodes N u v (p.size ∙ whole.words) (q.size ∙ whole.words) (λ k h. one_node k)
      (λ k h b.
      by_member k (numbers (fork n l r))
      (λ m.
      let s = its_node (Turn.rebalance n l r) k (rearranged_member k _ _ (rebalance_numbers n l r) m) in
      s.1 (sym (s.2 u p.holds) ∙ b))
      (λ out. whole.nodes k h (sym (p.else k out) ∙ b)))

module _ (κs : _) (a : _) (r r' : _) (w w' : _) (pre : rebalance.Pre κs a) (p : rebalance.Post κs a r w) (q : rebalance.Post κs a r' w') where
  pub rebalance_pinned : (r ≡ r') × ((k : ℕ) → node_at w.0.now k ≡ node_at w'.0.now k)
  rebalance_pinned =
      let s = p pre.0 pre.1.0 pre.1.1 in
      let t = q pre.0 pre.1.0 pre.1.1 in
      (one r r' s.change t.change, one_node a.1.0 pre.0 pre.1.0 s.edited t.edited)

  pub rebalance_words_pinned : (N : ℕ) → Unbroken N a.0.now → w.0.now ≡ w'.0.now
  rebalance_words_pinned =
      one_words a.1.0 pre.0 pre.1.0 (p pre.0 pre.1.0 pre.1.1).edited (q pre.0 pre.1.0 pre.1.1).edited

module _ (κs : _) (a : _) (r r' : _) (w w' : _) (pre : child_changed.Pre κs a) (p : child_changed.Post κs a r w)
    (q : child_changed.Post κs a r' w') where
  pub child_changed_pinned : (r ≡ r') × ((k : ℕ) → node_at w.0.now k ≡ node_at w'.0.now k)
  child_changed_pinned =
      let s = p pre.0 pre.1 pre.2 pre.3 pre.4 in
      let t = q pre.0 pre.1 pre.2 pre.3 pre.4 in
      (one r r' s.change t.change, one_node a.1.0 pre.0 pre.1 s.edited t.edited)

  pub child_changed_words_pinned : (N : ℕ) → Unbroken N a.0.now → w.0.now ≡ w'.0.now
  child_changed_words_pinned =
      let s = p pre.0 pre.1 pre.2 pre.3 pre.4 in
      let t = q pre.0 pre.1 pre.2 pre.3 pre.4 in
      one_words a.1.0 pre.0 pre.1 s.edited t.edited
