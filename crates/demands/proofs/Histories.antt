-- The promises over a history. For a user: whatever was built and run, all that was answered is what a plain list of
-- bits answers, or 4, 0; what check tells and values writes is that list; and a larger slice answers the same until the
-- smaller one is full.
use Prim.Native.Nat.{ℕ, ◌+◌, ◌≤◌}
use native.Mathlib.Omega.{arith}
use mathlib.Core.Path.{◌≡◌, refl, ap, ◌∙◌}
use mathlib.Core.Bool.{Bool}
use mathlib.Core.List.{List, ◌++◌}
use lib.ListN.{length, drop}
use lib.Seq.{length-take-le}
use Rattle.model.specs.Tree.{marks, size}
use Rattle.model.specs.Word.{marks_of, words_of, words_for}
use Rattle.model.proofs.BuiltContent.{build_marks}
use Rattle.model.proofs.Cases.{by_ltb}
use Rattle.model.proofs.Content.{size_marks}
use Rattle.model.proofs.PoolSound.{build_tree}
use Rattle.build.proofs.LeafMarks.{marks_of_length}
use Rattle.order.specs.Answer.{code, value}
use Rattle.run.specs.Runs.{order_count}
use Rattle.window.specs.Calls.{Checked, Valued}
use Rattle.run.specs.Orders.{answer_words, list_after_all, list_answers, orders_of}
use Rattle.std.specs.Prelude.{Ok}
use Rattle.demands.specs.Following.{AgreeOrFull, Follows, NoneFull, carried_out, done}
use Rattle.demands.specs.History.{History, all_orders, log}
use Rattle.demands.specs.Promises.{HoldsMarks, given}
use Rattle.demands.proofs.NothingLost as NothingLost
use Rattle.demands.proofs.Reading.{Built, Means, becomes, build_means, done_no, runs_mean}
use Rattle.demands.proofs.TheList as TheList
use Rattle.demands.proofs.TwoPools.{two_pools}

-- ---- what a history has come to

-- the pool that was built holds the marks that were given
built_marks : {slice words : List ℕ} {len : ℕ} {begun : List ℕ} (b : Built slice words len begun) → marks b.pool.tree ≡ given words len
built_marks {words = words} {len = len} b =
    ap marks (build_tree b.nodes (given words len) b.pool b.made) ∙ build_marks (given words len)

module _ {slice words : List ℕ} {len : ℕ} {lists : List (List ℕ)} {ws told : List ℕ} (h : History slice words len lists ws told) where
  pub built : Built slice words len h.begun
  built = build_means h.built

  pub means : Means built.nodes built.pool (all_orders lists) ws told
  means = runs_mean lists built.stands h.ran

-- ---- orders on a pool that was built, so answered

module _ {slice words : List ℕ} {len : ℕ} {begun orders ws told : List ℕ} (b : Built slice words len begun)
    (m : Means b.nodes b.pool orders ws told) where
  -- what the plain list has become
  abbrev end_marks : List Bool
  end_marks = carried_out (log orders told) (given words len)

  holds_end : marks (becomes orders b.pool).tree ≡ end_marks
  holds_end = rw (m.tells, ← built_marks b) (TheList.carried orders b.pool m.whole)

  pub every_answer : length (log orders told) ≡ order_count orders
  every_answer = rw m.tells (TheList.log_length orders b.pool m.whole)

  pub follows_list : Follows (log orders told) (given words len) end_marks
  follows_list = rw (← holds_end, m.tells, ← built_marks b) (TheList.follows orders b.pool m.whole)

  pub with_room : NoneFull (log orders told)
      → (told ≡ answer_words (list_answers (orders_of orders) (given words len)))
      × HoldsMarks ws (list_after_all (orders_of orders) (given words len))
  with_room f =
      let r = TheList.told_with_room orders b.pool m.whole (rw m.tells at f) in
      (rw (← built_marks b) (m.tells ∙ r.0), (b.nodes, becomes orders b.pool, m.stands, rw (← built_marks b) r.1))

  -- ---- what check tells and values writes

  given_length : length (given words len) ≡ len
  given_length = length-take-le len (marks_of words) (omega (arith, marks_of_length words, b.enough))

  pub by_count : (count : ℕ) → Checked ws (Ok count) → count + done 2 (log orders told) ≡ len + done 1 (log orders told)
  unfolding value
  by_count count c =
      let p = becomes orders b.pool in
      let tells_size : count ≡ size p.tree = ap value (c.sound b.nodes p m.stands) in
      let lost = rw (← m.tells) at (NothingLost.nothing_lost orders b.pool m.whole) in
      omega (arith, size_marks p.tree, ap length (built_marks b), given_length)

  pub by_marks : (out : List ℕ) (k : ℕ) (out' : List ℕ) → Valued ws out (Ok k) out' → out' ≡ words_of k end_marks ++ drop k out
  unfolding code value
  by_marks out k out' v =
      let p = becomes orders b.pool in
      by_ltb (length out) (words_for (size p.tree))
      (λ _ s. done_no k 7 (v.short b.nodes p m.stands s).0 refl)
      (λ _ s.
      let w = v.written b.nodes p m.stands s in
      let count : k ≡ words_for (size p.tree) = ap value w.0 in
      rw (count, ← holds_end) w.1)

-- ---- two slices

pub sizes_agree : (small large words : List ℕ) (len : ℕ) (lists : List (List ℕ)) (ws ws' told told' : List ℕ) → length small ≤ length large
    → History small words len lists ws told → History large words len lists ws' told'
    → AgreeOrFull (log (all_orders lists) told) (log (all_orders lists) told')
sizes_agree small large words len lists ws ws' told told' fits h k =
    let b = built h in
    let c = built k in
    rw ((means h).tells, (means k).tells)
    (two_pools b.nodes c.nodes (given words len) b.pool c.pool (all_orders lists) (means h).whole
    (omega (arith, b.counted.words, c.counted.words)) b.made c.made)
