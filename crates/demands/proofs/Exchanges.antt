-- The promises of one order among others. For a user: look at an order anywhere in a list that was run, at its answer,
-- and at the pool's words before it and after it. If it was refused the words are the same. If it was answered 4, it is
-- an insert that found no room, and every such insert is answered so. All else is what the plain list says.
use Prim.Native.Nat.{ℕ, zero, suc, ◌-◌, ◌*◌, ◌%◌, ◌≤◌}
use native.Mathlib.Omega.{arith}
use mathlib.Core.Path.{◌≡◌, refl, sym, ap, ap₂, ◌∙◌}
use mathlib.Core.Bool.{Bool, true, false}
use mathlib.Core.List.{List, [], ◌∷◌, ◌++◌}
use lib.ListN.{length}
use Rattle.model.specs.Limits.{least_full}
use Rattle.model.specs.Marks as Marks
use Rattle.model.specs.Pool.{Pool}
use Rattle.model.specs.Tree.{marks, size}
use Rattle.model.proofs.Cases.{by_test}
use Rattle.model.proofs.Content.{size_marks}
use Rattle.model.proofs.Floor.{floor_window}
use Rattle.order.specs.Answer.{code, value}
use Rattle.window.specs.Layout.{Counted, Stands, trailer_of}
use Rattle.serve.specs.Orders as Serve
use Rattle.model.specs.Word.{digit}
use Rattle.order.specs.Asked.{Asked, asks, with_bit, inserting, unknown}
use Rattle.order.specs.Plain.{list_after, list_answer}
use Rattle.run.specs.Orders.{answer, after, answers, after_all, answer_words, orders_of, no_room}
use Rattle.std.specs.Prelude.{Err}
use Rattle.order.specs.declared.answer.Refusal.TheVariants.{Full}
use Rattle.window.proofs.OneState.{counted_one, one_state}
use Rattle.window.proofs.Pinned.{Likely, one_layout, words_stable}
use Rattle.demands.specs.Following.{full, AllRefused, ListAnswers, TellsFull}
use Rattle.demands.specs.History.{Accepted, Entry, Exchange, History, InRun, asked, log, trailer}
use Rattle.demands.specs.Promises.{HoldsMarks, Inserts, NoRoom}
use Rattle.demands.proofs.Floor.{full_above_floor}
use Rattle.demands.proofs.Histories.{built, means}
use Rattle.demands.proofs.NothingLost.{insert_done, remove_done}
use Rattle.demands.proofs.OrderByOrder.{by_kind, inserting_count, list_codes, not_inserting}
use Rattle.demands.proofs.Reading.{Met, accepted_means, accepted_stands, becomes, becomes_append, exchange_met, tells, tells_append}
use Rattle.demands.proofs.Refusals.{Roomless, full_if, full_only_if, refused_changes_nothing}
use Rattle.demands.proofs.TheList.{one_order, one_order_full}

-- ---- what the trailer tells

module _ {ws : List ℕ} {n : ℕ} {p : Pool} (s : Stands ws n p) where
  trailer_at : length ws - 6 ≡ n * 6
  trailer_at = omega (arith, s.counted.words)

  pub trailer_length : (trailer ws).held.tree.length ≡ length (marks p.tree)
  unfolding trailer_of
  trailer_length = rw (trailer_at, s.trailer) (size_marks p.tree)

  pub trailer_free : (trailer ws).held.chain.count ≡ length p.free
  unfolding trailer_of
  trailer_free = rw (trailer_at, s.trailer)

  -- no room, in words and in the model
  pub roomless : (i : ℕ) → NoRoom ws p i → Roomless i p
  roomless i r =
      record {
        in_range = omega (arith, trailer_length, r.in_range);
        leaf_full = omega (arith, r.leaf_full);
        few_free = omega (arith, trailer_free, r.few_free);
      }

  pub no_room_in : (i : ℕ) → Roomless i p → NoRoom ws p i
  no_room_in i r =
      record {
        in_range = omega (arith, trailer_length, r.in_range);
        leaf_full = omega (arith, r.leaf_full);
        few_free = omega (arith, trailer_free, r.few_free);
      }

-- ---- an order, by the pool that stands before it

-- it is answered Full, or what the list answers
pub by_answer : {P : Type 0} (o : Asked) (p : Pool) → (answer o p ≡ Err Full → P)
    → (answer o p ≡ list_answer o (marks p.tree) → marks (after o p).tree ≡ list_after o (marks p.tree) → P) → P
by_answer o p f g =
    by_test (no_room o p) (λ t. f (one_order_full o p t).0) (λ t. let k = one_order o p t in g k.0 k.1)

-- the code 4 is Full's alone
full_told : (o : Asked) (p : Pool) → code (answer o p) ≡ 4 → answer o p ≡ Err Full
full_told o p e = by_answer o p (λ f. f) (λ f g. absurd ((list_codes o (marks p.tree)).0 (rw f at e)))

-- an order that is an insert has the words of one
inserts : (e : Entry) (i : ℕ) (b : Bool) → asked e ≡ inserting i b → Inserts e × (i ≡ e.second)
unfolding inserting_count digit
inserts e i b q =
    by_kind e.number e.second e.third
    (λ c one bit a. let same : inserting e.second c ≡ inserting i b = sym a ∙ q in (record { number = one; bit = small c bit }, cc))
    (λ two a. not_inserting (asked e) i b (ap inserting_count a) q)
    (λ k. not_inserting (asked e) i b k.no_insert q)
    (λ a. not_inserting (asked e) i b (ap inserting_count a) q)
  where
    small : (c : Bool) → e.third ≡ digit c → e.third ≤ 1
    small true h = omega arith
    small false h = omega arith

-- and the words of one ask for it
insert_asked : (e : Entry) → Inserts e → (b : Bool) × (asked e ≡ inserting e.second b)
unfolding asks with_bit inserting_count
insert_asked e h =
    by_kind e.number e.second e.third
    (λ b one bit a. (b, a))
    (λ two a. absurd (omega (arith, h.number)))
    (λ k. absurd (omega (arith, h.number, k.number)))
    (λ a. absurd (known e.number e.second e.third h.number h.bit a))
  where
    known : (n x y : ℕ) → n ≡ 1 → y ≤ 1 → asks n x y ≡ unknown → ⊥
    known n x zero one b a = omega (arith, rw one at (ap inserting_count a))
    known n x (suc zero) one b a = omega (arith, rw one at (ap inserting_count a))
    known n x (suc (suc y)) one b a = omega arith

-- ---- the promises

module _ {ws : List ℕ} {e : Exchange} (r : InRun ws e) where
  abbrev nodes : ℕ
  nodes = r.well_formed.0

  met : Met nodes e
  met = exchange_met r.well_formed.2 r

  pub refused_order : (e.entry.code ≡ 0 → ⊥) → e.after ≡ e.before
  refused_order refused =
      let o = asked e.entry in
      let same : after o met.pool ≡ met.pool = refused_changes_nothing o met.pool (λ z. refused (met.code ∙ z)) in
      one_layout e.after e.before nodes met.pool (rw same at met.after) met.before

  pub order_code : e.entry.code ≤ 5
  unfolding code
  order_code =
      let o = asked e.entry in
      by_answer o met.pool
      (λ f. omega (arith, met.code, ap code f))
      (λ f g. omega (arith, met.code, ap code f, (list_codes o (marks met.pool.tree)).1))

  module _ {n : ℕ} {p : Pool} (s : Stands e.before n p) where
    -- there is one pool that stands before it
    pool_is : met.pool ≡ p
    pool_is = one_state e.before nodes n met.pool p met.before s

    code_is : e.entry.code ≡ code (answer (asked e.entry) p)
    code_is = rw (← pool_is) met.code

    value_is : e.entry.value ≡ value (answer (asked e.entry) p)
    value_is = rw (← pool_is) met.value

    after_is : Stands e.after nodes (after (asked e.entry) p)
    after_is = rw (← pool_is) met.after

    pub told_then_no_room : e.entry.code ≡ full → Inserts e.entry × NoRoom e.before p e.entry.second
    told_then_no_room c =
        let k = full_only_if n (asked e.entry) p s.sound (full_told (asked e.entry) p (sym code_is ∙ c)) in
        let i = inserts e.entry k.0 k.1 k.2 in
        (i.0, no_room_in s e.entry.second (rw i.1 at k.3))

    pub no_room_then_told : Inserts e.entry → NoRoom e.before p e.entry.second → TellsFull e.entry
    unfolding code value
    no_room_then_told i lack =
        let k = insert_asked e.entry i in
        let f : answer (asked e.entry) p ≡ (Err Full) = rw k.1 (full_if e.entry.second k.0 p (roomless s e.entry.second lack)) in
        record { code = code_is ∙ ap code f; value = value_is ∙ ap value f }

    pub else_the_list : (e.entry.code ≡ full → ⊥)
        → ListAnswers e.entry (marks p.tree) × HoldsMarks e.after (list_after (asked e.entry) (marks p.tree))
    unfolding code
    else_the_list other =
        by_answer (asked e.entry) p
        (λ f. absurd (other (code_is ∙ ap code f)))
        (λ a m. (record { code = code_is ∙ ap code a; value = value_is ∙ ap value a }, (nodes, after (asked e.entry) p, after_is, m)))

    -- what is answered 0 is carried out
    module _ {m : ℕ} {q : Pool} (t : Stands e.after m q) (c : e.entry.code ≡ 0) where
      after_pool : after (asked e.entry) p ≡ q
      after_pool = one_state e.after nodes m (after (asked e.entry) p) q after_is t

      pub inserted : (b : Bool) → e.entry.number ≡ 1 → e.entry.third ≡ digit b
          → marks q.tree ≡ Marks.insert e.entry.second b (marks p.tree)
      unfolding asks with_bit digit
      inserted b one bit =
          let a : asked e.entry ≡ inserting e.entry.second b = rw (one, bit) (with_the_bit b) in
          rw (← after_pool, a) (insert_done e.entry.second b p (rw a at (sym code_is ∙ c))).1
        where
          with_the_bit : (b : Bool) → asks 1 e.entry.second (digit b) ≡ inserting e.entry.second b
          with_the_bit true = refl
          with_the_bit false = refl

      pub removed : e.entry.number ≡ 2 → marks q.tree ≡ Marks.remove e.entry.second (marks p.tree)
      unfolding Serve.answer Serve.no_room list_answer code
      removed two =
          by_kind e.entry.number e.entry.second e.entry.third
          (λ b one bit a. absurd (omega arith))
          (λ _ a. rw (← after_pool, a) (remove_done e.entry.second p (rw a at (sym code_is ∙ c))).2)
          (λ k. absurd (omega (arith, k.number)))
          (λ a. absurd (refused_word (sym code_is ∙ c) a))
        where
          refused_word : code (answer (asked e.entry) p) ≡ 0 → asked e.entry ≡ unknown → ⊥
          refused_word z a = omega (arith, rw a at z)

-- ---- the floor

pub floor_in_history : (slice words : List ℕ) (len : ℕ) (lists : List (List ℕ)) (ws told : List ℕ) (n : ℕ) (e : Exchange) → Counted slice n
    → History slice words len lists ws told → InRun ws e → e.entry.code ≡ full → least_full n ≤ (trailer e.before).held.tree.length
floor_in_history slice words len lists ws told n e c h r f =
    let m = exchange_met (means h).stands r in
    let o = asked e.entry in
    let same : (built h).nodes ≡ n = counted_one slice (built h).nodes n (built h).counted c in
    let above = full_above_floor (built h).nodes o m.pool m.before.sound (full_told o m.pool (sym m.code ∙ f)) in
    rw (← same, trailer_length m.before) above

pub window_floor : (slice words : List ℕ) (len : ℕ) (lists : List (List ℕ)) (ws told : List ℕ) (e : Exchange) → length slice ≡ 6144
    → History slice words len lists ws told → InRun ws e → e.entry.code ≡ full → 16958 ≤ (trailer e.before).held.tree.length
window_floor slice words len lists ws told e size h r f =
    let b = built h in
    let nodes : b.nodes ≡ 1023 = omega (arith, b.counted.words) in
    let c : Counted slice 1023 = rw (← nodes) b.counted in
    omega (arith, floor_window, floor_in_history slice words len lists ws told 1023 e c h r f)

-- ---- whole lists

-- two lists are one
pub cut : (ws front back next end end' first rest told : List ℕ) → Accepted ws front next first → Accepted next back end rest
    → Accepted ws (front ++ back) end' told → (end' ≡ end) × (told ≡ first ++ rest)
cut ws front back next end end' first rest told a b c =
    (words_stable end' end (λ k. likely (λ s. k s.0)), words_stable told (first ++ rest) (λ k. likely (λ s. k s.1)))
  where
    likely : Likely ((end' ≡ end) × (told ≡ first ++ rest))
    likely = accepted_stands a (λ n p s.
        let m = accepted_means s a in
        let l = accepted_means m.stands b in
        let w = accepted_means s c in (
          one_layout end' end n (becomes back (becomes front p)) (rw (becomes_append front back p m.whole) at w.stands) l.stands,
          w.tells ∙ tells_append front back p m.whole ∙ ap₂ ◌++◌ (sym m.tells) (sym l.tells),
        ))

-- a list of which every order is refused
unmoved : (orders : List ℕ) (p : Pool) → length orders % 3 ≡ 0 → AllRefused (log orders (tells orders p)) → becomes orders p ≡ p
unfolding log orders_of answers after_all answer_words
unmoved [] p h r = refl
unmoved (n ∷ []) p h r = absurd (omega arith)
unmoved (n ∷ x ∷ []) p h r = absurd (omega arith)
unmoved (n ∷ x ∷ y ∷ orders) p h r =
    let o = asks n x y in
    let same = refused_changes_nothing o p r.0 in
    let rest : AllRefused (log orders (tells orders p)) = rw same at r.1 in
    rw same (unmoved orders p (omega arith) rest)

pub refused_list : (ws orders ws' told : List ℕ) → Accepted ws orders ws' told → AllRefused (log orders told) → ws' ≡ ws
refused_list ws orders ws' told a r =
    words_stable ws' ws
    (accepted_stands a (λ n p s.
    let m = accepted_means s a in
    let same = unmoved orders p m.whole (rw m.tells at r) in
    one_layout ws' ws n p (rw same at m.stands) s))
