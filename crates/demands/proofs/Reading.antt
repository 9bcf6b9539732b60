-- From the words of the calls to the pools that stand in them: what accepted runs have done to the pool, and what they have told.
use Prim.Native.Nat.{ℕ, suc, ◌-◌, ◌*◌, ◌/◌, ◌%◌, ◌≤◌}
use native.Mathlib.Nat.{add-zero}
use native.Mathlib.Omega.{arith}
use mathlib.Core.Path.{◌≡◌, refl, sym, ap, ap₂, ◌∙◌}
use mathlib.Core.List.{List, [], ◌∷◌, ◌++◌}
use Rattle.std.specs.Prelude.{Option, None, Some, Ok}
use lib.ListN.{length, take, drop, get_or, length-append}
use lib.Seq.{take_at, get_or-append-add}
use Rattle.model.specs.Pool as Pool
use Rattle.model.specs.Pool.{Pool}
use Rattle.model.specs.Word.{marks_of}
use Rattle.model.proofs.Cases.{by_ltb}
use Rattle.order.specs.Answer.{Answer, code, value}
use Rattle.run.specs.Runs.{order_count}
use Rattle.window.specs.Calls.{NoPool, BuildsTo}
use Rattle.window.specs.Layout.{Counted, Stands}
use Rattle.order.specs.Asked.{Asked, asks}
use Rattle.run.specs.Orders.{orders_of, answer, after, answers, after_all, answer_words}
use Rattle.window.proofs.Pinned.{Likely, cases}
use Rattle.demands.specs.History.{Accepted, Exchange, InRun, Runs, all_orders, asked, order_words}

-- ---- lists of orders and of answers, one behind the other

pub orders_append : (front back : List ℕ) → length front % 3 ≡ 0 → orders_of (front ++ back) ≡ orders_of front ++ orders_of back
unfolding orders_of
orders_append [] back h = refl
orders_append (n ∷ []) back h = absurd (omega arith)
orders_append (n ∷ x ∷ []) back h = absurd (omega arith)
orders_append (n ∷ x ∷ y ∷ front) back h = ap (◌∷◌ (asks n x y)) (orders_append front back (omega arith))

orders_length : (orders : List ℕ) → length orders % 3 ≡ 0 → length (orders_of orders) ≡ order_count orders
unfolding orders_of
orders_length [] h = refl
orders_length (n ∷ []) h = absurd (omega arith)
orders_length (n ∷ x ∷ []) h = absurd (omega arith)
orders_length (n ∷ x ∷ y ∷ orders) h = omega (arith, orders_length orders (omega arith))

after_append : (os rest : List Asked) (p : Pool) → after_all (os ++ rest) p ≡ after_all rest (after_all os p)
unfolding after_all
after_append [] rest p = refl
after_append (o ∷ os) rest p = after_append os rest (after o p)

answers_append : (os rest : List Asked) (p : Pool) → answers (os ++ rest) p ≡ answers os p ++ answers rest (after_all os p)
unfolding answers after_all
answers_append [] rest p = refl
answers_append (o ∷ os) rest p = ap (◌∷◌ (answer o p)) (answers_append os rest (after o p))

words_append : (first rest : List Answer) → answer_words (first ++ rest) ≡ answer_words first ++ answer_words rest
unfolding answer_words
words_append [] rest = refl
words_append (a ∷ first) rest = ap (λ (ws : List ℕ). code a ∷ value a ∷ ws) (words_append first rest)

-- what a pool tells of some order words
abbrev pub tells : List ℕ → Pool → List ℕ
tells orders p = answer_words (answers (orders_of orders) p)

-- and what it becomes
abbrev pub becomes : List ℕ → Pool → Pool
becomes orders p = after_all (orders_of orders) p

pub tells_append : (front back : List ℕ) (p : Pool) → length front % 3 ≡ 0 → tells (front ++ back) p ≡ tells front p ++ tells back (becomes front p)
tells_append front back p h =
    ap (λ (os : List Asked). answer_words (answers os p)) (orders_append front back h)
    ∙ ap answer_words (answers_append (orders_of front) (orders_of back) p)
    ∙ words_append (answers (orders_of front) p) (answers (orders_of back) (becomes front p))

pub becomes_append : (front back : List ℕ) (p : Pool) → length front % 3 ≡ 0 → becomes (front ++ back) p ≡ becomes back (becomes front p)
becomes_append front back p h =
    ap (λ (os : List Asked). after_all os p) (orders_append front back h) ∙ after_append (orders_of front) (orders_of back) p

-- two words for each order
tells_count : (os : List Asked) (p : Pool) → length (answer_words (answers os p)) ≡ 2 * length os
unfolding answers answer_words
tells_count [] p = refl
tells_count (o ∷ os) p = omega (arith, tells_count os (after o p))

pub tells_length : (orders : List ℕ) (p : Pool) → length orders % 3 ≡ 0 → length (tells orders p) ≡ 2 * order_count orders
tells_length orders p h = omega (arith, tells_count (orders_of orders) p, orders_length orders h)

-- ---- runs

-- orders that have been run on a pool p of n nodes: they are whole orders, what stands now is what p becomes, and p told the answers
pub record Means (n : ℕ) (p : Pool) (orders ws' told : List ℕ) : Type 0 where
  pub whole : length orders % 3 ≡ 0
  pub stands : Stands ws' n (becomes orders p)
  pub tells : told ≡ tells orders p

-- an answer that is done is no refusal
pub done_no : {A : Type 0} {r : Answer} (v : ℕ) (c : ℕ) → Ok v ≡ r → code r ≡ suc c → A
unfolding code
done_no v c e h = absurd (omega (arith, ap code e))

pub accepted_means : {ws : List ℕ} {n : ℕ} {p : Pool} {orders ws' told : List ℕ} → Stands ws n p → Accepted ws orders ws' told
    → Means n p orders ws' told
unfolding code
accepted_means {ws = ws} {n = n} {p = p} {orders = orders} {ws' = ws'} {told = told} s a =
    by_ltb 0 (length orders % 3)
    (λ _ h. done_no (order_count orders) 8 (a.ran.part n s.counted (λ e. omega arith)).0 refl)
    (λ _ h.
    let whole : length orders % 3 ≡ 0 = omega arith in
    by_ltb (length a.out) (2 * order_count orders)
    (λ _ k. done_no (order_count orders) 7 (a.ran.short n s.counted whole k).0 refl)
    (λ _ k.
    let x = a.ran.served n p s whole k in
    record {
      whole = whole;
      stands = x.1;
      tells =
          a.answers ∙ ap (take (2 * order_count orders)) x.2
          ∙ take_at (tells orders p) (drop (2 * order_count orders) a.out) (2 * order_count orders) (tells_length orders p whole);
    }))

-- a run is accepted only where a pool stands
pub accepted_stands : {ws orders ws' told : List ℕ} {G : Type 0} → Accepted ws orders ws' told → ((n : ℕ) (p : Pool) → Stands ws n p → G) → Likely G
unfolding code
accepted_stands {ws = ws} {orders = orders} {G = G} a f =
    cases ws (λ d. done_no (order_count orders) 5 (a.ran.no_pool d).0 refl)
    (λ d.
    by_ltb 0 (length orders % 3)
    (λ _ h. done_no (order_count orders) 8 (a.ran.part d.count.0 d.count.1 (λ e. omega arith)).0 refl)
    (λ _ h.
    let whole : length orders % 3 ≡ 0 = omega arith in
    by_ltb (length a.out) (2 * order_count orders)
    (λ _ k. done_no (order_count orders) 7 (a.ran.short d.count.0 d.count.1 whole k).0 refl)
    (λ _ k. done_no (order_count orders) 6 (a.ran.damaged d whole k).0 refl)))
    f

-- several lists
pub runs_mean : {ws : List ℕ} {n : ℕ} {p : Pool} (lists : List (List ℕ)) {ws' told : List ℕ} → Stands ws n p → Runs lists ws ws' told
    → Means n p (all_orders lists) ws' told
unfolding all_orders orders_of after_all answers answer_words
runs_mean [] s r = record { whole = refl; stands = rw r.0 s; tells = r.1 }
runs_mean {ws = ws} {n = n} {p = p} (orders ∷ lists) {ws' = ws'} {told = told} s r =
    let m = accepted_means s r.3 in
    let more = runs_mean {ws = r.0} lists m.stands r.4 in
    record {
      whole = omega (arith, length-append orders (all_orders lists), m.whole, more.whole);
      stands = rw (becomes_append orders (all_orders lists) p m.whole) more.stands;
      tells = r.5 ∙ ap₂ ◌++◌ m.tells more.tells ∙ sym (tells_append orders (all_orders lists) p m.whole);
    }

-- ---- a build

-- words are as many as a pool's, or are not
counts : (ws : List ℕ) {G : Type 0} → (NoPool ws → G) → ((n : ℕ) → Counted ws n → G) → G
counts ws absent there =
    by_ltb (length ws) 12 (λ _ h. absent (λ n c. omega (arith, c.words, c.some)))
    (λ _ h. by_ltb 6144 (length ws) (λ _ k. absent (λ n c. omega (arith, c.words, c.most)))
    (λ _ k. by_ltb 0 (length ws % 6) (λ _ l. absent (λ n c. omega (arith, c.words)))
    (λ _ l. there (length ws / 6 - 1) (record { words = omega arith; some = omega arith; most = omega arith }))))

-- a build that was accepted: the model's pool of these marks stands
pub record Built (slice words : List ℕ) (len : ℕ) (begun : List ℕ) : Type 0 where
  pub nodes : ℕ
  pub pool : Pool
  pub counted : Counted slice nodes
  pub enough : len ≤ 64 * length words
  pub made : Pool.build nodes (take len (marks_of words)) ≡ Some pool
  pub stands : Stands begun nodes pool

pub build_means : {slice words : List ℕ} {len : ℕ} {begun : List ℕ} → BuildsTo slice words len (Ok len) begun → Built slice words len begun
unfolding code
build_means {slice = slice} {words = words} {len = len} {begun = begun} b =
    counts slice (λ d. done_no len 5 (b.no_pool d).0 refl)
    (λ n c. by_ltb (64 * length words) len (λ _ h. done_no len 9 (b.too_long n c h).0 refl)
    (λ _ h. made n c h (Pool.build n (take len (marks_of words))) refl))
  where
    made : (n : ℕ) → Counted slice n → len ≤ 64 * length words → (o : Option Pool) → Pool.build n (take len (marks_of words)) ≡ o
        → Built slice words len begun
    made n c h None e = done_no len 3 (b.full n c h e).0 refl
    made n c h (Some p) e = record { nodes = n; pool = p; counted = c; enough = h; made = e; stands = (b.built n p c h e).1 }

-- ---- one order among others

-- The pool of n nodes that stands before the order; it answers it, and what it becomes stands afterwards.
pub record Met (n : ℕ) (e : Exchange) : Type 0 where
  pub pool : Pool
  pub before : Stands e.before n pool
  pub after : Stands e.after n (after (asked e.entry) pool)
  pub code : e.entry.code ≡ code (answer (asked e.entry) pool)
  pub value : e.entry.value ≡ value (answer (asked e.entry) pool)

pub exchange_met : {ws : List ℕ} {e : Exchange} {n : ℕ} {p : Pool} → Stands ws n p → InRun ws e → Met n e
unfolding orders_of after_all answers answer_words
exchange_met {e = e} {n = n} {p = p} s r =
    let m = accepted_means s r.until in
    let through = accepted_means s r.through in
    let whole = accepted_means s r.whole in
    let size : length (tells r.front p) ≡ 2 * order_count r.front = tells_length r.front p m.whole in
    let told : r.told ≡ tells r.front p ++ tells (order_words e.entry ++ r.back) (becomes r.front p) =
    whole.tells ∙ tells_append r.front (order_words e.entry ++ r.back) p m.whole in
    record {
      pool = becomes r.front p;
      before = m.stands;
      after = rw (becomes_append r.front (order_words e.entry) p m.whole) at through.stands;
      code = r.code ∙ rw (told, ← size) (at (tells r.front p) (tells (order_words e.entry ++ r.back) (becomes r.front p)));
      value = r.value ∙ rw (told, ← size) (get_or-append-add (tells r.front p)
          (tells (order_words e.entry ++ r.back) (becomes r.front p)) 1 0);
    }
  where
    at : (xs ys : List ℕ) → get_or (xs ++ ys) (length xs) 0 ≡ get_or ys 0 0
    at xs ys = rw (← add-zero (length xs)) (get_or-append-add xs ys 0 0)
