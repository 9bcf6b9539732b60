-- What the window's calls do to what is held, each as the line that asks for it is told and leaves it.
use Prim.Native.Nat.{ℕ, suc, ◌-◌, ◌*◌, ◌≤◌}
use native.Mathlib.Omega.{arith}
use mathlib.Core.Path.{◌≡◌, refl, sym, ap, ap₂, ◌∙◌}
use mathlib.Core.Bool.{true, false}
use mathlib.Core.List.{List, [], ◌∷◌, ◌++◌}
use Rattle.std.specs.Prelude.{Option, None, Some, Ok, Err, unwrap_or}
use lib.ListN.{length, take, drop, get_or, take-append-drop}
use lib.Seq.{take_at, drop_at, length-take-le}
use Rattle.model.specs.Build.{build, leaf_count}
use Rattle.model.specs.Limits.{most_nodes}
use Rattle.model.specs.Pool as Pool
use Rattle.model.specs.Pool.{Pool, nodes_for}
use Rattle.model.specs.Sound.{Sized, Sound}
use Rattle.model.specs.Tree.{Tree, leaf, fork, leaf_total, marks, size}
use Rattle.model.specs.Word.{marks_of, words_for, words_of}
use Rattle.model.proofs.Cases.{by_leb, by_test}
use Rattle.model.proofs.Depth.{node_total}
use Rattle.model.proofs.Floor.{sound_nodes, whole_sized}
use Rattle.model.proofs.Words.{words_length}
use Rattle.order.specs.Answer.{Answer, code, value}
use Rattle.run.specs.Runs.{Ran}
use Rattle.window.specs.Calls.{BuildsTo, Checked, Damaged, NoPool, Valued}
use Rattle.window.specs.Layout.{Counted, Stands}
use Rattle.order.specs.Asked.{Asked, asks}
use Rattle.run.specs.Orders.{after, answer, answer_words, answers, after_all, orders_of}
use Rattle.order.specs.declared.answer.Refusal.{Refusal}
use Rattle.order.specs.declared.answer.Refusal.TheVariants.{NotSound, WrongSize}
use Rattle.serve.proofs.Orderly.{never}
use Rattle.window.proofs.OneState.{well_at}
use Rattle.window.proofs.Pinned.{Likely, one_layout}
use Rattle.grammar.specs.Lines.{Wanted, dumping, loading, ordering, pooling}
use Rattle.script.specs.Prints.{State, answered, built, damaged, holding, leaves, left_by, load_answer, loaded, nothing, now_holding, shown, sized}
use Rattle.script.specs.Playing.{Keeps, extent_of, pool_extent}

-- a line that asks for w was answered r, and the words of the pool are ws' now, of n' nodes
pub record Did (w : Wanted) (s : State) (ws : List ℕ) (n : ℕ) (r : Answer) (n' : ℕ) (ws' : List ℕ) : Type 0 where
  pub answer : r ≡ answered w s
  pub holds : Keeps ws' n' (left_by w s)
  pub past : drop (extent_of n') ws' ≡ drop (extent_of n') ws
  pub same : left_by w s ≡ s → (n' ≡ n) × (ws' ≡ ws)

-- ---- sizes

pub sized_bounds : (n : ℕ) → sized n ≡ true → (1 ≤ n) × (n ≤ most_nodes)
unfolding sized
sized_bounds n e =
    by_leb 1 n
    (λ a h. by_leb n most_nodes (λ b g. (h, g)) (λ b g. never e (rw (a, b) refl)))
    (λ a h. never e (rw a refl))

pub bounds_sized : (n : ℕ) → 1 ≤ n → n ≤ most_nodes → sized n ≡ true
unfolding sized
bounds_sized n l m = by_leb 1 n (λ a h. by_leb n most_nodes (λ b g. rw (a, b) refl) (λ b g. absurd (omega arith))) (λ a h. absurd (omega arith))

pub unsized : (n : ℕ) → ((1 ≤ n) × (n ≤ most_nodes) → ⊥) → sized n ≡ false
unsized n out = by_test (sized n) (λ e. absurd (out (sized_bounds n e))) (λ e. e)

pub extent_sized : (n : ℕ) → sized n ≡ true → extent_of n ≡ suc n * 6
unfolding extent_of
extent_sized n e = rw (extent_of, e) refl

pub extent_none : (n : ℕ) → sized n ≡ false → extent_of n ≡ 0
unfolding extent_of
extent_none n e = rw (extent_of, e) refl

-- the words of a pool of so many nodes, and of one that no pool has
pub extent_some : (n : ℕ) → sized n ≡ true → {k : ℕ} → k ≡ suc n * 6 → Some k ≡ pool_extent n
unfolding pool_extent
extent_some n e {k} h = rw (pool_extent, e) (ap {B = Option ℕ} Some (h ∙ sym (extent_sized n e)))

pub extent_not : (n : ℕ) → sized n ≡ false → None ≡ pool_extent n
unfolding pool_extent
extent_not n e = rw (pool_extent, e)

-- and back
pub extent_is : (n : ℕ) {k : ℕ} → Some k ≡ pool_extent n → (sized n ≡ true) × (k ≡ extent_of n)
unfolding pool_extent
extent_is n {k} h =
    by_test (sized n)
    (λ e. (e, let same : Some k ≡ Some (extent_of n) = rw (pool_extent, e) at h in cc))
    (λ e. absurd (let never : Some k ≡ None = rw (pool_extent, e) at h in let z : ◌≡◌ {A = ℕ} 0 1 = cc in omega arith))

pub no_extent : (n : ℕ) → None ≡ pool_extent n → sized n ≡ false
unfolding pool_extent
no_extent n h =
    by_test (sized n)
    (λ e. absurd (let never : None ≡ Some (extent_of n) = rw (pool_extent, e) at h in let z : ◌≡◌ {A = ℕ} 0 1 = cc in omega arith))
    (λ e. e)

pub extent_most : (n : ℕ) → extent_of n ≤ 6144
extent_most n =
    by_test (sized n)
    (λ e. let b = sized_bounds n e in omega (arith, extent_sized n e))
    (λ e. omega (arith, extent_none n e))

-- the first k words are in use, none where no pool has so many nodes
pub record InUse (n : ℕ) (ws : List ℕ) (k : ℕ) : Type 0 where
  pub is : k ≡ extent_of n
  pub within : k ≤ 6144
  pub as_long : k ≡ length (take k ws)

used : (n : ℕ) {k : ℕ} (ws : List ℕ) → k ≡ extent_of n → length ws ≡ 6144 → InUse n ws k
used n {k} ws e l = let within : k ≤ 6144 = omega (arith, extent_most n) in
    record { is = e; within = within; as_long = sym (length-take-le k ws (omega (arith, within))) }

pub some_in_use : (n : ℕ) {k : ℕ} (ws : List ℕ) → Some k ≡ pool_extent n → length ws ≡ 6144 → InUse n ws k
some_in_use n ws h l = used n ws (extent_is n h).1 l

pub in_use : (n : ℕ) {o : Option ℕ} {k : ℕ} (ws : List ℕ) → o ≡ pool_extent n → k ≡ unwrap_or o 0 → length ws ≡ 6144 → InUse n ws k
in_use n {o = Some m} ws h e l = used n ws (e ∙ (extent_is n h).1) l
in_use n {o = None} ws h e l = used n ws (e ∙ sym (extent_none n (no_extent n h))) l

pub counted_in : (ws : List ℕ) (n : ℕ) → length ws ≡ 6144 → sized n ≡ true → Counted (take (extent_of n) ws) n
counted_in ws n l e =
    let b = sized_bounds n e in
    record {
      words = length-take-le (extent_of n) ws (omega (arith, extent_most n)) ∙ extent_sized n e;
      some = b.0;
      most = b.1;
    }

no_words : (n : ℕ) → Counted [] n → ⊥
no_words n c = omega (arith, c.words)

pub none_in : (ws : List ℕ) (n : ℕ) → sized n ≡ false → NoPool (take (extent_of n) ws)
none_in ws n e m c = no_words m (rw (extent_none n e) at c)

-- something is held
pub state_likely : (ws : List ℕ) (n : ℕ) {G : Type 0} → length ws ≡ 6144 → ((s : State) → Keeps ws n s → G) → Likely G
unfolding Keeps
state_likely ws n {G} l go h =
    by_test (sized n)
    (λ e.
    h
    (go (damaged n)
    (refl, e, λ wf. h (let q = well_at (take (extent_of n) ws) n (counted_in ws n l e) wf in go (holding n q.0) (refl, q.1)))))
    (λ e. h (go nothing e))

-- ---- what is held afterwards

-- after a line a pool stands, or what was held is held
or_kept : (n : ℕ) (o : Option Pool) (s : State) {P : Type 0} → ((m : ℕ) (p : Pool) → now_holding n o s ≡ holding m p → P)
    → (now_holding n o s ≡ s → P) → P
unfolding now_holding
or_kept n (Some p) s a b = a n p refl
or_kept n None s a b = b refl

pub settled : (w : Option Wanted) (s : State) {P : Type 0} → ((m : ℕ) (p : Pool) → leaves w s ≡ holding m p → P) → (leaves w s ≡ s → P) → P
unfolding leaves left_by
settled None s a b = b refl
settled (Some (pooling n)) s a b =
    by_test (sized n)
    (λ e. or_kept n (Pool.build n []) s (λ m p f. a m p (rw (left_by, e) f)) (λ f. b (rw (left_by, e) f)))
    (λ e. b (rw (left_by, e) refl))
settled (Some (loading len ws)) nothing a b = b refl
settled (Some (loading len ws)) (holding n p) a b = or_kept n _ (holding n p) a b
settled (Some (loading len ws)) (damaged n) a b = or_kept n _ (damaged n) a b
settled (Some (ordering o)) nothing a b = b refl
settled (Some (ordering o)) (holding n p) a b = a n _ refl
settled (Some (ordering o)) (damaged n) a b = b refl
settled (Some dumping) s a b = b refl

-- ---- the words afterwards

module _ (ws vs : List ℕ) (k : ℕ) (h : length vs ≡ k) where
  taken_back : take k (vs ++ drop k ws) ≡ vs
  taken_back = take_at vs (drop k ws) k h

  dropped_back : drop k (vs ++ drop k ws) ≡ drop k ws
  dropped_back = drop_at vs (drop k ws) k h

pub untouched : (ws vs : List ℕ) (k : ℕ) → vs ≡ take k ws → vs ++ drop k ws ≡ ws
untouched ws vs k e = ap (λ (us : List ℕ). us ++ drop k ws) e ∙ take-append-drop k ws

abbrev kind : State → ℕ
kind nothing = 0
kind (holding n p) = 1
kind (damaged n) = 2

abbrev held : State → Pool → Pool
held nothing q = q
held (holding n p) q = p
held (damaged n) q = q

abbrev number_held : State → ℕ
number_held nothing = 0
number_held (holding n p) = n
number_held (damaged n) = n

-- a line that leaves what is held leaves every word
pub refused : (w : Wanted) (s : State) (ws : List ℕ) (n : ℕ) (r : Answer) (ws' : List ℕ) → Keeps ws n s → r ≡ answered w s → left_by w s ≡ s
    → ws' ≡ ws → Did w s ws n r n ws'
refused w s ws n r ws' h a e u = record {
  answer = a;
  holds = rw (u, e) h;
  past = ap (drop (extent_of n)) u;
  same = λ _. (refl, u);
}

still : (s : State) (ws vs : List ℕ) (n m : ℕ) (q : Pool) → Keeps ws n s → holding m q ≡ s → Stands vs m q
    → (m ≡ n) × (vs ++ drop (extent_of m) ws ≡ ws)
unfolding Keeps
still nothing ws vs n m q h f st = absurd (let k = ap kind f in omega arith)
still (holding k p) ws vs n m q h f st =
    let e : m ≡ n = ap number_held f ∙ h.0 in
    let w : vs ≡ take (extent_of n) ws = one_layout vs (take (extent_of n) ws) n p (rw (e, ap (λ (s : State). held s q) f) at st) h.1 in
    (e, untouched ws vs (extent_of m) (w ∙ ap (λ (k : ℕ). take (extent_of k) ws) (sym e)))
still (damaged k) ws vs n m q h f st = absurd (let k = ap kind f in omega arith)

-- a line after which a pool stands
pub taken : (w : Wanted) (s : State) (ws : List ℕ) (n : ℕ) (r : Answer) (m : ℕ) (vs : List ℕ) (q : Pool) → Keeps ws n s → r ≡ answered w s
    → left_by w s ≡ holding m q → Stands vs m q
    → Did w s ws n r m (vs ++ drop (extent_of m) ws)
unfolding Keeps
taken w s ws n r m vs q h a e st =
    let z : sized m ≡ true = bounds_sized m st.counted.some st.counted.most in
    let l : length vs ≡ extent_of m = st.counted.words ∙ sym (extent_sized m z) in
    record {
      answer = a;
      holds = rw e (refl, rw (taken_back ws vs (extent_of m) l) st);
      past = dropped_back ws vs (extent_of m) l;
      same = λ f. still s ws vs n m q h (sym e ∙ f) st;
    }

-- ---- a load

load_made : (s : State) (ws : List ℕ) (n len : ℕ) (words : List ℕ) (r : Answer) (vs : List ℕ) → Keeps ws n s → Counted (take (extent_of n) ws) n
    → answered (loading len words) s ≡ load_answer n len words → left_by (loading len words) s ≡ now_holding n (loaded n len words) s
    → BuildsTo (take (extent_of n) ws) words len r vs → Did (loading len words) s ws n r n (vs ++ drop (extent_of n) ws)
unfolding load_answer loaded now_holding
load_made s ws n len words r vs h c a g b =
    by_leb len (64 * length words)
    (λ t m.
    made m
    (a ∙ rw (load_answer, t) refl)
    (g ∙ rw (loaded, t) refl)
    (Pool.build n (take len (marks_of words))) refl)
    (λ t m.
    let x = b.too_long n c m in
    refused (loading len words) s ws n r (vs ++ drop (extent_of n) ws) h (x.0 ∙ sym (a ∙ rw (load_answer, t) refl)) (g ∙ rw (loaded, t) refl)
    (untouched ws vs (extent_of n) x.1))
  where
    made : len ≤ 64 * length words → answered (loading len words) s ≡ built len (Pool.build n (take len (marks_of words)))
        → left_by (loading len words) s ≡ now_holding n (Pool.build n (take len (marks_of words))) s
        → (o : Option Pool) → Pool.build n (take len (marks_of words)) ≡ o → Did (loading len words) s ws n r n (vs ++ drop (extent_of n) ws)
    made m a g None e =
        let x = b.full n c m e in
        refused (loading len words) s ws n r (vs ++ drop (extent_of n) ws) h (x.0 ∙ sym (a ∙ ap (built len) e))
        (g ∙ ap (λ (o : Option Pool). now_holding n o s) e) (untouched ws vs (extent_of n) x.1)
    made m a g (Some q) e =
        let x = b.built n q c m e in
        taken (loading len words) s ws n r n vs q h (x.0 ∙ sym (a ∙ ap (built len) e)) (g ∙ ap (λ (o : Option Pool). now_holding n o s) e) x.1

pub load_did : (s : State) (ws : List ℕ) (n len : ℕ) (words : List ℕ) (r : Answer) (vs : List ℕ) → length ws ≡ 6144 → Keeps ws n s
    → BuildsTo (take (extent_of n) ws) words len r vs → Did (loading len words) s ws n r n (vs ++ drop (extent_of n) ws)
unfolding Keeps answered left_by
load_did nothing ws n len words r vs l h b =
    let x = b.no_pool (none_in ws n h) in
    refused (loading len words) nothing ws n r (vs ++ drop (extent_of n) ws) h x.0 refl (untouched ws vs (extent_of n) x.1)
load_did (holding m p) ws n len words r vs l h b =
    load_made (holding m p) ws n len words r vs h h.1.counted (ap (λ (k : ℕ). load_answer k len words) h.0)
    (ap (λ (k : ℕ). now_holding k (loaded k len words) (holding m p)) h.0) b
load_did (damaged m) ws n len words r vs l h b =
    load_made (damaged m) ws n len words r vs h (counted_in ws n l h.1) (ap (λ (k : ℕ). load_answer k len words) h.0)
    (ap (λ (k : ℕ). now_holding k (loaded k len words) (damaged m)) h.0) b

-- ---- a pool

empty_made : (n : ℕ) → 1 ≤ n → (q : Pool) × (Pool.build n [] ≡ Some q)
unfolding Pool.build nodes_for leaf_count
empty_made n h = by_leb 1 n (λ e g. (record { tree = build []; free = Pool.numbers_from 1 (n - 1) }, rw (Pool.build, e) refl))
    (λ e g. absurd (omega arith))

pub pool_did : (s : State) (ws : List ℕ) (n m : ℕ) (r : Answer) (vs : List ℕ) → length ws ≡ 6144 → Keeps ws n s → sized m ≡ true
    → BuildsTo (take (extent_of m) ws) [] 0 r vs → Did (pooling m) s ws n (Ok m) m (vs ++ drop (extent_of m) ws)
unfolding answered left_by now_holding marks_of
pool_did s ws n m r vs l h z b =
    let q = empty_made m (sized_bounds m z).0 in
    let x = b.built m q.0 (counted_in ws m l z) (omega arith) q.1 in
    taken (pooling m) s ws n (Ok m) m vs q.0 h (rw (answered, z) refl) (rw (left_by, z) (ap (λ (o : Option Pool). now_holding m o s) q.1))
    x.1

pub pool_refused : (s : State) (ws : List ℕ) (n m : ℕ) → Keeps ws n s → sized m ≡ false → Did (pooling m) s ws n (Err WrongSize) n ws
unfolding answered left_by
pool_refused s ws n m h z = refused (pooling m) s ws n (Err WrongSize) ws h (rw (answered, z) refl) (rw (left_by, z) refl) refl

-- ---- an order

-- an order that was served tells its answer in two words, and a refusal of the run is the answer
pub record Ordered (o : Asked) (s : State) (ws : List ℕ) (n : ℕ) (r : Answer) (ws' out' : List ℕ) : Type 0 where
  pub reply : Answer
  pub did : Did (ordering o) s ws n reply n ws'
  pub refusal : {x : Refusal} → r ≡ Err x → Err x ≡ reply
  pub words : {v : ℕ} → r ≡ Ok v → (get_or out' 0 0 ≡ code reply) × (get_or out' 1 0 ≡ value reply)

-- no answer is both
never_both : {v : ℕ} {x : Refusal} {A : Type 0} (r : Answer) → r ≡ Ok v → r ≡ Err x → A
never_both {v = v} {x = x} r e f = absurd (let never : Ok v ≡ Err x = sym e ∙ f in let z : ◌≡◌ {A = ℕ} 0 1 = cc in omega arith)

order_refused : (o : Asked) (s : State) (ws : List ℕ) (n : ℕ) (r : Answer) (y : Refusal) (ws' out' : List ℕ) → r ≡ Err y
    → Did (ordering o) s ws n (Err y) n ws' → Ordered o s ws n r ws' out'
order_refused o s ws n r y ws' out' e d = record {
  reply = Err y;
  did = d;
  refusal = λ f. sym f ∙ e;
  words = λ f. never_both r f e;
}

pub order_did : (s : State) (ws : List ℕ) (n a b c : ℕ) (out : List ℕ) (r : Answer) (vs out' : List ℕ) → length ws ≡ 6144 → length out ≡ 2
    → Keeps ws n s
    → Ran (take (extent_of n) ws) (a ∷ b ∷ c ∷ []) out r vs out' → Ordered (asks a b c) s ws n r (vs ++ drop (extent_of n) ws) out'
unfolding Keeps answered left_by code value answers after_all orders_of answer_words
order_did nothing ws n a b c out r vs out' l k h d =
    let x = d.no_pool (none_in ws n h) in
    order_refused (asks a b c) nothing ws n r WrongSize _ out' x.0
    (refused (ordering (asks a b c)) nothing ws n (Err WrongSize) (vs ++ drop (extent_of n) ws) h refl refl (untouched ws vs (extent_of n) x.1.pool))
order_did (holding m p) ws n a b c out r vs out' l k h d =
    let x = d.served n p h.1 refl (omega (arith, k)) in
    record {
      reply = answer (asks a b c) p;
      did = taken (ordering (asks a b c)) (holding m p) ws n (answer (asks a b c) p) n vs (after (asks a b c) p) h refl
          (ap (λ (k : ℕ). holding k (after (asks a b c) p)) h.0) x.1;
      refusal = λ f. never_both r x.0 f;
      words = λ _. (ap (λ (us : List ℕ). get_or us 0 0) x.2, ap (λ (us : List ℕ). get_or us 1 0) x.2);
    }
order_did (damaged m) ws n a b c out r vs out' l k h d =
    let x = d.damaged (record { count = (n, counted_in ws n l h.1); none = h.2 }) refl (omega (arith, k)) in
    order_refused (asks a b c) (damaged m) ws n r NotSound _ out' x.0
    (refused (ordering (asks a b c)) (damaged m) ws n (Err NotSound) (vs ++ drop (extent_of n) ws) h refl refl
    (untouched ws vs (extent_of n) x.1.pool))

-- ---- a dump

-- a leaf holds at most 127 marks
most_size : (least : ℕ) (t : Tree) → Sized least t → size t ≤ 127 * leaf_total t
unfolding leaf_total size
most_size least (leaf n xs) z = omega (arith, z.1)
most_size least (fork n l r) z = omega (arith, most_size 33 l z.0, most_size least r z.1)

-- so the marks of a pool of 1,023 nodes fit in 1,016 words
pub dump_words : (n : ℕ) (p : Pool) → n ≤ most_nodes → Sound n p → words_for (size p.tree) ≤ 1016
unfolding words_for
dump_words n p h s =
    let a = most_size 0 p.tree (whole_sized p.tree s.whole) in
    omega (arith, a, node_total p.tree, sound_nodes n p s)

pub record Dumped (s : State) (ws : List ℕ) (n : ℕ) (checked valued : Answer) (words' : List ℕ) : Type 0 where
  pub did : Did dumping s ws n checked n ws
  pub count : value valued ≤ 1016
  pub words : take (value valued) words' ≡ shown dumping s

pub dump_did : (s : State) (ws : List ℕ) (n : ℕ) (checked valued : Answer) (words words' : List ℕ) → length ws ≡ 6144 → 1024 ≤ length words
    → Keeps ws n s
    → Checked (take (extent_of n) ws) checked → Valued (take (extent_of n) ws) words valued words' → Dumped s ws n checked valued words'
unfolding Keeps answered left_by shown value
dump_did nothing ws n checked valued words words' l k h c v =
    let e = ap value (v.no_pool (none_in ws n h)).0 in
    record {
      did = refused dumping nothing ws n checked ws h (c.no_pool (none_in ws n h)) refl refl;
      count = omega (arith, e);
      words = ap (λ (i : ℕ). take i words') e;
    }
dump_did (holding m p) ws n checked valued words words' l k h c v =
    let few = dump_words n p h.1.counted.most h.1.sound in
    let x = v.written n p h.1 (omega (arith, few)) in
    let e = ap value x.0 in
    record {
      did = refused dumping (holding m p) ws n checked ws h (c.sound n p h.1) refl refl;
      count = omega (arith, e, few);
      words = ap₂ take e x.1 ∙ take_at (words_of (words_for (size p.tree)) (marks p.tree)) _ (words_for (size p.tree))
          (words_length (words_for (size p.tree)) (marks p.tree));
    }
dump_did (damaged m) ws n checked valued words words' l k h c v =
    let d : Damaged (take (extent_of n) ws) = record { count = (n, counted_in ws n l h.1); none = h.2 } in
    let e = ap value (v.damaged d).0 in
    record {
      did = refused dumping (damaged m) ws n checked ws h (c.damaged d) refl refl;
      count = omega (arith, e);
      words = ap (λ (i : ℕ). take i words') e;
    }
