-- Orders served one after the other: how far it has come, and that the rest from here gives what all give from the start.
use Prim.Native.Nat.{ℕ, zero, suc, ◌+◌, ◌*◌, ◌/◌, ◌≤◌, ◌<◌}
use native.Mathlib.Omega.{arith}
use mathlib.Core.Path.{◌≡◌, refl, sym, ap, ◌∙◌}
use mathlib.Core.List.{List, [], ◌∷◌, ◌++◌, map, append-nil, append_assoc}
use lib.ListN.{length, drop, get_or, get_or-map, set, length-append, length-drop, drop_of_length-le}
use lib.Seq.{drop-cons, set_at}
use Rattle.std.proofs.lemmas.List.{length-map}
use Rattle.std.specs.Simd.{first_chunks}
use Rattle.model.specs.Pool.{Pool}
use Rattle.order.specs.Answer.{Answer, code, value}
use Rattle.window.specs.Layout.{Stands}
use Rattle.order.specs.Asked.{Asked, asked_by, asks}
use Rattle.run.specs.Orders.{orders_of, after, answers, after_all, answer_words, Served}

-- ---- words

-- what is left of a list, by its next word, and by its next two
next : (ws : List ℕ) (j k : ℕ) → k ≡ suc j → j < length ws → drop j ws ≡ get_or ws j 0 ∷ drop k ws
next ws j k e h = rw e (drop-cons ws j 0 h)

next_two : (ws : List ℕ) (j : ℕ) → j + 2 ≤ length ws → drop j ws ≡ get_or ws j 0 ∷ get_or ws (j + 1) 0 ∷ drop (j + 2) ws
next_two ws j h = next ws j (j + 1) (omega arith) (omega arith) ∙ ap (◌∷◌ (get_or ws j 0)) (next ws (j + 1) (j + 2) (omega arith) (omega arith))

-- two stores behind the words that are written
set_two : (xs rest : List ℕ) (a b c d : ℕ) (j : ℕ) → length xs ≡ j → set (set (xs ++ c ∷ d ∷ rest) j a) (j + 1) b ≡ (xs ++ a ∷ b ∷ []) ++ rest
set_two xs rest a b c d j e =
    ap (λ (vs : List ℕ). set vs (j + 1) b) (set_at xs c (d ∷ rest) a j e)
    ∙ ap (λ (vs : List ℕ). set vs (j + 1) b) (sym (append_assoc xs (a ∷ []) (d ∷ rest)))
    ∙ set_at (xs ++ a ∷ []) d rest b (j + 1) (length-append xs (a ∷ []) ∙ omega arith)
    ∙ append_assoc xs (a ∷ []) (b ∷ rest)
    ∙ sym (append_assoc xs (a ∷ b ∷ []) rest)

-- ---- orders

-- the orders that are left, by the next one's words
pub next_order : (orders : List (List ℕ)) (i : ℕ) → i < length orders
    → drop i (map asked_by orders) ≡ asked_by (get_or orders i []) ∷ drop (i + 1) (map asked_by orders)
next_order orders i h =
    let next : suc i ≡ i + 1 = omega arith in
    rw (← next) (drop-cons (map asked_by orders) i (asked_by []) (rw (length-map orders asked_by) h)
    ∙ ap (◌∷ drop (suc i) (map asked_by orders)) (get_or-map asked_by orders i []))

-- words cut by threes are the orders that they are
pub cut_orders : (ws : List ℕ) (k : ℕ) → k ≡ length ws / 3 → map asked_by (first_chunks 3 k ws) ≡ orders_of ws
unfolding orders_of
cut_orders (a ∷ b ∷ c ∷ ws) (suc k) e = ap (◌∷◌ (asks a b c)) (cut_orders ws k (omega (arith, e)))
cut_orders (a ∷ b ∷ c ∷ ws) zero e = absurd (omega (arith, e))
cut_orders (a ∷ b ∷ []) zero e = refl
cut_orders (a ∷ b ∷ []) (suc k) e = absurd (omega (arith, e))
cut_orders (a ∷ []) zero e = refl
cut_orders (a ∷ []) (suc k) e = absurd (omega (arith, e))
cut_orders [] zero e = refl
cut_orders [] (suc k) e = absurd (omega (arith, e))

-- ---- how far it has come

-- i of the orders have been served, from the pool p on
pub record Reached (n : ℕ) (orders : List Asked) (out : List ℕ) (p : Pool) (i : ℕ) (ws' out' : List ℕ) : Type 0 where
  pub pool : Pool
  pub written : List ℕ
  pub stands : Stands ws' n pool
  pub size : length written ≡ i * 2
  pub output : out' ≡ written ++ drop (i * 2) out
  pub leaves : after_all (drop i orders) pool ≡ after_all orders p
  pub writes : written ++ answer_words (answers (drop i orders) pool) ≡ answer_words (answers orders p)

-- at first none
pub reached_none : {n : ℕ} {ws : List ℕ} {p : Pool} (orders : List Asked) (out : List ℕ) → Stands ws n p → Reached n orders out p 0 ws out
reached_none {p = p} orders out s = record { pool = p; written = []; stands = s; size = refl; output = refl; leaves = refl; writes = refl }

module _ {n : ℕ} {orders : List Asked} {out : List ℕ} {p : Pool} {i : ℕ} {ws out' : List ℕ} (r : Reached n orders out p i ws out') where
  -- the output is as long as it was
  pub reached_length : i * 2 ≤ length out → length out' ≡ length out
  reached_length h = ap length r.output ∙ length-append r.written (drop (i * 2) out) ∙ omega (arith, r.size, length-drop (i * 2) out)

  -- one order more, answered in two words
  pub reached_more : {o : Asked} {ws' : List ℕ} {a : Answer} {x y : ℕ} → drop i orders ≡ o ∷ drop (i + 1) orders → i * 2 + 2 ≤ length out
      → Served ws' n o r.pool a → x ≡ code a → y ≡ value a
      → Reached n orders out p (i + 1) ws' (set (set out' (i * 2) x) (i * 2 + 1) y)
  unfolding answers after_all answer_words
  reached_more {o} {x = x} {y = y} rest k s cx cy =
      let two : i * 2 + 2 ≡ (i + 1) * 2 = omega arith in
      record {
        pool = after o r.pool;
        written = r.written ++ x ∷ y ∷ [];
        stands = s.stands;
        size = length-append r.written (x ∷ y ∷ []) ∙ omega (arith, r.size);
        output =
            ap (λ (vs : List ℕ). set (set vs (i * 2) x) (i * 2 + 1) y) (r.output ∙ ap (◌++◌ r.written) (next_two out (i * 2) k))
            ∙ set_two r.written (drop (i * 2 + 2) out) x y _ _ (i * 2) r.size ∙ rw two;
        leaves = rw rest at r.leaves;
        writes = append_assoc r.written (x ∷ y ∷ []) _ ∙ rw (cx, cy, s.answered) (rw rest at r.writes);
      }

  -- all have been served
  pub reached_all : i ≡ length orders → Stands ws n (after_all orders p) × (out' ≡ answer_words (answers orders p) ++ drop (i * 2) out)
  unfolding answers after_all answer_words
  reached_all e =
      let rest : drop i orders ≡ [] = drop_of_length-le orders {i = i} (omega arith) in (
        rw (← (rw rest at r.leaves)) r.stands,
        r.output
            ∙ ap (λ (vs : List ℕ). vs ++ drop (i * 2) out) (sym (append-nil r.written) ∙ rw rest at r.writes),
      )
