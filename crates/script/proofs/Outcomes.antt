-- What was done, and how it was told, makes what was played; and what a line was read as is what it asks for.
use Prim.Native.Nat.{ℕ, ◌≤◌}
use native.Mathlib.Omega.{arith}
use mathlib.Core.Path.{◌≡◌, refl, ap, ap₂, ◌∙◌}
use mathlib.Core.List.{List, [], ◌∷◌, ◌++◌}
use Rattle.std.specs.Prelude.{None, Some, Ok, Err}
use Rattle.std.specs.Result.{result_unwrap_or}
use lib.ListN.{length, take, drop, get_or}
use Rattle.model.proofs.Cases.{by_leb}
use Rattle.model.specs.Word.{digit}
use Rattle.order.specs.Answer.{Answer, InWords, code, value}
use Rattle.order.specs.declared.answer.TwoWords.{TwoWords}
use Rattle.order.specs.declared.answer.Refusal.{Refusal}
use Rattle.run.specs.Runs.{Ran}
use Rattle.window.specs.Calls.{Checked, Valued}
use Rattle.order.specs.Asked.{Asked, Writes, asked_of, asks, words_of}
use Rattle.order.specs.declared.asked.Order.{Order}
use Rattle.order.specs.declared.asked.Order.TheVariants.{Insert, Remove, Access, Rank, Select, Quiet}
use Rattle.order.proofs.Asking.{words_ask}
use Rattle.order.specs.declared.answer.Refusal.TheVariants.{Malformed}
use Rattle.window.proofs.Pinned.{cases}
use Rattle.grammar.specs.Lines.{Reads, Wanted, dumping, loading, ordering, pooling, wanted}
use Rattle.grammar.specs.declared.reading.Line.TheVariants.{Pool as Line_as_Pool, Load as Line_as_Load, Order as Line_as_Order, Dump as Line_as_Dump}
use Rattle.grammar.specs.declared.reading.Load.{Load}
use Rattle.text.specs.Text.{over}
use Rattle.script.specs.Prints.{State, answered, leaves, line_text, says, shown}
use Rattle.script.specs.Playing.{desk, extent_of, Keeps, Played, Plays}
use Rattle.script.proofs.Effects.{Did, Ordered, dump_did, dump_words, order_did}

-- an answer's two words, told, tell the answer
pub told : (r : Answer) (vs out : List ℕ) {end : ℕ} {bytes : List ℕ} (t : TwoWords) → InWords r t → end ≡ length (line_text t.code t.value vs)
    → bytes ≡ over 0 (line_text t.code t.value vs) out
    → (end ≡ length (line_text (code r) (value r) vs)) × (bytes ≡ over 0 (line_text (code r) (value r) vs) out)
told r vs out t w e b = rw (← w.0, ← w.1) (e, b)

-- what was done, and told with the words that are shown, was played
pub played : (w : Wanted) (s : State) (ws : List ℕ) (n : ℕ) (out : List ℕ) (r : Answer) (vs : List ℕ) (n' end : ℕ) (ws' out' : List ℕ)
    → Did w s ws n r n' ws' → vs ≡ shown w s
    → (end ≡ length (line_text (code r) (value r) vs)) × (out' ≡ over 0 (line_text (code r) (value r) vs) out)
    → Played (Some w) s (desk ws n out) (desk ws' n' out') end
unfolding says leaves
played w s ws n out r vs n' end ws' out' d e t =
    let same_text : line_text (code r) (value r) vs ≡ line_text (code (answered w s)) (value (answered w s)) (shown w s) =
    ap₂ (λ (a : Answer) (us : List ℕ). line_text (code a) (value a) us) d.answer e in
    record {
      written = t.1 ∙ ap (λ (ts : List ℕ). over 0 ts out) same_text;
      end_is = t.0 ∙ ap length same_text;
      keeps = d.holds;
      past = d.past;
      same = d.same;
    }

-- a malformed line
pub malformed_played : (s : State) (ws : List ℕ) (n : ℕ) (out : List ℕ) (end : ℕ) (out' : List ℕ) → Keeps ws n s
    → (end ≡ length (line_text (code (Err Malformed)) (value (Err Malformed)) []))
    × (out' ≡ over 0 (line_text (code (Err Malformed)) (value (Err Malformed)) []) out)
    → Played None s (desk ws n out) (desk ws n out') end
unfolding says leaves
malformed_played s ws n out end out' h t = record { written = t.1; end_is = t.0; keeps = h; past = refl; same = λ _. (refl, refl) }

-- only a dump shows words
pub pool_shows : (n : ℕ) (s : State) → [] ≡ shown (pooling n) s
unfolding shown
pool_shows n s = refl

pub load_shows : (len : ℕ) (ws : List ℕ) (s : State) → [] ≡ shown (loading len ws) s
unfolding shown
load_shows len ws s = refl

pub order_shows : (o : Asked) (s : State) → [] ≡ shown (ordering o) s
unfolding shown
order_shows o s = refl

-- an order that was answered, and told by a number and a value
pub order_played : (o : Asked) (s : State) (ws : List ℕ) (n : ℕ) (out : List ℕ) (r : Answer) (ws' words' : List ℕ) (c v end : ℕ) (out' : List ℕ)
    (x : Ordered o s ws n r ws' words')
    → c ≡ code x.reply → v ≡ value x.reply → (end ≡ length (line_text c v [])) × (out' ≡ over 0 (line_text c v []) out)
    → Played (Some (ordering o)) s (desk ws n out) (desk ws' n out') end
order_played o s ws n out r ws' words' c v end out' x e f t =
    let same_text = ap₂ (λ (a b : ℕ). line_text a b []) e f in
    played (ordering o) s ws n out x.reply [] n end ws' out' x.did (order_shows o s)
    (t.0 ∙ ap length same_text, t.1 ∙ ap (λ (ts : List ℕ). over 0 ts out) same_text)

-- the three words of an order, and what they ask
three : (o : Order) → (a : ℕ) × (b : ℕ) × (c : ℕ) × (words_of o ≡ a ∷ b ∷ c ∷ []) × (asks a b c ≡ asked_of o)
three (Insert i b) = (1, i, digit b, refl, words_ask (Insert i b))
three (Remove i) = (2, i, 0, refl, words_ask (Remove i))
three (Access i) = (3, i, 0, refl, words_ask (Access i))
three (Rank end b) = (4, end, digit b, refl, words_ask (Rank end b))
three (Select k b) = (5, k, digit b, refl, words_ask (Select k b))
three Quiet = (6, 0, 0, refl, words_ask Quiet)

-- an order that was run on the pool in use
module _ (ws : List ℕ) (n : ℕ) (out : List ℕ) (o : Order) (list was : List ℕ) (r : Answer) (vs out' : List ℕ) {k : ℕ} (used : k ≡ extent_of n)
    (whole : length ws ≡ 6144) (two : length was ≡ 2) (written : Writes o list) (ran : Ran (take k ws) list was r vs out') (s : State)
    (held : Keeps ws n s) where
  ordered : Ordered (asked_of o) s ws n r (vs ++ drop k ws) out'
  ordered =
      let t = three o in
      rw (used, ← t.4) (order_did s ws n t.0 t.1 t.2 was r vs out' whole two held (rw (used, written ∙ t.3) at ran))

  -- it was served, and its two words are told
  pub served_played : {v : ℕ} → r ≡ Ok v → (end : ℕ) (bytes : List ℕ)
      → (end ≡ length (line_text (get_or out' 0 0) (get_or out' 1 0) [])) × (bytes ≡ over 0 (line_text (get_or out' 0 0) (get_or out' 1 0) []) out)
      → Played (Some (ordering (asked_of o))) s (desk ws n out) (desk (vs ++ drop k ws) n bytes) end
  served_played e end bytes told =
      let u = ordered.words e in order_played (asked_of o) s ws n out r (vs ++ drop k ws) out' _ _ end bytes ordered u.0 u.1 told

  -- it was not, and the refusal is told
  pub refused_played : {x : Refusal} → r ≡ Err x → (t : TwoWords) → InWords (Err x) t → (end : ℕ) (bytes : List ℕ)
      → (end ≡ length (line_text t.code t.value [])) × (bytes ≡ over 0 (line_text t.code t.value []) out)
      → Played (Some (ordering (asked_of o))) s (desk ws n out) (desk (vs ++ drop k ws) n bytes) end
  refused_played e t words end bytes told =
      let u = ordered.refusal e in
      order_played (asked_of o) s ws n out r (vs ++ drop k ws) out' t.code t.value end bytes ordered (words.0 ∙ ap code u) (words.1 ∙ ap value u) told

-- the words of a dump are few, whatever the pool holds
pub valued_few : (ws words : List ℕ) (r : Answer) (words' : List ℕ) → 1024 ≤ length words → Valued ws words r words' → value r ≤ 1016
unfolding value
valued_few ws words r words' k v =
    by_leb (value r) 1016
    (λ _ h. h)
    (λ _ h.
    absurd
    (cases ws {G = value r ≤ 1016}
    (λ d. omega (arith, ap value (v.no_pool d).0))
    (λ d. omega (arith, ap value (v.damaged d).0))
    (λ n p st.
    let few = dump_words n p st.counted.most st.sound in
    omega (arith, ap value (v.written n p st (omega (arith, few))).0, few))
    (λ g. omega arith)))

-- a refusal counts as none
pub value_is : (r : Answer) → result_unwrap_or r 0 ≡ value r
unfolding value
value_is (Ok v) = refl
value_is (Err x) = refl

-- a dump of the pool in use
pub dump_played : (ws : List ℕ) (n : ℕ) (out words : List ℕ) (checked valued : Answer) (words' : List ℕ) {k count : ℕ} → k ≡ extent_of n
    → length ws ≡ 6144 → 1024 ≤ length words → Checked (take k ws) checked → Valued (take k ws) words valued words' → count ≡ value valued
    → (t : TwoWords) → InWords checked t → (end : ℕ) (bytes : List ℕ)
    → (end ≡ length (line_text t.code t.value (take count words'))) × (bytes ≡ over 0 (line_text t.code t.value (take count words')) out)
    → Plays (Some dumping) (desk ws n out) (desk ws n bytes) end
dump_played ws n out words checked valued words' {count = count} used whole room c v counted t two end bytes told s h =
    let d = dump_did s ws n checked valued words words' whole room h (rw used at c) (rw used at v) in
    played dumping s ws n out checked (take count words') n end ws bytes d.did (ap (λ (i : ℕ). take i words') counted ∙ d.words)
    (rw (two.0, two.1) at told)

-- ---- what was read

pub pool_read : (bs : List ℕ) (n : ℕ) (ws : List ℕ) → Reads bs (Some (Line_as_Pool n)) ws → wanted bs ≡ Some (pooling n)
unfolding Reads
pool_read bs n ws r = r

pub load_read : (bs : List ℕ) (l : Load) (ws : List ℕ) → Reads bs (Some (Line_as_Load l)) ws
    → (l.count ≤ length ws) × (wanted bs ≡ Some (loading l.length (take l.count ws)))
unfolding Reads
load_read bs l ws r = r

pub order_read : (bs : List ℕ) (o : Order) (ws : List ℕ) → Reads bs (Some (Line_as_Order o)) ws
    → wanted bs ≡ Some (ordering (asked_of o))
unfolding Reads
order_read bs o ws r = r

pub dump_read : (bs ws : List ℕ) → Reads bs (Some Line_as_Dump) ws → wanted bs ≡ Some dumping
unfolding Reads
dump_read bs ws r = r

pub malformed_read : (bs ws : List ℕ) → Reads bs None ws → wanted bs ≡ None
unfolding Reads
malformed_read bs ws r = r
