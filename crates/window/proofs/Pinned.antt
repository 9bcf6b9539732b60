-- Every public contract determines its answer, and the words that the call leaves: two that it allows for the same words are equal. Each law
-- speaks of the contract as the check reads it off the source.
--
-- A contract has a case for each thing that the words can be: no pool's, a damaged pool's, or a pool that stands. That one of them is the case
-- is known doubly negated, which is enough, as answers and words can be compared.
use Prim.Native.Nat.{ℕ, ◌*◌, ◌≤◌}
use native.Mathlib.Omega.{arith}
use mathlib.Core.Path.{◌≡◌, refl, sym, ap, ap₂, ◌∙◌}
use mathlib.Core.List.{List, [], ◌∷◌, ◌++◌}
use Rattle.std.specs.Prelude.{Option, None, Some, Result, Ok, Err}
use lib.ListN.{length, take, drop, get_or, take-append-drop}
use Rattle.model.specs.Contract.{Pinned}
use Rattle.model.specs.Pool as Pool
use Rattle.model.specs.Pool.{Pool}
use Rattle.model.specs.Tree.{size}
use Rattle.model.specs.Word.{marks_of, words_for}
use Rattle.model.proofs.Cases.{by_ltb}
use Rattle.build.proofs.OnePool.{laid_one}
use Rattle.order.specs.Answer.{Answer, code, value}
use Rattle.window.specs.Calls.{NoPool, Damaged, Checked, BuildsTo, Judges, Measures, Valued}
use Rattle.window.specs.Layout.{Counted, Stands}
use Rattle.order.specs.declared.answer.Refusal.{Refusal}
use Rattle.order.specs.declared.answer.Refusal.TheVariants.{OutOfRange, NoZeroth, TooFew, Full, Malformed, WrongSize, NotSound, ShortOutput, PartOrder, TooLong, LeafLacks}
use Rattle.window.specs.declared.trailer.Trailer.{Trailer}
use Rattle.window.proofs.OneState.{counted_one}
use Rattle.window.proofs.calls.build.Reads as build
use Rattle.window.proofs.calls.check.Reads as check
use Rattle.window.proofs.calls.judged.Reads as judged
use Rattle.window.proofs.calls.nodes_of.Reads as nodes_of
use Rattle.window.proofs.calls.values.Reads as values
use Rattle.window.proofs.trailer.set_trailer.Reads as set_trailer
use Rattle.window.proofs.trailer.trailer_of.Reads as trailer_of

-- ---- answers and words can be compared

-- the answer of a number and a value
answer_of : ℕ → ℕ → Answer
answer_of n v =
    get_or (Ok v ∷ Err OutOfRange ∷ Err NoZeroth ∷ Err TooFew ∷ Err Full ∷ Err Malformed ∷ Err WrongSize ∷ Err NotSound ∷ Err ShortOutput
    ∷ Err PartOrder ∷ Err TooLong ∷ []) n (Err LeafLacks)

answer_is : (a : Answer) → answer_of (code a) (value a) ≡ a
unfolding answer_of code value
answer_is (Ok v) = refl
answer_is (Err OutOfRange) = refl
answer_is (Err NoZeroth) = refl
answer_is (Err TooFew) = refl
answer_is (Err Full) = refl
answer_is (Err Malformed) = refl
answer_is (Err WrongSize) = refl
answer_is (Err NotSound) = refl
answer_is (Err ShortOutput) = refl
answer_is (Err PartOrder) = refl
answer_is (Err TooLong) = refl
answer_is (Err LeafLacks) = refl

-- an answer is told by its number and its value
pub one_answer : (a b : Answer) → code a ≡ code b → value a ≡ value b → a ≡ b
one_answer a b c v = sym (answer_is a) ∙ ap₂ answer_of c v ∙ answer_is b

-- what cannot be refuted
abbrev pub Likely : Type 0 → Type 0
Likely P = (P → ⊥) → ⊥

pub number_stable : (m n : ℕ) → Likely (m ≡ n) → m ≡ n
number_stable m n h =
    by_ltb m n (λ _ l. absurd (h (λ e. omega arith))) (λ _ l. by_ltb n m (λ _ k. absurd (h (λ e. omega arith))) (λ _ k. omega arith))

pub answer_stable : (a b : Answer) → Likely (a ≡ b) → a ≡ b
answer_stable a b h =
    one_answer a b (number_stable (code a) (code b) (λ n. h (λ e. n (ap code e)))) (number_stable (value a) (value b) (λ n. h (λ e. n (ap value e))))

pub words_stable : (ws vs : List ℕ) → Likely (ws ≡ vs) → ws ≡ vs
words_stable [] [] h = refl
words_stable [] (v ∷ vs) h = absurd (h (λ e. let l = ap length e in omega arith))
words_stable (w ∷ ws) [] h = absurd (h (λ e. let l = ap length e in omega arith))
words_stable (w ∷ ws) (v ∷ vs) h =
    ap₂ ◌∷◌ (number_stable w v (λ n. h (λ e. n (ap (λ (xs : List ℕ). get_or xs 0 0) e)))) (words_stable ws vs (λ n. h (λ e. n (ap (drop 1) e))))

-- the same answer, and the same words
abbrev Same : Answer → List ℕ → Answer → List ℕ → Type 0
Same a ws b vs = (a ≡ b) × (ws ≡ vs)

same_stable : (a b : Answer) (ws vs : List ℕ) → Likely (Same a ws b vs) → Same a ws b vs
same_stable a b ws vs h = (answer_stable a b (λ n. h (λ e. n e.0)), words_stable ws vs (λ n. h (λ e. n e.1)))

both : {a b c : Answer} {us vs ws : List ℕ} → Same a us c ws → Same b vs c ws → Same a us b vs
both p q = (p.0 ∙ sym q.0, p.1 ∙ sym q.1)

-- ---- what words can be

pub sized : (ws : List ℕ) {G : Type 0} → (NoPool ws → G) → ((n : ℕ) → Counted ws n → G) → Likely G
sized ws absent there h = h (absent (λ n c. h (there n c)))

pub cases : (ws : List ℕ) {G : Type 0} → (NoPool ws → G) → (Damaged ws → G) → ((n : ℕ) (p : Pool) → Stands ws n p → G) → Likely G
cases ws absent damaged stands h =
    h (absent (λ n c. h (damaged (record { count = (n, c); none = λ x. h (stands x.0 x.1 x.2) }))))

-- a pool stands in one list of words only
pub one_layout : (ws vs : List ℕ) (n : ℕ) (p : Pool) → Stands ws n p → Stands vs n p → ws ≡ vs
one_layout ws vs n p s t =
    sym (take-append-drop (n * 6) ws) ∙ ap₂ ◌++◌ (laid_one s.nodes t.nodes s.sound.each) (s.trailer ∙ sym t.trailer)
    ∙ take-append-drop (n * 6) vs

-- ---- the calls

pub checked_one : (ws : List ℕ) (a b : Answer) → Checked ws a → Checked ws b → a ≡ b
checked_one ws a b p q =
    answer_stable a b
    (cases ws (λ d. p.no_pool d ∙ sym (q.no_pool d)) (λ d. p.damaged d ∙ sym (q.damaged d)) (λ n s t. p.sound n s t ∙ sym (q.sound n s t)))

pub valued_one : (ws out : List ℕ) (a b : Answer) (o u : List ℕ) → Valued ws out a o → Valued ws out b u → Same a o b u
valued_one ws out a b o u p q =
    same_stable a b o u
    (cases ws (λ d. both (p.no_pool d) (q.no_pool d)) (λ d. both (p.damaged d) (q.damaged d))
    (λ n s t.
    by_ltb (length out) (words_for (size s.tree)) (λ _ h. both (p.short n s t h) (q.short n s t h))
    (λ _ h. both (p.written n s t h) (q.written n s t h))))

pub builds_one : (ws words : List ℕ) (len : ℕ) (a b : Answer) (vs us : List ℕ) → BuildsTo ws words len a vs → BuildsTo ws words len b us
    → Same a vs b us
builds_one ws words len a b vs us p q =
    same_stable a b vs us
    (sized ws (λ d. both (p.no_pool d) (q.no_pool d))
    (λ n c.
    by_ltb (64 * length words) len (λ _ h. both (p.too_long n c h) (q.too_long n c h))
    (λ _ h. made n c h (Pool.build n (take len (marks_of words))) refl)))
  where
    made : (n : ℕ) → Counted ws n → len ≤ 64 * length words → (o : Option Pool) → Pool.build n (take len (marks_of words)) ≡ o → Same a vs b us
    made n c h None e = both (p.full n c h e) (q.full n c h e)
    made n c h (Some s) e =
        let x = p.built n s c h e in
        let y = q.built n s c h e in
        (x.0 ∙ sym y.0, one_layout vs us n s x.1 y.1)

-- how many nodes there are
measured_one : (ws : List ℕ) (a b : Result ℕ Refusal) → Measures ws a → Measures ws b → a ≡ b
measured_one ws (Ok m) (Ok n) p q = ap Ok (counted_one ws m n p q)
measured_one ws (Ok m) (Err e) p q = absurd (q.1 m p)
measured_one ws (Err d) (Ok n) p q = absurd (p.1 n q)
measured_one ws (Err d) (Err e) p q = ap Err (p.0 ∙ sym q.0)

judged_one : (ws : List ℕ) (n : ℕ) (a b : Result Trailer Refusal) → Judges ws n a → Judges ws n b → a ≡ b
judged_one ws n (Ok t) (Ok u) p q = ap Ok (p.2 ∙ sym q.2)
judged_one ws n (Ok t) (Err e) p q = absurd (q.1 (n, p.0, p.1))
judged_one ws n (Err d) (Ok u) p q = absurd (p.1 (n, q.0, q.1))
judged_one ws n (Err d) (Err e) p q = ap Err (p.0 ∙ sym q.0)

-- ---- as the source has them

pub nodes_of_pinned : Pinned nodes_of.Post
nodes_of_pinned κs a r r' w w' p q = measured_one _ r r' p q

pub judged_pinned : Pinned judged.Post
judged_pinned κs a r r' w w' p q = judged_one _ _ r r' p q

pub trailer_of_pinned : Pinned trailer_of.Post
trailer_of_pinned κs a r r' w w' p q = p ∙ sym q

pub set_trailer_pinned : (κs : _) (a : _) (r r' : _) (w w' : _) → set_trailer.Post κs a r w → set_trailer.Post κs a r' w'
    → w.0.now ≡ w'.0.now
set_trailer_pinned κs a r r' w w' p q = p ∙ sym q

pub check_pinned : Pinned check.Post
check_pinned κs a r r' w w' p q = checked_one _ r r' p q

pub build_pinned : (κs : _) (a : _) (r r' : _) (w w' : _) → build.Post κs a r w → build.Post κs a r' w' → (r ≡ r') × (w.0.now ≡ w'.0.now)
build_pinned κs a r r' w w' p q = builds_one _ _ _ r r' _ _ p q

pub values_pinned : (κs : _) (a : _) (r r' : _) (w w' : _) → values.Post κs a r w → values.Post κs a r' w'
    → (r ≡ r') × (w.1.0.now ≡ w'.1.0.now)
values_pinned κs a r r' w w' p q = valued_one _ _ r r' _ _ p q
