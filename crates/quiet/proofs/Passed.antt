-- Marks that have gone by: one after the other they go by as all at once, and the longest quiet of a watch from the start is that of the list.
use Prim.Native.Nat.{ℕ, zero, suc, ◌+◌, ◌-◌, ◌/◌, ◌%◌, ◌^◌, ◌≤◌, ◌<◌, max}
use native.Mathlib.Nat.{add-zero, div-one, max-eq_left, pow-suc}
use native.Mathlib.Numerals.{add-one, one-add}
use native.Mathlib.Omega.{arith}
use mathlib.Core.Path.{◌≡◌, refl, sym, ap, ap₂, ◌∙◌}
use mathlib.Core.Bool.{Bool, true, false}
use mathlib.Core.List.{List, [], ◌∷◌, ◌++◌}
use Rattle.std.specs.Prelude.{Option, None, Some, option_map, unwrap_or}
use lib.Count.{count_trailing_zeros}
use lib.ListN.{length, take, replicate}
use lib.Pow.{pow_pos, shr_le, shr-shr}
use lib.Seq.{take-append-add, take-append-le, take-append_seam}
use Rattle.model.specs.Marks.{greatest, longest_quiet, quiets, quiets_since}
use Rattle.model.specs.Word.{bits, odd}
use Rattle.model.proofs.Cases.{by_ltb}
use Rattle.model.proofs.Words.{bits_add, bits_length, take_bits}
use Rattle.bits.specs.Leaf.{bits_of, leaf_of}
use Rattle.bits.specs.declared.leaf.Leaf.{Leaf}
use Rattle.bits.proofs.Held.{held_bits}
use Rattle.quiet.specs.Watching.{ended, later, passed, start, step, watched}
use Rattle.quiet.specs.declared.longest.Watch.{Watch}

-- ---- lists of marks

pub watched_append : (w : Watch) (xs ys : List Bool) → watched w (xs ++ ys) ≡ watched (watched w xs) ys
unfolding watched
watched_append w [] ys = refl
watched_append w (x ∷ xs) ys = watched_append (step w x) xs ys

-- quiet frames add no more than they are
more_passed : (since : Option ℕ) (n : ℕ) → unwrap_or (option_map (λ since. since + n) since) 0 ≤ unwrap_or since 0 + n
more_passed None n = omega arith
more_passed (Some since) n = omega arith

-- a mark adds at most one quiet frame
step_since : (w : Watch) (b : Bool) → passed (step w b) ≤ passed w + 1
unfolding step
step_since w true = omega arith
step_since w false = more_passed w.since 1

pub watched_since : (w : Watch) (xs : List Bool) → passed (watched w xs) ≤ passed w + length xs
unfolding watched
watched_since w [] = omega arith
watched_since w (x ∷ xs) = omega (arith, watched_since (step w x) xs, step_since w x)

-- ---- the longest quiet

-- after a strike, with so many quiet frames since
longest_after : (since longest : ℕ) (xs : List Bool)
    → (watched (record { since = Some since; longest = longest }) xs).longest ≡ max longest (greatest (quiets_since since xs))
unfolding watched step ended quiets_since greatest
longest_after since longest [] = omega arith
longest_after since longest (true ∷ xs) = omega (arith, longest_after 0 (max longest since) xs)
longest_after since longest (false ∷ xs) = rw (← add-one since) (longest_after (since + 1) longest xs)

-- before the first strike
longest_before : (longest : ℕ) (xs : List Bool)
    → (watched (record { since = None; longest = longest }) xs).longest ≡ max longest (greatest (quiets xs))
unfolding watched step ended quiets greatest
longest_before longest [] = omega arith
longest_before longest (true ∷ xs) = longest_after 0 longest xs
longest_before longest (false ∷ xs) = longest_before longest xs

pub watched_longest : (xs : List Bool) → (watched start xs).longest ≡ longest_quiet xs
unfolding longest_quiet
watched_longest xs = omega (arith, longest_before 0 xs)

-- ---- quiet frames, and strikes with none between them

no_more : (since : Option ℕ) → option_map (λ since. since + 0) since ≡ since
no_more None = refl
no_more (Some since) = ap Some (add-zero since)

one_more : (since : Option ℕ) (n : ℕ)
    → option_map (λ since. since + n) (option_map (λ since. since + 1) since) ≡ option_map (λ since. since + suc n) since
one_more None n = refl
one_more (Some since) n = ap Some (let k : since + 1 + n ≡ since + suc n = omega arith in k)

-- quiet frames go by one after the other
pub watched_quiets : (n : ℕ) (w : Watch) → watched w (replicate n false) ≡ later n w
unfolding watched step
watched_quiets zero w = ap (λ (since : Option ℕ). record { since = since; longest = w.longest }) (sym (no_more w.since))
watched_quiets (suc n) w =
    watched_quiets n (later 1 w) ∙ ap (λ (since : Option ℕ). record { since = since; longest = w.longest }) (one_more w.since n)

-- right after a strike none has passed
pub strike_passed : (w : Watch) → passed (step w true) ≡ 0
unfolding step
strike_passed w = refl

-- a strike right after another changes nothing
strike_again : (w : Watch) → step (step w true) true ≡ step w true
unfolding step ended
strike_again w = rw (max-eq_left {n = ended w.since w.longest} {m = 0} (omega arith))

watched_strikes : (n : ℕ) (w : Watch) → watched (step w true) (replicate n true) ≡ step w true
unfolding watched
watched_strikes zero w = refl
watched_strikes (suc n) w = ap (λ (v : Watch). watched v (replicate n true)) (strike_again w) ∙ watched_strikes n w

-- ---- the marks of a word

by_digit : {P : Type 0} (r : ℕ) → (r % 2 ≡ 0 → P) → (r % 2 ≡ 1 → P) → P
by_digit r p q = by_ltb (r % 2) 1 (λ _ h. p (omega arith)) (λ _ h. q (omega arith))

-- no strike stands among the zeros below the lowest one
all_quiet : (k n r : ℕ) → n ≤ k → n ≤ count_trailing_zeros k r → bits n r ≡ replicate n false
unfolding count_trailing_zeros bits odd
all_quiet k zero r h l = refl
all_quiet zero (suc n) r h l = absurd (omega arith)
all_quiet (suc k) (suc n) r h l =
    by_digit r
    (λ e. let m : suc n ≤ suc (count_trailing_zeros k (r / 2)) = rw e at l in
    rw e (ap {B = List Bool} (λ xs. false ∷ xs) (all_quiet k n (r / 2) (omega arith) (omega arith))))
    (λ e. let m : suc n ≤ 0 = rw e at l in absurd (omega arith))

-- above them stands one
one_above : (k r : ℕ) → count_trailing_zeros k r < k → r / 2 ^ count_trailing_zeros k r % 2 ≡ 1
unfolding count_trailing_zeros
one_above zero r l = absurd (omega arith)
one_above (suc k) r l =
    by_digit r
    (λ e.
    let t : ℕ = count_trailing_zeros k (r / 2) in
    let m : suc t < suc k = rw e at l in
    rw (e, ← one-add t, ← shr-shr r 1 t) (one_above k (r / 2) (omega arith)))
    (λ e. rw (e, div-one r) e)

-- a word and its inverse
module _ (k r : ℕ) (h : r < 2 ^ suc k) where
  inverse_low : (2 ^ suc k - 1 - r) % 2 ≡ 1 - r % 2
  inverse_low = omega (arith, pow_pos k)

  inverse_rest : (2 ^ suc k - 1 - r) / 2 ≡ 2 ^ k - 1 - r / 2
  inverse_rest = omega (arith, pow_pos k)

-- only strikes stand where the inverse has zeros below its lowest one
all_struck : (k n r : ℕ) → r < 2 ^ k → n ≤ k → n ≤ count_trailing_zeros k (2 ^ k - 1 - r) → bits n r ≡ replicate n true
unfolding count_trailing_zeros bits odd
all_struck k zero r b h l = refl
all_struck zero (suc n) r b h l = absurd (omega arith)
all_struck (suc k) (suc n) r b h l =
    let l' = rw (inverse_low k r b, inverse_rest k r b) at l in
    by_digit r
    (λ e. let m : suc n ≤ 0 = rw e at l' in absurd (omega arith))
    (λ e.
    let m : suc n ≤ suc (count_trailing_zeros k (2 ^ k - 1 - r / 2)) = rw e at l' in
    rw e (ap {B = List Bool} (λ xs. true ∷ xs) (all_struck k n (r / 2) (omega (arith, pow-suc 2 k)) (omega arith) (omega arith))))

-- and where a strike stands lowest, the inverse has one zero at least
some_struck : (k r : ℕ) → r < 2 ^ suc k → r % 2 ≡ 1 → 1 ≤ count_trailing_zeros (suc k) (2 ^ suc k - 1 - r)
unfolding count_trailing_zeros
some_struck k r b e = rw (inverse_low k r b, e) (omega arith)

bits_split : (k n r : ℕ) → k ≤ n → bits n r ≡ bits k r ++ bits (n - k) (r / 2 ^ k)
bits_split k n r h = ap (λ (m : ℕ). bits m r) (let m : n ≡ k + (n - k) = omega arith in m) ∙ bits_add k (n - k) r

-- the zeros below the lowest one of a word, what stands above them, and how many ones that begins with
abbrev pub gap : ℕ → ℕ
gap r = count_trailing_zeros 64 r

abbrev pub above : ℕ → ℕ
above r = r / 2 ^ gap r

abbrev pub run : ℕ → ℕ
run r = count_trailing_zeros 64 (2 ^ 64 - 1 - above r)

module _ (w : Watch) (n r : ℕ) (h : n ≤ 64) where
  -- all that is left of the word is quiet
  pub word_quiet : n ≤ gap r → later n w ≡ watched w (bits n r)
  word_quiet l = sym (ap (watched w) (all_quiet 64 n r h l) ∙ watched_quiets n w)

  -- or a strike comes next
  module _ (b : r < 2 ^ 64) (l : gap r < n) where
    above_below : above r < 2 ^ 64
    above_below = omega (arith, shr_le r (gap r))

    pub run_some : 1 ≤ run r
    run_some = some_struck 63 (above r) above_below (one_above 64 r (omega arith))

    -- and some more with no quiet frame between them
    strikes : (k : ℕ) → suc k ≤ n - gap r → suc k ≤ run r
        → watched (step (later (gap r) w) true) (bits (n - gap r - suc k) (above r / 2 ^ suc k)) ≡ watched w (bits n r)
    unfolding watched
    strikes k m s =
        let rest : List Bool = bits (n - gap r - suc k) (above r / 2 ^ suc k) in
        let high : bits (n - gap r) (above r) ≡ replicate (suc k) true ++ rest =
        bits_split (suc k) (n - gap r) (above r) m
        ∙ ap (λ (xs : List Bool). xs ++ rest) (all_struck 64 (suc k) (above r) above_below (omega arith) s) in
        let all : bits n r ≡ replicate (gap r) false ++ (replicate (suc k) true ++ rest) =
        bits_split (gap r) n r (omega arith) ∙ ap₂ (λ (xs ys : List Bool). xs ++ ys) (all_quiet 64 (gap r) r (omega arith) (omega arith)) high in
        sym (ap (watched w) all ∙ watched_append w (replicate (gap r) false) (replicate (suc k) true ++ rest)
        ∙ ap (λ (v : Watch). watched v (replicate (suc k) true ++ rest)) (watched_quiets (gap r) w)
        ∙ watched_append (step (later (gap r) w) true) (replicate k true) rest
        ∙ ap (λ (v : Watch). watched v rest) (watched_strikes k (later (gap r) w)))

    several : (k : ℕ) → 1 ≤ k → k ≤ n - gap r → k ≤ run r
        → watched (step (later (gap r) w) true) (bits (n - gap r - k) (above r / 2 ^ k)) ≡ watched w (bits n r)
    several zero o m s = absurd (omega arith)
    several (suc k) o m s = strikes k m s

    -- the strikes go on to the end
    pub word_struck : n - gap r ≤ run r → step (later (gap r) w) true ≡ watched w (bits n r)
    unfolding watched bits
    word_struck s =
        let none : n - gap r - (n - gap r) ≡ 0 = omega arith in
        sym (ap (λ (k : ℕ). watched (step (later (gap r) w) true) (bits k (above r / 2 ^ (n - gap r)))) none)
        ∙ several (n - gap r) (omega arith) (omega arith) s

    -- or a quiet frame ends them
    pub word_strikes : run r < n - gap r
        → watched (step (later (gap r) w) true) (bits (n - gap r - run r) (above r / 2 ^ run r)) ≡ watched w (bits n r)
    word_strikes s = several (run r) run_some (omega arith) (omega arith)

-- ---- the marks of a leaf

module _ (x : Leaf) (n : ℕ) where
  pub leaf_low : n ≤ 64 → bits n x.low ≡ take n (bits_of x)
  unfolding bits_of
  leaf_low h = sym (take-append-le n (bits 64 x.low) (bits 64 x.high) (omega (arith, bits_length 64 x.low)) ∙ take_bits n 64 x.low h)

  pub leaf_both : 64 ≤ n → n ≤ 128 → bits 64 x.low ++ bits (n - 64) x.high ≡ take n (bits_of x)
  unfolding bits_of
  leaf_both h l =
      let at : length (bits 64 x.low) + (n - 64) ≡ n = omega (arith, bits_length 64 x.low) in
      sym (rw at at (take-append-add (bits 64 x.low) (bits 64 x.high) (n - 64))
      ∙ ap (λ (ys : List Bool). bits 64 x.low ++ ys) (take_bits (n - 64) 64 x.high (omega arith)))

-- the first bits of a leaf are the marks that it holds
pub leaf_first : (x : Leaf) (xs : List Bool) → x ≡ leaf_of xs → length xs ≤ 127 → take (length xs) (bits_of x) ≡ xs
leaf_first x xs e h =
    rw (e, held_bits xs (omega arith)) (take-append_seam xs (replicate (128 - length xs) false))
