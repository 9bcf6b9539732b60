-- A line's contract determines where the next line begins, the pool's nodes, how many bytes were written, and each word
-- and each byte: two results that it allows are equal. The law speaks of the contract as the check reads it off the
-- source.
use Prim.Native.Nat.{ℕ, ◌≤◌}
use native.Mathlib.Omega.{arith}
use mathlib.Core.Path.{◌≡◌, sym, ap, ap₂, ◌∙◌}
use mathlib.Core.List.{List, ◌++◌}
use Rattle.std.specs.Prelude.{Option}
use lib.ListN.{length, take, drop, length-drop, take-append-drop}
use Rattle.model.specs.Pool.{Pool}
use Rattle.model.proofs.Cases.{by_leb, by_ltb}
use Rattle.window.proofs.Pinned.{Likely, number_stable, one_layout, words_stable}
use Rattle.grammar.specs.Lines.{Wanted, wanted}
use Rattle.script.specs.Prints.{State, holding, leaves, most_input}
use Rattle.script.specs.Playing.{desk, extent_of, first_line, Keeps, Played, LinePlayed}
use Rattle.script.specs.declared.playing.Next.{Next}
use Rattle.script.proofs.Effects.{settled, state_likely}
use Rattle.script.proofs.playing.play.Reads as play

-- ---- one line

-- the nodes and the words
abbrev Same : ℕ → List ℕ → ℕ → List ℕ → Type 0
Same n ws m vs = (n ≡ m) × (ws ≡ vs)

held_once : (t : State) (m : ℕ) (p : Pool) (ws₁ ws₂ ws : List ℕ) (n₁ n₂ : ℕ) → t ≡ holding m p → Keeps ws₁ n₁ t → Keeps ws₂ n₂ t
    → drop (extent_of n₁) ws₁ ≡ drop (extent_of n₁) ws
    → drop (extent_of n₂) ws₂ ≡ drop (extent_of n₂) ws → Same n₁ ws₁ n₂ ws₂
unfolding Keeps
held_once t m p ws₁ ws₂ ws n₁ n₂ e h₁ h₂ d₁ d₂ =
    let a = rw e at h₁ in
    let b = rw e at h₂ in
    let same : n₁ ≡ n₂ = sym a.0 ∙ b.0 in
    let front : take (extent_of n₁) ws₁ ≡ take (extent_of n₂) ws₂ =
    ap (λ (k : ℕ). take (extent_of k) ws₁) same ∙ one_layout (take (extent_of n₂) ws₁) (take (extent_of n₂) ws₂) n₂ p (rw same at a.1) b.1 in (
      same,
      sym (take-append-drop (extent_of n₁) ws₁)
          ∙ ap₂ (λ (x y : List ℕ). x ++ y) front (d₁ ∙ ap (λ (k : ℕ). drop (extent_of k) ws) same ∙ sym d₂)
          ∙ take-append-drop (extent_of n₂) ws₂,
    )

line_once : (w : Option Wanted) (s : State) (ws : List ℕ) (n : ℕ) (out : List ℕ) (n₁ e₁ : ℕ) (ws₁ out₁ : List ℕ) (n₂ e₂ : ℕ) (ws₂ out₂ : List ℕ)
    → Played w s (desk ws n out) (desk ws₁ n₁ out₁) e₁ → Played w s (desk ws n out) (desk ws₂ n₂ out₂) e₂
    → (Same n₁ ws₁ n₂ ws₂) × (Same e₁ out₁ e₂ out₂)
line_once w s ws n out n₁ e₁ ws₁ out₁ n₂ e₂ ws₂ out₂ p q = (
  settled w s
      (λ m x e. held_once (leaves w s) m x ws₁ ws₂ ws n₁ n₂ e p.keeps q.keeps p.past q.past)
      (λ e. ((p.same e).0 ∙ sym (q.same e).0, (p.same e).1 ∙ sym (q.same e).1)),
  (p.end_is ∙ sym q.end_is, p.written ∙ sym q.written),
)

-- ---- one line

-- the place, the nodes and the count, the words and the bytes
pub record Alike (r q : Next) (ws vs out bs : List ℕ) : Type 0 where
  pub at : r.at ≡ q.at
  pub nodes : r.nodes ≡ q.nodes
  pub end : r.end ≡ q.end
  pub words : ws ≡ vs
  pub bytes : out ≡ bs

alike_stable : (r q : Next) (ws vs out bs : List ℕ) → Likely (Alike r q ws vs out bs) → Alike r q ws vs out bs
alike_stable r q ws vs out bs h = record {
  at = number_stable r.at q.at (λ n. h (λ a. n a.at));
  nodes = number_stable r.nodes q.nodes (λ n. h (λ a. n a.nodes));
  end = number_stable r.end q.end (λ n. h (λ a. n a.end));
  words = words_stable ws vs (λ n. h (λ a. n a.words));
  bytes = words_stable out bs (λ n. h (λ a. n a.bytes));
}

-- a rest has one beginning
one_place : (input : List ℕ) (i j : ℕ) → i ≤ length input → j ≤ length input → drop i input ≡ drop j input → i ≡ j
one_place input i j h k e = omega (arith, length-drop i input, length-drop j input, ap length e)

pub played_once : (input : List ℕ) (at : ℕ) (ws : List ℕ) (n : ℕ) (out : List ℕ) (r q : Next) (ws₁ ws₂ out₁ out₂ : List ℕ) → length ws ≡ 6144
    → LinePlayed input at (desk ws n out) r ws₁ out₁ → LinePlayed input at (desk ws n out) q ws₂ out₂ → Alike r q ws₁ ws₂ out₁ out₂
played_once input at ws n out r q ws₁ ws₂ out₁ out₂ l t u =
    by_ltb at (length input)
    (λ _ h.
    by_leb (length input) most_input
    (λ _ g.
    alike_stable r q ws₁ ws₂ out₁ out₂
    (state_likely ws n l
    (λ s held.
    let a = t.line h g s held in
    let b = u.line h g s held in
    let x = line_once (wanted (first_line (drop at input))) s ws n out r.nodes r.end ws₁ out₁ q.nodes q.end ws₂ out₂ a.3 b.3 in
    record {
      at = one_place input r.at q.at a.1 b.1
          (a.2 ∙ sym b.2);
      nodes = x.0.0;
      end = x.1.0;
      words = x.0.1;
      bytes = x.1.1;
    })))
    (λ _ g. both (t.long h g) (u.long h g)))
    (λ _ h. both (t.ended h) (u.ended h))
  where
    both : {z : Next} {vs bs : List ℕ} → (r ≡ z) × (ws₁ ≡ vs) × (out₁ ≡ bs) → (q ≡ z) × (ws₂ ≡ vs) × (out₂ ≡ bs) → Alike r q ws₁ ws₂ out₁ out₂
    both a b = let e = a.0 ∙ sym b.0 in record {
      at = ap (λ (r : Next). r.at) e;
      nodes = ap (λ (r : Next). r.nodes) e;
      end = ap (λ (r : Next). r.end) e;
      words = a.1 ∙ sym b.1;
      bytes = a.2 ∙ sym b.2;
    }

-- the pool's array has 6,144 words
pub play_pinned : (κs : _) (a : _) (r r' : _) (w w' : _) → play.Post κs a r w → play.Post κs a r' w' → length a.1.1.1.0.now ≡ 6144
    → Alike r r' w.1.1.1.0.now w'.1.1.1.0.now w.1.1.1.1.0.now w'.1.1.1.1.0.now
play_pinned κs a r r' w w' p q l = played_once _ _ _ _ _ r r' _ _ _ _ l p.0 q.0
