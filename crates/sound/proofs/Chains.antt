-- Following a chain: a chain from the first node stands in the words exactly where one stands from the node reached, with as many nodes fewer.
-- A chain that ends has no node twice: from a node on there is one chain only.
use Prim.Native.Nat.{ℕ, suc, ◌-◌, ◌≤◌}
use native.Mathlib.Omega.{arith}
use mathlib.Core.Path.{◌≡◌, refl, sym, ap, ◌∙◌}
use mathlib.Core.Bool.{false}
use mathlib.Core.List.Memᴰ
use mathlib.Core.List.{List, [], ◌∷◌, Memᴰ}
use mathlib.Core.Logic.{⊎_elim}
use lib.Dec.{eqb}
use lib.ListN.{length}
use Rattle.model.specs.Says.{Says}
use Rattle.model.specs.Sound.{Distinct}
use Rattle.pool.specs.Layout.{Chained, first_of}
use Rattle.pool.specs.Node.{node_at, nodes_in}
use Rattle.pool.specs.declared.node.Node.TheVariants.{Free as free}
use Rattle.pool.proofs.Cells.{free_says}
use Rattle.sound.specs.Links.{Links, Linked}
use Rattle.sound.proofs.Answers.{says_no, says_same}

-- ---- no node twice

module _ (w : List ℕ) where
  -- two chains from one node are equally long
  same_length : (ms ns : List ℕ) → Chained w (nodes_in w) ms → Chained w (nodes_in w) ns → first_of (nodes_in w) ms ≡ first_of (nodes_in w) ns
      → length ms ≡ length ns
  unfolding first_of
  same_length [] [] h k e = refl
  same_length [] (n ∷ ns) h k e = let low = free_says w n (first_of (nodes_in w) ns) k.0 in absurd (omega (arith, low.0))
  same_length (m ∷ ms) [] h k e = let low = free_says w m (first_of (nodes_in w) ms) h.0 in absurd (omega (arith, low.0))
  same_length (m ∷ ms) (n ∷ ns) h k e =
      let same : free (first_of (nodes_in w) ms) ≡ free (first_of (nodes_in w) ns) = sym h.0 ∙ ap (node_at w) e ∙ k.0 in
      let next : first_of (nodes_in w) ms ≡ first_of (nodes_in w) ns = cc in
      ap suc (same_length ms ns h.1 k.1 next)

  -- the chain from one of its nodes on
  rest_from : (k : ℕ) (ns : List ℕ) → Chained w (nodes_in w) ns → Memᴰ k ns
      → (ks : List ℕ) × Chained w (nodes_in w) ks × (first_of (nodes_in w) ks ≡ k) × (length ks ≤ length ns)
  unfolding first_of
  rest_from k [] h m = absurd (Memᴰ.not-nil m)
  rest_from k (n ∷ ns) h m =
      ⊎_elim
      (λ (e : k ≡ n). (n ∷ ns, h, sym e, omega arith))
      (λ i. let s = rest_from k ns h.1 i in (s.0, s.1, s.2, omega (arith, s.3)))
      (Memᴰ.cases_cons m)

  pub chain_distinct : (ns : List ℕ) → Chained w (nodes_in w) ns → Distinct ns
  unfolding first_of
  chain_distinct [] h = tt
  chain_distinct (n ∷ ns) h = (
    λ m. let s = rest_from n ns h.1 m in let l = same_length (n ∷ ns) s.0 h s.1 (sym s.2) in omega (arith, s.3),
    chain_distinct ns h.1,
  )

-- ---- one link

-- some of a chain has been passed
pub record Passed (w : List ℕ) (end n₀ left₀ n left : ℕ) : Type 0 where
  pub back : Linked w end n left → Linked w end n₀ left₀
  pub forth : Linked w end n₀ left₀ → Linked w end n left

-- a chain that is not at its end begins with a free node
begins : {w : List ℕ} {end n left : ℕ} (ks : List ℕ) → 1 ≤ left → Links w end n left ks → (next : ℕ) × (node_at w n ≡ free next)
unfolding first_of
begins [] some k = absurd (omega (arith, k.counts))
begins {w} {end} (m ∷ ks) some k = (first_of end ks, ap (node_at w) (sym k.begins) ∙ k.chained.0)

-- a link put before a chain, and taken off it
link_back : {w : List ℕ} {end n left next : ℕ} → node_at w n ≡ free next → 1 ≤ left
    → (ks : List ℕ) → Links w end next (left - 1) ks → Links w end n left (n ∷ ks)
unfolding first_of
link_back read some ks k =
    record { chained = (read ∙ ap free (sym k.begins), k.chained); begins = refl; counts = omega (arith, k.counts) }

link_forth : {w : List ℕ} {end n left next : ℕ} → node_at w n ≡ free next → 1 ≤ left
    → (ks : List ℕ) → Links w end n left ks → Linked w end next (left - 1)
unfolding first_of
link_forth read some [] k = absurd (omega (arith, k.counts))
link_forth {w} {end} {next = next} read some (j ∷ ks) k =
    let same : free (first_of end ks) ≡ free next = sym k.chained.0 ∙ ap (node_at w) k.begins ∙ read in
    let begins : first_of end ks ≡ next = cc in
    (ks, record { chained = k.chained.1; begins = begins; counts = omega (arith, k.counts) })

-- no link at all: the chain's end
ended : {w : List ℕ} {end n left : ℕ} → n ≡ end → left ≡ 0 → Links w end n left []
unfolding first_of
ended e none = record { chained = tt; begins = sym e; counts = sym none }

at_end : {w : List ℕ} {end n left : ℕ} (ks : List ℕ) → left ≡ 0 → Links w end n left ks → n ≡ end
unfolding first_of
at_end [] none k = sym k.begins
at_end (m ∷ ks) none k = absurd (omega (arith, k.counts))

-- ---- the chain so far

module _ {w : List ℕ} {end n₀ left₀ n left : ℕ} (p : Passed w end n₀ left₀ n left) where
  -- one link more
  pub passed_more : {next rest : ℕ} → node_at w n ≡ free next → 1 ≤ left → rest ≡ left - 1 → Passed w end n₀ left₀ next rest
  passed_more read some e =
      rw e record {
        back = λ l. p.back (n ∷ l.0, link_back read some l.0 l.1);
        forth = λ l. let k = p.forth l in link_forth read some k.0 k.1;
      }

  -- the node is not free
  pub passed_other : ((next : ℕ) → node_at w n ≡ free next → ⊥) → 1 ≤ left → Says (Linked w end n₀ left₀) false
  passed_other other some = says_no (λ l. let k = p.forth l in let b = begins k.0 some k.1 in other b.0 b.1)

  -- no link is left
  pub passed_all : left ≡ 0 → Says (Linked w end n₀ left₀) (eqb n end)
  passed_all none = says_same n end (λ e. p.back ([], ended e none)) (λ l. let k = p.forth l in at_end k.0 none k.1)
