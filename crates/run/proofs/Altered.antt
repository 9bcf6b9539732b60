-- A pool that stands, with the trailer that was read: what an order may assume of its nodes, and that the pool as it is
-- afterwards stands in the words that are left.
use Prim.Native.Nat.{ℕ, suc, ◌*◌, ◌^◌, ◌≤◌, ◌<◌}
use native.Mathlib.Omega.{arith}
use mathlib.Core.Path.{◌≡◌, sym, ap, ◌∙◌}
use mathlib.Core.Bool.{Bool, true}
use mathlib.Core.List.{List, [], ◌∷◌, ◌++◌, Memᴰ}
use lib.ListN.{length, take, drop, get_or}
use lib.Dec.{leb}
use Rattle.model.specs.Pool.{Pool, numbers_from, two_free}
use Rattle.model.specs.Sound.{Distinct, Sound, all_numbers}
use Rattle.model.specs.Tree.{top, size, numbers}
use Rattle.model.proofs.Depth.{size_bound}
use Rattle.model.proofs.Floor.{sound_nodes}
use Rattle.model.proofs.NumbersFrom.{numbers_from_bounds, numbers_from_distinct}
use Rattle.model.proofs.PoolCases.{two_free_yes}
use Rattle.model.proofs.Rearranged.{rearranged_distinct, rearranged_member, rearranged_sym}
use Rattle.pool.specs.Layout.{Laid, first_of}
use Rattle.order.specs.Asked.{Asked}
use Rattle.serve.specs.Serving.{Serves, ToServe}
use Rattle.serve.specs.declared.serving.Served as Serve
use Rattle.serve.proofs.Orderly.{after_sound, after_still, after_top}
use Rattle.window.specs.Layout.{Stands, trailer_of, trailer_in}
use Rattle.run.specs.Orders.{Served, after}
use Rattle.window.specs.declared.trailer.Trailer.{Trailer}
use Rattle.window.proofs.Builds.{stands_with}
use Rattle.window.proofs.OneState.{nodes_length, stands_last, stands_length, stands_nodes, stands_root, stands_rooted}

-- what a trailer says of a pool of n nodes
pub record Known (n : ℕ) (p : Pool) (t : Trailer) : Type 0 where
  pub root : t.held.tree.node ≡ top p.tree
  pub total : t.held.tree.length ≡ size p.tree
  pub first : t.held.chain.first ≡ first_of n p.free
  pub count : t.held.chain.count ≡ length p.free
  pub nodes : t.nodes ≡ n
  pub last : t.last ≡ 0

module _ {ws : List ℕ} {n : ℕ} {p : Pool} (s : Stands ws n p) where
  -- the trailer that is read says so of the pool that stands
  pub known : (t : Trailer) → t ≡ trailer_in (drop (n * 6) ws) → Known n p t
  unfolding trailer_of
  known t same =
      record {
        root = ap (λ (x : Trailer). x.held.tree.node) same ∙ stands_root ws n s.counted p s;
        total = ap (λ (x : Trailer). x.held.tree.length) same ∙ stands_length ws n s.counted p s;
        first = ap (λ (x : Trailer). x.held.chain.first) same ∙ ap (λ (v : List ℕ). get_or v 2 0) s.trailer;
        count = ap (λ (x : Trailer). x.held.chain.count) same ∙ ap (λ (v : List ℕ). get_or v 3 0) s.trailer;
        nodes = ap (λ (x : Trailer). x.nodes) same ∙ stands_nodes ws n s.counted p s;
        last = ap (λ (x : Trailer). x.last) same ∙ stands_last ws n s.counted p s;
      }

  -- ---- the numbers

  -- no number stands twice
  pub once : Distinct (numbers p.tree ++ p.free)
  unfolding all_numbers
  once = rearranged_distinct (numbers_from 0 n) (all_numbers p) s.sound.each (numbers_from_distinct 0 n)

  -- and none is the number of nodes
  pub none_past : Memᴰ n (numbers p.tree ++ p.free) → ⊥
  unfolding all_numbers
  none_past m =
      let within : Memᴰ n (numbers_from 0 n) =
      rearranged_member n (all_numbers p) (numbers_from 0 n) (rearranged_sym (numbers_from 0 n) (all_numbers p) s.sound.each) m in
      omega (arith, numbers_from_bounds n 0 n within)

  -- the marks are few
  pub few_marks : suc (size p.tree) < 2 ^ 32
  few_marks = let deep = stands_rooted ws n p s in omega (arith, size_bound 0 p.tree 12 deep.sized deep.deep)

  -- ---- what an order may assume

  pub to_serve : (t : Trailer) (may : Bool) → Known n p t → (may ≡ true → 2 ≤ t.held.chain.count)
      → ToServe (take (n * 6) ws) n t.held may p
  to_serve t may k two = record {
    site = record {
      rooted = rw k.root (stands_rooted ws n p s);
      balanced = s.sound.balanced;
      whole = s.sound.whole;
      once = once;
      chained = s.nodes.chain;
      first = sym k.first;
      few = few_marks;
    };
    total = sym k.total;
    count = sym k.count;
    past = none_past;
    fits = omega (arith, k.count, sound_nodes n p s.sound, s.counted.most);
    two = λ yes. omega (arith, k.count, two yes);
  }

  -- the rule that the code asks is the window's
  pub ruled : {w w' : List ℕ} {may : Bool} {o : Asked} {r : Serve.Served} (t : Trailer) → Known n p t → Serves w w' n may o p r
      → may ≡ leb 2 t.held.chain.count → Serves w w' n (two_free p) o p r
  unfolding two_free
  ruled t k x e = let same : _ = e ∙ ap (leb 2) k.count in rw same at x

-- ---- the words afterwards

module _ {ws : List ℕ} {n : ℕ} {p : Pool} (s : Stands ws n p) {w' : List ℕ} {o : Asked} {r : Serve.Served}
    (x : Serves (take (n * 6) ws) w' n (two_free p) o p r) where
  laid : Laid w' n (after o p)
  laid = record { words = x.edited.size ∙ nodes_length ws n s.counted; tree = x.edited.holds; chain = x.chained }

  sound : Sound n (after o p)
  sound = after_sound n (two_free p) o p (two_free_yes p) s.sound

  placed_behind : (six : List ℕ) → six ≡ trailer_of n (after o p) → Stands (w' ++ six) n (after o p)
  placed_behind six e = stands_with w' six n (after o p) laid sound s.counted.some s.counted.most e

  -- as many marks as before: the trailer is that of before
  pub served_still : (t : Trailer) → Known n p t → r.held.tree.length ≡ t.held.tree.length → Served (w' ++ drop (n * 6) ws) n o p r.answer
  served_still t k e =
      let same : after o p ≡ p = after_still (two_free p) o p (x.total ∙ e ∙ k.total) in
      record { answered = x.answered; stands = placed_behind (drop (n * 6) ws) (s.trailer ∙ ap (trailer_of n) (sym same)) }

  -- a new trailer is put behind the nodes
  pub served_moved : (t : Trailer) (six : List ℕ) → Known n p t
      → six ≡ r.held.tree.node ∷ r.held.tree.length ∷ r.held.chain.first ∷ r.held.chain.count ∷ t.nodes ∷ t.last ∷ []
      → Served (w' ++ six) n o p r.answer
  unfolding trailer_of
  served_moved t six k is =
      let root : r.held.tree.node ≡ top (after o p).tree = sym x.root ∙ sym (after_top (two_free p) o p) in
      record {
        answered = x.answered;
        stands =
            placed_behind six (is ∙ (λ j. root j ∷ sym x.total j ∷ sym x.first j ∷ sym x.count j ∷ k.nodes j ∷ k.last j ∷ []));
      }
