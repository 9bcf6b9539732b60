-- One round as the code goes through it: so many pairs joined, and the trees from there on still waiting. What is left of the round is a round
-- on the trees that wait, as long as two are left; then the last pair is joined, and an odd tree to it.
use Prim.Native.Nat.{ℕ, zero, suc, ◌+◌, ◌*◌, ◌/◌, ◌^◌, ◌≤◌, ◌<◌, max}
use native.Mathlib.Nat.{add-zero, pow-suc}
use native.Mathlib.Numerals.{add-one}
use native.Mathlib.Omega.{arith}
use mathlib.Core.Path.{subst, sym, ◌≡◌, refl, ap, ◌∙◌}
use mathlib.Core.Bool.{true}
use mathlib.Core.List.{List, [], ◌∷◌, reverse_aux}
use lib.ListN.{length}
use lib.Pow.{pow_mono}
use Rattle.model.specs.Build.{round}
use Rattle.model.specs.Limits.{levels}
use Rattle.model.specs.Marks.{count}
use Rattle.model.specs.Tree.{Tree, fork, marks}
use Rattle.pool.specs.Node.{Put, nodes_in}
use Rattle.pool.specs.declared.node.Node.TheVariants as Node
use Rattle.pool.proofs.Cells.{put_fork}
use Rattle.build.specs.Waiting.{Along, Forked, Joinable, Kept, Level, Small, Waiting, Waits, fork_over, item_at, item_over, row_above}
use Rattle.build.specs.declared.building.Item.{Item}
use Rattle.build.specs.declared.building.Row.{Row}
use Rattle.build.proofs.Joining.{along_kept, fork_waits, kept_kept, put_kept, waits_kept, waits_standing}
use Rattle.build.proofs.OneRound.{round_halves}

-- ---- a row of two or more is small

rounds_left : (c h left : ℕ) → c < 2 ^ left → h + left ≡ 10 → 2 ≤ c → h ≤ 8
rounds_left c h zero few low some = omega arith
rounds_left c h (suc zero) few low some = omega arith
rounds_left c h (suc (suc left)) few low some = omega arith

module _ {n : ℕ} {r : Row} (p : Level n r) (some : 2 ≤ r.count) where
  pub low : r.height ≤ 8
  low = rounds_left r.count r.height p.left p.few p.low some

  pub small_total : r.total ≤ 2 ^ 14
  small_total = omega (arith, p.total, pow_mono low)

  pub pair_small : (at to : ℕ) → Small (item_at r at) (item_at r to)
  pair_small at to =
      let h = low in
      let t = small_total in
      record { even = omega arith; left = omega arith; right = omega arith; totals = omega arith }

  pub last_small : (to : ℕ) → Small r.last (item_at r to)
  last_small to =
      let h = low in
      let t = small_total in
      let k = p.not_higher in
      record { even = omega arith; left = omega arith; right = omega arith; totals = omega (arith, p.last_total) }

  pub odd_small : (m at to : ℕ) (x : Item) → x ≡ item_over m (item_at r at) (item_at r to) → Small r.last x
  odd_small m at to x e =
      let h = low in
      let t = small_total in
      let k = p.not_higher in
      rw e (record { even = omega arith; left = omega arith; right = omega arith; totals = omega (arith, p.last_total) })

-- the row after a round is level again
halved : (c left : ℕ) → c < 2 ^ left → 2 ≤ c → (more : ℕ) × (left ≡ suc more) × (c / 2 < 2 ^ more)
halved c zero few some = absurd (omega arith)
halved c (suc more) few some = (more, refl, omega (arith, pow-suc 2 more))

module _ {next : ℕ} {r : Row} (p : Level next r) (some : 2 ≤ r.count) (m : ℕ) (y : Item) where
  pub level_above : next < m → y.tree.length ≤ 4 * r.total → suc r.height ≤ y.height → y.height ≤ suc (suc r.height)
      → Level m (row_above r next y)
  level_above on total higher most =
      let (more, one, few) = halved r.count p.left p.few some in
      record {
        left = more;
        few = few;
        low = omega (arith, p.low);
        total = omega (arith, p.total, pow-suc 2 r.height);
        last_total = omega arith;
        not_lower = higher;
        not_higher = most;
        placed = omega (arith, p.placed, p.within);
        within = on;
      }

-- ---- two trees, joined

-- what joining two trees at n leaves: the fork stands, and the nodes below n are as they were
pub record Joined (w w' : List ℕ) (n i : ℕ) (l r : Tree) (x : Item) : Type 0 where
  pub size : length w' ≡ length w
  pub kept : Kept w w' n
  pub made : Waits w' (suc n) i (fork n l r) x

module _ {w w' : List ℕ} {n at to : ℕ} (i : ℕ) (l r : Tree) {a b x : Item} (p : Waits w n at l a) (q : Waits w n to r b) (some : 0 < at)
    (more : 0 < i → 0 < to) (low : a.height ≤ levels) where
  pub join : n < nodes_in w → Forked w w' n a b x → Joined w w' n i l r x
  join h f =
      let over : _ = fork_over a b (count true (marks l)) in
      let put : Put w w' n (Node.Fork over) = rw (f.stored (waits_standing p some low)) (put_fork w n over h) in
      record { size = put.size; kept = put_kept put; made = rw f.item (fork_waits n i l r a b put p q some more) }

-- ---- the forks made, the last one first

abbrev pub Made : List ℕ → ℕ → (ℕ → Item) → List Tree → Type 0
Made w n item [] = Unit {0}
Made w n item (t ∷ ts) = Waits w n (length ts) t (item (length ts)) × Made w n item ts

module _ (w w' : List ℕ) (n m : ℕ) (kept : Kept w w' n) (h : n ≤ m) where
  -- a store in other nodes keeps them
  made_kept : (item : ℕ → Item) (ts : List Tree) → Made w n item ts → Made w' m item ts
  made_kept item [] p = tt
  made_kept item (t ∷ ts) p = (waits_kept w w' n m kept h p.0, made_kept item ts p.1)

-- read the other way round they are a row
made_along : (w : List ℕ) (n : ℕ) (r : Row) (done : List Tree) (u : Tree) (ts : List Tree) → Made w n (item_at r) done
    → Along w n r (length done) (u ∷ ts) → Along w n r 0 (reverse_aux done (u ∷ ts))
made_along w n r [] u ts p q = q
made_along w n r (t ∷ done) u ts p q = made_along w n r done t (u ∷ ts) p.1 (p.0, q)

-- ---- a part of a round

-- i pairs of the trees ts joined: the forks made, the last one first, and the trees that still wait
pub record Part (w : List ℕ) (next : ℕ) (r : Row) (i : ℕ) (ts done rest : List Tree) : Type 0 where
  pub whole : reverse_aux done (round (next + i) rest) ≡ round next ts
  pub many : length done ≡ i
  pub left : length rest + i * 2 ≡ length ts
  pub new : Made w (next + i) (item_at (row_above r next r.last)) done
  pub trees : Along w (next + i) r (i * 2) rest

abbrev pub Parted : List ℕ → ℕ → Row → ℕ → List Tree → Type 0
Parted w next r i ts = (done : List Tree) × (rest : List Tree) × Part w next r i ts done rest

pub no_pair : {w : List ℕ} {next : ℕ} {r : Row} {ts : List Tree} → Waiting w next r ts → Parted w next r 0 ts
no_pair {next = next} {ts = ts} p = (
  [],
  ts,
  record {
    whole = ap (λ (n : ℕ). round n ts) (add-zero next);
    many = refl;
    left = omega arith;
    new = tt;
    trees = rw add-zero p.trees;
  },
)

-- a pair of alike trees makes one of the next row
pair_item : (r : Row) (next i at to : ℕ) (y : Item) → item_over (next + i) (item_at r at) (item_at r to) ≡ item_at (row_above r next y) i
pair_item r next i at to y =
    let twice : r.total + r.total ≡ r.total * 2 = omega arith in
    let high : max r.height r.height ≡ r.height = omega arith in
    λ j. record { tree = record { node = next + i; length = twice j }; height = suc (high j) }

-- the last tree made, and all before it, wait for the next round
ended : {before w : List ℕ} {next m : ℕ} {r : Row} {ts : List Tree} (y : Item) (done : List Tree) (last : Tree)
    → Waiting before next r ts → 2 ≤ r.count → reverse_aux done (last ∷ []) ≡ round next ts → Made w m (item_at (row_above r next r.last)) done
    → Waits w m (length done) last y → Level m (row_above r next y) → Waiting w m (row_above r next y) (round next ts)
ended {w = w} {next = next} {m = m} {r = r} {ts = ts} y done last b some e new s level =
    let many = b.many in
    record {
      many = round_halves next ts (omega arith) ∙ ap (λ (k : ℕ). k / 2) many;
      trees = rw (← e) (made_along w m (row_above r next y) done last [] new s);
      level = level;
    }

module _ {w : List ℕ} {next : ℕ} {r : Row} {i : ℕ} {ts : List Tree} (level : Level next r) (some : 2 ≤ r.count) where
  -- the next pair can be joined
  pub pair_joinable : (done rest : List Tree) → Part w next r i ts done rest → i * 2 + 2 < length ts
      → Joinable w (item_at r (i * 2 + 1)) (item_at r (i * 2))
  pair_joinable done [] p h = absurd (omega (arith, p.left))
  pair_joinable done (t ∷ []) p h = absurd (omega (arith, p.left))
  pair_joinable done (a ∷ b ∷ []) p h = absurd (omega (arith, p.left))
  pair_joinable done (a ∷ b ∷ c ∷ more) p h =
      record {
        stands = rw add-one (waits_standing p.trees.1.0 (omega arith) (omega (arith, low level some)));
        small = pair_small level some (i * 2 + 1) (i * 2);
      }

  -- and so can the last two, or the last one and the pair beside it
  pub last_joinable : (done rest : List Tree) → Part w next r i ts done rest → i * 2 + 2 ≡ length ts → Joinable w r.last (item_at r (i * 2))
  last_joinable done [] p h = absurd (omega (arith, p.left))
  last_joinable done (t ∷ []) p h = absurd (omega (arith, p.left))
  last_joinable done (a ∷ b ∷ []) p h =
      record {
        stands = waits_standing p.trees.1 (omega arith) (omega (arith, low level some, level.not_higher));
        small = last_small level some (i * 2);
      }
  last_joinable done (a ∷ b ∷ c ∷ more) p h = absurd (omega (arith, p.left))

  pub odd_joinable : {w' : List ℕ} {x : Item} (done rest : List Tree) → Part w next r i ts done rest → i * 2 + 3 ≡ length ts → next + i < nodes_in w
      → Forked w w' (next + i) (item_at r (i * 2 + 1)) (item_at r (i * 2)) x → Joinable w' r.last x
  odd_joinable done [] p h fits f = absurd (omega (arith, p.left))
  odd_joinable done (t ∷ []) p h fits f = absurd (omega (arith, p.left))
  odd_joinable done (a ∷ b ∷ []) p h fits f = absurd (omega (arith, p.left))
  odd_joinable {w'} {x} done (a ∷ b ∷ c ∷ []) p h fits f =
      let n : ℕ = next + i in
      let j = join i b a p.trees.1.0 p.trees.0 (omega arith) (λ q. omega arith) (omega (arith, low level some)) fits (rw add-one at f) in
      record {
        stands = waits_standing (waits_kept w w' n (suc n) j.kept (omega arith) p.trees.1.1) (omega arith)
            (omega (arith, low level some, level.not_higher));
        small = odd_small level some n (i * 2 + 1) (i * 2) x f.item;
      }
  odd_joinable done (a ∷ b ∷ c ∷ d ∷ more) p h fits f = absurd (omega (arith, p.left))

  -- one pair more, where four trees or more are left
  pub pair_more : {w' : List ℕ} {x : Item} (done rest : List Tree) → Part w next r i ts done rest → i * 2 + 3 < length ts → next + i < nodes_in w
      → Forked w w' (next + i) (item_at r (i * 2 + 1)) (item_at r (i * 2)) x → Parted w' next r (suc i) ts
  unfolding round
  pair_more done [] p four fits f = absurd (omega (arith, p.left))
  pair_more done (a ∷ []) p four fits f = absurd (omega (arith, p.left))
  pair_more done (a ∷ b ∷ []) p four fits f = absurd (omega (arith, p.left))
  pair_more done (a ∷ b ∷ c ∷ []) p four fits f = absurd (omega (arith, p.left))
  pair_more {w'} {x} done (a ∷ b ∷ c ∷ d ∷ more) p four fits f =
      let n : ℕ = next + i in
      let j = join i b a p.trees.1.0 p.trees.0 (omega arith) (λ q. omega arith) (omega (arith, low level some)) fits (rw add-one at f) in
      let many = p.many in
      let is : x ≡ item_at (row_above r next r.last) i = f.item ∙ pair_item r next i (i * 2 + 1) (i * 2) r.last in
      let next_is : next + suc i ≡ suc n = omega arith in
      let at : suc i * 2 ≡ suc (suc (i * 2)) = omega arith in (
        fork n b a ∷ done,
        c ∷ d ∷ more,
        record {
          whole = rw next_is p.whole;
          many = ap suc many;
          left = omega (arith, p.left);
          new =
              let item = item_at (row_above r next r.last) in
              let made : Waits w' (suc n) (length done) (fork n b a) (item (length done)) = rw many (rw is at j.made) in
              subst (λ (k : ℕ). Made w' k item (fork n b a ∷ done)) (sym next_is)
              (made, made_kept w w' n (suc n) j.kept (omega arith) item done p.new);
          trees =
              let along : Along w' (suc n) r (suc (suc (i * 2))) (c ∷ d ∷ more) =
              along_kept w w' n (suc n) j.kept (omega arith) r (suc (suc (i * 2))) (c ∷ d ∷ more) p.trees.1.1 in
              subst (λ (k : ℕ). Along w' k r (suc i * 2) (c ∷ d ∷ more)) (sym next_is)
              (subst (λ (m : ℕ). Along w' (suc n) r m (c ∷ d ∷ more)) (sym at) along);
        },
      )

  -- two trees left: the last pair is the last fork
  pub even_ends : {before w' : List ℕ} {y : Item} (done rest : List Tree) → Waiting before next r ts → Part w next r i ts done rest
      → i * 2 + 2 ≡ length ts → next + i < nodes_in w → Forked w w' (next + i) r.last (item_at r (i * 2)) y
      → Waiting w' (suc (next + i)) (row_above r next y) (round next ts)
  unfolding round
  even_ends done [] b p two fits f = absurd (omega (arith, p.left))
  even_ends done (a ∷ []) b p two fits f = absurd (omega (arith, p.left))
  even_ends {w' = w'} {y = y} done (a ∷ l ∷ []) b p two fits f =
      let n : ℕ = next + i in
      let j = join i l a p.trees.1 p.trees.0 (omega arith) (λ q. omega arith) (omega (arith, low level some, level.not_higher)) fits f in
      let many = p.many in
      let e = f.item in
      let lower = level.not_lower in
      let higher = level.not_higher in
      ended y done (fork n l a) b some p.whole
      (made_kept w w' n (suc n) j.kept (omega arith) (item_at (row_above r next r.last)) done p.new)
      (rw many j.made)
      (rw e (level_above level some (suc n) (item_over n r.last (item_at r (i * 2))) (omega arith) (omega (arith, level.last_total)) (omega arith)
      (omega arith)))
  even_ends done (a ∷ l ∷ c ∷ more) b p two fits f = absurd (omega (arith, p.left))

  -- three left: the odd tree joins the last pair
  pub odd_ends : {before w' w'' : List ℕ} {x y : Item} (done rest : List Tree) → Waiting before next r ts → Part w next r i ts done rest
      → i * 2 + 3 ≡ length ts → suc (next + i) < nodes_in w → Forked w w' (next + i) (item_at r (i * 2 + 1)) (item_at r (i * 2)) x
      → Forked w' w'' (suc (next + i)) r.last x y → Waiting w'' (suc (suc (next + i))) (row_above r next y) (round next ts)
  unfolding round
  odd_ends done [] b p three fits f g = absurd (omega (arith, p.left))
  odd_ends done (a ∷ []) b p three fits f g = absurd (omega (arith, p.left))
  odd_ends done (a ∷ l ∷ []) b p three fits f g = absurd (omega (arith, p.left))
  odd_ends {w' = w'} {w'' = w''} {x = x} {y = y} done (a ∷ l ∷ o ∷ []) b p three fits f g =
      let n : ℕ = next + i in
      let j = join i l a p.trees.1.0 p.trees.0 (omega arith) (λ q. omega arith) (omega (arith, low level some)) (omega arith)
      (rw add-one at f) in
      let waits = waits_kept w w' n (suc n) j.kept (omega arith) p.trees.1.1 in
      let k = join i o (fork n l a) waits j.made (omega arith) (λ q. q) (omega (arith, low level some, level.not_higher))
      (omega (arith, j.size)) g in
      let many = p.many in
      let e = g.item in
      let s = f.item in
      let lower = level.not_lower in
      let higher = level.not_higher in
      ended y done (fork (suc n) o (fork n l a)) b some p.whole
      (made_kept w w'' n (suc (suc n)) (kept_kept w w' w'' n (suc n) (omega arith) j.kept k.kept) (omega arith)
      (item_at (row_above r next r.last)) done p.new)
      (rw many k.made)
      (rw (e, s) (level_above level some (suc (suc n)) (item_over (suc n) r.last (item_over n (item_at r (i * 2 + 1)) (item_at r (i * 2))))
      (omega arith) (omega (arith, level.last_total)) (omega arith) (omega arith)))
  odd_ends done (a ∷ l ∷ o ∷ d ∷ more) b p three fits f g = absurd (omega (arith, p.left))
