-- One step back up a tree that stands in words: a child of a fork has been edited and the fork counts what the child
-- holds now, so it only leans as before. Balanced again, it is what the edit of the fork leaves.
use Prim.Native.Nat.{ℕ}
use native.Mathlib.Omega.{arith}
use mathlib.Core.Path.{◌≡◌}
use mathlib.Core.Bool.{Bool}
use mathlib.Core.List.{List}
use lib.IntN.{ℤ, pos}
use mir.Syntax.{w64}
use mir.Val.{SFits}
use mir.ValLaws.{to_z-of_z}
use Rattle.model.specs.Tree.{Tree, fork, height}
use Rattle.model.specs.Turn.{rebalance}
use Rattle.pool.specs.Node.{node_at}
use Rattle.pool.specs.declared.node.Fork.{Fork}
use Rattle.pool.specs.declared.node.Node.TheVariants as Node
use Rattle.tree.specs.declared.steps.Step.{Step}
use Rattle.turn.specs.Apart.{Apart}
use Rattle.model.specs.Side.{side}
use Rattle.turn.specs.Sites.{After, Leveled, Site, Stale, fork_at_heights}
use Rattle.turn.proofs.Differences.{both, held, none}
use Rattle.turn.proofs.Sites.{Altered, Around, after_level, after_leveled, stale}
use Rattle.descent.specs.SiteAt.{SiteAt}
use Rattle.descent.proofs.Down.{Down, side_here}

-- a change of height is handed on as a word
pub after_held : {w w' : List ℕ} {end head : ℕ} {t t' : Tree} {free free' : List ℕ} (g : ℤ) → SFits w64 g
    → After w w' end head g t t' free free' → After w w' end head (held g) t t' free free'
after_held g fits a = rw (to_z-of_z w64 g fits) a

-- The fork over l and r, of which one, by `left`, has become `new`, and the chain free': the words v hold that already,
-- and the fork says all of it but how it leans now.
pub record Changed (w v : List ℕ) (n end head : ℕ) (by : ℤ) (left : Bool) (l r new : Tree) (free free' : List ℕ) : Type 0 where
  pub levels : ℕ
  pub begin : ℕ
  pub site : Site w n levels end begin (fork n l r) free
  pub altered : Altered (side left l r) new free free'
  pub around : Around w v n end head by (side left l r) new free free'
  pub says : node_at v n ≡ Node.Fork (fork_at_heights (height l) (height r) (side left new l) (side left r new))

pub changes : {w v : List ℕ} {n levels head head' total index : ℕ} {by : ℤ} {f : Fork} {s : Step} {new : Tree} {free' : List ℕ}
    (b : SiteAt w n levels head total) (d : Down b index f s) → Altered (side s.left d.l d.r) new b.free free'
    → Around w v n b.end head' by (side s.left d.l d.r) new b.free free'
    → node_at v n ≡ Node.Fork (fork_at_heights (height d.l) (height d.r) (side s.left new d.l) (side s.left d.r new))
    → Changed w v n b.end head' by s.left d.l d.r new b.free free'
changes b d altered around says = record { levels = _; begin = _; site = d.site; altered = altered; around = around; says = says }

-- what balancing a fork asks of words in which one of its children has changed by so much, and what it answers
abbrev pub ToLevel : List ℕ → ℕ → Bool → ℤ → Type 0
ToLevel v n left by =
    (l : Tree) × (r : Tree) × (was : ℕ) × Stale v n left was l r × Apart by (height (side left l r)) was

abbrev pub Levels : List ℕ → List ℕ → ℕ → Bool → ℤ → ℤ → Type 0
Levels v x n left by grown =
    (l r : Tree) (was : ℕ) → Stale v n left was l r → Apart by (height (side left l r)) was → Leveled v x n left was l r grown

module _ {w v : List ℕ} {n end head : ℕ} {by : ℤ} {left : Bool} {l r new : Tree} {free free' : List ℕ}
    (c : Changed w v n end head by left l r new free free') where
  pub stale_now : Stale v n left (height (side left l r)) (side left new l) (side left r new)
  stale_now = stale left l r new free free' c.site c.altered c.around c.says

  told : Apart by (height (side left (side left new l) (side left r new))) (height (side left l r))
  told = rw (side_here left new l r) c.around.change

  -- the fork can be balanced again
  pub to_level : ToLevel v n left by
  to_level = (side left new l, side left r new, height (side left l r), stale_now, told)

  -- what is left then
  pub leveled : {x : List ℕ} {grown : ℤ} → Levels v x n left by grown
      → After w x end head grown (fork n l r) (rebalance n (side left new l) (side left r new)) free free'
  leveled levels = after_leveled left l r new free free' c.site c.altered c.around c.says (levels _ _ _ stale_now told)

  -- and where the child has kept its height
  pub level : by ≡ pos 0 → After w v end head (pos 0) (fork n l r) (rebalance n (side left new l) (side left r new)) free free'
  level zero =
      let same : Apart (pos 0) (height new) (height (side left l r)) = rw zero at c.around.change in
      after_level left l r new free free' c.site c.altered c.around c.says (omega (arith, both (pos 0) same (none 0)))
