-- What an answer says where the fact holds, and where it does not.
use Prim.Native.Nat.{ℕ}
use native.Mathlib.Omega.{arith}
use mathlib.Core.Path.{◌≡◌, refl}
use mathlib.Core.Bool.{Bool, true, false}
use borrow.Author.Tests.{eqb-true, eq-eqb}
use lib.Dec.{eqb}
use Rattle.bits.specs.declared.leaf.Leaf.{Leaf}
use Rattle.pool.specs.declared.node.Fork.{Fork}
use Rattle.pool.specs.declared.node.Node.TheVariants.{Free as free, Leaf as leaf, Fork as fork}
use Rattle.model.specs.Says.{Says}

-- no answer is both
pub never : {A : Type 0} {b : Bool} → b ≡ true → b ≡ false → A
never p q = let z : ◌≡◌ {A = ℕ} 0 1 = cc in absurd (omega arith)

module _ {P : Type 0} where
  -- the fact does not hold
  pub says_no : (P → ⊥) → Says P false
  says_no n = record { yes = λ e. never e refl; no = λ p. absurd (n p) }

  -- two numbers are compared
  pub says_same : (m n : ℕ) → (m ≡ n → P) → (P → m ≡ n) → Says P (eqb m n)
  says_same m n p q = record { yes = λ e. p (eqb-true m n e); no = λ h. eq-eqb m n (q h) }

-- ---- no node is of two kinds

pub no_leaf : {A : Type 0} {x : Leaf} {k : ℕ} → leaf x ≡ free k → A
no_leaf e = let z : ◌≡◌ {A = ℕ} 0 1 = cc in absurd (omega arith)

pub no_fork : {A : Type 0} {f : Fork} {k : ℕ} → fork f ≡ free k → A
no_fork e = let z : ◌≡◌ {A = ℕ} 0 1 = cc in absurd (omega arith)
