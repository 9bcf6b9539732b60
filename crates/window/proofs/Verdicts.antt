-- The calls' answers by what the words are: no pool's, a damaged pool's, or a pool that stands. The three exclude one
-- another, so each answer is right.
use Prim.Native.Nat.{ℕ, ◌≤◌, ◌<◌}
use native.Mathlib.Omega.{arith}
use mathlib.Core.Path.{◌≡◌, refl, ap, ◌∙◌}
use mathlib.Core.Bool.{Bool, false}
use mathlib.Core.List.{List, ◌++◌}
use lib.ListN.{length, drop}
use Rattle.model.specs.Pool.{Pool}
use Rattle.model.specs.Says.{Says}
use Rattle.model.specs.Tree.{marks, size}
use Rattle.model.specs.Word.{words_for, words_of}
use Rattle.window.specs.Calls.{NoPool, Checked, Valued}
use Rattle.window.specs.Layout.{Counted, Stands, WellFormed}
use Rattle.std.specs.Prelude.{Ok, Err}
use Rattle.order.specs.declared.answer.Refusal.TheVariants.{WrongSize, NotSound, ShortOutput}
use Rattle.window.proofs.OneState.{one_state}

-- what is answered no does not hold
pub says_not : {P : Type 0} {r : Bool} → Says P r → r ≡ false → P → ⊥
says_not s e p = let yes = s.no p in let never : ◌≡◌ {A = ℕ} 0 1 = cc in omega arith

module _ (ws : List ℕ) where
  -- ---- no pool has so many words

  module _ (none : NoPool ws) where
    pub no_checked : Checked ws (Err WrongSize)
    no_checked = record {
      no_pool =
          λ _. refl;
      damaged = λ d. absurd (none d.count.0 d.count.1);
      sound = λ n p s. absurd (none n s.counted);
    }

    pub no_valued : (out : List ℕ) → Valued ws out (Err WrongSize) out
    no_valued out = record {
      no_pool = λ _. (refl, refl);
      damaged = λ d. absurd (none d.count.0 d.count.1);
      short = λ n p s _. absurd (none n s.counted);
      written = λ n p s _. absurd (none n s.counted);
    }

  -- ---- no pool stands in them

  module _ (n : ℕ) (c : Counted ws n) (none : WellFormed ws → ⊥) where
    pub damaged_checked : Checked ws (Err NotSound)
    damaged_checked = record { no_pool = λ d. absurd (d n c); damaged = λ _. refl; sound = λ m p s. absurd (none (m, p, s)) }

    pub damaged_valued : (out : List ℕ) → Valued ws out (Err NotSound) out
    damaged_valued out = record {
      no_pool = λ d. absurd (d n c);
      damaged = λ _. (refl, refl);
      short = λ m p s _. absurd (none (m, p, s));
      written = λ m p s _. absurd (none (m, p, s));
    }

  -- ---- a pool stands in them

  module _ (n : ℕ) (p : Pool) (s : Stands ws n p) where
    same_size : (m : ℕ) (q : Pool) → Stands ws m q → size p.tree ≡ size q.tree
    same_size m q t = ap (λ (x : Pool). size x.tree) (one_state ws n m p q s t)

    pub stands_checked : (len : ℕ) → len ≡ size p.tree → Checked ws (Ok len)
    stands_checked len e = record {
      no_pool = λ d. absurd (d n s.counted);
      damaged = λ d. absurd (d.none (n, p, s));
      sound = λ m q t. ap Ok (e ∙ same_size m q t);
    }

    -- the output is too short
    pub short_valued : (out : List ℕ) → length out < words_for (size p.tree) → Valued ws out (Err ShortOutput) out
    short_valued out h = record {
      no_pool = λ d. absurd (d n s.counted);
      damaged = λ d. absurd (d.none (n, p, s));
      short = λ m q t _. (refl, refl);
      written = λ m q t k. absurd (omega (arith, h, k, ap words_for (same_size m q t)));
    }

    -- the marks are written
    pub written_valued : (out out' : List ℕ) (k : ℕ) → k ≡ words_for (size p.tree) → words_for (size p.tree) ≤ length out
        → out' ≡ words_of k (marks p.tree) ++ drop k out → Valued ws out (Ok k) out'
    written_valued out out' k e h w = record {
      no_pool = λ d. absurd (d n s.counted);
      damaged = λ d. absurd (d.none (n, p, s));
      short = λ m q t l. absurd (omega (arith, h, l, ap words_for (same_size m q t)));
      written = λ m q t _.
          let same : p ≡ q = one_state ws n m p q s t in
          (ap Ok (e ∙ ap (λ (x : Pool). words_for (size x.tree)) same), w ∙ rw (e, same));
    }
