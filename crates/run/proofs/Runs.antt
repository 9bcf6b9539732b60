-- What run answers by its tests. They exclude one another, so each answer is right.
use Prim.Native.Nat.{ℕ, ◌*◌, ◌%◌, ◌≤◌, ◌<◌}
use native.Mathlib.Omega.{arith}
use mathlib.Core.Path.{◌≡◌, refl}
use mathlib.Core.List.{List, ◌++◌}
use lib.ListN.{length, drop}
use Rattle.model.specs.Pool.{Pool}
use Rattle.run.specs.Runs.{Unchanged, Ran, order_count}
use Rattle.window.specs.Calls.{NoPool}
use Rattle.window.specs.Layout.{Counted, Stands, WellFormed}
use Rattle.run.specs.Orders.{orders_of, answers, after_all, answer_words}
use Rattle.order.specs.Answer.{Answer}
use Rattle.std.specs.Prelude.{Ok, Err}
use Rattle.order.specs.declared.answer.Refusal.TheVariants.{WrongSize, NotSound, ShortOutput, PartOrder}
use Rattle.window.proofs.OneState.{counted_one}

-- an answer that leaves everything as it was
kept : (r : Answer) (ws out : List ℕ) → (r ≡ r) × Unchanged ws ws out out
kept r ws out = (refl, record { pool = refl; output = refl })

module _ (ws orders out : List ℕ) where
  pub no_ran : NoPool ws → Ran ws orders out (Err WrongSize) ws out
  no_ran d = record {
    no_pool = λ _. kept (Err WrongSize) ws out;
    part = λ n c _. absurd (d n c);
    short = λ n c _ _. absurd (d n c);
    damaged = λ b _ _. absurd (d b.count.0 b.count.1);
    served = λ n p s _ _. absurd (d n s.counted);
  }

  module _ (n : ℕ) (c : Counted ws n) where
    pub part_ran : (length orders % 3 ≡ 0 → ⊥) → Ran ws orders out (Err PartOrder) ws out
    part_ran h = record {
      no_pool = λ d. absurd (d n c);
      part = λ _ _ _. kept (Err PartOrder) ws out;
      short = λ _ _ whole _. absurd (h whole);
      damaged = λ _ whole _. absurd (h whole);
      served = λ _ _ _ whole _. absurd (h whole);
    }

    module _ (whole : length orders % 3 ≡ 0) where
      pub short_ran : length out < 2 * order_count orders → Ran ws orders out (Err ShortOutput) ws out
      short_ran h = record {
        no_pool = λ d. absurd (d n c);
        part = λ _ _ k. absurd (k whole);
        short = λ _ _ _ _. kept (Err ShortOutput) ws out;
        damaged = λ _ _ room. absurd (omega arith);
        served = λ _ _ _ _ room. absurd (omega arith);
      }

      module _ (room : 2 * order_count orders ≤ length out) where
        pub damaged_ran : (WellFormed ws → ⊥) → Ran ws orders out (Err NotSound) ws out
        damaged_ran h = record {
          no_pool = λ d. absurd (d n c);
          part = λ _ _ k. absurd (k whole);
          short = λ _ _ _ k. absurd (omega arith);
          damaged = λ _ _ _. kept (Err NotSound) ws out;
          served = λ m p s _ _. absurd (h (m, p, s));
        }

        pub served_ran : {ws' out' : List ℕ} (p : Pool) → Stands ws n p
            → ((q : Pool) → Stands ws n q
            → Stands ws' n (after_all (orders_of orders) q)
            × (out' ≡ answer_words (answers (orders_of orders) q) ++ drop (order_count orders * 2) out))
            → Ran ws orders out (Ok (order_count orders)) ws' out'
        served_ran p s f = record {
          no_pool = λ d. absurd (d n c);
          part = λ _ _ k. absurd (k whole);
          short = λ _ _ _ k. absurd (omega arith);
          damaged = λ d _ _. absurd (d.none (n, p, s));
          served = λ m q t _ _.
              let same : n ≡ m = counted_one ws n m c t.counted in
              let twice : 2 * order_count orders ≡ order_count orders * 2 = omega arith in
              let g = f q (rw (← same) at t) in
              (refl, rw same at g.0, rw twice g.1);
        }
