-- What run answers and leaves, for all words, by its sequence of tests.
use Rattle.std.specs.Prelude.{ℕ, ◌*◌, ◌/◌, ◌%◌, ◌≤◌, ◌<◌, ◌≡◌, List, ◌++◌, length, drop, Ok, Err}
use Rattle.model.specs.Pool.{Pool}
use Rattle.order.specs.Answer.{Answer}
use Rattle.order.specs.declared.answer.Refusal.TheVariants.{WrongSize, NotSound, ShortOutput, PartOrder}
use Rattle.window.specs.Calls.{Damaged, NoPool}
use Rattle.window.specs.Layout.{Counted, Stands}
use Rattle.run.specs.Orders.{orders_of, answers, after_all, answer_words}

-- nothing is changed
pub record Unchanged (ws ws' out out' : List ℕ) : Type 0 where
  pub pool : ws' ≡ ws
  pub output : out' ≡ out

-- orders are three words each, and their answers two
abbrev pub order_count : List ℕ → ℕ
order_count orders = length orders / 3

-- its tests are 6, 9, 8, 7
pub record Ran (ws orders out : List ℕ) (r : Answer) (ws' out' : List ℕ) : Type 0 where
  pub no_pool : NoPool ws → (r ≡ Err WrongSize) × Unchanged ws ws' out out'
  pub part : (n : ℕ) → Counted ws n → (length orders % 3 ≡ 0 → ⊥) → (r ≡ Err PartOrder) × Unchanged ws ws' out out'
  pub short : (n : ℕ) → Counted ws n → length orders % 3 ≡ 0 → length out < 2 * order_count orders
      → (r ≡ Err ShortOutput) × Unchanged ws ws' out out'
  pub damaged : Damaged ws → length orders % 3 ≡ 0 → 2 * order_count orders ≤ length out
      → (r ≡ Err NotSound) × Unchanged ws ws' out out'
  pub served : (n : ℕ) (p : Pool) → Stands ws n p → length orders % 3 ≡ 0 → 2 * order_count orders ≤ length out
      → (r ≡ Ok (order_count orders)) × Stands ws' n (after_all (orders_of orders) p)
      × (out' ≡ answer_words (answers (orders_of orders) p) ++ drop (2 * order_count orders) out)
