-- What is left where an order has changed nothing, where a mark was put in, and where one was taken out.
use Prim.Native.Nat.{ℕ, ◌+◌, ◌-◌, ◌≤◌, ◌<◌}
use native.Mathlib.Omega.{arith}
use mathlib.Core.Path.{◌≡◌, refl, sym, ◌∙◌}
use mathlib.Core.Bool.{Bool, false}
use mathlib.Core.List.Memᴰ
use mathlib.Core.List.{List}
use mir.Val.{bool_byte}
use Rattle.model.specs.Limits.{levels}
use Rattle.model.specs.Pool as Pool
use Rattle.model.specs.Pool.{Pool}
use Rattle.model.specs.Tree.{marks, size, numbers}
use Rattle.model.proofs.Content.{insert_size, remove_size}
use Rattle.pool.specs.declared.chain.Chain.{Chain}
use Rattle.descent.specs.SiteAt.{SiteAt}
use Rattle.grow.specs.Inserting.{InsertedInto, ToAsk, ToInsertInto}
use Rattle.shrink.specs.Removing.{RemovedFrom, ToRemoveFrom}
use Rattle.shrink.specs.declared.removing.Removed.{Removed}
use Rattle.order.specs.Asked.{Asked, inserting, removing, unknown}
use Rattle.order.specs.Plain.{list_answer}
use Rattle.tree.specs.TreeAt.{TreeAt}
use Rattle.tree.specs.declared.root.Held.{Held}
use Rattle.serve.specs.Orders.{answer, after}
use Rattle.serve.specs.Serving.{Serves, ToServe}
use Rattle.order.specs.Answer.{Answer}
use Rattle.std.specs.Prelude.{Ok, Err}
use Rattle.order.specs.declared.answer.Refusal.TheVariants.{Malformed}
use Rattle.serve.specs.declared.serving.Served.{Served}
use Rattle.serve.proofs.Orderly.{Asks, insert_done, remove_after, remove_done, room_taken, unknown_answer, unknown_asks}

module _ {w : List ℕ} {end : ℕ} {h : Held} {may : Bool} {p : Pool} (s : ToServe w end h may p) where
  abbrev pub stands : TreeAt w h.tree levels
  stands = record { tree = p.tree; rooted = s.site.rooted; total = s.total }

  -- ---- nothing is changed

  pub still : (o : Asked) (a : Answer) (r : Served) → r ≡ record { answer = a; held = h } → a ≡ answer may o p
      → after may o p ≡ p → Serves w w end may o p r
  still o a r e told same =
      rw e
      (record {
        answered = told;
        edited = record { size = refl; holds = rw same s.site.rooted.holds; else = λ k _. refl };
        chained = rw same s.site.chained;
        first = rw same s.site.first;
        count = rw same s.count;
        root = s.site.rooted.at;
        total = rw same s.total;
      })

  -- ---- a mark is put in

  abbrev site : SiteAt w h.tree.node levels h.chain.first h.tree.length
  site = record { end = end; tree = p.tree; free = p.free; site = s.site; total_is = s.total }

  abbrev pub to_ask : (i : ℕ) → i ≤ h.tree.length → ToAsk w h.tree i
  to_ask i within = record { pool = p; rooted = s.site.rooted; total_is = s.total; within = within }

  abbrev pub to_insert : (i : ℕ) → i ≤ h.tree.length → Pool.full may i p ≡ false → ToInsertInto w h i
  to_insert i within room = record {
    place = record { at = site; within = within; room = λ split. s.two (room_taken may i false p room split) };
    count_is = s.count;
    past = λ m. s.past (Memᴰ.append_right (numbers p.tree) m);
  }

  pub inserted : {w' : List ℕ} (i : ℕ) (b : Bool) (c : Chain) (within : i ≤ h.tree.length) (room : Pool.full may i p ≡ false)
      → InsertedInto (to_insert i within room) w' c b
      → Serves w w' end may (inserting i b) p
      (record { answer = Ok 0; held = record { tree = record { node = h.tree.node; length = h.tree.length + 1 }; chain = c } })
  inserted i b c within room x =
      let inside : i ≤ size p.tree = omega (arith, s.total) in
      let done = insert_done may i b p inside room in
      record {
        answered = done.0;
        edited = rw done.1 x.edited;
        chained = rw done.1 x.chained;
        first = rw done.1 x.first;
        count = rw done.1 x.count_is;
        root = s.site.rooted.at;
        total = rw done.1 (omega (arith, s.total, insert_size i b p.free p.tree inside));
      }

  -- ---- a mark is taken out

  abbrev pub to_remove : (i : ℕ) → i < h.tree.length → ToRemoveFrom w h i
  to_remove i within = record {
    place = record { at = site; within = within };
    count_is = s.count;
    past = λ m. s.past (Memᴰ.append_left p.free m);
    fits = s.fits;
  }

  pub removed : {w' : List ℕ} (i : ℕ) (r : Removed) (within : i < h.tree.length) → RemovedFrom (to_remove i within) w' r
      → Serves w w' end may (removing i) p
      (record {
        answer = Ok (bool_byte r.bit);
        held = record { tree = record { node = h.tree.node; length = h.tree.length - 1 }; chain = r.chain };
      })
  unfolding Pool.remove
  removed i r within x =
      let inside : i < size p.tree = omega (arith, s.total) in
      let now = remove_after may i p inside in
      record {
        answered = remove_done may i p r.bit inside x.mark;
        edited = rw now x.edited;
        chained = rw now x.chained;
        first = rw now x.first;
        count = rw now x.count_is;
        root = s.site.rooted.at;
        total = rw now (omega (arith, s.total, remove_size i p.tree inside));
      }

  -- ---- orders that three words ask

  -- a question is answered
  pub asked : {o o' : Asked} {a : Answer} {r : Served} → o ≡ o' → Asks o' → a ≡ list_answer o' (marks p.tree)
      → r ≡ record { answer = a; held = h } → Serves w w end may o p r
  asked {o' = o'} {a = a} {r = r} same question told e =
      rw same (still o' a r e (told ∙ sym (question.answers may p)) (question.leaves may p))

  -- what asks nothing is malformed
  pub malformed : {o : Asked} {r : Served} → o ≡ unknown → r ≡ record { answer = Err Malformed; held = h }
      → Serves w w end may o p r
  malformed same e = asked same unknown_asks (unknown_answer (marks p.tree)) e
