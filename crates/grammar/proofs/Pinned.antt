-- Every public contract determines its result: two results that it allows for the same arguments are equal, and so are the bytes and words that the
-- call leaves, but for words that are no load's. Each law speaks of the contract as the check reads it off the source.
use Prim.Native.Nat.{ℕ}
use mathlib.Core.Path.{◌≡◌, sym, ap, ◌∙◌}
use mathlib.Core.List.{List, []}
use Rattle.std.specs.Prelude.{Option, None, Some}
use lib.ListN.{length, take}
use lib.Seq.{length-take-le}
use Rattle.order.specs.declared.asked.Order.{Order}
use Rattle.order.proofs.Asking.{asks_back, order_of}
use Rattle.grammar.specs.Lines.{dumping, loading, ordering, pooling, Reads, Tells, wanted, Wanted}
use Rattle.grammar.specs.declared.reading.Line.{Line}
use Rattle.grammar.specs.declared.reading.Line.TheVariants.{Pool as Line_as_Pool, Load as Line_as_Load, Order as Line_as_Order, Dump as Line_as_Dump}
use Rattle.grammar.proofs.reading.read.Reads as read

-- ---- what is asked for tells the answer

line_for : Option Wanted → Option Line
line_for None = None
line_for (Some (pooling n)) = Some (Line_as_Pool n)
line_for (Some (loading n ws)) = Some (Line_as_Load (record { length = n; count = length ws }))
line_for (Some (ordering o)) = Some (Line_as_Order (order_of o))
line_for (Some dumping) = Some Line_as_Dump

-- a load's words
abbrev pub loaded : Option Line → List ℕ → List ℕ
loaded (Some (Line_as_Pool n)) ws = []
loaded (Some (Line_as_Load l)) ws = take l.count ws
loaded (Some (Line_as_Order o)) ws = []
loaded (Some Line_as_Dump) ws = []
loaded None ws = []

words_for : Option Wanted → List ℕ
words_for None = []
words_for (Some (pooling n)) = []
words_for (Some (loading n ws)) = ws
words_for (Some (ordering o)) = []
words_for (Some dumping) = []

told_line : (w : Option Wanted) (r : Option Line) (ws : List ℕ) → Tells w r ws → r ≡ line_for w
unfolding line_for
told_line w (Some (Line_as_Pool n)) ws e = ap line_for (sym e)
told_line w (Some (Line_as_Load l)) ws e =
    ap (λ (k : ℕ). Some (Line_as_Load (record { length = l.length; count = k }))) (sym (length-take-le l.count ws e.0)) ∙ ap line_for (sym e.1)
told_line w (Some (Line_as_Order o)) ws e = ap (λ (o : Order). Some (Line_as_Order o)) (sym (asks_back o)) ∙ ap line_for (sym e)
told_line w (Some Line_as_Dump) ws e = ap line_for (sym e)
told_line w None ws e = ap line_for (sym e)

told_words : (w : Option Wanted) (r : Option Line) (ws : List ℕ) → Tells w r ws → loaded r ws ≡ words_for w
unfolding words_for
told_words w (Some (Line_as_Pool n)) ws e = ap words_for (sym e)
told_words w (Some (Line_as_Load l)) ws e = ap words_for (sym e.1)
told_words w (Some (Line_as_Order o)) ws e = ap words_for (sym e)
told_words w (Some Line_as_Dump) ws e = ap words_for (sym e)
told_words w None ws e = ap words_for (sym e)

-- ---- the contracts

pub reads_one : (bs : List ℕ) (r r' : Option Line) (ws ws' : List ℕ) → Reads bs r ws → Reads bs r' ws' → (r ≡ r') × (loaded r ws ≡ loaded r' ws')
unfolding Reads
reads_one bs r r' ws ws' p q =
    let w : Option Wanted = wanted bs in
    (told_line w r ws p ∙ sym (told_line w r' ws' q), told_words w r ws p ∙ sym (told_words w r' ws' q))

pub read_pinned : (κs : _) (a : _) (r r' : _) (w w' : _) → read.Post κs a r w → read.Post κs a r' w'
    → (r ≡ r') × (loaded r w.1.0.now ≡ loaded r' w'.1.0.now)
read_pinned κs a r r' w w' p q = reads_one _ r r' _ _ p q
