-- What a tree with its free numbers answers to an order, and what it becomes. An order that is not carried out changes
-- nothing. The answers are the plain list's but for one: an insert that has no room is answered Full. Whether two nodes
-- may be taken is a rule of those who keep the tree, and is given as a yes or no.
use Rattle.std.specs.Prelude.{Bool, true, false, ◌&&◌, leb, ltb, length}
use Rattle.std.specs.Prelude.{Option, None, Some, Err}
use Rattle.model.specs.Pool as Pool
use Rattle.model.specs.Pool.{Pool}
use Rattle.model.specs.Tree.{marks}
use Rattle.order.specs.Asked.{Asked, inserting, removing, accessing, ranking, selecting, quiet, unknown}
use Rattle.order.specs.Plain.{list_answer}
use Rattle.order.specs.Answer.{Answer}
use Rattle.order.specs.declared.answer.Refusal.TheVariants.{Full}

-- an insert in range that has no room: its leaf would split, and two nodes may not be taken
unfoldable pub no_room : Bool → Asked → Pool → Bool
no_room may (inserting i b) p = leb i (length (marks p.tree)) && Pool.full may i p
no_room may (removing i) p = false
no_room may (accessing i) p = false
no_room may (ranking end b) p = false
no_room may (selecting k b) p = false
no_room may quiet p = false
no_room may unknown p = false

-- what it answers: Full where there is no room, and else what the list of its marks does
unfoldable pub answer : Bool → Asked → Pool → Answer
answer may o p = elim (no_room may o p) [ true ↦ Err Full | false ↦ list_answer o (marks p.tree) ]

-- a pool, or the one it was where there is none
abbrev pub or_else : Pool → Option Pool → Pool
or_else p (Some q) = q
or_else p None = p

-- what it is afterwards
unfoldable pub after : Bool → Asked → Pool → Pool
after may (inserting i b) p =
    elim (leb i (length (marks p.tree))) [ true ↦ or_else p (Pool.insert may i b p) | false ↦ p ]
after may (removing i) p = elim (ltb i (length (marks p.tree))) [ true ↦ Pool.remove i p | false ↦ p ]
after may (accessing i) p = p
after may (ranking end b) p = p
after may (selecting k b) p = p
after may quiet p = p
after may unknown p = p
