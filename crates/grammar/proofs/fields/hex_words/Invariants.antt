-- The words read stand in the row, and those that are left follow them.
use Rattle.grammar.proofs.Gathering.{Gathered, size_left}
use Rattle.grammar.proofs.fields.hex_words.Given as goal

abbrev pub invariant-loop-rest : goal.invariant-loop-rest
invariant-loop-rest l = Gathered l.fn.fields l.fn.words l.words l.rest l.count

abbrev pub decreases-loop-rest : goal.decreases-loop-rest
decreases-loop-rest l = size_left l.rest
