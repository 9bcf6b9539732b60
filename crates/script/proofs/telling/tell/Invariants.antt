-- The answer and the first words are put.
use Rattle.script.proofs.Letters.{Begun}
use Rattle.script.proofs.telling.tell.Given as goal

abbrev pub invariant-loop-word : goal.invariant-loop-word
invariant-loop-word l = Begun l.fn.answer.code l.fn.answer.value l.words l.word-index l.fn.out l.end l.out
