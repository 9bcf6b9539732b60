-- Two words for each 128 marks begun. Assumes nothing.
use native.Mathlib.Omega.{arith}
use Rattle.model.specs.Word.{words_for}
use Rattle.values.proofs.writing.words_for.Goals as goal

pub returns : goal.returns
unfolding words_for
returns c = omega arith
