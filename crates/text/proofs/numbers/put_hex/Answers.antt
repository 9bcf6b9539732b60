use Rattle.text.specs.Text.{hex_text}
use Rattle.text.proofs.numbers.put_hex.Goals as goal

pub returns-clause-written : goal.returns-clause-written
unfolding hex_text
returns-clause-written c = c.put_digits.ensures
