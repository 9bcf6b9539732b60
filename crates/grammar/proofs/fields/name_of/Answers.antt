-- Each name by its bytes.
use Rattle.std.proofs.Common.{rules, arith}
use Rattle.grammar.specs.Lines.{spelled}
use Rattle.grammar.specs.declared.fields.Name.TheVariants.{Pool, Load, Insert, Remove, Get, Rank, Select, Gap, Dump}
use Rattle.grammar.proofs.Names.{name_read}
use Rattle.grammar.proofs.fields.name_of.Goals as goal

pub returns-in-pool : goal.returns-in-pool
unfolding spelled
returns-in-pool c = name_read Pool c.args.field.now (omega arith) (search rules)

pub returns-in-load : goal.returns-in-load
unfolding spelled
returns-in-load c = name_read Load c.args.field.now (omega arith) (search rules)

pub returns-in-ins : goal.returns-in-ins
unfolding spelled
returns-in-ins c = name_read Insert c.args.field.now (omega arith) (search rules)

pub returns-in-rem : goal.returns-in-rem
unfolding spelled
returns-in-rem c = name_read Remove c.args.field.now (omega arith) (search rules)

pub returns-in-get : goal.returns-in-get
unfolding spelled
returns-in-get c = name_read Get c.args.field.now (omega arith) (search rules)

pub returns-in-rank : goal.returns-in-rank
unfolding spelled
returns-in-rank c = name_read Rank c.args.field.now (omega arith) (search rules)

pub returns-in-sel : goal.returns-in-sel
unfolding spelled
returns-in-sel c = name_read Select c.args.field.now (omega arith) (search rules)

pub returns-in-gap : goal.returns-in-gap
unfolding spelled
returns-in-gap c = name_read Gap c.args.field.now (omega arith) (search rules)

pub returns-in-dump : goal.returns-in-dump
unfolding spelled
returns-in-dump c = name_read Dump c.args.field.now (omega arith) (search rules)
