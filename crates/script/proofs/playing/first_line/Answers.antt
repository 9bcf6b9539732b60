-- The line ends before the first newline, or with the input.
use Rattle.std.proofs.Common.{◌≡◌, ◌+◌, suc, ◌∙◌, sym, length, take, drop, List, ℕ, arith, ap}
use lib.ListN.{drop_of_length-le}
use lib.Seq.{take_all}
use Rattle.text.specs.Bytes.{index_of}
use Rattle.text.proofs.Seeking.{place_found, place_none}
use Rattle.script.proofs.Ends.{after_is, first_is}
use Rattle.script.proofs.playing.first_line.Goals as goal

pub returns-in-Some-clause-line : goal.returns-in-Some-clause-line
returns-in-Some-clause-line c =
    let found = place_found 10 c.args.input.now (sym c.find.ensures ∙ c.in-Some.is) in
    ap (λ (k : ℕ). take k c.args.input.now) found.0 ∙ sym (first_is c.args.input.now)

pub returns-in-Some-clause-rest : goal.returns-in-Some-clause-rest
returns-in-Some-clause-rest c =
    let found = place_found 10 c.args.input.now (sym c.find.ensures ∙ c.in-Some.is) in
    let past : c.in-Some.end + 1 ≡ suc (index_of 10 c.args.input.now) = omega (arith, found.0) in
    ap (λ (k : ℕ). drop k c.args.input.now) past ∙ sym (after_is c.args.input.now)

pub returns-in-None-clause-line : goal.returns-in-None-clause-line
returns-in-None-clause-line c =
    let none = place_none 10 c.args.input.now (sym c.find.ensures ∙ c.in-None.is) in
    sym (first_is c.args.input.now ∙ take_all (index_of 10 c.args.input.now) c.args.input.now none)

pub returns-in-None-clause-rest : goal.returns-in-None-clause-rest
returns-in-None-clause-rest c =
    let none = place_none 10 c.args.input.now (sym c.find.ensures ∙ c.in-None.is) in
    let bytes : List ℕ = c.args.input.now in
    drop_of_length-le bytes {i = length bytes} (omega arith)
    ∙ sym (after_is bytes ∙ drop_of_length-le bytes {i = suc (index_of 10 bytes)} (omega arith))
