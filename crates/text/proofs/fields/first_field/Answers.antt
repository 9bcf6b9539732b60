use Rattle.std.proofs.Common.{arith, ◌≡◌, ◌∙◌, ◌+◌, ◌-◌, ◌<◌, sym, ap, length, take, drop, List, ℕ, ◌∷◌}
use lib.ListN.{length-drop}
use lib.Seq.{take_all}
use Rattle.text.specs.Text.{fields_left, fields}
use Rattle.text.specs.Bytes.{index_of}
use Rattle.text.proofs.Cutting.{fields_alone, fields_more}
use Rattle.text.proofs.Seeking.{place_found, place_none}
use Rattle.text.proofs.fields.first_field.Goals as goal
use Rattle.text.proofs.fields.first_field.Goals.{In-Some, In-None}

pub returns-in-Some-clause-fields : goal.returns-in-Some-clause-fields
unfolding fields_left
returns-in-Some-clause-fields c =
    let bytes : List ℕ = c.args.fields.now in
    let end : ℕ = c.in-Some.end in
    let found : (end ≡ index_of 32 bytes) × (end < length bytes) = place_found 32 bytes (sym c.find.ensures ∙ c.in-Some.is) in
    fields_more bytes found.0 found.1
    ∙ ap (λ (bs : List ℕ). take end bytes ∷ fields bs)
    (sym (take_all (length bytes - (end + 1)) (drop (end + 1) bytes) (omega (arith, length-drop (end + 1) bytes))))

pub returns-in-None-clause-fields : goal.returns-in-None-clause-fields
unfolding fields_left
returns-in-None-clause-fields c = fields_alone c.args.fields.now (place_none 32 c.args.fields.now (sym c.find.ensures ∙ c.in-None.is))
