-- The code, a space and the value, then the words, then the end of the line.
use native.Mathlib.Numerals.{add-one}
use native.Mathlib.Omega.{arith}
use mathlib.Core.Path.{◌∙◌}
use lib.ListN.{get_or}
use Rattle.text.proofs.Putting.{hex_length}
use Rattle.script.proofs.Letters.{begun_none, byte_room, line_put, space_room, two_put, value_room, word_put, word_room}
use Rattle.script.proofs.telling.tell.Goals as goal

pub put_byte-end-requires : goal.put_byte-end-requires
put_byte-end-requires c =
    let a = c.args in
    let put = c.put_decimal-end.ensures in
    space_room a.answer.code a.answer.value a.out.now _ _ (omega (arith, c.requires)) (record { ends = put.end; bytes = put.written })

pub put_decimal-end-requires-2 : goal.put_decimal-end-requires-2
put_decimal-end-requires-2 c =
    let a = c.args in
    let put = c.put_decimal-end.ensures in
    let space = c.put_byte-end.ensures in
    value_room a.answer.code a.answer.value a.out.now _ _ (omega (arith, c.requires)) (record { ends = put.end; bytes = put.written })
    _ _ (record { ends = space.end; bytes = space.written })

pub loop-word-init : goal.loop-word-init
loop-word-init c =
    let a = c.args in
    let put = c.put_decimal-end.ensures in
    let space = c.put_byte-end.ensures in
    let value = c.put_decimal-end-2.ensures in
    begun_none a.answer.code a.answer.value a.words.now a.out.now _ _
    (two_put a.answer.code a.answer.value a.out.now _ _ (omega (arith, c.requires)) (record { ends = put.end; bytes = put.written })
    _ _ (record { ends = space.end; bytes = space.written }) _ _ (record { ends = value.end; bytes = value.written }))

pub put_byte-end-requires-in-loop-word : goal.put_byte-end-requires-in-loop-word
put_byte-end-requires-in-loop-word c =
    let a = c.args in
    let l = c.loop-word in
    byte_room a.answer.code a.answer.value a.words.now l.word-index a.out.now l.end l.out c.requires l.invariant (omega arith)

pub put_hex-end-requires : goal.put_hex-end-requires
put_hex-end-requires c =
    let a = c.args in
    let l = c.loop-word in
    let space = c.put_byte-end-in-loop-word.ensures in
    word_room a.answer.code a.answer.value a.words.now l.word-index a.out.now l.end l.out c.requires l.invariant (omega arith)
    _ _ (record { ends = space.end; bytes = space.written })

pub loop-word-preserved : goal.loop-word-preserved
loop-word-preserved c =
    let a = c.args in
    let l = c.loop-word in
    let space = c.put_byte-end-in-loop-word.ensures in
    let word = c.put_hex-end.ensures in
    let digits = hex_length (get_or a.words.now l.word-index 0) in
    rw (add-one l.word-index)
    (word_put a.answer.code a.answer.value a.words.now l.word-index a.out.now l.end l.out c.requires l.invariant (omega arith)
    _ _ (record { ends = space.end; bytes = space.written }) _ _ (record { ends = word.end ∙ omega (arith, digits); bytes = word.written }))

pub put_byte-requires : goal.put_byte-requires
put_byte-requires c =
    let a = c.args in
    let l = c.loop-word in
    byte_room a.answer.code a.answer.value a.words.now l.word-index a.out.now l.end l.out c.requires l.invariant (omega arith)

pub returns : goal.returns
returns c =
    let a = c.args in
    let l = c.loop-word in
    let last = c.put_byte.ensures in
    let line = line_put a.answer.code a.answer.value a.words.now l.word-index a.out.now l.end l.out c.requires l.invariant
    (omega arith) _ _ (record { ends = last.end; bytes = last.written }) in
    record { end = line.0; written = line.1 }
