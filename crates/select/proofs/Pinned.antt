-- Every public contract determines its result: two results that it allows for the same arguments are equal. What `select_word` says of any
-- word is said here of those of 32 bits and of 64 as well.
use mathlib.Core.Path.{refl}
use denote.Exit as Exit
use denote.Param as Param
use denote.Param.Laws as Laws
use denote.Param.Shared.{copy_shared}
use denote.RattleType.{RattleType}
use denote.Struct.Field as Field
use denote.Struct.Laws as Plain
use mir.Syntax as Syntax
use Rattle.model.specs.Contract.{Pinned}
use Rattle.model.proofs.Contracts.{one_value}
use Rattle.bits.specs.declared.word.Word as Word
use Rattle.bits.specs.contracts.word.U32Word.TheImpl as Word32
use Rattle.bits.specs.contracts.word.U64Word.TheImpl as Word64
use Rattle.std.specs.declared.clone.Clone as Clone
use Rattle.std.specs.contracts.prelude.U32Clone.TheImpl as Clone32
use Rattle.std.specs.contracts.prelude.U64Clone.TheImpl as Clone64
use Rattle.select.proofs.select.select_word.Reads as select_word
use Rattle.select.proofs.select.select128.Reads as select128

pub select_word_pinned : (T : RattleType) (l : Laws.Laws T) (c : Laws.IsCopy T) (w : Word.Ghosts T.Denot) (d : Syntax.Dict) (k : Clone.Ghosts T.Denot)
    (e : Syntax.Dict) → Pinned (select_word.Post T l c w d k e)
select_word_pinned T l c w d k e = one_value (λ κs a r v f. f)

pub select32_pinned : Pinned (select_word.Post (Param.arg (Syntax.ty_int Syntax.w32) Exit.no (Field.u32-field).row)
    (Laws.arg_laws (Syntax.ty_int Syntax.w32) Exit.no (Field.u32-field).row
    (Laws.of_field Field.u32-field Plain.u32-laws refl (copy_shared Field.u32-field Plain.u32-copy)) refl)
    (Laws.arg_copy (Syntax.ty_int Syntax.w32) Exit.no (Field.u32-field).row (Laws.of_copyable Field.u32-field Plain.u32-copy) refl)
    Word32.ghosts Word32.dict Clone32.ghosts Clone32.dict)
select32_pinned = one_value (λ κs a r w e. e)

pub select64_pinned : Pinned (select_word.Post (Param.arg (Syntax.ty_int Syntax.w64) Exit.no (Field.u64-field).row)
    (Laws.arg_laws (Syntax.ty_int Syntax.w64) Exit.no (Field.u64-field).row
    (Laws.of_field Field.u64-field Plain.u64-laws refl (copy_shared Field.u64-field Plain.u64-copy)) refl)
    (Laws.arg_copy (Syntax.ty_int Syntax.w64) Exit.no (Field.u64-field).row (Laws.of_copyable Field.u64-field Plain.u64-copy) refl)
    Word64.ghosts Word64.dict Clone64.ghosts Clone64.dict)
select64_pinned = one_value (λ κs a r w e. e)

pub select128_pinned : Pinned select128.Post
select128_pinned = one_value (λ κs a r w e. e)
