-- Each promise, and the law that keeps it.
use native.Mathlib.Omega.{arith}
use Rattle.demands.specs.Promises.{RefusedBuildChangesNothing, RefusedValuesChangesNothing, RefusedRunChangesNothing, RefusedOrderChangesNoWord, RefusedListChangesNoWord, AnswersAreTheLists, WithRoomAllIsTheLists, FullExactly, SizesAgree, NoFullBelowTheFloor, NoFullBelow16958, FloorIsSharp, NothingLostByCount, NothingLostByMarks, DoneIsDone, FullIsTold, OrderCodes, ListsMayBeCut}
use Rattle.demands.proofs.Exchanges as Exchanges
use Rattle.demands.proofs.Floor as Floor
use Rattle.demands.proofs.Histories as Histories
use Rattle.demands.proofs.RefusedCalls as RefusedCalls

pub refused_build_changes_nothing : RefusedBuildChangesNothing
refused_build_changes_nothing = RefusedCalls.build_refused

pub refused_values_changes_nothing : RefusedValuesChangesNothing
refused_values_changes_nothing = RefusedCalls.values_refused

pub refused_run_changes_nothing : RefusedRunChangesNothing
refused_run_changes_nothing = RefusedCalls.run_refused

pub refused_order_changes_no_word : RefusedOrderChangesNoWord
refused_order_changes_no_word ws e r refused = Exchanges.refused_order r refused

pub refused_list_changes_no_word : RefusedListChangesNoWord
refused_list_changes_no_word = Exchanges.refused_list

pub answers_are_the_lists : AnswersAreTheLists
answers_are_the_lists slice words len lists ws told h =
    let b = Histories.built h in
    let m = Histories.means h in
    (Histories.every_answer b m, Histories.follows_list b m)

pub with_room_all_is_the_lists : WithRoomAllIsTheLists
with_room_all_is_the_lists slice words len lists ws told h room = Histories.with_room (Histories.built h) (Histories.means h) room

pub full_exactly : FullExactly
full_exactly ws e n p r s i =
    ((λ t. (Exchanges.told_then_no_room r s t.code).1), (λ lack. Exchanges.no_room_then_told r s i lack))

pub sizes_agree : SizesAgree
sizes_agree = Histories.sizes_agree

pub no_full_below_the_floor : NoFullBelowTheFloor
no_full_below_the_floor = Exchanges.floor_in_history

pub no_full_below_16958 : NoFullBelow16958
no_full_below_16958 slice words len lists ws told e size h r f =
    omega (arith, Exchanges.window_floor slice words len lists ws told e size h r f)

pub floor_is_sharp : FloorIsSharp
floor_is_sharp = Floor.sharp

pub nothing_lost_by_count : NothingLostByCount
nothing_lost_by_count slice words len lists ws told count h c =
    omega (arith, Histories.by_count (Histories.built h) (Histories.means h) count c)

pub nothing_lost_by_marks : NothingLostByMarks
nothing_lost_by_marks slice words len lists ws told out k out' h v =
    Histories.by_marks (Histories.built h) (Histories.means h) out k out' v

pub done_is_done : DoneIsDone
done_is_done ws e n m p q r s t c = (Exchanges.inserted r s t c, Exchanges.removed r s t c)

pub full_is_told : FullIsTold
full_is_told ws e n p r s =
    (Exchanges.told_then_no_room r s, (λ i lack. (Exchanges.no_room_then_told r s i lack).code), Exchanges.else_the_list r s)

pub order_codes : OrderCodes
order_codes ws e r = Exchanges.order_code r

pub lists_may_be_cut : ListsMayBeCut
lists_may_be_cut = Exchanges.cut
