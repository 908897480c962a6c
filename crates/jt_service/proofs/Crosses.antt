-- What workers share may be shared where the keeper and the journal may go to another thread.
use denote.RattleType.{RattleType}
use denote.Struct.Struct.{Struct}
use denote.Struct.Owning.{shape}
use denote.Param.Send.{Frees, IsSend, IsSync, part_keyless, recorded_send, sendable, struct_send, view_send}
use Rattle.std.specs.contracts.option.Option
use Rattle.std.proofs.Crossing.{crosses}
use Rattle.std.proofs.MapsCrossing.{crosses as maps}
use Rattle.std.specs.declared.alloc.Allocator.{Ghosts}
use Rattle.atomic_table.proofs.Rights.{right_send}
use Rattle.atomic_table.specs.contracts.send_lease.SendLease as lease
use Rattle.atomic_table.proofs.Sent.{seat_keyless, shares_keyless}
use Rattle.atomic_table.specs.contracts.shared.Seat as seat
use Rattle.atomic_table.specs.contracts.shared.Shared as shared
use Rattle.atomic_table.specs.declared.shared.TableRule as rule
use Rattle.jt_store.specs.declared.keeper.Keeper as keeper
use Rattle.jt_platform.specs.declared.journal.Journal as journal
use Rattle.jt_turn.specs.contracts.pass.Pass
use Rattle.jt_turn.specs.contracts.turn.Turn
use Rattle.jt_platform.specs.contracts.desk.HubDesk.TheImpl.{ghosts, no_dict}
use Rattle.jt_platform.specs.contracts.desk.HubOpening
use Rattle.jt_platform.specs.contracts.hub.Hub
use Rattle.jt_platform.specs.contracts.request.Reply
use Rattle.jt_platform.specs.contracts.request.Request
use Rattle.jt_service.specs.contracts.watch.Watch

seat_send : (S V : RattleType) → IsSend S → IsSend (seat.the_row S V)
seat_send S V s = record { owned = λ d vs. ((λ vss. (tt, ((λ uss. (tt, tt)), tt))), seat_keyless S s V.coded.code d.table_id d.id d.me); leaving = λ k f vs. tt }

shared_sync : (S V K P : RattleType) (g : rule.Ghosts P.Denot S.Denot V.Denot K.Denot) → IsSend S → IsSync (shared.the_row S V K P g)
shared_sync S V K P g s =
    let fields : IsSync (Struct (shape (shared.the_type S V K P g))) = search sendable depth 20 in
    record { shared = λ d b o ν. (fields.shared (d.words, (d.slots, (tt, tt))) b o ν, shares_keyless S s V.coded.code d.table_id (g.holds d.key) d.words d.slots ν) }

lease_send : (T A : RattleType) (g : Ghosts A.Denot) → Frees g g.dealloc_token → IsSend (lease.the_row T A g)
lease_send T A g f = right_send T A g f

lease_sync : (T A : RattleType) (g : Ghosts A.Denot) → Frees g g.dealloc_token → IsSync (lease.the_row T A g)
lease_sync T A g f = record { shared = λ d b o ν q. part_keyless (lease.the_row T A g) (right_send T A g f) q d b o }

option_send : (R : RattleType) → IsSend R → IsSend (Option.the_row R)
option_send R s = search (sendable, crosses) depth 20

pub watch_sync : (T : RattleType) → IsSend T → IsSync (Watch.the_row T)
watch_sync T t = search (sendable, crosses) depth 40 fits 100000

module _ (P : RattleType) (k : keeper.Ghosts P.Denot) (s : IsSend P) (J : RattleType) (j : journal.Ghosts J.Denot) (t : IsSend J) where
  pub hub_send : IsSend (Hub.the_row P J k j)
  hub_send = search (sendable, crosses, maps) depth 40 fits 100000

  may_send : IsSend (Option.the_row (Hub.the_row P J k j))
  may_send = option_send (Hub.the_row P J k j) hub_send

  its_seat_send : (V : RattleType) → IsSend (seat.the_row (Option.the_row (Hub.the_row P J k j)) V)
  its_seat_send V = seat_send (Option.the_row (Hub.the_row P J k j)) V may_send

  pub pass_send : IsSend (Pass.the_field (Hub.the_row P J k j) Request.the_row Reply.the_row (Option.the_row (HubOpening.the_row P)) (ghosts P J k no_dict j no_dict no_dict)).row
  pass_send = search (its_seat_send, view_send, recorded_send, struct_send, sendable) depth 20 fits 10000

  its_shared_sync : (V K T : RattleType) (g : rule.Ghosts T.Denot (Option.the_row (Hub.the_row P J k j)).Denot V.Denot K.Denot) → IsSync (shared.the_row (Option.the_row (Hub.the_row P J k j)) V K T g)
  its_shared_sync V K T g = shared_sync (Option.the_row (Hub.the_row P J k j)) V K T g may_send

  pub turn_sync : IsSync (Turn.the_field (Hub.the_row P J k j) Request.the_row Reply.the_row (Option.the_row (HubOpening.the_row P)) (ghosts P J k no_dict j no_dict no_dict)).row
  turn_sync = search (its_shared_sync, lease_sync, sendable, crosses) depth 20 fits 10000
