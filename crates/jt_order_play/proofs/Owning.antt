-- What a session asks in a world that is reached is of the terminal's phone; so an octet up is as it is played.
use Rattle.std.proofs.Common.{ℕ, ◌<◌, ◌≡◌, List, length, set, get_or, Option, Some, None, Bool, true, false, refl, ap, sym, ◌∙◌, subst}
use Rattle.std.specs.Prelude.{if◌then◌else◌}
use Rattle.std.proofs.Math.Logic.{∥∥₁_elim}
use Rattle.jt_value.specs.Sameness.{key_of}
use Rattle.jt_stream.specs.Unplaced.{Unplaced, Message as Frame, Fault}
use Rattle.jt_store.specs.Memory.{KeeperState, Stock}
use Rattle.jt_subpacket.specs.Joining.{IsNamedByItsPackets}
use Rattle.jt_platform.specs.History.{newest}
use Rattle.jt_platform.specs.Hub.{HubValue}
use Rattle.jt_platform.specs.Laws.{AnswersTell, AreOf, HistoriesTell, IsOf, shelf_of}
use Rattle.jt_platform.specs.declared.request.Entry.{Entry}
use Rattle.jt_platform.specs.declared.request.Request.{Request}
use Rattle.jt_session.specs.Talk.{State as Session, Way, asks}
use Rattle.jt_order.specs.Books.{Book}
use Rattle.jt_order.specs.Memory.{LogStock}
use Rattle.jt_order_terminal.specs.Terminals.{OrderTerminalValue}
use Rattle.jt_octets.specs.World.{completed_item, line_at}
use Rattle.jt_octets.specs.Steps.{MayGoOn, MayTake}
use Rattle.jt_play.specs.Holding.{AsksFine, HasSerial, asked_at}
use Rattle.jt_play.specs.Playing.{way_at}
use Rattle.jt_play.proofs.Asked.{asked_fine}
use Rattle.jt_play.proofs.Scenes.{own_prop}
use Rattle.jt_play.proofs.Taken.{fine_prop, plain_of, reply_is}
use Rattle.jt_play.proofs.Upward.{plain_way}
use Rattle.jt_order_octets.specs.Claim.{EachItemIsOfThePhone, EachReachedIsOfThePhone, IsFrameOf}
use Rattle.jt_order_octets.specs.Reaching.{Reached}
use Rattle.jt_order_octets.specs.Steps.{Offers, Telling, Up, after}
use Rattle.jt_order_octets.specs.World.{OrderWorld}
use Rattle.jt_order_play.specs.Playing.{OrderPlay, may_offer, offers_at, result_of_next, takes_octet, told_by, with_world}
use Rattle.jt_order_play.specs.Holding.{IsStage, IsWhole, LineOfOrders, TakesOne, offered, order_play_of}
use Rattle.jt_order_play.proofs.Standing.{took_is}

-- ---- worlds that are reached

-- what the present hub was asked is of the terminal's phone
pub own_reached : EachReachedIsOfThePhone → (w : OrderWorld) → ∥ Reached w ∥₁ → AreOf (key_of w.base.terminal.phone) w.base.history
own_reached law w reached = ∥∥₁_elim reached (own_prop (key_of w.base.terminal.phone) w.base.history) (λ (r : Reached w). law w r)

-- and so is what a session asks next
pub asks_fine : IsNamedByItsPackets → EachItemIsOfThePhone → (w : OrderWorld) → ∥ Reached w ∥₁ → (place : ℕ) → place < length w.base.lines → (line_at w.base.lines place).up.taken < length (line_at w.base.lines place).up.octets → AsksFine w.base place
asks_fine named law w reached place within left = ∥∥₁_elim reached (fine_prop w.base place) fine
  where
    none : (q : Request) → ◌≡◌ {A = Option Request} None (Some q) → ⊥
    none q h = cc

    of_item : (s : Session) (q : Request) (item : Unplaced) → IsFrameOf (key_of w.base.terminal.phone) item → asks s item ≡ Some q → IsOf (key_of w.base.terminal.phone) q × HasSerial q
    of_item s q (Frame h octets) is asked = asked_fine named (key_of w.base.terminal.phone) s h octets q is.0 is.1 asked
    of_item s q (Fault octet why) is asked = absurd is

    fine : Reached w → AsksFine w.base place
    fine r s q asked = by (completed_item (line_at w.base.lines place).up) refl asked
      where
        by : (o : Option Unplaced) → completed_item (line_at w.base.lines place).up ≡ o → asked_at s o ≡ Some q → IsOf (key_of w.base.terminal.phone) q × HasSerial q
        by None e asked = absurd (none q asked)
        by (Some item) e asked = of_item s q item (law w r place within left item e) asked

-- ---- an octet up

-- where all was done, the steps of a call are those that are played
pub octet_whole : AnswersTell → HistoriesTell → (w : OrderWorld) (place : ℕ) (way : Way) (telling : Telling) (offers : Bool) → w.base.keeper ≡ shelf_of (key_of w.base.terminal.phone) w.base.began w.base.history → AreOf (key_of w.base.terminal.phone) w.base.history
    → AsksFine w.base place → MayTake w.base place way → IsWhole w place way telling offers → offered offers place (after w (Up place way telling)) ≡ takes_octet w place (line_at w.base.lines place).session
octet_whole answers histories w place way telling offers kept own fine may whole = by (line_at w.base.lines place).session refl
  where
    offered_is : (b : Bool) (v : OrderWorld) → b ≡ may_offer v place → offered b place v ≡ offers_at place v
    offered_is true v f = ap (λ (b : Bool). if b then after v (Offers place) else v) f
    offered_is false v f = ap (λ (b : Bool). if b then after v (Offers place) else v) f

    by : (o : Option Session) → (line_at w.base.lines place).session ≡ o → offered offers place (after w (Up place way telling)) ≡ takes_octet w place (line_at w.base.lines place).session
    by None e = absurd (subst (λ (o : Option Session). MayGoOn w.base place o (completed_item (line_at w.base.lines place).up) way) e may.goes)
    by (Some s) e =
        let item = completed_item (line_at w.base.lines place).up in
        let goes = subst (λ (o : Option Session). MayGoOn w.base place o item way) e may.goes in
        let way_is : way ≡ way_at w.base place s item = plain_way w.base place s item way (λ q reply asked allowed. reply_is answers histories w.base place kept own q reply (fine s q asked) allowed) goes (plain_of way whole.short) in
        offered_is offers (after w (Up place way telling)) whole.offers_is
        ∙ (ap (λ (t : Telling). offers_at place (after w (Up place way t))) whole.told
        ∙ (ap (λ (y : Way). offers_at place (after w (Up place y (told_by (result_of_next w place y))))) way_is
        ∙ sym (ap (takes_octet w place) e)))

module _ (t : OrderTerminalValue Stock LogStock) (hears : Bool) (hub : HubValue KeeperState) (book : Book) (issued : ℕ) (lines : List LineOfOrders) (past : List Entry) (told : List ℕ) (clock place : ℕ) (old : LineOfOrders) (stage : IsStage t hears hub book issued lines clock)
    (lt : place < length lines) (at : old ≡ get_or lines place old) where
  abbrev p : OrderPlay
  p = order_play_of t hub book lines past told clock

  pub took_whole : (now : HubValue KeeperState) (book_now : Book) (x : LineOfOrders) (done : Bool) (r : TakesOne p.world place x (newest now.history) book_now done) → now.start ≡ hub.start → now.fleet ≡ hub.fleet → now.secret ≡ hub.secret
      → AnswersTell → HistoriesTell → AreOf (key_of t.terminal.state.settings.phone) (newest hub.history) → AsksFine p.world.base place → done ≡ true
      → order_play_of t now book_now (set lines place x) past told clock ≡ with_world p (takes_octet p.world place (line_at p.world.base.lines place).session)
  took_whole now book_now x done r start fleet secret answers histories own fine e =
      ap (with_world p) (sym (took_is t hears hub book issued lines past told clock place old stage lt at now book_now x done r start fleet secret)
      ∙ octet_whole answers histories p.world place r.way r.telling r.offers refl own fine r.may (r.whole e))
