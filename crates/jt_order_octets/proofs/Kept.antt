-- Each world of orders that is reached follows one of messages, and so is as claimed.
use Rattle.std.proofs.Common.{ℕ, zero, suc, ◌<◌, ◌≤◌, ◌≡◌, ◌⊎◌, List, [], ◌∷◌, length, get_or, Option, Some, None, arith, refl, sym, ◌∙◌, subst, inl, inr}
use Rattle.std.proofs.lemmas.Bool.{cases_lt, false≢true}
use Rattle.jt_value.specs.Reaching.{MayAll, after_all}
use Rattle.jt_value.specs.Sameness.{key_of}
use Rattle.jt_value.specs.declared.phone.Phone.{Phone}
use Rattle.jt_header.specs.Content.{IsPhone}
use Rattle.jt_position.specs.Fixes.{FixesAre}
use Rattle.jt_platform.specs.Laws.{AreOf}
use Rattle.jt_stream.specs.Unplaced.{Unplaced}
use Rattle.jt_delivery.specs.World.{Setting}
use Rattle.jt_obeying.proofs.Obeyed.{stands_obeyed}
use Rattle.jt_obeying.specs.Claim.{EventsKeepIt}
use Rattle.jt_obeying.specs.Performing.{terminal_performing}
use Rattle.jt_obeying.specs.World.{new_line}
use Rattle.jt_octets.proofs.Meanings.{good_none}
use Rattle.jt_octets.proofs.Views.{Brings, Direction, StreamLaws, direction_moved, item_of_msg}
use Rattle.jt_octets.specs.World.{completed_item, line_at, with_one_taken}
use Rattle.jt_order_octets.specs.World.{OrderWorld, empty, sent_at}
use Rattle.jt_order_octets.specs.Steps.{Event, Issues, Does, Up, Offers, Down, Cut, RestartPlatform, MayCome, after}
use Rattle.jt_order_octets.specs.Reaching.{Reached}
use Rattle.jt_order_octets.specs.Claim.{EachReachedIsObeyed, NoneIsRefused, EachIssuedIsOrder, EachIsSentInTurn, EachReachedIsOfThePhone, EachItemIsOfThePhone, IsFrameOf, AtMostOneIsAhead}
use Rattle.jt_order_octets.proofs.Meanings.{UpTag, tag_key}
use Rattle.jt_order_octets.proofs.Following.{Follows, as_messages, last_among}
use Rattle.jt_order_octets.proofs.Doing.{does_follow}
use Rattle.jt_order_octets.proofs.Taking.{TakingLaws, take_follows}
use Rattle.jt_order_octets.proofs.Offering.{issue_follows, offer_follows, cut_follows, restart_follows}
use Rattle.jt_order_octets.proofs.Hearing.{HearingLaws, read_follows}

-- what the crates below promise
pub record Below : Type 0 where
  pub keep : EventsKeepIt
  pub streams : StreamLaws
  pub fixes : FixesAre
  pub taking : TakingLaws
  pub hearing : HearingLaws

follows : Below → (w : OrderWorld) (event : Event) → Follows w → MayCome w event → Follows (after w event)
follows below w (Issues order) f may = issue_follows below.keep w order f may
follows below w (Does s) f may = does_follow below.keep below.fixes w s f may
follows below w (Up place way told) f may = take_follows below.keep below.streams below.taking w place way told f may
follows below w (Offers place) f may = offer_follows below.keep below.streams w place f may
follows below w (Down takes responds) f may = read_follows below.keep below.streams below.hearing w takes responds f may
follows below w (Cut place) f may = cut_follows below.keep w place f may
follows below w RestartPlatform f may = restart_follows below.keep w f

empty_follows : EventsKeepIt → (phone : Phone) (setting : Setting) → IsPhone phone → Follows (empty phone setting)
empty_follows keep phone setting good = record {
  key = key_of phone;
  count = 0;
  lines_are = λ number. new_line;
  phones = λ number. phone;
  stands = keep.begins (key_of phone) setting terminal_performing phone.edition;
  key_is = refl;
  phone = good;
  count_is = refl;
  sent_is = refl;
  lines = λ place lt. absurd (omega arith);
  good = good_none;
  in_use = λ u. absurd (false≢true u);
  none_refused = refl;
  of_phone = tt;
}

all_follow : Below → (w : OrderWorld) (events : List Event) → Follows w → MayAll MayCome after w events → Follows (after_all after w events)
all_follow below w [] f may = f
all_follow below w (event ∷ events) f may = all_follow below (after w event) events (follows below w event f may.0) may.1

reached_follows : Below → (w : OrderWorld) → Reached w → Follows w
reached_follows below w r = subst Follows r.leads.to (all_follow below (empty r.phone r.setting) r.leads.events (empty_follows below.keep r.phone r.setting r.good) r.leads.may)

-- ---- the claims

pub obeyed : Below → EachReachedIsObeyed
obeyed below w r = let f = reached_follows below w r in stands_obeyed (as_messages w f.key f.count f.lines_are) f.stands

pub none_refused : Below → NoneIsRefused
none_refused below w r = (reached_follows below w r).none_refused

pub each_issued : Below → EachIssuedIsOrder
each_issued below w r = (reached_follows below w r).stands.orders

pub at_most_one_ahead : Below → AtMostOneIsAhead
at_most_one_ahead below w r = (reached_follows below w r).stands.one_more

-- on no line but those that were opened an order was sent
none_past : {A : Type 0} (xs : List (Option A)) (place : ℕ) → length xs ≤ place → get_or xs place None ≡ None
none_past {A} [] place le = refl
none_past {A} (x ∷ xs) zero le = absurd (omega arith)
none_past {A} (x ∷ xs) (suc place) le = none_past xs place (omega arith)

in_turn_of : (w : OrderWorld) → Follows w → (place n : ℕ) → sent_at w place ≡ Some n → (n < length w.issued) × (n ≤ length w.results)
in_turn_of w f place n e = by (cases_lt place f.count)
  where
    none : ◌≡◌ {A = Option ℕ} None (Some n) → ⊥
    none h = cc

    by : (place < f.count) ⊎ (f.count ≤ place) → (n < length w.issued) × (n ≤ length w.results)
    by (inl within) = (f.stands.lines (suc place)).sent n (last_among (f.lines_are (suc place)).sent n (sym (f.lines place within).last ∙ e))
    by (inr past) = absurd (none (sym (none_past w.sent place (omega (arith, past, f.sent_is))) ∙ e))

pub in_turn : Below → EachIsSentInTurn
in_turn below w r place n e = in_turn_of w (reached_follows below w r) place n e

-- all that the present hub was asked is of the terminal's phone
pub history_of : Below → EachReachedIsOfThePhone
history_of below w r = let f = reached_follows below w r in subst (λ (key : List ℕ). AreOf key w.base.history) (sym f.key_is) f.of_phone

-- and so is each item that a session is about to take
pub items_of : Below → EachItemIsOfThePhone
items_of below w r place within left item e =
    by (direction_moved (UpTag f.key w.issued) below.streams (line_at w.base.lines place).up (f.lines_are (suc place)).gone (f.lines_are (suc place)).waiting (f.lines place (omega (arith, within, f.count_is))).up left)
  where
    f : Follows w
    f = reached_follows below w r

    none : ◌≡◌ {A = Option Unplaced} None (Some item) → ⊥
    none h = cc

    some : (x y : Unplaced) → ◌≡◌ {A = Option Unplaced} (Some x) (Some y) → x ≡ y
    some x y h = cc

    by : ((completed_item (line_at w.base.lines place).up ≡ None) × Direction (UpTag f.key w.issued) (with_one_taken (line_at w.base.lines place).up) (f.lines_are (suc place)).gone (f.lines_are (suc place)).waiting)
        ⊎ Brings (UpTag f.key w.issued) (line_at w.base.lines place).up (f.lines_are (suc place)).gone (f.lines_are (suc place)).waiting
        → IsFrameOf (key_of w.base.terminal.phone) item
    by (inl nothing) = absurd (none (sym nothing.0 ∙ e))
    by (inr b) = subst (IsFrameOf (key_of w.base.terminal.phone)) (some (item_of_msg b.m) item (sym b.item ∙ e)) (b.is.header, tag_key f.key w.issued b.m b.t b.tag ∙ sym f.key_is)
