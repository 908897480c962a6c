-- What the terminal does is followed.
use Rattle.std.proofs.Common.{ℕ, suc, ◌+◌, ◌<◌, ◌≤◌, ◌≡◌, ◌≢◌, ◌⊎◌, ◌^◌, List, [], ◌∷◌, ◌++◌, length, Option, None, Bool, true, false, arith, refl, ap, sym, ◌∙◌, subst, inl, inr}
use Rattle.std.specs.Prelude.{max, if◌then◌else◌}
use Rattle.std.proofs.lemmas.Bool.{cases_eq, false≢true, eq-eqb}
use Rattle.std.proofs.lemmas.List.{length-set, length_push}
use Rattle.jt_value.specs.Serials.{serial_of}
use Rattle.jt_value.specs.Sameness.{key_of}
use Rattle.jt_value.specs.declared.phone.Edition.{Edition}
use Rattle.jt_value.specs.declared.phone.Edition.TheVariants.{E2013, E2019}
use Rattle.jt_value.specs.declared.phone.Phone.{Phone}
use Rattle.jt_header.specs.Content.{IsHeader, IsPhone, IsVersion}
use Rattle.jt_header.specs.declared.header.Header.{Header}
use Rattle.jt_position.specs.Fixes.{FixesAre, fixes_of}
use Rattle.jt_store.specs.declared.row.Row.{Row}
use Rattle.jt_store.specs.Units.{carried}
use Rattle.jt_subpacket.specs.Partials.{Partial}
use Rattle.jt_session.specs.Law.{IsUnitId}
use Rattle.jt_delivery.specs.World.{row_at, number_at}
use Rattle.jt_terminal_rule.specs.Messages.{header_of, frame_of, version_of}
use Rattle.jt_terminal_rule.specs.Steps.{TerminalStep, MayStep, auths_by}
use Rattle.jt_terminal_rule.specs.Steps as step
use Rattle.jt_obeying.specs.Claim.{EventsKeepIt}
use Rattle.jt_obeying.specs.World.{OtherMessage, put}
use Rattle.jt_obeying.specs.World as messages
use Rattle.jt_obeying.specs.Steps as events
use Rattle.jt_octets.specs.World.{Line, line_at, new_line, newest_place, written}
use Rattle.jt_octets.specs.Steps.{writing}
use Rattle.jt_octets.proofs.Views.{Msg, IsMessage, frame_of_msg}
use Rattle.jt_octets.proofs.Meanings.{IsGood, good_push, row_is}
use Rattle.jt_order_octets.specs.World.{OrderWorld, sent_at}
use Rattle.jt_order_octets.specs.Steps.{Does, MayCome, after, NamesNone}
use Rattle.jt_order_octets.proofs.Meanings.{IsOther}
use Rattle.jt_order_octets.proofs.Following.{Follows, as_messages}
use Rattle.jt_order_octets.proofs.Lining.{says_all, opens_all, with_phone}

-- what the world of messages has not may change
pub rest_follows : (w : OrderWorld) (recorded : List (List ℕ)) (units : List Row) (accepted : ℕ) (code : Option (List ℕ)) (auths : List ℕ) (ready : Bool) (reach : ℕ) (partial : List Partial) (told : List ℕ)
    → Follows w → IsGood units
    → Follows (record w { base = record w.base { terminal = record w.base.terminal { recorded = recorded; units = units; accepted = accepted; code = code; auths = auths; ready = ready; reach = reach }; partial = partial; told = told } })
rest_follows w recorded units accepted code auths ready reach partial told f good = record {
  key = f.key;
  count = f.count;
  lines_are = f.lines_are;
  phones = f.phones;
  stands = f.stands;
  key_is = f.key_is;
  phone = f.phone;
  count_is = f.count_is;
  sent_is = f.sent_is;
  lines = f.lines;
  good = good;
  in_use = f.in_use;
  none_refused = f.none_refused;
  of_phone = f.of_phone;
}

-- ---- a message is written on the line in use

pub writing_count : (lines : List Line) (octets : List ℕ) → length (writing lines octets) ≡ length lines
writing_count lines octets = length-set lines (newest_place lines) (record (line_at lines (newest_place lines)) { up = written (line_at lines (newest_place lines)).up octets })

module _ (keep : EventsKeepIt) where
  says_other : (w : OrderWorld) (m : Msg) → Follows w → w.base.terminal.using ≡ true → IsMessage m → m.0.phone ≡ w.base.terminal.phone → IsOther m
      → Follows (record w { base = record w.base { lines = writing w.base.lines (frame_of_msg m) } })
  says_other w m f u is own other = record {
    key = f.key;
    count = f.count;
    lines_are = put f.lines_are f.count (events.says (f.lines_are f.count) OtherMessage);
    phones = f.phones;
    stands = keep.keeps (as_messages w f.key f.count f.lines_are) events.Says f.stands u;
    key_is = f.key_is;
    phone = f.phone;
    count_is = writing_count w.base.lines (frame_of_msg m) ∙ f.count_is;
    sent_is = f.sent_is;
    lines = says_all f.key f.phones w.issued w.base.lines (sent_at w) f.lines_are f.count f.lines f.count_is (f.in_use u).0 (f.lines_are f.count) refl m OtherMessage
        (record { is = is; of_phone = own ∙ sym (f.in_use u).1 }) (ap key_of own ∙ f.key_is, other);
    good = f.good;
    in_use = f.in_use;
    none_refused = f.none_refused;
    of_phone = f.of_phone;
  }

  -- ---- a unit

  unit_header : (phone : Phone) (id serial : ℕ) → IsPhone phone → id < 2 ^ 16 → serial < 2 ^ 16 → IsHeader (header_of phone id serial)
  unit_header phone id serial good a b = record { id = a; version = version phone.edition; phone_edition = refl; phone = good; serial = b; packet = tt }
    where
      version : (e : Edition) → IsVersion e (version_of e)
      version E2013 = refl
      version E2019 = omega arith

  unit_id : FixesAre → (u : Row) → fixes_of (carried u) ≢ [] → IsUnitId u.id
  unit_id fixes u some = first (cases_eq u.id 0x0200)
    where
      second : u.id ≢ 0x0200 → (u.id ≡ 0x0704) ⊎ (u.id ≢ 0x0704) → IsUnitId u.id
      second a (inl e) = inr e
      second a (inr b) = absurd (some (fixes.none_of_another_id u.id u.body a b))

      first : (u.id ≡ 0x0200) ⊎ (u.id ≢ 0x0200) → IsUnitId u.id
      first (inl e) = inl e
      first (inr a) = second a (cases_eq u.id 0x0704)

  small_id : (id : ℕ) → IsUnitId id → id < 2 ^ 16
  small_id id (inl e) = omega (arith, e)
  small_id id (inr e) = omega (arith, e)

  -- its id is neither that of a response nor of a deregistration
  apart_id : (id k : ℕ) → IsUnitId id → k ≤ 3 → id ≡ k → ⊥
  apart_id id k (inl e) le same = omega (arith, e, le, same)
  apart_id id k (inr e) le same = omega (arith, e, le, same)

  abbrev unit_message : OrderWorld → ℕ → Msg
  unit_message w place = (header_of w.base.terminal.phone (row_at w.base.terminal.units place).id (serial_of (number_at w.base.terminal.units place)), (row_at w.base.terminal.units place).body)

  unit_is : FixesAre → (w : OrderWorld) (f : Follows w) (place : ℕ) → place < length w.base.terminal.units → IsMessage (unit_message w place) × IsOther (unit_message w place)
  unit_is fixes w f place lt =
      let good = f.good.each place lt in
      let u = row_at w.base.terminal.units place in
      let id = unit_id fixes u good.0 in (
        record { header = unit_header w.base.terminal.phone u.id (serial_of u.number) f.phone (small_id u.id id) (omega arith); short = omega (arith, good.1) },
        record { none = λ reply other result r. absurd (apart_id u.id 0x0001 id (omega arith) r.response); deregister = apart_id u.id 0x0003 id (omega arith) },
      )

  -- what is written for a unit is the frame of its message
  unit_octets_are : (w : OrderWorld) (place : ℕ) → place < length w.base.terminal.units → step.writes w.base.terminal (step.Sends place) ≡ frame_of_msg (unit_message w place)
  unfolding frame_of
  unit_octets_are w place lt = ap (step.unit_octets w.base.terminal.phone) (row_is w.base.terminal.units place lt)

  sends_follow : FixesAre → (w : OrderWorld) (place : ℕ) → Follows w → MayStep w.base.terminal None (step.Sends place) → Follows (after w (Does (step.Sends place)))
  sends_follow fixes w place f may =
      let t = w.base.terminal in
      let both = unit_is fixes w f place may.4 in
      subst (λ (octets : List ℕ). Follows (record w { base = record w.base { terminal = record t { reach = max t.reach (place + 1) }; lines = writing w.base.lines octets } })) (sym (unit_octets_are w place may.4))
      (rest_follows (record w { base = record w.base { lines = writing w.base.lines (frame_of_msg (unit_message w place)) } }) t.recorded t.units t.accepted t.code t.auths t.ready (max t.reach (place + 1)) w.base.partial w.base.told
      (says_other w (unit_message w place) f may.0 both.0 refl both.1) f.good)

  -- ---- any other message

  says_follow : (w : OrderWorld) (h : Header) (body : List ℕ) → Follows w → MayStep w.base.terminal None (step.Says h body) → NamesNone (step.Says h body) → Follows (after w (Does (step.Says h body)))
  unfolding frame_of
  says_follow w h body f may none =
      let t = w.base.terminal in
      rest_follows (record w { base = record w.base { lines = writing w.base.lines (frame_of_msg (h, body)) } }) t.recorded t.units t.accepted t.code (auths_by t.auths h) t.ready t.reach w.base.partial w.base.told
      (says_other w (h, body) f may.0 (record { header = may.1.header; short = may.1.short }) may.1.own (record { none = none; deregister = may.1.no_deregistration })) f.good

  -- ---- lines come and go

  line_opens : (w : OrderWorld) → Follows w → Follows (record w { base = record w.base { terminal = record w.base.terminal { using = true }; lines = w.base.lines ++ new_line ∷ [] }; sent = w.sent ++ None ∷ [] })
  line_opens w f = record {
    key = f.key;
    count = suc f.count;
    lines_are = put f.lines_are (suc f.count) messages.new_line;
    phones = with_phone f.phones (suc f.count) w.base.terminal.phone;
    stands = keep.keeps (as_messages w f.key f.count f.lines_are) events.Opens f.stands tt;
    key_is = f.key_is;
    phone = f.phone;
    count_is = omega (arith, f.count_is, length_push w.base.lines new_line);
    sent_is = omega (arith, f.sent_is, length_push w.sent None);
    lines = opens_all f.key f.phones w.base.terminal.phone w.issued w.base.lines w.sent f.lines_are f.count f.lines f.count_is f.sent_is f.key_is;
    good = f.good;
    in_use = λ u. (omega arith, ap (λ (b : Bool). if b then w.base.terminal.phone else f.phones (suc f.count)) (eq-eqb (suc f.count) (suc f.count) refl));
    none_refused = f.none_refused;
    of_phone = f.of_phone;
  }

  opens_follow : (w : OrderWorld) → Follows w → Follows (after w (Does step.Opens))
  opens_follow w f =
      let t = w.base.terminal in
      rest_follows (record w { base = record w.base { terminal = record t { using = true }; lines = w.base.lines ++ new_line ∷ [] }; sent = w.sent ++ None ∷ [] })
      t.recorded t.units t.accepted t.code [] false t.accepted [] w.base.told (line_opens w f) f.good

  line_loses : (w : OrderWorld) → Follows w → Follows (record w { base = record w.base { terminal = record w.base.terminal { using = false } } })
  line_loses w f = record {
    key = f.key;
    count = f.count;
    lines_are = f.lines_are;
    phones = f.phones;
    stands = keep.keeps (as_messages w f.key f.count f.lines_are) events.Loses f.stands tt;
    key_is = f.key_is;
    phone = f.phone;
    count_is = f.count_is;
    sent_is = f.sent_is;
    lines = f.lines;
    good = f.good;
    in_use = λ u. absurd (false≢true u);
    none_refused = f.none_refused;
    of_phone = f.of_phone;
  }

  loses_follow : (w : OrderWorld) → Follows w → Follows (after w (Does step.Loses))
  loses_follow w f =
      let t = w.base.terminal in
      rest_follows (record w { base = record w.base { terminal = record t { using = false } } }) t.recorded t.units t.accepted t.code [] false t.accepted w.base.partial w.base.told (line_loses w f) f.good

  -- it starts again, perhaps in the other edition, with the tables that its log leaves
  line_restarts : (w : OrderWorld) (phone : Phone) → Follows w → IsPhone phone → key_of phone ≡ key_of w.base.terminal.phone
      → Follows (record w { base = record w.base { terminal = record w.base.terminal { using = false; phone = phone } }; tables = (after w (Does (step.Restarts phone))).tables })
  line_restarts w phone f good same = record {
    key = f.key;
    count = f.count;
    lines_are = f.lines_are;
    phones = f.phones;
    stands = keep.keeps (as_messages w f.key f.count f.lines_are) (events.RestartsTerminal phone.edition) f.stands tt;
    key_is = same ∙ f.key_is;
    phone = good;
    count_is = f.count_is;
    sent_is = f.sent_is;
    lines = f.lines;
    good = f.good;
    in_use = λ u. absurd (false≢true u);
    none_refused = f.none_refused;
    of_phone = f.of_phone;
  }

  restarts_follow : (w : OrderWorld) (phone : Phone) → Follows w → MayStep w.base.terminal None (step.Restarts phone) → Follows (after w (Does (step.Restarts phone)))
  restarts_follow w phone f may =
      let t = w.base.terminal in
      rest_follows (record w { base = record w.base { terminal = record t { using = false; phone = phone } }; tables = (after w (Does (step.Restarts phone))).tables })
      t.recorded t.units t.accepted t.code [] false t.accepted w.base.partial w.base.told (line_restarts w phone f may.0 may.1) f.good

  pub does_follow : FixesAre → (w : OrderWorld) (s : TerminalStep) → Follows w → MayCome w (Does s) → Follows (after w (Does s))
  does_follow fixes w (step.Records fix) f may =
      let t = w.base.terminal in rest_follows w (t.recorded ++ fix ∷ []) t.units t.accepted t.code t.auths t.ready t.reach w.base.partial w.base.told f f.good
  does_follow fixes w (step.Forms unit) f may =
      let t = w.base.terminal in rest_follows w t.recorded (t.units ++ unit ∷ []) t.accepted t.code t.auths t.ready t.reach w.base.partial w.base.told f (good_push t.units unit f.good (may.0.some, may.0.short))
  does_follow fixes w step.Opens f may = opens_follow w f
  does_follow fixes w (step.Sends place) f may = sends_follow fixes w place f may.0
  does_follow fixes w (step.Says h body) f may = says_follow w h body f may.0 may.1
  does_follow fixes w step.Accepts f may = absurd may.0.2
  does_follow fixes w step.Loses f may = loses_follow w f
  does_follow fixes w (step.Restarts phone) f may = restarts_follow w phone f may.0
  does_follow fixes w (step.Codes code) f may =
      let t = w.base.terminal in rest_follows w t.recorded t.units t.accepted code t.auths t.ready t.reach w.base.partial w.base.told f f.good
