-- What the platform does but for what its sessions take is followed: orders are issued and sent, and its ends are closed.
use Rattle.std.proofs.Common.{ℕ, suc, ◌<◌, ◌≡◌, ◌^◌, List, length, get_or, set, Option, Some, None, true, arith, refl, ap, sym, ◌∙◌, subst}
use Rattle.std.proofs.lemmas.List.{length-set, length-map, get_or-set_same, get_or-set_other}
use Rattle.jt_value.specs.Sameness.{key_of}
use Rattle.jt_value.specs.declared.phone.Phone.{Phone}
use Rattle.jt_header.specs.Content.{IsHeader}
use Rattle.jt_header.specs.declared.header.Header.{Header}
use Rattle.jt_terminal_rule.specs.Messages.{frame_of}
use Rattle.jt_platform.specs.History.{live, holder}
use Rattle.jt_order.specs.Orders.{OrderOf, IsOrder, is_order_id}
use Rattle.jt_obeying.proofs.OrderKinds.{of_order}
use Rattle.jt_obeying.specs.Claim.{EventsKeepIt}
use Rattle.jt_obeying.specs.Orders.{order_at}
use Rattle.jt_obeying.specs.Record.{LineOk}
use Rattle.jt_obeying.specs.World.{OrderMessage, put}
use Rattle.jt_obeying.specs.World as messages
use Rattle.jt_obeying.specs.Steps.{Issues, Offers, Cuts, RestartsPlatform, MayOffer, sends_order, closed_line}
use Rattle.jt_order_turns.specs.Headers.{order_header}
use Rattle.jt_octets.specs.World.{Line, line_at}
use Rattle.jt_octets.specs.Steps.{shut}
use Rattle.jt_octets.specs.Steps as plain
use Rattle.jt_octets.proofs.Views.{Msg, IsMessage, StreamLaws, direction_written, frame_of_msg}
use Rattle.jt_order_octets.specs.World.{OrderWorld, sent_at, first_read}
use Rattle.jt_order_octets.specs.Steps.{after, with_order_written}
use Rattle.jt_order_octets.specs.Steps as octets
use Rattle.jt_order_octets.proofs.Written.{IsFirst, first_is}
use Rattle.jt_order_octets.proofs.Meanings.{DownTag}
use Rattle.jt_order_octets.proofs.Following.{top_is, LineMeans, Follows, as_messages, both_put}
use Rattle.jt_order_octets.proofs.Lining.{grown_all, shut_all, shut_means}

-- ---- the message of an order

-- an id of orders has sixteen bits
pub small_order : (id : ℕ) → is_order_id id ≡ true → id < 2 ^ 16
small_order id is = of_order (λ (k : ℕ). k < 2 ^ 16) (record {
  set_params = omega arith;
  control = omega arith;
  text = omega arith;
  circles = omega arith;
  rectangles = omega arith;
  polygon = omega arith;
  route = omega arith;
  delete_circles = omega arith;
  delete_rectangles = omega arith;
  delete_polygons = omega arith;
  delete_routes = omega arith;
}) id is

order_is : (first : Header) (place : ℕ) (order : OrderOf) → IsHeader first → IsOrder order → IsMessage (order_header first place order, order.body)
order_is first place order good is = record {
  header = record { id = small_order order.id is.id; version = good.version; phone_edition = good.phone_edition; phone = good.phone; serial = omega arith; packet = tt };
  short = let le = is.fits in omega (arith, le);
}

module _ (keep : EventsKeepIt) where
  pub issue_follows : (w : OrderWorld) (order : OrderOf) → Follows w → IsOrder order → Follows (after w (octets.Issues order))
  issue_follows w order f is = record {
    key = f.key;
    count = f.count;
    lines_are = f.lines_are;
    phones = f.phones;
    stands = keep.keeps (as_messages w f.key f.count f.lines_are) (Issues order) f.stands is;
    key_is = f.key_is;
    phone = f.phone;
    count_is = f.count_is;
    sent_is = f.sent_is;
    lines = grown_all f.key f.phones w.issued w.base.lines (sent_at w) f.lines_are f.count f.lines order;
    good = f.good;
    in_use = f.in_use;
    none_refused = f.none_refused;
    of_phone = f.of_phone;
  }

  -- ---- an order is sent

  module _ (streams : StreamLaws) (w : OrderWorld) (place : ℕ) (f : Follows w) (may : octets.MayOffer w place) where
    abbrev mw : messages.OrderWorld
    mw = as_messages w f.key f.count f.lines_are

    abbrev n : ℕ
    n = length w.results

    abbrev order : OrderOf
    order = order_at w.issued (length w.results)

    abbrev p : Phone
    p = f.phones (suc place)

    abbrev x : messages.Line
    x = f.lines_are (suc place)

    abbrev line : Line
    line = line_at w.base.lines place

    abbrev m : Msg
    m = (order_header may.first n order, order.body)

    within : place < f.count
    within = let lt = may.opened in omega (arith, lt, f.count_is)

    old : LineMeans f.key p w.issued line (sent_at w place) x
    old = f.lines place within

    first : IsFirst p may.first
    first = first_is streams p line.up.octets line.up.taken may.first old.wrote may.read

    first_key : key_of may.first.phone ≡ f.key
    first_key = ap key_of first.of_phone ∙ old.own

    is : IsOrder order
    is = f.stands.orders n may.waits

    ok : LineOk (length w.issued) n w.log f.key w.base.history (suc place) x
    ok = f.stands.lines (suc place)

    may_offer : MayOffer mw (suc place)
    may_offer = record {
      opened = (omega arith, omega (arith, within));
      is_open = sym old.is_open ∙ may.is_open;
      waits = may.waits;
      live = subst (λ (key : List ℕ). live key w.base.history (suc place) ≡ true) first_key may.live;
      holds = subst (λ (key : List ℕ). holder key w.base.history ≡ Some (suc place)) first_key may.holds;
      new = λ c. may.new (old.last ∙ top_is x.sent n old.highest (λ k there. (ok.sent k there).1) c);
    }

    abbrev next : messages.Line
    next = sends_order x n

    abbrev sents : List (Option ℕ)
    sents = set w.sent place (Some n)

    now_sent : get_or sents place None ≡ Some n
    now_sent = get_or-set_same w.sent place (Some n) None (omega (arith, within, f.sent_is))

    here : LineMeans f.key p w.issued (with_order_written line (frame_of_msg m)) (get_or sents place None) next
    here = record {
      own = old.own;
      up = old.up;
      wrote = old.wrote;
      down = direction_written (DownTag p w.issued) line.down x.read x.unread m (OrderMessage n) old.down (order_is may.first n order first.header is)
          (record { within = may.waits; first = may.first; of_phone = first.of_phone; header = refl; octets = refl });
      fine = old.fine;
      over = old.over;
      is_open = old.is_open;
      last = now_sent;
      highest = λ k there. (ok.sent k there).1;
    }

    offered : (frame : List ℕ) → frame ≡ frame_of_msg m → Follows (record w { base = record w.base { lines = set w.base.lines place (with_order_written line frame) }; sent = sents })
    offered frame e = subst (λ (z : List ℕ). Follows (record w { base = record w.base { lines = set w.base.lines place (with_order_written line z) }; sent = sents })) (sym e) (record {
      key = f.key;
      count = f.count;
      lines_are = put f.lines_are (suc place) next;
      phones = f.phones;
      stands = keep.keeps mw (Offers (suc place)) f.stands may_offer;
      key_is = f.key_is;
      phone = f.phone;
      count_is = length-set w.base.lines place (with_order_written line (frame_of_msg m)) ∙ f.count_is;
      sent_is = length-set w.sent place (Some n) ∙ f.sent_is;
      lines = both_put f.key f.phones w.issued w.base.lines (sent_at w) (λ q. get_or sents q None) f.lines_are f.count place (suc place) (with_order_written line (frame_of_msg m)) next may.opened refl f.lines
          (λ q apart. get_or-set_other w.sent place q (Some n) None apart) here;
      good = f.good;
      in_use = f.in_use;
      none_refused = f.none_refused;
      of_phone = f.of_phone;
    })

    frame_is : octets.oldest_frame w (first_read w place) ≡ frame_of_msg m
    unfolding frame_of
    frame_is = ap (octets.oldest_frame w) may.read

    pub offer_follows : Follows (after w (octets.Offers place))
    offer_follows = offered (octets.oldest_frame w (first_read w place)) frame_is

  -- ---- the platform's ends

  pub cut_follows : (w : OrderWorld) (place : ℕ) → Follows w → plain.MayCut w.base place → Follows (after w (octets.Cut place))
  cut_follows w place f may = record {
    key = f.key;
    count = f.count;
    lines_are = put f.lines_are (suc place) (closed_line (f.lines_are (suc place)));
    phones = f.phones;
    stands = keep.keeps (as_messages w f.key f.count f.lines_are) (Cuts (suc place)) f.stands ((omega arith, omega (arith, within)), sym old.is_open ∙ may.is_open);
    key_is = f.key_is;
    phone = f.phone;
    count_is = length-set w.base.lines place (shut (line_at w.base.lines place)) ∙ f.count_is;
    sent_is = f.sent_is;
    lines = both_put f.key f.phones w.issued w.base.lines (sent_at w) (sent_at w) f.lines_are f.count place (suc place) (shut (line_at w.base.lines place)) (closed_line (f.lines_are (suc place))) may.opened refl f.lines (λ q apart. refl)
        (shut_means f.key (f.phones (suc place)) w.issued (line_at w.base.lines place) (sent_at w place) (f.lines_are (suc place)) old);
    good = f.good;
    in_use = f.in_use;
    none_refused = f.none_refused;
    of_phone = (tt, f.of_phone);
  }
    where
      within : place < f.count
      within = omega (arith, may.opened, f.count_is)

      old : LineMeans f.key (f.phones (suc place)) w.issued (line_at w.base.lines place) (sent_at w place) (f.lines_are (suc place))
      old = f.lines place within

  pub restart_follows : (w : OrderWorld) → Follows w → Follows (after w octets.RestartPlatform)
  restart_follows w f = record {
    key = f.key;
    count = f.count;
    lines_are = λ number. closed_line (f.lines_are number);
    phones = f.phones;
    stands = keep.keeps (as_messages w f.key f.count f.lines_are) RestartsPlatform f.stands tt;
    key_is = f.key_is;
    phone = f.phone;
    count_is = length-map w.base.lines shut ∙ f.count_is;
    sent_is = f.sent_is;
    lines = shut_all f.key f.phones w.issued w.base.lines (sent_at w) f.lines_are f.count f.lines f.count_is;
    good = f.good;
    in_use = f.in_use;
    none_refused = f.none_refused;
    of_phone = tt;
  }
