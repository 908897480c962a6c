-- What the terminal reads and writes on the line in use, and what the platform does to a line, as lines alone.
use Rattle.std.proofs.Common.{ℕ, suc, ◌<◌, ◌≤◌, ◌≡◌, ◌⊎◌, List, [], ◌∷◌, ◌++◌, length, get_or, set, map, Option, None, Bool, arith, refl, ap, sym, ◌∙◌, subst, inl, inr}
use Rattle.std.specs.Prelude.{if◌then◌else◌, ◌==◌}
use Rattle.std.proofs.lemmas.Bool.{cases_lt, eq-eqb, ne_eqb}
use Rattle.std.proofs.lemmas.List.{get_or_append_left, get_or_push}
use Rattle.jt_value.specs.Sameness.{key_of}
use Rattle.jt_value.specs.declared.phone.Phone.{Phone}
use Rattle.jt_order.specs.Orders.{OrderOf}
use Rattle.jt_obeying.specs.World.{Up, Down, put}
use Rattle.jt_obeying.specs.World as messages
use Rattle.jt_obeying.specs.Steps as events
use Rattle.jt_octets.specs.World.{Line, line_at, new_line, newest_place, with_one_taken, written}
use Rattle.jt_octets.specs.Steps.{shut, writing}
use Rattle.jt_octets.proofs.Views.{Msg, Direction, direction_silent, direction_written, direction_known, frame_of_msg}
use Rattle.jt_octets.proofs.Following.{newest_is, line_pushed, line_before, line_shut}
use Rattle.jt_order_octets.proofs.Written.{IsFrom, written_none, written_push}
use Rattle.jt_order_octets.proofs.Meanings.{UpTag, DownTag, up_grows, down_grows}
use Rattle.jt_order_octets.proofs.Following.{LineMeans, AllMean, means_by, both_put, put_at, put_other}

-- ---- one line

pub new_means : (key : List ℕ) (p : Phone) (issued : List OrderOf) → key_of p ≡ key → LineMeans key p issued new_line None messages.new_line
new_means key p issued own = record {
  own = own;
  up = direction_silent (UpTag key issued);
  wrote = written_none p;
  down = direction_silent (DownTag p issued);
  fine = record { phone = tt; serial = omega arith };
  over = refl;
  is_open = refl;
  last = refl;
  highest = tt;
}

pub shut_means : (key : List ℕ) (p : Phone) (issued : List OrderOf) (line : Line) (sent : Option ℕ) (x : messages.Line) → LineMeans key p issued line sent x
    → LineMeans key p issued (shut line) sent (events.closed_line x)
shut_means key p issued line sent x h = record { own = h.own; up = h.up; wrote = h.wrote; down = h.down; fine = h.fine; over = h.over; is_open = refl; last = h.last; highest = h.highest }

pub grown_means : (key : List ℕ) (p : Phone) (issued : List OrderOf) (order : OrderOf) (line : Line) (sent : Option ℕ) (x : messages.Line) → LineMeans key p issued line sent x
    → LineMeans key p (issued ++ order ∷ []) line sent x
grown_means key p issued order line sent x h = record {
  own = h.own;
  up = direction_known (UpTag key issued) (UpTag key (issued ++ order ∷ [])) line.up x.gone x.waiting (up_grows key issued order) h.up;
  wrote = h.wrote;
  down = direction_known (DownTag p issued) (DownTag p (issued ++ order ∷ [])) line.down x.read x.unread (down_grows p issued order) h.down;
  fine = h.fine;
  over = h.over;
  is_open = h.is_open;
  last = h.last;
  highest = h.highest;
}

-- the terminal writes one more message
pub says_means : (key : List ℕ) (p : Phone) (issued : List OrderOf) (line : Line) (sent : Option ℕ) (x : messages.Line) (m : Msg) (t : Up) → LineMeans key p issued line sent x
    → IsFrom p m → UpTag key issued m t → LineMeans key p issued (record line { up = written line.up (frame_of_msg m) }) sent (events.says x t)
says_means key p issued line sent x m t h from tag = record {
  own = h.own;
  up = direction_written (UpTag key issued) line.up x.gone x.waiting m t h.up from.is tag;
  wrote = written_push p line.up.octets m h.wrote from;
  down = h.down;
  fine = h.fine;
  over = h.over;
  is_open = h.is_open;
  last = h.last;
  highest = h.highest;
}

-- the terminal reads one more message
pub reads_means : (key : List ℕ) (p : Phone) (issued : List OrderOf) (line : Line) (sent : Option ℕ) (x : messages.Line) (t : Down) (rest : List Down) → LineMeans key p issued line sent x
    → Direction (DownTag p issued) (with_one_taken line.down) (t ∷ x.read) rest → LineMeans key p issued (record line { down = with_one_taken line.down }) sent (events.reads x t rest)
reads_means key p issued line sent x t rest h next =
    record { own = h.own; up = h.up; wrote = h.wrote; down = next; fine = h.fine; over = h.over; is_open = h.is_open; last = h.last; highest = h.highest }

-- ---- all lines

module _ (key : List ℕ) (phones : ℕ → Phone) (issued : List OrderOf) (lines : List Line) (sents : ℕ → Option ℕ) (xs : ℕ → messages.Line) (count : ℕ) (all : AllMean key phones issued lines sents xs count) where
  abbrev here : ℕ
  here = newest_place lines

  -- the newest line has the number of all lines
  pub count_newest : length lines ≡ count → 0 < count → count ≡ suc here
  count_newest len some = sym len ∙ sym (newest_is lines (omega (arith, len, some)))

  pub newest_within : length lines ≡ count → 0 < count → here < length lines
  newest_within len some = let e = newest_is lines (omega (arith, len, some)) in omega (arith, e)

  pub newest_means : length lines ≡ count → 0 < count → LineMeans key (phones count) issued (line_at lines here) (sents here) (xs count)
  newest_means len some = let e = sym (count_newest len some) in
      means_by key (phones (suc here)) (phones count) issued (line_at lines here) (line_at lines here) (sents here) (sents here) (xs (suc here)) (xs count) (ap phones e) refl refl (ap xs e)
      (all here (let lt = newest_within len some in omega (arith, lt, len)))

  -- one more message on the line in use, which stands for y
  pub says_all : length lines ≡ count → 0 < count → (y : messages.Line) → xs count ≡ y → (m : Msg) (t : Up) → IsFrom (phones count) m → UpTag key issued m t
      → AllMean key phones issued (writing lines (frame_of_msg m)) sents (put xs count (events.says y t)) count
  says_all len some y is m t from tag =
      both_put key phones issued lines sents sents xs count here count (record (line_at lines here) { up = written (line_at lines here).up (frame_of_msg m) }) (events.says y t)
      (newest_within len some) (count_newest len some) all (λ q apart. refl)
      (says_means key (phones count) issued (line_at lines here) (sents here) y m t
      (subst (λ (z : messages.Line). LineMeans key (phones count) issued (line_at lines here) (sents here) z) is (newest_means len some)) from tag)

  pub reads_all : length lines ≡ count → 0 < count → (t : Down) (rest : List Down) → Direction (DownTag (phones count) issued) (with_one_taken (line_at lines here).down) (t ∷ (xs count).read) rest
      → AllMean key phones issued (set lines here (record (line_at lines here) { down = with_one_taken (line_at lines here).down })) sents (put xs count (events.reads (xs count) t rest)) count
  reads_all len some t rest next =
      both_put key phones issued lines sents sents xs count here count (record (line_at lines here) { down = with_one_taken (line_at lines here).down }) (events.reads (xs count) t rest)
      (newest_within len some) (count_newest len some) all (λ q apart. refl)
      (reads_means key (phones count) issued (line_at lines here) (sents here) (xs count) t rest (newest_means len some) next)

  -- one more order is issued
  pub grown_all : (order : OrderOf) → AllMean key phones (issued ++ order ∷ []) lines sents xs count
  grown_all order q within = grown_means key (phones (suc q)) issued order (line_at lines q) (sents q) (xs (suc q)) (all q within)

  -- all ends at the platform are gone
  pub shut_all : length lines ≡ count → AllMean key phones issued (map shut lines) sents (λ number. events.closed_line (xs number)) count
  shut_all len q within =
      means_by key (phones (suc q)) (phones (suc q)) issued (shut (line_at lines q)) (line_at (map shut lines) q) (sents q) (sents q) (events.closed_line (xs (suc q))) (events.closed_line (xs (suc q)))
      refl (sym (line_shut lines q (omega (arith, within, len)))) refl refl (shut_means key (phones (suc q)) issued (line_at lines q) (sents q) (xs (suc q)) (all q within))

-- ---- one line more

-- the phone for the line of this number
abbrev pub with_phone : (ℕ → Phone) → ℕ → Phone → ℕ → Phone
with_phone phones number p k = if k == number then p else phones k

pub opens_all : (key : List ℕ) (phones : ℕ → Phone) (p : Phone) (issued : List OrderOf) (lines : List Line) (sent : List (Option ℕ)) (xs : ℕ → messages.Line) (count : ℕ)
    → AllMean key phones issued lines (λ q. get_or sent q None) xs count → length lines ≡ count → length sent ≡ count → key_of p ≡ key
    → AllMean key (with_phone phones (suc count) p) issued (lines ++ new_line ∷ []) (λ q. get_or (sent ++ None ∷ []) q None) (put xs (suc count) messages.new_line) (suc count)
opens_all key phones p issued lines sent xs count all len long own q within = by (cases_lt q count)
  where
    before : q < count → suc q ≡ suc count → ⊥
    before lt e = omega (arith, lt, e)

    other : (suc q ≡ suc count → ⊥) → with_phone phones (suc count) p (suc q) ≡ phones (suc q)
    other apart = ap (λ (b : Bool). if b then p else phones (suc q)) (ne_eqb (suc q) (suc count) apart)

    this : suc q ≡ suc count → with_phone phones (suc count) p (suc q) ≡ p
    this e = ap (λ (b : Bool). if b then p else phones (suc q)) (eq-eqb (suc q) (suc count) e)

    by : (q < count) ⊎ (count ≤ q)
        → LineMeans key (with_phone phones (suc count) p (suc q)) issued (line_at (lines ++ new_line ∷ []) q) (get_or (sent ++ None ∷ []) q None) (put xs (suc count) messages.new_line (suc q))
    by (inl old) =
        means_by key (phones (suc q)) (with_phone phones (suc count) p (suc q)) issued (line_at lines q) (line_at (lines ++ new_line ∷ []) q) (get_or sent q None) (get_or (sent ++ None ∷ []) q None)
        (xs (suc q)) (put xs (suc count) messages.new_line (suc q)) (sym (other (before old))) (sym (line_before lines q (omega (arith, old, len))))
        (sym (get_or_append_left sent (None ∷ []) None q (omega (arith, old, long)))) (sym (put_other xs (suc count) messages.new_line (suc q) (before old))) (all q old)
    by (inr new) =
        let at : suc q ≡ suc count = omega (arith, within, new) in
        let end : q ≡ length lines = omega (arith, at, len) in
        means_by key p (with_phone phones (suc count) p (suc q)) issued new_line (line_at (lines ++ new_line ∷ []) q) None (get_or (sent ++ None ∷ []) q None)
        messages.new_line (put xs (suc count) messages.new_line (suc q)) (sym (this at)) (sym (ap (λ (n : ℕ). line_at (lines ++ new_line ∷ []) n) end ∙ line_pushed lines))
        (sym (get_or_push sent None None q (omega (arith, at, long)))) (sym (put_at xs (suc count) messages.new_line (suc q) at)) (new_means key p issued own)
