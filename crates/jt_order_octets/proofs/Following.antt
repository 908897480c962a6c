-- A world of orders over octets and a world of orders over messages that it follows.
use Rattle.std.proofs.Common.{ℕ, suc, ◌<◌, ◌≤◌, ◌≡◌, ◌≢◌, ◌⊎◌, List, [], ◌∷◌, length, set, Option, Some, None, Bool, true, false, arith, refl, ap, sym, ◌∙◌, subst, inl, inr}
use Rattle.std.specs.Prelude.{IfSome, is_none, if◌then◌else◌, ◌==◌, Contains}
use Rattle.std.proofs.lemmas.Bool.{eq-eqb, ne_eqb}
use Rattle.jt_value.specs.Sameness.{key_of}
use Rattle.jt_value.specs.declared.phone.Phone.{Phone}
use Rattle.jt_header.specs.Content.{IsPhone}
use Rattle.jt_platform.specs.Laws.{AreOf}
use Rattle.jt_session.specs.AnswerLaw.{IsStateOf}
use Rattle.jt_order.specs.Orders.{OrderOf}
use Rattle.jt_obeying.proofs.Lists.{none_among, first_among, among_cases}
use Rattle.jt_obeying.specs.Performing.{terminal_performing}
use Rattle.jt_obeying.specs.Record.{Stands}
use Rattle.jt_obeying.specs.World.{put}
use Rattle.jt_obeying.specs.World as messages
use Rattle.jt_octets.specs.World.{Line, line_at}
use Rattle.jt_octets.proofs.Views.{Direction}
use Rattle.jt_octets.proofs.Meanings.{IsGood}
use Rattle.jt_octets.proofs.Following.{set_elim, same_place}
use Rattle.jt_order_octets.specs.World.{OrderWorld, sent_at}
use Rattle.jt_order_octets.proofs.Meanings.{UpTag, DownTag}
use Rattle.jt_order_octets.proofs.Written.{Written}

-- the place of the order that was sent last; and it is the highest
abbrev pub last_of : List ℕ → Option ℕ
last_of [] = None
last_of (place ∷ older) = Some place

abbrev pub IsHighest : List ℕ → Type 0
IsHighest [] = Unit {0}
IsHighest (place ∷ older) = (k : ℕ) → Contains older k → k ≤ place

-- the order that was sent last is among those sent
pub last_among : (xs : List ℕ) (n : ℕ) → last_of xs ≡ Some n → Contains xs n
last_among [] n e = absurd (none e)
  where
    none : ◌≡◌ {A = Option ℕ} None (Some n) → ⊥
    none h = cc
last_among (x ∷ xs) n e = subst (λ (k : ℕ). Contains (x ∷ xs) k) (some x n e) (first_among x xs)
  where
    some : (a b : ℕ) → ◌≡◌ {A = Option ℕ} (Some a) (Some b) → a ≡ b
    some a b h = cc

-- the highest of those sent, where this one is among them and none is higher
pub top_is : (xs : List ℕ) (n : ℕ) → IsHighest xs → ((k : ℕ) → Contains xs k → k ≤ n) → Contains xs n → last_of xs ≡ Some n
top_is [] n highest below c = absurd (none_among n c)
top_is (x ∷ xs) n highest below c = by (among_cases x n xs c)
  where
    by : (x ≡ n) ⊎ Contains xs n → ◌≡◌ {A = Option ℕ} (Some x) (Some n)
    by (inl e) = ap Some e
    by (inr there) = let up = highest n there in let le = below x (first_among x xs) in ap Some (let e : x ≡ n = omega (arith, up, le) in e)

-- The line, on which the terminal has this phone and the order of this place was sent last, stands for this one of the world of messages.
pub record LineMeans (key : List ℕ) (p : Phone) (issued : List OrderOf) (line : Line) (sent : Option ℕ) (x : messages.Line) : Type 0 where
  pub own : key_of p ≡ key
  pub up : Direction (UpTag key issued) line.up x.gone x.waiting
  pub wrote : Written p line.up.octets
  pub down : Direction (DownTag p issued) line.down x.read x.unread
  pub fine : IfSome line.session (IsStateOf key)
  pub over : is_none line.session ≡ x.ended
  pub is_open : line.is_open ≡ x.is_open
  pub last : sent ≡ last_of x.sent
  pub highest : IsHighest x.sent

-- so do all lines
abbrev pub AllMean : List ℕ → (ℕ → Phone) → List OrderOf → List Line → (ℕ → Option ℕ) → (ℕ → messages.Line) → ℕ → Type 0
AllMean key phones issued lines sents xs count = (q : ℕ) → q < count → LineMeans key (phones (suc q)) issued (line_at lines q) (sents q) (xs (suc q))

-- the world of messages of the same terminal and platform, with these lines
abbrev pub as_messages : OrderWorld → List ℕ → ℕ → (ℕ → messages.Line) → messages.OrderWorld
as_messages w key count lines = record {
  setting = w.base.setting;
  performing = terminal_performing;
  key = key;
  edition = w.base.terminal.phone.edition;
  issued = w.issued;
  results = w.results;
  log = w.log;
  tables = w.tables;
  using = w.base.terminal.using;
  count = count;
  lines = lines;
  keeper = w.base.keeper;
  began = w.base.began;
  history = w.base.history;
  refused = [];
}

pub record Follows (w : OrderWorld) : Type 0 where
  pub key : List ℕ
  pub count : ℕ
  pub lines_are : ℕ → messages.Line
  -- the terminal's phone when a line was opened
  pub phones : ℕ → Phone
  pub stands : Stands (as_messages w key count lines_are)
  pub key_is : key_of w.base.terminal.phone ≡ key
  pub phone : IsPhone w.base.terminal.phone
  pub count_is : length w.base.lines ≡ count
  pub sent_is : length w.sent ≡ count
  pub lines : AllMean key phones w.issued w.base.lines (sent_at w) lines_are count
  pub good : IsGood w.base.terminal.units
  -- the line in use has the present phone
  pub in_use : w.base.terminal.using ≡ true → (0 < count) × (phones count ≡ w.base.terminal.phone)
  pub none_refused : w.refused ≡ []
  pub of_phone : AreOf key w.base.history

-- ---- what a line stands for, in other words

pub means_by : (key : List ℕ) (p q : Phone) (issued : List OrderOf) (line other : Line) (s r : Option ℕ) (x y : messages.Line) → p ≡ q → line ≡ other → s ≡ r → x ≡ y
    → LineMeans key p issued line s x → LineMeans key q issued other r y
means_by key p q issued line other s r x y a b c d h =
    subst (λ (z : Phone). LineMeans key z issued other r y) a (subst (λ (z : Line). LineMeans key p issued z r y) b
    (subst (λ (z : Option ℕ). LineMeans key p issued line z y) c (subst (λ (z : messages.Line). LineMeans key p issued line s z) d h)))

-- ---- lines put anew

pub put_at : (xs : ℕ → messages.Line) (number : ℕ) (y : messages.Line) (k : ℕ) → k ≡ number → put xs number y k ≡ y
put_at xs number y k e = ap (λ (b : Bool). if b then y else xs k) (eq-eqb k number e)

pub put_other : (xs : ℕ → messages.Line) (number : ℕ) (y : messages.Line) (k : ℕ) → k ≢ number → put xs number y k ≡ xs k
put_other xs number y k apart = ap (λ (b : Bool). if b then y else xs k) (ne_eqb k number apart)

-- the second one stands
pub put_twice : (xs : ℕ → messages.Line) (number : ℕ) (y z : messages.Line) (k : ℕ) → put (put xs number y) number z k ≡ put xs number z k
put_twice xs number y z k = by (k == number)
  where
    by : (b : Bool) → (if b then z else if b then y else xs k) ≡ (if b then z else xs k)
    by true = refl
    by false = refl

-- in both worlds
pub both_put : (key : List ℕ) (phones : ℕ → Phone) (issued : List OrderOf) (lines : List Line) (sents news : ℕ → Option ℕ) (xs : ℕ → messages.Line) (count place number : ℕ) (x : Line) (y : messages.Line)
    → place < length lines → number ≡ suc place → AllMean key phones issued lines sents xs count → ((q : ℕ) → q ≢ place → news q ≡ sents q)
    → LineMeans key (phones number) issued x (news place) y → AllMean key phones issued (set lines place x) news (put xs number y) count
both_put key phones issued lines sents news xs count place number x y lt e all same here q within =
    set_elim (λ (n : ℕ) (line : Line). LineMeans key (phones (suc n)) issued line (news n) (put xs number y (suc n))) lines place x lt
    (means_by key (phones number) (phones (suc place)) issued x x (news place) (news place) y (put xs number y (suc place)) (ap phones e) refl refl (sym (put_at xs number y (suc place) (sym e))) here) q
    (λ apart. means_by key (phones (suc q)) (phones (suc q)) issued (line_at lines q) (line_at lines q) (sents q) (news q) (xs (suc q)) (put xs number y (suc q)) refl refl (sym (same q apart))
    (sym (put_other xs number y (suc q) (λ f. apart (same_place q place (f ∙ e))))) (all q within))

-- in the world of octets alone
pub one_put : (key : List ℕ) (phones : ℕ → Phone) (issued : List OrderOf) (lines : List Line) (sents : ℕ → Option ℕ) (xs : ℕ → messages.Line) (count place : ℕ) (x : Line)
    → place < length lines → AllMean key phones issued lines sents xs count → LineMeans key (phones (suc place)) issued x (sents place) (xs (suc place))
    → AllMean key phones issued (set lines place x) sents xs count
one_put key phones issued lines sents xs count place x lt all here q within =
    set_elim (λ (n : ℕ) (line : Line). LineMeans key (phones (suc n)) issued line (sents n) (xs (suc n))) lines place x lt here q (λ apart. all q within)
