-- An order that is performed: its result, the tables and the ledger behind it, and that the ledger stays that of the log.
use Rattle.std.proofs.Common.{◌≡◌, ◌-◌, ◌+◌, ◌^◌, ℕ, List, [], ◌∷◌, ◌++◌, length, Bool, true, false, if◌then◌else◌, Option, Some, None, Result, Ok, Err, OnOk, refl, sym, ap, ◌∙◌, subst, arith}
use Rattle.std.specs.Prelude.{◌==◌, ◌<◌, ◌≤◌, get_or, nat_le, slice_get, take}
use Rattle.std.proofs.lemmas.Bool.{eqb-true, false≢true, le-leb}
use Rattle.std.proofs.lemmas.List.{append-nil, length_push, take_more}
use Rattle.jt_value.specs.Serials.{serial_of}
use Rattle.jt_value.specs.declared.phone.Edition.{Edition}
use Rattle.jt_value.specs.Octets.{AreOctets}
use Rattle.jt_value.specs.declared.limits.TheConstants.{BODY_LIMIT}
use Rattle.jt_header.specs.declared.header.Header.{Header}
use Rattle.jt_params.specs.Tables.{Table}
use Rattle.jt_regions.specs.Tables.{Regions}
use Rattle.jt_value.specs.declared.memory.Memory.{Memory}
use Rattle.jt_value.specs.declared.refusal.CodecError.{CodecError}
use Rattle.jt_value.specs.declared.refusal.CodecError.TheVariants.{Refused}
use Rattle.jt_value.specs.declared.refusal.Refusal.{Refusal}
use Rattle.jt_layout.specs.Answer.{Answers}
use Rattle.jt_codec.specs.Bodies.{HasBody, body}
use Rattle.jt_codec.specs.Law.{AreOneToOne}
use Rattle.jt_codec.specs.declared.message.Message.{Message}
use Rattle.jt_codec.specs.declared.message.Message.TheVariants as message
use Rattle.jt_regions.specs.Changes.{regions_after}
use Rattle.jt_terminal_rule.specs.Tables.{params_after}
use Rattle.jt_regions.specs.declared.change.RegionChange.TheVariants as change
use Rattle.jt_terminal_answers.specs.Performing.{HeldTables, message_outcome, with_params, with_regions}
use Rattle.jt_order.specs.Books.{with_performed}
use Rattle.jt_order.specs.Orders.{OrderOf, IsOrder, is_order_id}
use Rattle.jt_order.specs.declared.performed.Performed.{Performed}
use Rattle.jt_obeying.specs.Orders.{last_performed, no_tables, tables_behind, tables_of}
use Rattle.jt_obeying.specs.Performing.{EditionsLeaveTheSame, order_outcome, reading, reading_outcome, terminal_performing}
use Rattle.jt_obeying.proofs.Lists.{tables_push}
use Rattle.jt_order_terminal.specs.Ledgers.{IsLedgerOf, Ledger}
use Rattle.jt_order_terminal.specs.Terminals.{log_with, next}
use Rattle.jt_order_terminal.specs.Feeding.{KeepsLedger}

-- ---- tables

params_kept : (t : HeldTables) (after : Option Table) → ((with_params t after).0 == 0) ≡ false → (with_params t after).1 ≡ t
params_kept t None other = refl
params_kept t (Some params) other = absurd (false≢true (sym other))

regions_kept : (t : HeldTables) (after : Option Regions) → ((with_regions t after).0 == 0) ≡ false → (with_regions t after).1 ≡ t
regions_kept t None other = refl
regions_kept t (Some regions) other = absurd (false≢true (sym other))

-- a message with another result than 0 changes no tables
tables_kept : (t : HeldTables) (m : Message) → ((message_outcome t m).0 == 0) ≡ false → (message_outcome t m).1 ≡ t
tables_kept t (message.SetParams params) other = params_kept t (params_after params t.params) other
tables_kept t (message.Text flag kind text) other = refl
tables_kept t (message.Circles setting list) other = regions_kept t (regions_after (change.Circles setting list) t.regions) other
tables_kept t (message.Rectangles setting list) other = regions_kept t (regions_after (change.Rectangles setting list) t.regions) other
tables_kept t (message.Polygon polygon) other = regions_kept t (regions_after (change.Polygon polygon) t.regions) other
tables_kept t (message.Route route) other = regions_kept t (regions_after (change.Route route) t.regions) other
tables_kept t (message.Delete kind ids) other = regions_kept t (regions_after (change.Delete kind ids) t.regions) other
tables_kept t _ other = refl

-- the outcome of an order is that of the message that it reads as
outcome_is : (edition : Edition) (t : HeldTables) (order : OrderOf) (m : Message) → reading edition order ≡ Ok m → order_outcome edition t order ≡ message_outcome t m
outcome_is edition t order m reads = ap (reading_outcome t) reads

-- the tables behind it are those that the log has of it
tables_are : EditionsLeaveTheSame → (edition : Edition) (t : HeldTables) (order : OrderOf) (m : Message) → IsOrder order → reading edition order ≡ Ok m
    → (message_outcome t m).1 ≡ tables_behind terminal_performing t (record { order = order; result = (message_outcome t m).0 })
tables_are law edition t order m is reads = by ((message_outcome t m).0 == 0) refl
  where
    by : (b : Bool) → ((message_outcome t m).0 == 0) ≡ b → (message_outcome t m).1 ≡ (if b then terminal_performing.leaves t order else t)
    by true zero =
        let same = outcome_is edition t order m reads in
        sym (ap (λ (x : ℕ × HeldTables). x.1) same) ∙ law edition t order is (ap (λ (x : ℕ × HeldTables). x.0) same ∙ eqb-true (message_outcome t m).0 0 zero)
    by false other = tables_kept t m other

-- ---- the ledger

pub serial_by : (count n : ℕ) (b : Bool) → (count == 2 ^ 64 - 1) ≡ b → serial_of count ≡ serial_of n → serial_of (if b then 65536 else count + 1) ≡ serial_of (n + 1)
serial_by count n true last same = let is = eqb-true count (2 ^ 64 - 1) last in omega (arith, is, same)
serial_by count n false last same = omega (arith, same)

-- the number behind has the serial of the next order
serial_next : (count n : ℕ) → serial_of count ≡ serial_of n → serial_of (next count) ≡ serial_of (n + 1)
serial_next count n same = serial_by count n (count == 2 ^ 64 - 1) refl same

pub some_by : (count : ℕ) (b : Bool) → nat_le 1 (if b then 65536 else count + 1) ≡ true
some_by count true = refl
some_by count false = le-leb 1 (count + 1) (omega arith)

some_push : {A : Type 0} (xs : List A) (x : A) → nat_le 1 (length (xs ++ x ∷ [])) ≡ true
some_push xs x = let len = length_push xs x in le-leb 1 (length (xs ++ x ∷ [])) (omega (arith, len))

last_by : {A : Type 0} (xs : List A) (x : A) → slice_get (xs ++ x ∷ []) (length xs) ≡ Some x
last_by [] x = refl
last_by (y ∷ xs) x = last_by xs x

pub last_push : (log : List Performed) (p : Performed) → last_performed (log ++ p ∷ []) ≡ Some p
last_push log p =
    let place : length (log ++ p ∷ []) - 1 ≡ length log = let len = length_push log p in omega (arith, len) in
    ap (slice_get (log ++ p ∷ [])) place ∙ last_by log p

-- behind an order that is performed over its tables, with this result
ledger_next : EditionsLeaveTheSame → (edition : Edition) (log : List Performed) (l : Ledger) (order : OrderOf) (m : Message) → IsOrder order → reading edition order ≡ Ok m → IsLedgerOf log l
    → let p : Performed = record { order = order; result = (message_outcome l.tables m).0 } in
    IsLedgerOf (log ++ p ∷ []) (record { count = next l.count; last = Some p; tables = (message_outcome l.tables m).1 })
ledger_next law edition log l order m is reads was =
    let p : Performed = record { order = order; result = (message_outcome l.tables m).0 } in
    record {
      serial = serial_next l.count (length log) was.serial ∙ ap serial_of (sym (length_push log p));
      some = some_by l.count (l.count == 2 ^ 64 - 1) ∙ sym (some_push log p);
      last = sym (last_push log p);
      tables = tables_are law edition l.tables order m is reads ∙ (ap (λ (t : HeldTables). tables_behind terminal_performing t p) was.tables ∙ sym (tables_push terminal_performing no_tables log p));
    }

keeps_by : EditionsLeaveTheSame → (edition : Edition) (l : Ledger) (order : OrderOf) (m : Message) (held : Option (List Performed)) → IsOrder order → reading edition order ≡ Ok m
    → let p : Performed = record { order = order; result = (message_outcome l.tables m).0 } in
    KeepsLedger l (record { count = next l.count; last = Some p; tables = (message_outcome l.tables m).1 }) held (with_performed p held)
keeps_by law edition l order m None is reads was = tt
keeps_by law edition l order m (Some log) is reads was = ledger_next law edition log l order m is reads was

-- ---- the log

pub log_same : (held : Option (List Performed)) → log_with [] held ≡ held
log_same None = refl
log_same (Some log) = ap Some (append-nil log)

-- the result and the tables of an order, and the ledger, the log and the frames behind it
pub record IsPerformed (l l_now : Ledger) (order : OrderOf) (m : Message) (result : ℕ) (tables : HeldTables) (held held_now : Option (List Performed)) : Type 0 where
  pub outcome : (result, tables) ≡ message_outcome l.tables m
  pub ledger : l_now ≡ record { count = next l.count; last = Some (record { order = order; result = result }); tables = tables }
  pub commits : held_now ≡ with_performed (record { order = order; result = result }) held

module _ (l l_now : Ledger) (order : OrderOf) (m : Message) (result : ℕ) (tables : HeldTables) (held held_now : Option (List Performed)) (did : IsPerformed l l_now order m result tables held held_now) where
  result_is : result ≡ (message_outcome l.tables m).0
  result_is = ap (λ (x : ℕ × HeldTables). x.0) did.outcome

  abbrev row : Performed
  row = record { order = order; result = (message_outcome l.tables m).0 }

  row_is : (record { order = order; result = result }) ≡ row
  row_is = ap (λ (r : ℕ). record { order = order; result = r }) result_is

  ledger_is : l_now ≡ record { count = next l.count; last = Some row; tables = (message_outcome l.tables m).1 }
  ledger_is = did.ledger ∙ (λ i. record { count = next l.count; last = Some (row_is i); tables = (did.outcome i).1 })

  held_is : held_now ≡ with_performed row held
  held_is = did.commits ∙ ap (λ (p : Performed). with_performed p held) row_is

  pub keeps_next : EditionsLeaveTheSame → (edition : Edition) → IsOrder order → reading edition order ≡ Ok m → KeepsLedger l l_now held held_now
  keeps_next law edition is reads =
      subst (λ (kept : Ledger). KeepsLedger l kept held held_now) (sym ledger_is)
      (subst (λ (h : Option (List Performed)). KeepsLedger l (record { count = next l.count; last = Some row; tables = (message_outcome l.tables m).1 }) held h) (sym held_is) (keeps_by law edition l order m held is reads))

pub keeps_performed : AreOneToOne → EditionsLeaveTheSame → (h : Header) (octets : List ℕ) (l l_now : Ledger) (order : OrderOf) (m : Message) (result : ℕ) (tables : HeldTables) (held held_now : Option (List Performed))
    → order ≡ record { id = h.id; body = octets } → is_order_id h.id ≡ true → length octets ≤ BODY_LIMIT → AreOctets octets → HasBody h.edition h.id m octets → IsPerformed l l_now order m result tables held held_now → KeepsLedger l l_now held held_now
keeps_performed bodies law h octets l l_now order m result tables held held_now order_is id fits are fills did =
    keeps_next l l_now order m result tables held held_now did law h.edition (subst IsOrder (sym order_is) (record { id = id; fits = fits; octets = are }))
    (ap (reading h.edition) order_is ∙ ((bodies h.edition h.id).reads_value octets m are).1 fills)

-- the tables behind the first of performed orders, and one more
pub tables_more : (log : List Performed) (i : ℕ) (d : Performed) → i < length log
    → tables_of terminal_performing no_tables (take (i + 1) log) ≡ tables_behind terminal_performing (tables_of terminal_performing no_tables (take i log)) (get_or log i d)
tables_more log i d lt = ap (tables_of terminal_performing no_tables) (take_more log i d lt) ∙ tables_push terminal_performing no_tables (take i log) (get_or log i d)

-- ---- an order of the log that is performed once more

abbrev answers_as : Edition → OrderOf → Result Message CodecError → Type 0
answers_as edition order r = Answers (body edition order.id) order.body r

module _ (law : AreOneToOne) (edition : Edition) (t : HeldTables) (order : OrderOf) where
  read_as : (m : Message) → IsOrder order → answers_as edition order (Ok m) → reading edition order ≡ Ok m
  read_as m is fills = ((law edition order.id).reads_value order.body m is.octets).1 fills

  -- it reads as a message, which was performed
  pub again_read : (m : Message) (octets : List ℕ) (id : ℕ) → IsOrder order → id ≡ order.id → octets ≡ order.body → Answers (body edition id) octets (Ok m) → (now : HeldTables) (r : Result (Unit {0}) Memory)
      → OnOk r (now ≡ (message_outcome t m).1) → OnOk r (now ≡ (order_outcome edition t order).1)
  again_read m octets id is id_is octets_are answers now (Ok x) did =
      did ∙ sym (ap (λ (x : ℕ × HeldTables). x.1) (outcome_is edition t order m (read_as m is (subst (λ (o : List ℕ). Answers (body edition order.id) o (Ok m)) octets_are (subst (λ (k : ℕ). Answers (body edition k) octets (Ok m)) id_is answers)))))
  again_read m octets id is id_is octets_are answers now (Err error) did = tt

  -- it is refused, and changes nothing
  pub again_refused : (error : CodecError) (refusal : Refusal) (octets : List ℕ) (id : ℕ) → IsOrder order → id ≡ order.id → octets ≡ order.body → error ≡ Refused refusal → Answers (body edition id) octets (Err error) → t ≡ (order_outcome edition t order).1
  again_refused error refusal octets id is id_is octets_are error_is answers =
      let refuses = subst (λ (e : CodecError). answers_as edition order (Err e)) error_is (subst (λ (o : List ℕ). Answers (body edition order.id) o (Err error)) octets_are (subst (λ (k : ℕ). Answers (body edition k) octets (Err error)) id_is answers)) in
      sym (ap (λ (r : Result Message Refusal). (reading_outcome t r).1) (((law edition order.id).reads_reason order.body refusal is.octets).1 refuses))
