-- The law of the body table.
use Rattle.std.proofs.Common.{◌≡◌, ℕ, ◌++◌, Bool, true, false, cond, eqb, List, Option, Some, None, Result, Ok, Err, refl, sym, ap, subst, ◌∙◌, arith}
use Rattle.std.specs.Prelude.{◌&&◌, IsSomeAnd, IfOk, IfErr}
use Rattle.std.proofs.lemmas.Bool.{and_parts, eqb-true, eq-eqb}
use Rattle.jt_value.specs.declared.phone.Edition.{Edition}
use Rattle.jt_value.specs.declared.refusal.Refusal.{Refusal}
use Rattle.jt_value.specs.declared.refusal.CodecError.{CodecError}
use Rattle.jt_value.specs.declared.refusal.CodecError.TheVariants as errors
use Rattle.jt_layout.specs.Layout.{Body, Fills, ◌>>=◌, number, word, dword, ended, rest, if_body, body_case, spell_case, spell_option, only_if, may_end}
use Rattle.jt_layout.specs.Answer.{Answers}
use Rattle.jt_layout.proofs.Laws.{IsBody, byte_law, word_law, dword_law, if_law, then_law, then_body_law, ended_law, body_as_law, empty_law, rest_law, case_law}
use Rattle.jt_layout.proofs.Repeats.{IsNeverEmpty, only_if_law, may_end_law}
use Rattle.jt_params.specs.declared.param.Param.{Param}
use Rattle.jt_params.proofs.ParamLaws.{params_law, params_reply_law, query_some_law}
use Rattle.jt_position.specs.declared.position.Position.{Position}
use Rattle.jt_position.specs.declared.batch.Batch.{Batch}
use Rattle.jt_position.proofs.ItemLaws.{position_law, batch_law}
use Rattle.jt_region_bodies.specs.declared.circle.Circle.{Circle}
use Rattle.jt_region_bodies.specs.declared.deletion.Deletion.{Deletion}
use Rattle.jt_region_bodies.specs.declared.polygon.Polygon.{Polygon}
use Rattle.jt_region_bodies.specs.declared.rectangle.Rectangle.{Rectangle}
use Rattle.jt_region_bodies.specs.declared.route.Route.{Route}
use Rattle.jt_region_bodies.proofs.RegionLaws.{circles_law, rectangles_law, polygon_law, route_law, deletion_law}
use Rattle.jt_region_bodies.specs.declared.kind.RegionKind.TheVariants as kind
use Rattle.jt_register.specs.declared.register.Register.{Register}
use Rattle.jt_register.specs.declared.reply.RegisterReply.{RegisterReply}
use Rattle.jt_register.specs.declared.auth.Auth.{Auth}
use Rattle.jt_register.proofs.RegistrationLaws.{register_law, register_reply_law, auth_law}
use Rattle.jt_codec.specs.Answer.{IsUnlessMemory}
use Rattle.jt_codec.specs.Kinds.{terminal_ack_of, platform_ack_of, heartbeat_of, deregister_of, terminal_resend_of, resend_of, register_of, register_reply_of, auth_of, set_params_of, query_params_of, query_some_of, params_of, position_of, position_reply_of, query_position_of, track_of, batch_of, text_of, kind_text_of, control_of, circles_of, rectangles_of, polygon_of, route_of, delete_circles_of, delete_rectangles_of, delete_polygons_of, delete_routes_of, opaque_of}
use Rattle.jt_codec.specs.Layouts.{ack, position_reply, track, octet_and_text, flag_kind_and_text}
use Rattle.jt_codec.specs.Editions.{is_2013, is_2019}
use Rattle.jt_codec.specs.declared.resend.Resend.{Resend}
use Rattle.jt_codec.proofs.ResendLaws.{resend_law}
use Rattle.jt_codec.specs.Bodies.{body, id_of, Fits, HasBody, IsInside, body_octets, octets_under}
use Rattle.jt_codec.specs.declared.message.Message.{Message}
use Rattle.jt_codec.specs.declared.message.Message.TheVariants as message

chosen : {A : Type 0} (b : Bool) (x y : A) → cond b (Some x) None ≡ Some y → (b ≡ true) × (x ≡ y)
chosen true x y e = (refl, cc)
chosen false x y e = absurd cc

-- ---- which message has these fields

some_is : {A : Type 0} (x y : A) → (o : Option A) → o ≡ Some x → o ≡ Some y → x ≡ y
some_is x y o e d = cc

terminal_ack_forth : (m : Message) (x : ℕ × ℕ × ℕ) → terminal_ack_of m ≡ Some x → message.TerminalAck x.0 x.1 x.2 ≡ m
terminal_ack_forth (message.TerminalAck reply id result) x e = ap (λ (y : ℕ × ℕ × ℕ). message.TerminalAck y.0 y.1 y.2) (some_is x (reply, id, result) _ e refl)
terminal_ack_forth _ x e = absurd cc

platform_ack_forth : (m : Message) (x : ℕ × ℕ × ℕ) → platform_ack_of m ≡ Some x → message.PlatformAck x.0 x.1 x.2 ≡ m
platform_ack_forth (message.PlatformAck reply id result) x e = ap (λ (y : ℕ × ℕ × ℕ). message.PlatformAck y.0 y.1 y.2) (some_is x (reply, id, result) _ e refl)
platform_ack_forth _ x e = absurd cc

heartbeat_forth : (m : Message) (x : Unit {0}) → heartbeat_of m ≡ Some x → message.Heartbeat ≡ m
heartbeat_forth message.Heartbeat x e = refl
heartbeat_forth _ x e = absurd cc

deregister_forth : (m : Message) (x : Unit {0}) → deregister_of m ≡ Some x → message.Deregister ≡ m
deregister_forth message.Deregister x e = refl
deregister_forth _ x e = absurd cc

terminal_resend_forth : (m : Message) (x : Resend) → terminal_resend_of m ≡ Some x → message.TerminalResend x ≡ m
terminal_resend_forth (message.TerminalResend resend) x e = cc
terminal_resend_forth _ x e = absurd cc

resend_forth : (m : Message) (x : Resend) → resend_of m ≡ Some x → message.Resend x ≡ m
resend_forth (message.Resend resend) x e = cc
resend_forth _ x e = absurd cc

register_forth : (m : Message) (x : Register) → register_of m ≡ Some x → message.Register x ≡ m
register_forth (message.Register register) x e = cc
register_forth _ x e = absurd cc

register_reply_forth : (m : Message) (x : RegisterReply) → register_reply_of m ≡ Some x → message.RegisterReply x ≡ m
register_reply_forth (message.RegisterReply reply) x e = cc
register_reply_forth _ x e = absurd cc

auth_forth : (m : Message) (x : Auth) → auth_of m ≡ Some x → message.Auth x ≡ m
auth_forth (message.Auth auth) x e = cc
auth_forth _ x e = absurd cc

set_params_forth : (m : Message) (x : List Param) → set_params_of m ≡ Some x → message.SetParams x ≡ m
set_params_forth (message.SetParams params) x e = cc
set_params_forth _ x e = absurd cc

query_params_forth : (m : Message) (x : Unit {0}) → query_params_of m ≡ Some x → message.QueryParams ≡ m
query_params_forth message.QueryParams x e = refl
query_params_forth _ x e = absurd cc

query_some_forth : (m : Message) (x : List ℕ) → query_some_of m ≡ Some x → message.QuerySome x ≡ m
query_some_forth (message.QuerySome ids) x e = cc
query_some_forth _ x e = absurd cc

params_forth : (m : Message) (x : ℕ × List Param) → params_of m ≡ Some x → message.Params x.0 x.1 ≡ m
params_forth (message.Params reply params) x e = ap (λ (y : ℕ × List Param). message.Params y.0 y.1) (some_is x (reply, params) _ e refl)
params_forth _ x e = absurd cc

position_forth : (m : Message) (x : Position) → position_of m ≡ Some x → message.Position x ≡ m
position_forth (message.Position position) x e = cc
position_forth _ x e = absurd cc

position_reply_forth : (m : Message) (x : ℕ × Position) → position_reply_of m ≡ Some x → message.PositionReply x.0 x.1 ≡ m
position_reply_forth (message.PositionReply reply position) x e = ap (λ (y : ℕ × Position). message.PositionReply y.0 y.1) (some_is x (reply, position) _ e refl)
position_reply_forth _ x e = absurd cc

query_position_forth : (m : Message) (x : Unit {0}) → query_position_of m ≡ Some x → message.QueryPosition ≡ m
query_position_forth message.QueryPosition x e = refl
query_position_forth _ x e = absurd cc

track_forth : (m : Message) (x : ℕ × Option ℕ) → track_of m ≡ Some x → message.Track x.0 x.1 ≡ m
track_forth (message.Track interval validity) x e = ap (λ (y : ℕ × Option ℕ). message.Track y.0 y.1) (some_is x (interval, validity) _ e refl)
track_forth _ x e = absurd cc

batch_forth : (m : Message) (x : Batch) → batch_of m ≡ Some x → message.Batch x ≡ m
batch_forth (message.Batch batch) x e = cc
batch_forth _ x e = absurd cc

text_forth : (m : Message) (x : ℕ × List ℕ) → text_of m ≡ Some x → message.Text x.0 None x.1 ≡ m
text_forth (message.Text flag None text) x e = ap (λ (y : ℕ × List ℕ). message.Text y.0 None y.1) (some_is x (flag, text) _ e refl)
text_forth _ x e = absurd cc

kind_text_forth : (m : Message) (x : ℕ × ℕ × List ℕ) → kind_text_of m ≡ Some x → message.Text x.0 (Some x.1) x.2 ≡ m
kind_text_forth (message.Text flag (Some kind) text) x e = ap (λ (y : ℕ × ℕ × List ℕ). message.Text y.0 (Some y.1) y.2) (some_is x (flag, kind, text) _ e refl)
kind_text_forth _ x e = absurd cc

control_forth : (m : Message) (x : ℕ × List ℕ) → control_of m ≡ Some x → message.Control x.0 x.1 ≡ m
control_forth (message.Control command text) x e = ap (λ (y : ℕ × List ℕ). message.Control y.0 y.1) (some_is x (command, text) _ e refl)
control_forth _ x e = absurd cc

circles_forth : (m : Message) (x : ℕ × List Circle) → circles_of m ≡ Some x → message.Circles x.0 x.1 ≡ m
circles_forth (message.Circles setting list) x e = ap (λ (y : ℕ × List Circle). message.Circles y.0 y.1) (some_is x (setting, list) _ e refl)
circles_forth _ x e = absurd cc

rectangles_forth : (m : Message) (x : ℕ × List Rectangle) → rectangles_of m ≡ Some x → message.Rectangles x.0 x.1 ≡ m
rectangles_forth (message.Rectangles setting list) x e = ap (λ (y : ℕ × List Rectangle). message.Rectangles y.0 y.1) (some_is x (setting, list) _ e refl)
rectangles_forth _ x e = absurd cc

polygon_forth : (m : Message) (x : Polygon) → polygon_of m ≡ Some x → message.Polygon x ≡ m
polygon_forth (message.Polygon polygon) x e = cc
polygon_forth _ x e = absurd cc

route_forth : (m : Message) (x : Route) → route_of m ≡ Some x → message.Route x ≡ m
route_forth (message.Route route) x e = cc
route_forth _ x e = absurd cc

delete_circles_forth : (m : Message) (x : Deletion) → delete_circles_of m ≡ Some x → message.Delete kind.Circle x.ids ≡ m
delete_circles_forth (message.Delete kind.Circle ids) x e = ap (λ (y : Deletion). message.Delete kind.Circle y.ids) (some_is x (record { ids = ids }) _ e refl)
delete_circles_forth _ x e = absurd cc

delete_rectangles_forth : (m : Message) (x : Deletion) → delete_rectangles_of m ≡ Some x → message.Delete kind.Rectangle x.ids ≡ m
delete_rectangles_forth (message.Delete kind.Rectangle ids) x e = ap (λ (y : Deletion). message.Delete kind.Rectangle y.ids) (some_is x (record { ids = ids }) _ e refl)
delete_rectangles_forth _ x e = absurd cc

delete_polygons_forth : (m : Message) (x : Deletion) → delete_polygons_of m ≡ Some x → message.Delete kind.Polygon x.ids ≡ m
delete_polygons_forth (message.Delete kind.Polygon ids) x e = ap (λ (y : Deletion). message.Delete kind.Polygon y.ids) (some_is x (record { ids = ids }) _ e refl)
delete_polygons_forth _ x e = absurd cc

delete_routes_forth : (m : Message) (x : Deletion) → delete_routes_of m ≡ Some x → message.Delete kind.Route x.ids ≡ m
delete_routes_forth (message.Delete kind.Route ids) x e = ap (λ (y : Deletion). message.Delete kind.Route y.ids) (some_is x (record { ids = ids }) _ e refl)
delete_routes_forth _ x e = absurd cc

opaque_back : (id : ℕ) (v : List ℕ) → opaque_of id (message.Opaque id v) ≡ Some v
opaque_back id v = rw (eq-eqb id id refl) refl

opaque_forth : (id : ℕ) (m : Message) (x : List ℕ) → opaque_of id m ≡ Some x → message.Opaque id x ≡ m
opaque_forth id (message.Opaque own v) x e = let c = chosen (eqb own id) v x e in ap (λ (y : List ℕ). message.Opaque id y) (sym c.1) ∙ ap (λ (k : ℕ). message.Opaque k v) (sym (eqb-true own id c.0))
opaque_forth id _ x e = absurd cc

-- ---- layouts of this crate

pub ack_law : IsBody ack
unfolding ack
ack_law = body_as_law _ _ _ (ended_law _ (then_law _ _ word_law (λ _. then_law _ _ word_law (λ _. byte_law)))) (λ x fits. refl) (λ m. refl)

pub position_reply_law : IsBody position_reply
unfolding position_reply
position_reply_law = then_body_law _ _ word_law (λ _. position_law)

dword_some : IsNeverEmpty dword
unfolding number
dword_some = record { some = λ a fits. omega arith }

pub track_law : IsBody track
unfolding track
track_law = then_body_law _ _ word_law (λ interval. if_law (eqb interval 0) _ _ (may_end_law _ dword_law dword_some) (ended_law _ (only_if_law true _ dword_law)))

spell_validity : (is_zero : Bool) (validity : Option ℕ) → (if_body is_zero (may_end dword) (ended (only_if true dword))).spell validity ≡ spell_option dword validity
unfolding only_if
spell_validity true validity = refl
spell_validity false validity = refl

-- a validity is written where there is one
pub spell_track : (interval : ℕ) (validity : Option ℕ) → track.spell (interval, validity) ≡ word.spell interval ++ spell_option dword validity
unfolding track
spell_track interval validity = ap (λ (t : List ℕ). word.spell interval ++ t) (spell_validity (eqb interval 0) validity)

pub octet_and_text_law : IsBody octet_and_text
unfolding octet_and_text
octet_and_text_law = then_body_law _ _ byte_law (λ _. rest_law)

pub flag_kind_and_text_law : IsBody flag_kind_and_text
unfolding flag_kind_and_text
flag_kind_and_text_law = body_as_law _ _ _ (then_body_law _ _ byte_law (λ _. then_body_law _ _ byte_law (λ _. rest_law))) (λ x fits. refl) (λ m. refl)

-- ---- rows

-- what holds of the row of an id
pub record IsRow (id : ℕ) (b : Body Message) : Type 0 where
  pub law : IsBody b
  -- what stands in it has this id
  pub under : (m : Message) → b.Fits m → id_of m ≡ Some id
  -- an opaque message that fits is spelled by its octets
  pub opaque : (own : ℕ) (v : List ℕ) → b.Fits (message.Opaque own v) → b.spell (message.Opaque own v) ≡ v
  -- what is read of any numbers has this id
  pub read : (octets : List ℕ) (m : Message) → b.read octets 0 ≡ Ok m → id_of m ≡ Some id

some_case : {A : Type 0} (o : Option A) (P : A → Type 0) → IsSomeAnd o P → (x : A) × (o ≡ Some x)
some_case None P h = absurd h
some_case (Some x) P h = (x, refl)

-- what a row reads is made of its fields
pub made : {A : Type 0} (make : A → Message) (r : Result A Refusal) (m : Message) → (r >>= λ x. Ok (make x)) ≡ Ok m → (x : A) × (m ≡ make x)
made make (Ok x) m e = (x, cc)
made make (Err r) m e = absurd cc

is_row : (id : ℕ) {A : Type 0} (f : Body A) (make : A → Message) (case_of : Message → Option A) → IsBody f
    → ((x : A) → case_of (make x) ≡ Some x) → ((m : Message) (x : A) → case_of m ≡ Some x → make x ≡ m) → ((x : A) → id_of (make x) ≡ Some id)
    → ((own : ℕ) (v : List ℕ) → IsSomeAnd (case_of (message.Opaque own v)) f.Fits → spell_case f.spell (case_of (message.Opaque own v)) ≡ v)
    → IsRow id (body_case f make case_of)
is_row id f make case_of law back forth named opaque = record {
  law = case_law f make case_of law back forth;
  under = λ m fits. let c = some_case (case_of m) f.Fits fits in ap id_of (sym (forth m c.0 c.1)) ∙ named c.0;
  opaque = opaque;
  read = λ octets m e. let x = made make (f.read octets 0) m e in ap id_of x.1 ∙ named x.0;
}

-- a row of its own has no opaque message
no_opaque : {A : Type 0} (f : Body A) (o : Option A) (v : List ℕ) → o ≡ None → IsSomeAnd o f.Fits → spell_case f.spell o ≡ v
no_opaque f None v none fits = absurd fits
no_opaque f (Some x) v none fits = absurd cc

own_opaque : (b : Bool) (v : List ℕ) → IsSomeAnd (cond b (Some v) None) rest.Fits → spell_case rest.spell (cond b (Some v) None) ≡ v
unfolding rest
own_opaque true v fits = refl
own_opaque false v fits = absurd fits

if_row_by : (b test : Bool) (id n : ℕ) (f other : Body Message) → test ≡ b → (test ≡ true → id ≡ n) → IsRow n f → IsRow id other → IsRow id (if_body b f other)
if_row_by true test id n f other e means lf lo = subst (λ (k : ℕ). IsRow k f) (sym (means e)) lf
if_row_by false test id n f other e means lf lo = lo

-- the row of this id where a test holds, and otherwise the rows of the others
if_row_when : (test : Bool) (id n : ℕ) → (test ≡ true → id ≡ n) → {A : Type 0} (f : Body A) (make : A → Message) (case_of : Message → Option A) (other : Body Message) → IsBody f
    → ((x : A) → case_of (make x) ≡ Some x) → ((m : Message) (x : A) → case_of m ≡ Some x → make x ≡ m) → ((x : A) → id_of (make x) ≡ Some n)
    → ((own : ℕ) (v : List ℕ) → case_of (message.Opaque own v) ≡ None) → IsRow id other → IsRow id (if_body test (body_case f make case_of) other)
if_row_when test id n means f make case_of other law back forth named clear rows =
    if_row_by test test id n (body_case f make case_of) other refl means
    (is_row n f make case_of law back forth named (λ own v fits. no_opaque f (case_of (message.Opaque own v)) v (clear own v) fits)) rows

-- the row of an id in both editions
if_row : (id n : ℕ) {A : Type 0} (f : Body A) (make : A → Message) (case_of : Message → Option A) (other : Body Message) → IsBody f
    → ((x : A) → case_of (make x) ≡ Some x) → ((m : Message) (x : A) → case_of m ≡ Some x → make x ≡ m) → ((x : A) → id_of (make x) ≡ Some n)
    → ((own : ℕ) (v : List ℕ) → case_of (message.Opaque own v) ≡ None) → IsRow id other → IsRow id (if_body (eqb id n) (body_case f make case_of) other)
if_row id n = if_row_when (eqb id n) id n (eqb-true id n)

-- the row of an id in 2013 alone
if_row_2013 : (edition : Edition) (id n : ℕ) {A : Type 0} (f : Body A) (make : A → Message) (case_of : Message → Option A) (other : Body Message) → IsBody f
    → ((x : A) → case_of (make x) ≡ Some x) → ((m : Message) (x : A) → case_of m ≡ Some x → make x ≡ m) → ((x : A) → id_of (make x) ≡ Some n)
    → ((own : ℕ) (v : List ℕ) → case_of (message.Opaque own v) ≡ None) → IsRow id other → IsRow id (if_body (is_2013 edition && eqb id n) (body_case f make case_of) other)
if_row_2013 edition id n = if_row_when (is_2013 edition && eqb id n) id n (λ e. eqb-true id n (and_parts (is_2013 edition) (eqb id n) e).1)

-- the row of an id in 2019 alone
if_row_2019 : (edition : Edition) (id n : ℕ) {A : Type 0} (f : Body A) (make : A → Message) (case_of : Message → Option A) (other : Body Message) → IsBody f
    → ((x : A) → case_of (make x) ≡ Some x) → ((m : Message) (x : A) → case_of m ≡ Some x → make x ≡ m) → ((x : A) → id_of (make x) ≡ Some n)
    → ((own : ℕ) (v : List ℕ) → case_of (message.Opaque own v) ≡ None) → IsRow id other → IsRow id (if_body (is_2019 edition && eqb id n) (body_case f make case_of) other)
if_row_2019 edition id n = if_row_when (is_2019 edition && eqb id n) id n (λ e. eqb-true id n (and_parts (is_2019 edition) (eqb id n) e).1)

-- a row: its id, the law of its layout, and the message that has its fields
body_row : (edition : Edition) (id : ℕ) → IsRow id (body edition id)
unfolding body
body_row edition id =
    if_row id 0x0001 _ _ _ _ ack_law (λ x. refl) terminal_ack_forth (λ x. refl) (λ _ _. refl) (
    if_row id 0x8001 _ _ _ _ ack_law (λ x. refl) platform_ack_forth (λ x. refl) (λ _ _. refl) (
    if_row id 0x0002 _ _ _ _ empty_law (λ x. refl) heartbeat_forth (λ x. refl) (λ _ _. refl) (
    if_row id 0x0003 _ _ _ _ empty_law (λ x. refl) deregister_forth (λ x. refl) (λ _ _. refl) (
    if_row_2019 edition id 0x0005 _ _ _ _ (resend_law edition) (λ x. refl) terminal_resend_forth (λ x. refl) (λ _ _. refl) (
    if_row id 0x8003 _ _ _ _ (resend_law edition) (λ x. refl) resend_forth (λ x. refl) (λ _ _. refl) (
    if_row id 0x0100 _ _ _ _ (register_law edition) (λ x. refl) register_forth (λ x. refl) (λ _ _. refl) (
    if_row id 0x8100 _ _ _ _ register_reply_law (λ x. refl) register_reply_forth (λ x. refl) (λ _ _. refl) (
    if_row id 0x0102 _ _ _ _ (auth_law edition) (λ x. refl) auth_forth (λ x. refl) (λ _ _. refl) (
    if_row id 0x8103 _ _ _ _ params_law (λ x. refl) set_params_forth (λ x. refl) (λ _ _. refl) (
    if_row id 0x8104 _ _ _ _ empty_law (λ x. refl) query_params_forth (λ x. refl) (λ _ _. refl) (
    if_row id 0x8106 _ _ _ _ query_some_law (λ x. refl) query_some_forth (λ x. refl) (λ _ _. refl) (
    if_row id 0x0104 _ _ _ _ params_reply_law (λ x. refl) params_forth (λ x. refl) (λ _ _. refl) (
    if_row id 0x0200 _ _ _ _ position_law (λ x. refl) position_forth (λ x. refl) (λ _ _. refl) (
    if_row id 0x0201 _ _ _ _ position_reply_law (λ x. refl) position_reply_forth (λ x. refl) (λ _ _. refl) (
    if_row id 0x8201 _ _ _ _ empty_law (λ x. refl) query_position_forth (λ x. refl) (λ _ _. refl) (
    if_row id 0x8202 _ _ _ _ track_law (λ x. refl) track_forth (λ x. refl) (λ _ _. refl) (
    if_row id 0x0704 _ _ _ _ batch_law (λ x. refl) batch_forth (λ x. refl) (λ _ _. refl) (
    if_row_2013 edition id 0x8300 _ _ _ _ octet_and_text_law (λ x. refl) text_forth (λ x. refl) (λ _ _. refl) (
    if_row_2019 edition id 0x8300 _ _ _ _ flag_kind_and_text_law (λ x. refl) kind_text_forth (λ x. refl) (λ _ _. refl) (
    if_row id 0x8105 _ _ _ _ octet_and_text_law (λ x. refl) control_forth (λ x. refl) (λ _ _. refl) (
    if_row_2013 edition id 0x8600 _ _ _ _ circles_law (λ x. refl) circles_forth (λ x. refl) (λ _ _. refl) (
    if_row_2013 edition id 0x8602 _ _ _ _ rectangles_law (λ x. refl) rectangles_forth (λ x. refl) (λ _ _. refl) (
    if_row_2013 edition id 0x8604 _ _ _ _ polygon_law (λ x. refl) polygon_forth (λ x. refl) (λ _ _. refl) (
    if_row_2013 edition id 0x8606 _ _ _ _ route_law (λ x. refl) route_forth (λ x. refl) (λ _ _. refl) (
    if_row id 0x8601 _ _ _ _ deletion_law (λ x. refl) delete_circles_forth (λ x. refl) (λ _ _. refl) (
    if_row id 0x8603 _ _ _ _ deletion_law (λ x. refl) delete_rectangles_forth (λ x. refl) (λ _ _. refl) (
    if_row id 0x8605 _ _ _ _ deletion_law (λ x. refl) delete_polygons_forth (λ x. refl) (λ _ _. refl) (
    if_row id 0x8607 _ _ _ _ deletion_law (λ x. refl) delete_routes_forth (λ x. refl) (λ _ _. refl)
    (is_row id _ _ _ rest_law (opaque_back id) (opaque_forth id) (λ x. refl) (λ own v fits. own_opaque (eqb own id) v fits))))))))))))))))))))))))))))))

pub body_law : (edition : Edition) (id : ℕ) → IsBody (body edition id)
body_law edition id = (body_row edition id).law

pub body_under : (edition : Edition) (id : ℕ) (m : Message) → (body edition id).Fits m → id_of m ≡ Some id
body_under edition id = (body_row edition id).under

-- what is read under an id, of any numbers, has this id
pub read_under : (edition : Edition) (id : ℕ) (octets : List ℕ) (m : Message) → (body edition id).read octets 0 ≡ Ok m → id_of m ≡ Some id
read_under edition id = (body_row edition id).read

pub opaque_octets : (edition : Edition) (id : ℕ) (v : List ℕ) → Fits edition (message.Opaque id v) → v ≡ body_octets edition (message.Opaque id v)
opaque_octets edition id v fits = sym ((body_row edition id).opaque id v fits)

-- ---- reading and writing

pub message_fits : (edition : Edition) (id : ℕ) (m : Message) → (body edition id).Fits m → Fits edition m
message_fits edition id m fits = rw (body_under edition id m fits) fits

pub writes_back : (edition : Edition) (id : ℕ) (m : Message) (s : List ℕ) → Fills (body edition id) s 0 m → body_octets edition m ≡ s
writes_back edition id m s h = rw (body_under edition id m h.fits) (sym h.parts)

reads_back_at : (edition : Edition) (m : Message) (o : Option ℕ) → IsSomeAnd o (λ id. (body edition id).Fits m) → IsSomeAnd o (λ id. HasBody edition id m (octets_under o edition m))
reads_back_at edition m None fits = absurd fits
reads_back_at edition m (Some id) fits = record { fits = fits; parts = refl }

reads_back : (edition : Edition) (m : Message) → Fits edition m → IsSomeAnd (id_of m) (λ id. HasBody edition id m (body_octets edition m))
reads_back edition m fits = reads_back_at edition m (id_of m) fits

pub written : (edition : Edition) (m : Message) {E : Type 0} (r : Result (List ℕ) E) → Fits edition m → IfOk r (λ o. o ≡ body_octets edition m) → IfOk r (λ o. IsSomeAnd (id_of m) (λ id. HasBody edition id m o))
written edition m (Ok o) fits e = subst (λ (v : List ℕ). IsSomeAnd (id_of m) (λ id. HasBody edition id m v)) (sym e) (reads_back edition m fits)
written edition m (Err e) fits h = tt

-- ---- answers as functions

-- what answers by the layout gives what reading gives
pub gives : {A : Type 0} (b : Body A) → IsBody b → (s : List ℕ) (r : Result A CodecError) → Answers b s r → IsUnlessMemory r (b.read s 0)
gives b law s (Ok a) h = law.again s 0 a (omega arith) h
gives b law s (Err errors.Memory) h = tt
gives b law s (Err (errors.Refused r)) h = law.refuses s 0 r (omega arith) h

pub message_given : (edition : Edition) (id : ℕ) (s : List ℕ) (m : Message) (r : Result Message CodecError) → Answers (body edition id) s r → HasBody edition id m s → IsUnlessMemory r (Ok m)
message_given edition id s m r h is =
    subst (IsUnlessMemory r) ((body_law edition id).again s 0 m (omega arith) is) (gives (body edition id) (body_law edition id) s r h)

pub refusal_given : (edition : Edition) (id : ℕ) (s : List ℕ) (d : Refusal) (r : Result Message CodecError) → Answers (body edition id) s r → (body edition id).Refuses s 0 d → IsUnlessMemory r (Err d)
refusal_given edition id s d r h is =
    subst (IsUnlessMemory r) ((body_law edition id).refuses s 0 d (omega arith) is) (gives (body edition id) (body_law edition id) s r h)

pub given_fits : (edition : Edition) (id : ℕ) (s : List ℕ) (r : Result Message CodecError) → Answers (body edition id) s r → IfOk r (Fits edition)
given_fits edition id s (Ok m) h = message_fits edition id m h.fits
given_fits edition id s (Err e) h = tt

pub given_octets : (edition : Edition) (id : ℕ) (s : List ℕ) (r : Result Message CodecError) → Answers (body edition id) s r → IfOk r (λ m. body_octets edition m ≡ s)
given_octets edition id s (Ok m) h = writes_back edition id m s h
given_octets edition id s (Err e) h = tt

pub given_id : (edition : Edition) (id : ℕ) (s : List ℕ) (r : Result Message CodecError) → Answers (body edition id) s r → IfOk r (λ m. id_of m ≡ Some id)
given_id edition id s (Ok m) h = body_under edition id m h.fits
given_id edition id s (Err e) h = tt

pub given_inside : (edition : Edition) (id : ℕ) (s : List ℕ) (r : Result Message CodecError) → Answers (body edition id) s r → IfErr r (IsInside s)
given_inside edition id s (Ok m) h = tt
given_inside edition id s (Err errors.Memory) h = tt
given_inside edition id s (Err (errors.Refused r)) h = (body_law edition id).placed s 0 r (omega arith) h
