-- The body of each message id: the standard's table of 2013, and this project's profile of 2019. To be believed.
use Rattle.std.specs.Prelude.{ℕ, ◌==◌, ◌&&◌, List, [], Option, Some, None, IsSomeAnd}
use Rattle.jt_value.specs.declared.phone.Edition.{Edition}
use Rattle.jt_value.specs.declared.refusal.CodecError.{CodecError}
use Rattle.jt_value.specs.declared.refusal.CodecError.TheVariants as errors
use Rattle.jt_value.specs.declared.ids.TheConstants.{AUTH, BATCH, CIRCLES, CONTROL, DELETE_CIRCLES, DELETE_POLYGONS, DELETE_RECTANGLES, DELETE_ROUTES, DEREGISTER, HEARTBEAT, PARAMS, PLATFORM_ACK, POLYGON, POSITION, POSITION_REPLY, QUERY_PARAMS, QUERY_POSITION, QUERY_SOME, RECTANGLES, REGISTER, REGISTER_REPLY, RESEND, ROUTE, SET_PARAMS, TERMINAL_ACK, TERMINAL_RESEND, TEXT, TRACK}
use Rattle.jt_layout.specs.Answer.{IsPlaced}
use Rattle.jt_layout.specs.Layout.{Body, Fills, empty, rest, if_body, body_case}
use Rattle.jt_params.specs.Params.{params, params_reply, query_some}
use Rattle.jt_position.specs.Positions.{position, batch}
use Rattle.jt_region_bodies.specs.Regions.{circles, rectangles, polygon, route, deletion}
use Rattle.jt_region_bodies.specs.declared.kind.RegionKind.{RegionKind}
use Rattle.jt_region_bodies.specs.declared.kind.RegionKind.TheVariants as kind
use Rattle.jt_register.specs.Registration.{register, register_reply, auth}
use Rattle.jt_codec.specs.Kinds.{terminal_ack_of, platform_ack_of, heartbeat_of, deregister_of, terminal_resend_of, resend_of, register_of, register_reply_of, auth_of, set_params_of, query_params_of, query_some_of, params_of, position_of, position_reply_of, query_position_of, track_of, batch_of, text_of, kind_text_of, control_of, opaque_of, circles_of, rectangles_of, polygon_of, route_of, delete_circles_of, delete_rectangles_of, delete_polygons_of, delete_routes_of}
use Rattle.jt_codec.specs.Layouts.{ack, position_reply, track, octet_and_text, flag_kind_and_text}
use Rattle.jt_codec.specs.Resend.{resend}
use Rattle.jt_codec.specs.Editions.{is_2013, is_2019}
use Rattle.jt_codec.specs.declared.message.Message.{Message}
use Rattle.jt_codec.specs.declared.message.Message.TheVariants as message

-- The row of an id. A row of one edition alone says so. Under every other id a body is opaque.
unfoldable pub body : Edition → ℕ → Body Message
body edition id =
    if_body (id == TERMINAL_ACK) (body_case ack (λ x. message.TerminalAck x.0 x.1 x.2) terminal_ack_of) (
    if_body (id == PLATFORM_ACK) (body_case ack (λ x. message.PlatformAck x.0 x.1 x.2) platform_ack_of) (
    if_body (id == HEARTBEAT) (body_case empty (λ _. message.Heartbeat) heartbeat_of) (
    if_body (id == DEREGISTER) (body_case empty (λ _. message.Deregister) deregister_of) (
    if_body (is_2019 edition && (id == TERMINAL_RESEND)) (body_case (resend edition) message.TerminalResend terminal_resend_of) (
    if_body (id == RESEND) (body_case (resend edition) message.Resend resend_of) (
    if_body (id == REGISTER) (body_case (register edition) message.Register register_of) (
    if_body (id == REGISTER_REPLY) (body_case register_reply message.RegisterReply register_reply_of) (
    if_body (id == AUTH) (body_case (auth edition) message.Auth auth_of) (
    if_body (id == SET_PARAMS) (body_case params message.SetParams set_params_of) (
    if_body (id == QUERY_PARAMS) (body_case empty (λ _. message.QueryParams) query_params_of) (
    if_body (id == QUERY_SOME) (body_case query_some message.QuerySome query_some_of) (
    if_body (id == PARAMS) (body_case params_reply (λ x. message.Params x.0 x.1) params_of) (
    if_body (id == POSITION) (body_case position message.Position position_of) (
    if_body (id == POSITION_REPLY) (body_case position_reply (λ x. message.PositionReply x.0 x.1) position_reply_of) (
    if_body (id == QUERY_POSITION) (body_case empty (λ _. message.QueryPosition) query_position_of) (
    if_body (id == TRACK) (body_case track (λ x. message.Track x.0 x.1) track_of) (
    if_body (id == BATCH) (body_case batch message.Batch batch_of) (
    if_body (is_2013 edition && (id == TEXT)) (body_case octet_and_text (λ x. message.Text x.0 None x.1) text_of) (
    if_body (is_2019 edition && (id == TEXT)) (body_case flag_kind_and_text (λ x. message.Text x.0 (Some x.1) x.2) kind_text_of) (
    if_body (id == CONTROL) (body_case octet_and_text (λ x. message.Control x.0 x.1) control_of) (
    if_body (is_2013 edition && (id == CIRCLES)) (body_case circles (λ x. message.Circles x.0 x.1) circles_of) (
    if_body (is_2013 edition && (id == RECTANGLES)) (body_case rectangles (λ x. message.Rectangles x.0 x.1) rectangles_of) (
    if_body (is_2013 edition && (id == POLYGON)) (body_case polygon message.Polygon polygon_of) (
    if_body (is_2013 edition && (id == ROUTE)) (body_case route message.Route route_of) (
    if_body (id == DELETE_CIRCLES) (body_case deletion (λ x. message.Delete kind.Circle x.ids) delete_circles_of) (
    if_body (id == DELETE_RECTANGLES) (body_case deletion (λ x. message.Delete kind.Rectangle x.ids) delete_rectangles_of) (
    if_body (id == DELETE_POLYGONS) (body_case deletion (λ x. message.Delete kind.Polygon x.ids) delete_polygons_of) (
    if_body (id == DELETE_ROUTES) (body_case deletion (λ x. message.Delete kind.Route x.ids) delete_routes_of)
    (body_case rest (message.Opaque id) (opaque_of id))))))))))))))))))))))))))))))

-- under this id, the octets are the message's fields in the order of the row
abbrev pub HasBody : Edition → ℕ → Message → List ℕ → Type 0
HasBody edition id message octets = Fills (body edition id) octets 0 message

-- the id of the deletion of a kind
abbrev pub deletion_id : RegionKind → ℕ
deletion_id kind.Circle = DELETE_CIRCLES
deletion_id kind.Rectangle = DELETE_RECTANGLES
deletion_id kind.Polygon = DELETE_POLYGONS
deletion_id kind.Route = DELETE_ROUTES

-- the id that a message stands under; a part has no row, and so no id of its own
abbrev pub id_of : Message → Option ℕ
id_of (message.TerminalAck _ _ _) = Some TERMINAL_ACK
id_of (message.PlatformAck _ _ _) = Some PLATFORM_ACK
id_of message.Heartbeat = Some HEARTBEAT
id_of message.Deregister = Some DEREGISTER
id_of (message.TerminalResend _) = Some TERMINAL_RESEND
id_of (message.Resend _) = Some RESEND
id_of (message.Register _) = Some REGISTER
id_of (message.RegisterReply _) = Some REGISTER_REPLY
id_of (message.Auth _) = Some AUTH
id_of (message.SetParams _) = Some SET_PARAMS
id_of message.QueryParams = Some QUERY_PARAMS
id_of (message.QuerySome _) = Some QUERY_SOME
id_of (message.Params _ _) = Some PARAMS
id_of (message.Position _) = Some POSITION
id_of (message.PositionReply _ _) = Some POSITION_REPLY
id_of message.QueryPosition = Some QUERY_POSITION
id_of (message.Track _ _) = Some TRACK
id_of (message.Batch _) = Some BATCH
id_of (message.Text _ _ _) = Some TEXT
id_of (message.Control _ _) = Some CONTROL
id_of (message.Circles _ _) = Some CIRCLES
id_of (message.Rectangles _ _) = Some RECTANGLES
id_of (message.Polygon _) = Some POLYGON
id_of (message.Route _) = Some ROUTE
id_of (message.Delete kind _) = Some (deletion_id kind)
id_of (message.Opaque id _) = Some id
id_of (message.Part _) = None

-- the table has octets for the message in this edition
abbrev pub Fits : Edition → Message → Type 0
Fits edition message = IsSomeAnd (id_of message) (λ id. (body edition id).Fits message)

abbrev pub octets_under : Option ℕ → Edition → Message → List ℕ
octets_under None edition message = []
octets_under (Some id) edition message = (body edition id).spell message

-- the octets that the table has for a message that fits
abbrev pub body_octets : Edition → Message → List ℕ
body_octets edition message = octets_under (id_of message) edition message

-- a refusal's place is that of one of the octets, or their end
abbrev pub IsInside : List ℕ → CodecError → Type 0
IsInside octets (errors.Refused refusal) = IsPlaced octets refusal
IsInside octets errors.Memory = Unit {0}
