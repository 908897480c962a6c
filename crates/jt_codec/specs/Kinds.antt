-- The fields of each kind of message; a message of another kind has none of them. To be believed.
use Rattle.std.specs.Prelude.{ℕ, ◌==◌, if◌then◌else◌, List, Option, Some, None}
use Rattle.jt_params.specs.declared.param.Param.{Param}
use Rattle.jt_position.specs.declared.position.Position.{Position}
use Rattle.jt_position.specs.declared.batch.Batch.{Batch}
use Rattle.jt_region_bodies.specs.declared.circle.Circle.{Circle}
use Rattle.jt_region_bodies.specs.declared.deletion.Deletion.{Deletion}
use Rattle.jt_region_bodies.specs.declared.polygon.Polygon.{Polygon}
use Rattle.jt_region_bodies.specs.declared.rectangle.Rectangle.{Rectangle}
use Rattle.jt_region_bodies.specs.declared.route.Route.{Route}
use Rattle.jt_region_bodies.specs.declared.kind.RegionKind.TheVariants as kind
use Rattle.jt_register.specs.declared.register.Register.{Register}
use Rattle.jt_register.specs.declared.reply.RegisterReply.{RegisterReply}
use Rattle.jt_register.specs.declared.auth.Auth.{Auth}
use Rattle.jt_codec.specs.declared.resend.Resend.{Resend}
use Rattle.jt_codec.specs.declared.message.Message.{Message}
use Rattle.jt_codec.specs.declared.message.Message.TheVariants as message

abbrev pub terminal_ack_of : Message → Option (ℕ × ℕ × ℕ)
terminal_ack_of (message.TerminalAck reply id result) = Some (reply, id, result)
terminal_ack_of _ = None

abbrev pub platform_ack_of : Message → Option (ℕ × ℕ × ℕ)
platform_ack_of (message.PlatformAck reply id result) = Some (reply, id, result)
platform_ack_of _ = None

abbrev pub heartbeat_of : Message → Option (Unit {0})
heartbeat_of message.Heartbeat = Some tt
heartbeat_of _ = None

abbrev pub deregister_of : Message → Option (Unit {0})
deregister_of message.Deregister = Some tt
deregister_of _ = None

abbrev pub terminal_resend_of : Message → Option Resend
terminal_resend_of (message.TerminalResend resend) = Some resend
terminal_resend_of _ = None

abbrev pub resend_of : Message → Option Resend
resend_of (message.Resend resend) = Some resend
resend_of _ = None

abbrev pub register_of : Message → Option Register
register_of (message.Register register) = Some register
register_of _ = None

abbrev pub register_reply_of : Message → Option RegisterReply
register_reply_of (message.RegisterReply reply) = Some reply
register_reply_of _ = None

abbrev pub auth_of : Message → Option Auth
auth_of (message.Auth auth) = Some auth
auth_of _ = None

abbrev pub set_params_of : Message → Option (List Param)
set_params_of (message.SetParams params) = Some params
set_params_of _ = None

abbrev pub query_params_of : Message → Option (Unit {0})
query_params_of message.QueryParams = Some tt
query_params_of _ = None

abbrev pub query_some_of : Message → Option (List ℕ)
query_some_of (message.QuerySome ids) = Some ids
query_some_of _ = None

abbrev pub params_of : Message → Option (ℕ × List Param)
params_of (message.Params reply params) = Some (reply, params)
params_of _ = None

abbrev pub position_of : Message → Option Position
position_of (message.Position position) = Some position
position_of _ = None

abbrev pub position_reply_of : Message → Option (ℕ × Position)
position_reply_of (message.PositionReply reply position) = Some (reply, position)
position_reply_of _ = None

abbrev pub query_position_of : Message → Option (Unit {0})
query_position_of message.QueryPosition = Some tt
query_position_of _ = None

abbrev pub track_of : Message → Option (ℕ × Option ℕ)
track_of (message.Track interval validity) = Some (interval, validity)
track_of _ = None

abbrev pub batch_of : Message → Option Batch
batch_of (message.Batch batch) = Some batch
batch_of _ = None

-- a text without a kind
abbrev pub text_of : Message → Option (ℕ × List ℕ)
text_of (message.Text flag None text) = Some (flag, text)
text_of _ = None

-- a text with a kind
abbrev pub kind_text_of : Message → Option (ℕ × ℕ × List ℕ)
kind_text_of (message.Text flag (Some kind) text) = Some (flag, kind, text)
kind_text_of _ = None

abbrev pub control_of : Message → Option (ℕ × List ℕ)
control_of (message.Control command text) = Some (command, text)
control_of _ = None

abbrev pub circles_of : Message → Option (ℕ × List Circle)
circles_of (message.Circles setting list) = Some (setting, list)
circles_of _ = None

abbrev pub rectangles_of : Message → Option (ℕ × List Rectangle)
rectangles_of (message.Rectangles setting list) = Some (setting, list)
rectangles_of _ = None

abbrev pub polygon_of : Message → Option Polygon
polygon_of (message.Polygon polygon) = Some polygon
polygon_of _ = None

abbrev pub route_of : Message → Option Route
route_of (message.Route route) = Some route
route_of _ = None

abbrev pub delete_circles_of : Message → Option Deletion
delete_circles_of (message.Delete kind.Circle ids) = Some (record { ids = ids })
delete_circles_of _ = None

abbrev pub delete_rectangles_of : Message → Option Deletion
delete_rectangles_of (message.Delete kind.Rectangle ids) = Some (record { ids = ids })
delete_rectangles_of _ = None

abbrev pub delete_polygons_of : Message → Option Deletion
delete_polygons_of (message.Delete kind.Polygon ids) = Some (record { ids = ids })
delete_polygons_of _ = None

abbrev pub delete_routes_of : Message → Option Deletion
delete_routes_of (message.Delete kind.Route ids) = Some (record { ids = ids })
delete_routes_of _ = None

-- the octets under this id
abbrev pub opaque_of : ℕ → Message → Option (List ℕ)
opaque_of id (message.Opaque own octets) = if own == id then Some octets else None
opaque_of id _ = None
