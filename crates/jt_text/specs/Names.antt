-- The names of messages: this project's texts. To be believed.
use Rattle.std.specs.Prelude.{ℕ, ◌==◌, ◌&&◌, if◌then◌else◌, List, Option, Some, None, codes}
use Rattle.jt_value.specs.declared.phone.Edition.{Edition}
use Rattle.jt_value.specs.declared.ids.TheConstants.{AUTH, BATCH, CIRCLES, CONTROL, DELETE_CIRCLES, DELETE_POLYGONS, DELETE_RECTANGLES, DELETE_ROUTES, DEREGISTER, HEARTBEAT, PARAMS, PLATFORM_ACK, POLYGON, POSITION, POSITION_REPLY, QUERY_PARAMS, QUERY_POSITION, QUERY_SOME, RECTANGLES, REGISTER, REGISTER_REPLY, RESEND, ROUTE, SET_PARAMS, TERMINAL_ACK, TERMINAL_RESEND, TEXT, TRACK}
use Rattle.jt_header.specs.declared.header.Header.{Header}
use Rattle.jt_codec.specs.Bodies.{id_of}
use Rattle.jt_codec.specs.Editions.{is_2013, is_2019}
use Rattle.jt_codec.specs.declared.message.Message.{Message}
use Rattle.jt_codec.specs.declared.message.Message.TheVariants as message

-- the name of a message id in an edition, and `opaque` for an id that has no row there
unfoldable pub id_name : Edition → ℕ → List ℕ
id_name edition id =
    if id == TERMINAL_ACK then codes "terminal-ack"
    else if id == PLATFORM_ACK then codes "platform-ack"
    else if id == HEARTBEAT then codes "heartbeat"
    else if id == DEREGISTER then codes "deregister"
    else if id == RESEND then codes "resend"
    else if id == REGISTER then codes "register"
    else if id == REGISTER_REPLY then codes "register-reply"
    else if id == AUTH then codes "auth"
    else if id == SET_PARAMS then codes "set-params"
    else if id == QUERY_PARAMS then codes "query-params"
    else if id == QUERY_SOME then codes "query-some"
    else if id == PARAMS then codes "params"
    else if id == POSITION then codes "position"
    else if id == POSITION_REPLY then codes "position-reply"
    else if id == QUERY_POSITION then codes "query-position"
    else if id == TRACK then codes "track"
    else if id == BATCH then codes "batch"
    else if id == TEXT then codes "text"
    else if id == CONTROL then codes "control"
    else if id == DELETE_CIRCLES then codes "delete-circles"
    else if id == DELETE_RECTANGLES then codes "delete-rectangles"
    else if id == DELETE_POLYGONS then codes "delete-polygons"
    else if id == DELETE_ROUTES then codes "delete-routes"
    else if is_2019 edition && (id == TERMINAL_RESEND) then codes "terminal-resend"
    else if is_2013 edition && (id == CIRCLES) then codes "circles"
    else if is_2013 edition && (id == RECTANGLES) then codes "rectangles"
    else if is_2013 edition && (id == POLYGON) then codes "polygon"
    else if is_2013 edition && (id == ROUTE) then codes "route"
    else codes "opaque"

-- The id by which a message is named: a packet's is that of its header. A body that is carried as its octets has none,
-- whatever its id.
abbrev pub naming_id : Header → Message → Option ℕ
naming_id header (message.Part _) = Some header.id
naming_id header (message.Opaque _ _) = None
naming_id header read = id_of read

abbrev pub name_under : Edition → Option ℕ → List ℕ
name_under edition None = codes "opaque"
name_under edition (Some id) = id_name edition id

-- a message's name, by the header's edition
abbrev pub name_of : Header → Message → List ℕ
name_of header message = name_under header.edition (naming_id header message)
