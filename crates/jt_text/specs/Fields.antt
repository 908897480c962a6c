-- The fields of messages, in the order of their layouts, each behind a blank: this project's texts. To be believed.
use Rattle.std.specs.Prelude.{ℕ, List, [], ◌++◌, codes}
use Rattle.std.specs.Fmt.{decimal}
use Rattle.jt_codec.specs.declared.message.Message.{Message}
use Rattle.jt_codec.specs.declared.message.Message.TheVariants as message
use Rattle.jt_text.specs.Values.{octets_text, word_digits}
use Rattle.jt_text.specs.OrderFields.{track_fields, text_fields, control_fields}
use Rattle.jt_text.specs.ParamFields.{params_fields, query_some_fields}
use Rattle.jt_text.specs.PositionFields.{position_fields, batch_fields}
use Rattle.jt_text.specs.RegionFields.{circles_fields, rectangles_fields, polygon_fields, route_fields, deletion_fields}
use Rattle.jt_text.specs.RegistrationFields.{register_fields, register_reply_fields, auth_fields}
use Rattle.jt_text.specs.ResendFields.{resend_fields}

-- what is answered, and the result
unfoldable pub ack_fields : ℕ → ℕ → ℕ → List ℕ
ack_fields reply id result = codes " reply=" ++ decimal reply ++ codes " id=0x" ++ word_digits id ++ codes " result=" ++ decimal result

abbrev pub fields_of : Message → List ℕ
fields_of (message.TerminalAck reply id result) = ack_fields reply id result
fields_of (message.PlatformAck reply id result) = ack_fields reply id result
fields_of message.Heartbeat = []
fields_of message.Deregister = []
fields_of (message.TerminalResend resend) = resend_fields resend
fields_of (message.Resend resend) = resend_fields resend
fields_of (message.Register register) = register_fields register
fields_of (message.RegisterReply reply) = register_reply_fields reply
fields_of (message.Auth auth) = auth_fields auth
fields_of (message.SetParams params) = params_fields params
fields_of message.QueryParams = []
fields_of (message.QuerySome ids) = query_some_fields ids
fields_of (message.Params reply params) = codes " reply=" ++ decimal reply ++ params_fields params
fields_of (message.Position position) = position_fields position
fields_of (message.PositionReply reply position) = codes " reply=" ++ decimal reply ++ position_fields position
fields_of message.QueryPosition = []
fields_of (message.Track interval validity) = track_fields interval validity
fields_of (message.Batch batch) = batch_fields batch
fields_of (message.Text flag kind text) = text_fields flag kind text
fields_of (message.Control command text) = control_fields command text
fields_of (message.Circles setting list) = circles_fields setting list
fields_of (message.Rectangles setting list) = rectangles_fields setting list
fields_of (message.Polygon polygon) = polygon_fields polygon
fields_of (message.Route route) = route_fields route
fields_of (message.Delete kind ids) = deletion_fields ids
fields_of (message.Opaque id body) = codes " body-octets=" ++ octets_text body
fields_of (message.Part octets) = codes " part=" ++ octets_text octets
