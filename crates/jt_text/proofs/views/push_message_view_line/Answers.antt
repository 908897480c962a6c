use Rattle.std.proofs.Common.{append_assoc}
use Rattle.jt_text.specs.Frames.{view_line}
use Rattle.jt_text.specs.Names.{id_name}
use Rattle.jt_text.proofs.views.push_message_view_line.Goals as goal

pub returns-in-TerminalAck-clause-text : goal.returns-in-TerminalAck-clause-text
unfolding view_line id_name
returns-in-TerminalAck-clause-text c = rw c.in-TerminalAck.is (simp append_assoc (rw c.hold_response.ensures.text at c.push_behind_front.ensures.text))

pub returns-in-PlatformAck-clause-text : goal.returns-in-PlatformAck-clause-text
unfolding view_line id_name
returns-in-PlatformAck-clause-text c = rw c.in-PlatformAck.is (simp append_assoc (rw c.hold_response-in-PlatformAck.ensures.text at c.push_behind_front-in-PlatformAck.ensures.text))

pub returns-in-Opaque-clause-text : goal.returns-in-Opaque-clause-text
returns-in-Opaque-clause-text c = rw c.in-Opaque.is (c.push_opaque_line.ensures.text c.in-Opaque.id)

pub returns-in-Deregister-clause-text : goal.returns-in-Deregister-clause-text
unfolding view_line id_name
returns-in-Deregister-clause-text c = rw c.in-Deregister.is (simp append_assoc c.push_empty_line.ensures.text)

pub returns-in-QueryParams-clause-text : goal.returns-in-QueryParams-clause-text
unfolding view_line id_name
returns-in-QueryParams-clause-text c = rw c.in-QueryParams.is (simp append_assoc c.push_empty_line-in-QueryParams.ensures.text)

pub returns-in-QueryPosition-clause-text : goal.returns-in-QueryPosition-clause-text
unfolding view_line id_name
returns-in-QueryPosition-clause-text c = rw c.in-QueryPosition.is (simp append_assoc c.push_empty_line-in-QueryPosition.ensures.text)
