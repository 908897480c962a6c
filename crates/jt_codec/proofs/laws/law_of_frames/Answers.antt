use Rattle.jt_codec.proofs.FrameLaws.{message_read_is, never_both, one_frame, one_or_the_other, one_refusal, parsed_frame, parsed_refusal, refusal_read_is}
use Rattle.jt_codec.proofs.laws.law_of_frames.Goals as goal

pub returns-clause-one_or_the_other : goal.returns-clause-one_or_the_other
returns-clause-one_or_the_other c = λ content are. one_or_the_other c.law_of_contents.ensures.read_back c.law_of_contents.ensures.fields content are

pub returns-clause-never_both : goal.returns-clause-never_both
returns-clause-never_both c = λ content frame refusal. never_both c.law_of_contents.ensures.read_back c.law_of_contents.ensures.fields content frame refusal

pub returns-clause-one_frame : goal.returns-clause-one_frame
returns-clause-one_frame c = λ content h g octets others message other x y. one_frame c.law_of_contents.ensures.read_back c.law_of_contents.ensures.fields content h g octets others message other x y

pub returns-clause-one_refusal : goal.returns-clause-one_refusal
returns-clause-one_refusal c = λ content r s x y. one_refusal c.law_of_contents.ensures.read_back c.law_of_contents.ensures.fields content r s x y

pub returns-clause-parsed_frame : goal.returns-clause-parsed_frame
returns-clause-parsed_frame c = λ content octets h message frame. parsed_frame c.law_of_contents.ensures.read_back c.law_of_contents.ensures.fields content octets h message frame

pub returns-clause-parsed_refusal : goal.returns-clause-parsed_refusal
returns-clause-parsed_refusal c = λ content refusal is. parsed_refusal c.law_of_contents.ensures.read_back c.law_of_contents.ensures.fields content refusal is

pub returns-clause-message_read : goal.returns-clause-message_read
returns-clause-message_read c = λ packet edition id octets message are. message_read_is packet edition id octets message are

pub returns-clause-refusal_read : goal.returns-clause-refusal_read
returns-clause-refusal_read c = λ packet edition id octets refusal are. refusal_read_is packet edition id octets refusal are
