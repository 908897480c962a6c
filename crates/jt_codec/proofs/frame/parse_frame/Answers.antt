use Rattle.std.proofs.Common.{arith, subst}
use Rattle.jt_codec.specs.Answer.{IsUnlessMemory}
use Rattle.jt_codec.proofs.FrameLaws.{answers, parsed_frame, parsed_refusal}
use Rattle.jt_codec.proofs.frame.parse_frame.Goals as goal

pub returns-clause-answer : goal.returns-clause-answer
returns-clause-answer c = answers c.law_of_contents.ensures.read_back c.law_of_contents.ensures.fields c.args.content.now c.parse.result (λ i. omega (arith, c.type_inv.content i)) c.parse.ensures

pub returns-clause-every_frame : goal.returns-clause-every_frame
returns-clause-every_frame c = λ h octets message frame.
    subst (IsUnlessMemory c.parse.result) (parsed_frame c.law_of_contents.ensures.read_back c.law_of_contents.ensures.fields c.args.content.now octets h message frame) c.parse.ensures

pub returns-clause-every_refusal : goal.returns-clause-every_refusal
returns-clause-every_refusal c = λ refusal is.
    subst (IsUnlessMemory c.parse.result) (parsed_refusal c.law_of_contents.ensures.read_back c.law_of_contents.ensures.fields c.args.content.now refusal is) c.parse.ensures
