use Rattle.std.proofs.Common.{ℕ, List, Option, Some, None, refl, sym, ◌≡◌, ◌∙◌, inl, inr}
use Rattle.std.specs.Prelude.{◌⊎◌}
use Rattle.jt_value.specs.declared.refusal.Refusal.{Refusal}
use Rattle.jt_header.specs.Fields.{header_at, body_at}
use Rattle.jt_value.specs.Octets.{AreOctets}
use Rattle.jt_header.specs.Law.{HasContent, HasReason}
use Rattle.jt_header.specs.Reason.{reason}
use Rattle.jt_header.proofs.FirstRow as rows
use Rattle.jt_header.proofs.NoReason.{found}
use Rattle.jt_header.proofs.WholeContents.{content_len, only, refuted}
use Rattle.jt_header.proofs.reading.law_of_contents.Goals as goal

either : (octets : List ℕ) (r : Option Refusal) → AreOctets octets → reason octets ≡ r → HasContent octets ⊎ HasReason octets
either octets None are e = inl (header_at octets, body_at octets, found octets are e)
either octets (Some refusal) are e = inr (refusal, e)

pub returns-clause-one_or_the_other : goal.returns-clause-one_or_the_other
returns-clause-one_or_the_other c = λ octets are. either octets (reason octets) are refl

pub returns-clause-never_both : goal.returns-clause-never_both
returns-clause-never_both c = λ octets is has. refuted octets is.0 is.1 has.0 (only is.0 is.1 octets is.2) has.1

pub returns-clause-one_content : goal.returns-clause-one_content
returns-clause-one_content c = λ h g body other octets x y.
    ((only h body octets x).header ∙ sym (only g other octets y).header, (only h body octets x).body_is ∙ sym (only g other octets y).body_is)

pub returns-clause-len : goal.returns-clause-len
returns-clause-len c = λ h body octets is. content_len h body octets is

pub returns-clause-read_back : goal.returns-clause-read_back
returns-clause-read_back c = λ h body octets is. only h body octets is

pub returns-clause-fields : goal.returns-clause-fields
returns-clause-fields c = λ octets are none. found octets are none

pub returns-clause-first_reason : goal.returns-clause-first_reason
returns-clause-first_reason c = rows.first_reason
