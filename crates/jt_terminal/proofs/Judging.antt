-- What a body is heard as.
use Rattle.std.proofs.Common.{◌≡◌, ℕ, List, Ok, Err}
use Rattle.jt_value.specs.Octets.{AreOctets}
use Rattle.jt_value.specs.declared.refusal.Refusal.{Refusal}
use Rattle.jt_value.specs.declared.refusal.CodecError.TheVariants.{Refused}
use Rattle.jt_header.specs.declared.header.Header.{Header}
use Rattle.jt_layout.specs.Answer.{Answers}
use Rattle.jt_codec.specs.Bodies.{body}
use Rattle.jt_codec.specs.Law.{AreOneToOne}
use Rattle.jt_codec.specs.declared.message.Message.{Message}

pub read_is : AreOneToOne → (h : Header) (octets : List ℕ) (m : Message) → AreOctets octets → Answers (body h.edition h.id) octets (Ok m) → (body h.edition h.id).read octets 0 ≡ Ok m
read_is law h octets m are fills = ((law h.edition h.id).reads_value octets m are).1 fills

pub refused_is : AreOneToOne → (h : Header) (octets : List ℕ) (r : Refusal) → AreOctets octets → Answers (body h.edition h.id) octets (Err (Refused r)) → (body h.edition h.id).read octets 0 ≡ Err r
refused_is law h octets r are refuses = ((law h.edition h.id).reads_reason octets r are).1 refuses
