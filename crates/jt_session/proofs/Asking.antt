-- What messages ask, and requests to send packets again.
use Rattle.std.proofs.Common.{◌≡◌, ℕ, List, ◌++◌, length, take, Some, None, Ok, Err, Result, refl, sym, ap, ◌∙◌, append_assoc, arith}
use Rattle.std.specs.List.{flat_map}
use Rattle.std.proofs.lemmas.List.{take_all}
use Rattle.jt_value.specs.Octets.{AreOctets}
use Rattle.jt_value.specs.declared.phone.Edition.{Edition}
use Rattle.jt_value.specs.declared.phone.Edition.TheVariants.{E2013, E2019}
use Rattle.jt_value.specs.declared.refusal.Refusal.{Refusal}
use Rattle.jt_header.specs.declared.header.Header.{Header}
use Rattle.jt_layout.specs.Layout.{word}
use Rattle.jt_layout.specs.Answer.{Answers}
use Rattle.jt_codec.specs.Bodies.{body, body_octets}
use Rattle.jt_codec.specs.Law.{AreOneToOne}
use Rattle.jt_codec.specs.Parsing.{body_answer}
use Rattle.jt_codec.specs.Resend.{count, resend}
use Rattle.jt_codec.specs.declared.message.Message.{Message}
use Rattle.jt_codec.specs.declared.message.Message.TheVariants as message
use Rattle.jt_platform.specs.declared.request.Request.{Request}
use Rattle.jt_session.specs.Talk.{asked_by, is_wide, request_of, request_read}

pub asked_read : AreOneToOne → (h : Header) (octets : List ℕ) (m : Message) (q : Request) → AreOctets octets → Answers (body h.edition h.id) octets (Ok m) → q ≡ request_of h octets m → Some q ≡ asked_by (Some (h, octets))
asked_read law h octets m q are fills is =
    ap Some is ∙ ap (request_read (h, octets)) (sym (((law h.edition h.id).reads_value octets m are).1 fills))

unplaced_ok : (start : ℕ) (r : Result Message Refusal) (m : Message) → body_answer start r ≡ Ok m → r ≡ Ok m
unplaced_ok start (Ok x) m e = e
unplaced_ok start (Err x) m e = absurd cc

unplaced_err : (start : ℕ) (h : Header) (octets : List ℕ) (r : Result Message Refusal) (refusal : Refusal) → body_answer start r ≡ Err refusal → None ≡ request_read (h, octets) r
unplaced_err start h octets (Ok x) refusal e = absurd cc
unplaced_err start h octets (Err x) refusal e = refl

pub resend_octets : (edition : Edition) (first : ℕ) (missing : List ℕ) → body_octets edition (message.Resend (record { first = first; wide = is_wide edition; numbers = missing })) ≡ word.spell first ++ ((count (is_wide edition)).spell (length missing) ++ flat_map word.spell missing)
unfolding body resend
resend_octets E2013 first missing = refl
resend_octets E2019 first missing = refl

pub resend_whole : (edition : Edition) (first : ℕ) (missing front octets : List ℕ) (n : ℕ) → n ≡ length missing → front ≡ word.spell first ++ (count (is_wide edition)).spell (length missing) → octets ≡ front ++ flat_map word.spell (take n missing)
    → octets ≡ body_octets edition (message.Resend (record { first = first; wide = is_wide edition; numbers = missing }))
resend_whole edition first missing front octets n is of_front of_octets =
    of_octets ∙ (ap (λ numbers. front ++ flat_map word.spell numbers) (take_all n missing (omega arith))
    ∙ (ap (λ x. x ++ flat_map word.spell missing) of_front ∙ (append_assoc (word.spell first) ((count (is_wide edition)).spell (length missing)) (flat_map word.spell missing) ∙ sym (resend_octets edition first missing))))
