-- The texts of requests to forget a phone.
use Rattle.std.proofs.Common.{◌≡◌, ◌+◌, ◌*◌, ◌-◌, ℕ, true, false, List, [], ◌∷◌, ◌++◌, length, take, drop, codes, replicate, arith, refl, sym, ap, subst, ◌∙◌, length-append}
use Rattle.std.specs.Prelude.{◌≢◌}
use Rattle.std.specs.Str.{bytes_eq}
use Rattle.std.proofs.lemmas.Bool.{true≢false}
use Rattle.std.proofs.lemmas.Slice.Eq.{bytes_eq-Decides}
use Rattle.std.proofs.Math.Seq.{take-append_seam}
use Rattle.dewfelt_settings.specs.Phones.{IsPhoneText, digits_text, filled}
use Rattle.dewfelt_commands.specs.Written.{IsWritten, forget_text_of}
use Rattle.dewfelt_commands.specs.Requests.{IsSendable, text_of}
use Rattle.dewfelt_commands.specs.declared.request.Request.{Request}
use Rattle.dewfelt_commands.specs.declared.request.Request.TheVariants.{Registrations, Forget, Copy, Stop}

digits_length : (octets : List ℕ) → length (digits_text octets) ≡ 2 * length octets
digits_length [] = refl
digits_length (o ∷ os) = let rest = digits_length os in omega (arith, rest)

twenty : (octets : List ℕ) → IsWritten octets → length (digits_text octets) ≡ 20
twenty octets written = omega (arith, digits_length octets, written.0)

text_length : (octets : List ℕ) → IsWritten octets → length (forget_text_of octets) ≡ 28
text_length octets written =
    let back : length (digits_text octets ++ codes "\n") ≡ length (digits_text octets) + 1 = length-append (digits_text octets) (codes "\n") in
    omega (arith, back, twenty octets written)

front : (n : ℕ) (xs ys : List ℕ) → length xs ≡ n → take n (xs ++ ys) ≡ xs
front n xs ys long = subst (λ m. take m (xs ++ ys) ≡ xs) long (take-append_seam xs ys)

-- the digits stand behind the word
middle : (octets : List ℕ) → IsWritten octets → take 20 (drop 7 (forget_text_of octets)) ≡ digits_text octets
middle octets written = front 20 (digits_text octets) (codes "\n") (twenty octets written)

-- no request to forget has another length
pub no_length : (text octets : List ℕ) → length text ≢ 28 → IsWritten octets → forget_text_of octets ≢ text
no_length text octets other written same = other (ap length (sym same) ∙ text_length octets written)

-- the digits of a request to forget are a phone's
pub no_phone : (text octets : List ℕ) → (IsPhoneText (take 20 (drop 7 text)) → ⊥) → IsWritten octets → forget_text_of octets ≢ text
no_phone text octets none written same =
    let there : digits_text octets ≡ take 20 (drop 7 text) = sym (middle octets written) ∙ ap (λ (t : List ℕ). take 20 (drop 7 t)) same in
    let long : length (digits_text octets) ≡ 20 = twenty octets written in
    none (subst IsPhoneText there (omega (arith, long), omega (arith, long), written.1))

abbrev zeros : ℕ → List ℕ
zeros n = replicate n 48

filled_full : (text : List ℕ) → length text ≡ 20 → filled text ≡ text
filled_full text long =
    let nothing : 20 - length text ≡ 0 = omega (arith, long) in
    ap (λ (n : ℕ). zeros n ++ text) nothing

-- the request to forget the phone that was read is the text, if any is
pub no_match : (text own found octets : List ℕ) → own ≡ forget_text_of found → digits_text found ≡ filled (take 20 (drop 7 text)) → bytes_eq own text ≡ false → IsWritten octets → forget_text_of octets ≢ text
no_match text own found octets written_so read other written same =
    let there : digits_text octets ≡ take 20 (drop 7 text) = sym (middle octets written) ∙ ap (λ (t : List ℕ). take 20 (drop 7 t)) same in
    let long : length (take 20 (drop 7 text)) ≡ 20 = ap length (sym there) ∙ twenty octets written in
    let digits : digits_text found ≡ digits_text octets = read ∙ filled_full (take 20 (drop 7 text)) long ∙ sym there in
    let it_is : own ≡ text = written_so ∙ ap (λ (d : List ℕ). codes "forget " ++ (d ++ codes "\n")) digits ∙ same in
    true≢false (sym ((bytes_eq-Decides own text).1 it_is) ∙ other)

other_text : (text known : List ℕ) → bytes_eq text known ≡ false → known ≢ text
other_text text known other same = true≢false (sym ((bytes_eq-Decides text known).1 (sym same)) ∙ other)

-- no request has the text
pub no_request : (text : List ℕ) → bytes_eq text (codes "registrations\n") ≡ false → bytes_eq text (codes "copy\n") ≡ false → bytes_eq text (codes "stop\n") ≡ false
    → ((octets : List ℕ) → IsWritten octets → forget_text_of octets ≢ text) → (request : Request) → IsSendable request → text_of request ≢ text
no_request text one two three none Registrations sendable = other_text text (codes "registrations\n") one
no_request text one two three none (Forget phone) sendable = none phone.digits sendable
no_request text one two three none Copy sendable = other_text text (codes "copy\n") two
no_request text one two three none Stop sendable = other_text text (codes "stop\n") three
