-- Which session holds its phone.
use Rattle.std.proofs.Common.{◌≡◌, ◌&&◌, ℕ, List, true, Some, refl, ap, ◌∙◌}
use Rattle.std.proofs.lemmas.Bool.{eq-eqb}
use Rattle.jt_value.specs.Sameness.{key_of}
use Rattle.jt_header.specs.declared.header.Header.{Header}
use Rattle.jt_platform.specs.History.{live, holder}
use Rattle.jt_platform.specs.declared.request.Entry.{Entry}
use Rattle.jt_order_session.specs.Sessions.{holds_phone, is_session}

pub holds_some : (number : ℕ) (first : Header) (h : List Entry) → live (key_of first.phone) h number ≡ true → holder (key_of first.phone) h ≡ Some number → holds_phone number (Some first) h ≡ true
holds_some number first h is_live held =
    ap (λ b. b && is_session number (holder (key_of first.phone) h)) is_live ∙ (ap (is_session number) held ∙ eq-eqb number number refl)
