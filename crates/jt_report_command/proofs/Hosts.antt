-- A host's name is text.
use Rattle.std.proofs.Common.{Bool, true, false, ◌&&◌, not, nat_le, ◌==◌, ◌≡◌, ◌<◌, ℕ, zero, suc, List, [], ◌∷◌, length, slice_index, IsTrue, refl, arith}
use Rattle.std.proofs.lemmas.Bool.Decides.{nat_tests}
use Rattle.std.proofs.lemmas.Str.{IsUtf8-from_ascii}
use Rattle.std.specs.List.{list_all}
use Rattle.std.specs.Str.{IsUtf8}
use Rattle.jt_report_command.specs.Values.{is_host, is_host_octet}

first_holds : (a b : Bool) → (a && b) ≡ true → a ≡ true
first_holds true b h = refl
first_holds false b h = h

second_holds : (a b : Bool) → (a && b) ≡ true → b ≡ true
second_holds true b h = h
second_holds false b h = absurd (cc h)

is_small : (octet : ℕ) → is_host_octet octet ≡ true → octet < 128
is_small octet h = grind (arith, nat_tests)

are_small : (octets : List ℕ) (i : ℕ) → list_all is_host_octet octets ≡ true → slice_index octets i < 128
are_small [] i h = omega arith
are_small (octet ∷ octets) zero h = is_small octet (first_holds (is_host_octet octet) (list_all is_host_octet octets) h)
are_small (octet ∷ octets) (suc i) h = are_small octets i (second_holds (is_host_octet octet) (list_all is_host_octet octets) h)

pub is_text : (host : List ℕ) → IsTrue (is_host host) → IsUtf8 host
is_text host h =
    let all : list_all is_host_octet host ≡ true = second_holds (not (slice_index host 0 == 45)) (list_all is_host_octet host)
    (second_holds (nat_le 1 (length host) && nat_le (length host) 255) (not (slice_index host 0 == 45) && list_all is_host_octet host) h) in
    IsUtf8-from_ascii host (λ i. are_small host i all)
