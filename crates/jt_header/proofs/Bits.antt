-- A mask that tests bits of a number.
use Rattle.std.proofs.Common.{◌≡◌, ◌≢◌, ℕ, zero, suc, ◌*◌, ◌<◌, eqb, refl, sym, ap, ◌∙◌, arith, not}
use Rattle.std.specs.Prelude.{bit_and}
use Rattle.std.proofs.lemmas.Bool.{eq-eqb, ne_eqb}
use Rattle.std.proofs.lemmas.Nat.Bits.{and_high}
use Rattle.jt_value.specs.declared.phone.Edition.TheVariants.{E2013, E2019}
use Rattle.jt_header.specs.Fields.{bit_at, encryption_bits, edition_in}

-- a masked number is not 0 exactly where its bits are not
masked : (m bits unit : ℕ) → 0 < unit → m ≡ bits * unit → not (eqb m 0) ≡ not (eqb bits 0)
masked m zero unit some e = rw e (grind arith)
masked m (suc bits) unit some e = ap not (ne_eqb m 0 (λ z. omega (arith, e, z)) ∙ sym (ne_eqb (suc bits) 0 (λ z. omega (arith, z))))

one_bit : (bits : ℕ) → bits < 2 → not (eqb bits 0) ≡ eqb bits 1
one_bit zero lt = refl
one_bit (suc zero) lt = refl
one_bit (suc (suc bits)) lt = absurd (omega arith)

pub bit_13 : (n : ℕ) → not (eqb (bit_and n 0x2000) 0) ≡ eqb (bit_at 13 n) 1
bit_13 n = masked (bit_and n 0x2000) (bit_at 13 n) 0x2000 (omega arith) (and_high n 1 13) ∙ one_bit (bit_at 13 n) (omega arith)

pub bits_10_to_12 : (n : ℕ) → not (eqb (bit_and n 0x1C00) 0) ≡ not (eqb (encryption_bits n) 0)
bits_10_to_12 n = masked (bit_and n 0x1C00) (encryption_bits n) 0x400 (omega arith) (and_high n 3 10)

pub bit_14_set : (n : ℕ) → bit_and n 0x4000 ≢ 0 → edition_in n ≡ E2019
bit_14_set n some = rw (eq-eqb (bit_at 14 n) 1 (omega (arith, and_high n 1 14, some))) refl

pub bit_14_clear : (n : ℕ) → bit_and n 0x4000 ≡ 0 → edition_in n ≡ E2013
bit_14_clear n none = rw (ne_eqb (bit_at 14 n) 1 (λ one. omega (arith, and_high n 1 14, none, one))) refl
