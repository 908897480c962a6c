-- Fixes as octets, and the fixes of messages.
use Rattle.std.proofs.Common.{◌≡◌, ℕ, zero, suc, ◌^◌, ◌<◌, ◌≤◌, lit<, Bool, true, false, cond, eqb, List, [], ◌∷◌, ◌++◌, length, map, Result, Ok, Err, IsTrue, is_ok, refl, arith}
use Rattle.std.specs.Int.{w16, w32, to_be_bytes}
use Rattle.std.proofs.lemmas.Bool.{eqb-true}
use Rattle.jt_value.specs.declared.refusal.Refusal.{Refusal}
use Rattle.jt_value.specs.Octets.{AreOctets}
use Rattle.jt_layout.specs.Layout.{Fills, number, octets_of}
use Rattle.jt_position.specs.declared.position.Position.{Position}
use Rattle.jt_position.specs.declared.batch.Batch.{Batch}
use Rattle.jt_position.specs.Positions.{fixed, position, batch}
use Rattle.jt_position.specs.Views.{is_position}
use Rattle.jt_position.specs.Fixes.{fix_limit, IsFix, position_at, fixes_of}
use Rattle.jt_value.proofs.OctetLists.{AreOctets-nil, AreOctets-append, AreOctets-word, AreOctets-dword}
use Rattle.jt_position.proofs.ItemLaws.{position_law, batch_law}

read_is : (s : List ℕ) → AreOctets s → (r : Result Position Refusal) → position.read s 0 ≡ r → IsTrue (is_ok r) → (m : Position) × Fills position s 0 m
read_is s bytes (Ok m) e h = (m, position_law.takes s 0 m bytes (omega arith) e)
read_is s bytes (Err r) e h = absurd cc

-- octets that are read as a position are one
pub is_fix : (s : List ℕ) → AreOctets s → length s ≤ fix_limit → IsTrue (is_position s) → IsFix s
is_fix s bytes short h = record { short = short; position = read_is s bytes (position.read s 0) refl h }

-- octets of a position are read as it
pub reads_position : (s : List ℕ) (m : Position) → Fills position s 0 m → IsTrue (is_position s)
reads_position s m h = rw (position_law.again s 0 m (omega arith) h) refl

pub of_a_position : (body : List ℕ) (m : Position) → Fills position body 0 m → fixes_of (0x0200, body) ≡ body ∷ []
of_a_position body m h = rw (position_law.again body 0 m (omega arith) h) refl

pub of_a_batch : (body : List ℕ) (m : Batch) → Fills batch body 0 m → fixes_of (0x0704, body) ≡ map position.spell m.fixes
of_a_batch body m h = rw (batch_law.again body 0 m (omega arith) h) refl

pub none_of_a_refused_position : (body : List ℕ) (r : Refusal) → position.Refuses body 0 r → fixes_of (0x0200, body) ≡ []
none_of_a_refused_position body r h = rw (position_law.refuses body 0 r (omega arith) h) refl

pub none_of_a_refused_batch : (body : List ℕ) (r : Refusal) → batch.Refuses body 0 r → fixes_of (0x0704, body) ≡ []
none_of_a_refused_batch body r h = rw (batch_law.refuses body 0 r (omega arith) h) refl

other_id : (a b : Bool) (x y : List (List ℕ)) → (a ≡ true → ⊥) → (b ≡ true → ⊥) → cond a x (cond b y []) ≡ []
other_id true b x y na nb = absurd (na refl)
other_id false true x y na nb = absurd (nb refl)
other_id false false x y na nb = refl

pub none_of_another_id : (id : ℕ) (body : List ℕ) → (id ≡ 0x0200 → ⊥) → (id ≡ 0x0704 → ⊥) → fixes_of (id, body) ≡ []
none_of_another_id id body np nb = other_id (eqb id 0x0200) (eqb id 0x0704) _ _ (λ e. np (eqb-true _ _ e)) (λ e. nb (eqb-true _ _ e))

time_octets : AreOctets (0x24 ∷ 0x01 ∷ 0x01 ∷ 0x00 ∷ 0x00 ∷ 0x00 ∷ [])
time_octets zero = omega arith
time_octets (suc zero) = omega arith
time_octets (suc (suc zero)) = omega arith
time_octets (suc (suc (suc zero))) = omega arith
time_octets (suc (suc (suc (suc zero)))) = omega arith
time_octets (suc (suc (suc (suc (suc zero))))) = omega arith
time_octets (suc (suc (suc (suc (suc (suc i)))))) = omega arith

-- the position at a latitude has octets
pub at_fits : (lat : ℕ) → lat < 2 ^ 32 → position.Fits (position_at lat)
unfolding position fixed number octets_of
at_fits lat lt = ((lit< tt, (lit< tt, (lt, (lit< tt, (lit< tt, (lit< tt, (lit< tt, (refl, time_octets)))))))), tt)

pub at_length : (lat : ℕ) → length (position.spell (position_at lat)) ≡ 28
unfolding position fixed number octets_of
at_length lat = refl

pub at_octets : (lat : ℕ) → AreOctets (position.spell (position_at lat))
unfolding position fixed number octets_of
at_octets lat =
    let time : List ℕ = 0x24 ∷ 0x01 ∷ 0x01 ∷ 0x00 ∷ 0x00 ∷ 0x00 ∷ [] in
    let zero = to_be_bytes w16 0 in
    let lon = to_be_bytes w32 113_000_000 ++ (zero ++ (zero ++ (zero ++ time))) in
    let lon_octets = AreOctets-append (to_be_bytes w32 113_000_000) (zero ++ (zero ++ (zero ++ time))) (AreOctets-dword 113_000_000) (AreOctets-append zero (zero ++ (zero ++ time)) (AreOctets-word 0) (AreOctets-append zero (zero ++ time) (AreOctets-word 0) (AreOctets-append zero time (AreOctets-word 0) time_octets))) in
    let lat_octets = AreOctets-append (to_be_bytes w32 lat) lon (AreOctets-dword lat) lon_octets in
    let status_octets = AreOctets-append (to_be_bytes w32 3) (to_be_bytes w32 lat ++ lon) (AreOctets-dword 3) lat_octets in
    let fixed_octets = AreOctets-append (to_be_bytes w32 0) (to_be_bytes w32 3 ++ (to_be_bytes w32 lat ++ lon)) (AreOctets-dword 0) status_octets in
    AreOctets-append (to_be_bytes w32 0 ++ (to_be_bytes w32 3 ++ (to_be_bytes w32 lat ++ lon))) [] fixed_octets AreOctets-nil
