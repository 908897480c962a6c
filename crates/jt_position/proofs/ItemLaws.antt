-- The laws of positions: each layout's octets have exactly one value or exactly one reason.
use Rattle.std.proofs.Common.{◌≡◌, ℕ, ◌^◌, ◌<◌, true, eqb, List, [], ◌∷◌, ◌++◌, length, get_or, take, drop, Some, None, refl, sym, ap, ◌∙◌, lit<, arith}
use Rattle.std.specs.Int.{w16, w32, from_be_bytes, to_be_bytes}
use Rattle.std.proofs.lemmas.Bool.{and_parts, eqb-true}
use Rattle.std.proofs.lemmas.List.{take-append-drop, drop-drop, drop_more, drop_all, length-drop, length-take}
use Rattle.std.proofs.lemmas.Nat.{from_be_bytes-to_be_bytes_2, from_be_bytes-to_be_bytes_4}
use Rattle.jt_value.specs.Octets.{AreOctets}
use Rattle.jt_layout.specs.Layout.{word, octets_of, number}
use Rattle.jt_value.proofs.OctetLists.{AreOctets-drop, AreOctets-take, AreOctets-nil, AreOctets-cons, AreOctets-append, AreOctets-word, AreOctets-dword, byte_back, word_back, dword_back}
use Rattle.jt_layout.proofs.Laws.{IsPart, IsBody, choice, byte_law, word_law, dword_law, octets_law, then_law, then_body_law, ended_law, typed_law, part_as_law, body_as_law}
use Rattle.jt_layout.proofs.Repeats.{IsNeverEmpty, block_law, to_the_end_law, sized_law, times_law}
use Rattle.jt_position.specs.declared.item.Item.{Item}
use Rattle.jt_position.specs.declared.item.Item.TheVariants.{Mileage, Fuel, RecorderSpeed, EventId, Overspeed, RegionAlarm, Travel, Signals, Io, Analogue, Signal, Satellites, Raw}
use Rattle.jt_position.specs.Items.{is, typed, untyped, ItemFits}
use Rattle.jt_position.specs.Positions.{plain_item, item, fixed, position, batch}

record Is (id : ℕ) (v : List ℕ) (k n : ℕ) : Type 0 where
  id-is : id ≡ k
  len : length v ≡ n

is_both : (id : ℕ) (v : List ℕ) (k n : ℕ) → is (id, v) k n ≡ true → Is id v k n
is_both id v k n e = let b = and_parts (eqb id k) (eqb (length v) n) e in record { id-is = eqb-true _ _ b.0; len = eqb-true _ _ b.1 }

first_octet : (v : List ℕ) → 0 < length v → get_or v 0 0 ∷ drop 1 v ≡ v
first_octet [] e = absurd (omega arith)
first_octet (a ∷ v) e = refl

six_octets : (v : List ℕ) → length v ≡ 6 → get_or v 0 0 ∷ (take 4 (drop 1 v) ++ get_or v 5 0 ∷ []) ≡ v
six_octets v len =
    let last : drop 5 v ≡ get_or v 5 0 ∷ drop 6 v = drop_more v 5 0 (omega arith) in
    let none : drop 6 v ≡ [] = drop_all 6 v (omega arith) in
    let tail : take 4 (drop 1 v) ++ get_or v 5 0 ∷ [] ≡ drop 1 v = ap (λ (t : List ℕ). take 4 (drop 1 v) ++ get_or v 5 0 ∷ t) (sym none) ∙ ap (λ (t : List ℕ). take 4 (drop 1 v) ++ t) (sym last ∙ sym (drop-drop 4 1 v)) ∙ take-append-drop 4 (drop 1 v) in
    ap (λ (t : List ℕ). get_or v 0 0 ∷ t) tail ∙ first_octet v (omega arith)

abbrev Back : ℕ → List ℕ → Item → Type 0
Back id v i = ItemFits i × (untyped i ≡ (id, v))

seven_octets : (v : List ℕ) → length v ≡ 7 → take 4 v ++ (take 2 (drop 4 v) ++ get_or v 6 0 ∷ []) ≡ v
seven_octets v len =
    let last : drop 6 v ≡ get_or v 6 0 ∷ drop 7 v = drop_more v 6 0 (omega arith) in
    let none : drop 7 v ≡ [] = drop_all 7 v (omega arith) in
    let tail : take 2 (drop 4 v) ++ get_or v 6 0 ∷ [] ≡ drop 4 v = ap (λ (t : List ℕ). take 2 (drop 4 v) ++ get_or v 6 0 ∷ t) (sym none) ∙ ap (λ (t : List ℕ). take 2 (drop 4 v) ++ t) (sym last ∙ sym (drop-drop 2 4 v)) ∙ take-append-drop 2 (drop 4 v) in
    ap (λ (t : List ℕ). take 4 v ++ t) tail ∙ take-append-drop 4 v

item_back : (id : ℕ) (v : List ℕ) → id < 2 ^ 8 → length v < 2 ^ 8 → AreOctets v → Back id v (typed (id, v))
unfolding typed untyped ItemFits
item_back id v lt short bytes =
    choice (Back id v) (is (id, v) 0x01 4) _ _ (λ yes. let i = is_both id v _ _ yes in let d = dword_back v i.len bytes in (d.0, rw (i.id-is, d.1) refl)) (λ no1.
    choice (Back id v) (is (id, v) 0x02 2) _ _ (λ yes. let i = is_both id v _ _ yes in let d = word_back v i.len bytes in (d.0, rw (i.id-is, d.1) refl)) (λ no2.
    choice (Back id v) (is (id, v) 0x03 2) _ _ (λ yes. let i = is_both id v _ _ yes in let d = word_back v i.len bytes in (d.0, rw (i.id-is, d.1) refl)) (λ no3.
    choice (Back id v) (is (id, v) 0x04 2) _ _ (λ yes. let i = is_both id v _ _ yes in let d = word_back v i.len bytes in (d.0, rw (i.id-is, d.1) refl)) (λ no4.
    choice (Back id v) (is (id, v) 0x11 1) _ _ (λ yes. let i = is_both id v _ _ yes in ((bytes 0, tt), rw (i.id-is, byte_back v i.len) refl)) (λ no5.
    choice (Back id v) (is (id, v) 0x11 5) _ _ (λ yes. let i = is_both id v _ _ yes in let len = i.len in let d = dword_back (drop 1 v) (omega (arith, length-drop 1 v)) (AreOctets-drop 1 v bytes) in ((bytes 0, d.0), rw i.id-is (ap (λ (t : List ℕ). (0x11, get_or v 0 0 ∷ t)) d.1 ∙ ap (λ (t : List ℕ). (0x11, t)) (first_octet v (omega arith))))) (λ no6.
    choice (Back id v) (is (id, v) 0x12 6) _ _ (λ yes. let i = is_both id v _ _ yes in let len = i.len in let d = dword_back (take 4 (drop 1 v)) (omega (arith, length-take 4 (drop 1 v), length-drop 1 v)) (AreOctets-take 4 (drop 1 v) (AreOctets-drop 1 v bytes)) in ((bytes 0, d.0, bytes 5), rw i.id-is (ap (λ (t : List ℕ). (0x12, get_or v 0 0 ∷ (t ++ get_or v 5 0 ∷ []))) d.1 ∙ ap (λ (t : List ℕ). (0x12, t)) (six_octets v len)))) (λ no7.
    choice (Back id v) (is (id, v) 0x13 7) _ _ (λ yes. let i = is_both id v _ _ yes in let len = i.len in let d = dword_back (take 4 v) (omega (arith, length-take 4 v)) (AreOctets-take 4 v bytes) in let k = word_back (take 2 (drop 4 v)) (omega (arith, length-take 2 (drop 4 v), length-drop 4 v)) (AreOctets-take 2 (drop 4 v) (AreOctets-drop 4 v bytes)) in ((d.0, k.0, bytes 6), rw i.id-is (ap (λ (t : List ℕ). (0x13, t ++ (to_be_bytes w16 (from_be_bytes w16 (take 2 (drop 4 v))) ++ get_or v 6 0 ∷ []))) d.1 ∙ ap (λ (t : List ℕ). (0x13, take 4 v ++ (t ++ get_or v 6 0 ∷ []))) k.1 ∙ ap (λ (t : List ℕ). (0x13, t)) (seven_octets v len)))) (λ no8.
    choice (Back id v) (is (id, v) 0x25 4) _ _ (λ yes. let i = is_both id v _ _ yes in let d = dword_back v i.len bytes in (d.0, rw (i.id-is, d.1) refl)) (λ no9.
    choice (Back id v) (is (id, v) 0x2a 2) _ _ (λ yes. let i = is_both id v _ _ yes in let d = word_back v i.len bytes in (d.0, rw (i.id-is, d.1) refl)) (λ no10.
    choice (Back id v) (is (id, v) 0x2b 4) _ _ (λ yes. let i = is_both id v _ _ yes in let d = dword_back v i.len bytes in (d.0, rw (i.id-is, d.1) refl)) (λ no11.
    choice (Back id v) (is (id, v) 0x30 1) _ _ (λ yes. let i = is_both id v _ _ yes in (bytes 0, rw (i.id-is, byte_back v i.len) refl)) (λ no12.
    choice (Back id v) (is (id, v) 0x31 1) _ _ (λ yes. let i = is_both id v _ _ yes in (bytes 0, rw (i.id-is, byte_back v i.len) refl)) (λ no13.
    ((lt, short, bytes, rw (no1, no2, no3, no4, no5, no6, no7, no8, no9, no10, no11, no12, no13) refl), refl))))))))))))))

abbrev IsRaw : ℕ → List ℕ → ℕ → List ℕ → Item → Type 0
IsRaw id v i w x = Raw i w ≡ x → x ≡ Raw id v

-- what the table takes as raw is the value itself
pub raw_only : (id : ℕ) (v : List ℕ) (i : ℕ) (w : List ℕ) → Raw i w ≡ typed (id, v) → typed (id, v) ≡ Raw id v
unfolding typed
raw_only id v i w e =
    choice (IsRaw id v i w) (is (id, v) 0x01 4) _ _ (λ yes e. absurd cc) (λ _.
    choice (IsRaw id v i w) (is (id, v) 0x02 2) _ _ (λ yes e. absurd cc) (λ _.
    choice (IsRaw id v i w) (is (id, v) 0x03 2) _ _ (λ yes e. absurd cc) (λ _.
    choice (IsRaw id v i w) (is (id, v) 0x04 2) _ _ (λ yes e. absurd cc) (λ _.
    choice (IsRaw id v i w) (is (id, v) 0x11 1) _ _ (λ yes e. absurd cc) (λ _.
    choice (IsRaw id v i w) (is (id, v) 0x11 5) _ _ (λ yes e. absurd cc) (λ _.
    choice (IsRaw id v i w) (is (id, v) 0x12 6) _ _ (λ yes e. absurd cc) (λ _.
    choice (IsRaw id v i w) (is (id, v) 0x13 7) _ _ (λ yes e. absurd cc) (λ _.
    choice (IsRaw id v i w) (is (id, v) 0x25 4) _ _ (λ yes e. absurd cc) (λ _.
    choice (IsRaw id v i w) (is (id, v) 0x2a 2) _ _ (λ yes e. absurd cc) (λ _.
    choice (IsRaw id v i w) (is (id, v) 0x2b 4) _ _ (λ yes e. absurd cc) (λ _.
    choice (IsRaw id v i w) (is (id, v) 0x30 1) _ _ (λ yes e. absurd cc) (λ _.
    choice (IsRaw id v i w) (is (id, v) 0x31 1) _ _ (λ yes e. absurd cc) (λ _. (λ e. refl)))))))))))))) e

plain_fits : (id : ℕ) (v : List ℕ) → id < 2 ^ 8 → length v < 2 ^ 8 → AreOctets v → plain_item.Fits (id, v)
unfolding number octets_of
plain_fits id v lt short bytes = (lt, (short, (refl, bytes)))

item_forth : (i : Item) → ItemFits i → plain_item.Fits (untyped i) × (typed (untyped i) ≡ i)
unfolding typed untyped ItemFits
item_forth (Mileage n) fits = (plain_fits 0x01 (to_be_bytes w32 n) (lit< tt) (lit< tt) (AreOctets-dword n), ap Mileage (from_be_bytes-to_be_bytes_4 n fits))
item_forth (Fuel n) fits = (plain_fits 0x02 (to_be_bytes w16 n) (lit< tt) (lit< tt) (AreOctets-word n), ap Fuel (from_be_bytes-to_be_bytes_2 n fits))
item_forth (RecorderSpeed n) fits = (plain_fits 0x03 (to_be_bytes w16 n) (lit< tt) (lit< tt) (AreOctets-word n), ap RecorderSpeed (from_be_bytes-to_be_bytes_2 n fits))
item_forth (EventId n) fits = (plain_fits 0x04 (to_be_bytes w16 n) (lit< tt) (lit< tt) (AreOctets-word n), ap EventId (from_be_bytes-to_be_bytes_2 n fits))
item_forth (Overspeed kind None) fits = (plain_fits 0x11 (kind ∷ []) (lit< tt) (lit< tt) (AreOctets-cons kind [] fits.0 AreOctets-nil), refl)
item_forth (Overspeed kind (Some region)) fits = (plain_fits 0x11 (kind ∷ to_be_bytes w32 region) (lit< tt) (lit< tt) (AreOctets-cons kind (to_be_bytes w32 region) fits.0 (AreOctets-dword region)), ap (λ (r : ℕ). Overspeed kind (Some r)) (from_be_bytes-to_be_bytes_4 region fits.1))
item_forth (RegionAlarm kind region direction) fits = (plain_fits 0x12 (kind ∷ to_be_bytes w32 region ++ direction ∷ []) (lit< tt) (lit< tt) (AreOctets-cons kind (to_be_bytes w32 region ++ direction ∷ []) fits.0 (AreOctets-append (to_be_bytes w32 region) (direction ∷ []) (AreOctets-dword region) (AreOctets-cons direction [] fits.2 AreOctets-nil))), ap (λ (r : ℕ). RegionAlarm kind r direction) (from_be_bytes-to_be_bytes_4 region fits.1))
item_forth (Travel segment seconds result) fits = (plain_fits 0x13 (to_be_bytes w32 segment ++ (to_be_bytes w16 seconds ++ result ∷ [])) (lit< tt) (lit< tt) (AreOctets-append (to_be_bytes w32 segment) (to_be_bytes w16 seconds ++ result ∷ []) (AreOctets-dword segment) (AreOctets-append (to_be_bytes w16 seconds) (result ∷ []) (AreOctets-word seconds) (AreOctets-cons result [] fits.2 AreOctets-nil))), ap (λ (r : ℕ). Travel r (from_be_bytes w16 (to_be_bytes w16 seconds)) result) (from_be_bytes-to_be_bytes_4 segment fits.0) ∙ ap (λ (r : ℕ). Travel segment r result) (from_be_bytes-to_be_bytes_2 seconds fits.1))
item_forth (Signals n) fits = (plain_fits 0x25 (to_be_bytes w32 n) (lit< tt) (lit< tt) (AreOctets-dword n), ap Signals (from_be_bytes-to_be_bytes_4 n fits))
item_forth (Io n) fits = (plain_fits 0x2a (to_be_bytes w16 n) (lit< tt) (lit< tt) (AreOctets-word n), ap Io (from_be_bytes-to_be_bytes_2 n fits))
item_forth (Analogue n) fits = (plain_fits 0x2b (to_be_bytes w32 n) (lit< tt) (lit< tt) (AreOctets-dword n), ap Analogue (from_be_bytes-to_be_bytes_4 n fits))
item_forth (Signal n) fits = (plain_fits 0x30 (n ∷ []) (lit< tt) (lit< tt) (AreOctets-cons n [] fits AreOctets-nil), refl)
item_forth (Satellites n) fits = (plain_fits 0x31 (n ∷ []) (lit< tt) (lit< tt) (AreOctets-cons n [] fits AreOctets-nil), refl)
item_forth (Raw id value) fits = (plain_fits id value fits.0 fits.1 fits.2, fits.3)

pub item_law : IsPart item
unfolding item number octets_of
item_law = typed_law plain_item typed untyped ItemFits (then_law _ _ byte_law (λ _. block_law _ byte_law)) (λ x fits. item_back x.0 x.1 fits.0 fits.1.0 fits.1.1.1) item_forth

pub item_some : IsNeverEmpty item
unfolding item number
item_some = record { some = λ i fits. omega arith }

pub fixed_law : IsPart fixed
unfolding fixed
fixed_law = part_as_law _ _ _ (then_law _ _ dword_law (λ _. then_law _ _ dword_law (λ _. then_law _ _ dword_law (λ _. then_law _ _ dword_law (λ _. then_law _ _ word_law (λ _. then_law _ _ word_law (λ _. then_law _ _ word_law (λ _. octets_law 6)))))))) (λ x fits. refl) (λ m. refl)

pub position_law : IsBody position
unfolding position
position_law = body_as_law _ _ _ (then_body_law _ _ fixed_law (λ _. to_the_end_law item item_law item_some)) (λ x fits. refl) (λ m. refl)

pub batch_law : IsBody batch
unfolding batch
batch_law = body_as_law _ _ _ (ended_law _ (then_law _ _ word_law (λ count. then_law _ _ byte_law (λ _. times_law count _ (sized_law word position word_law position_law))))) (λ x fits. ap (λ n. (n, x.1)) fits.1.1.0) (λ m. refl)
