-- What is left of a position's items as they are taken one by one.
use Rattle.std.proofs.Common.{◌≡◌, ℕ, ◌+◌, ◌-◌, ◌<◌, ◌≤◌, ltb, List, [], ◌∷◌, ◌++◌, length, take, drop, Option, Some, None, Result, Ok, Err, IsTrue, is_ok, refl, sym, ap, ◌∙◌, arith, rules, subst, append-nil, append_assoc}
use Rattle.std.specs.List.{AllByRecursion, flat_map}
use Rattle.std.proofs.lemmas.List.{drop-drop, take_at, length-drop}
use Rattle.std.proofs.lemmas.List.Concat.{flat_map-append}
use Rattle.std.specs.Int.{w8, from_be_bytes}
use Rattle.std.specs.Iterator.{YieldsFirstBy, MakesProgress, item_count}
use Rattle.std.specs.Result.{result_unwrap_or, result_ok}
use Rattle.jt_value.specs.Octets.{AreOctets}
use Rattle.jt_value.specs.declared.refusal.Refusal.{Refusal}
use Rattle.jt_layout.specs.Layout.{Fills, ◌>>=◌, ◌▹◌, number, octets_of, block, byte, sized, truncated, read_to_the_end, word}
use Rattle.jt_layout.specs.Reading.{Finds}
use Rattle.jt_layout.proofs.Laws.{behind, bind_ok, guard_ok, ok_is}
use Rattle.jt_layout.proofs.Repeats.{to_the_end_law}
use Rattle.jt_layout.proofs.Loops.{Grows, all_next, all_none, all_stops}
use Rattle.jt_position.specs.declared.item.Item.{Item}
use Rattle.jt_position.specs.declared.item.Item.TheVariants.{Raw}
use Rattle.jt_position.specs.declared.batch.Batch.{Batch}
use Rattle.jt_position.specs.declared.position.Position.{Position}
use Rattle.jt_position.specs.declared.item_view.ItemView.{ItemView}
use Rattle.jt_position.specs.Items.{typed, untyped}
use Rattle.jt_position.specs.Positions.{plain_item, item, fixed, position, batch}
use Rattle.jt_position.proofs.ItemLaws.{item_law, item_some}
use Rattle.jt_position.specs.Views.{item_in_view, reads_from, items_from}

byte_ends : (s : List ℕ) (p : ℕ) (x : ℕ × ℕ) → byte.read s p ≡ Ok x → x.1 ≡ p + 1
unfolding number
byte_ends s p x e = let g = guard_ok (ltb (length s) (p + 1)) (truncated p) (Ok (from_be_bytes w8 (take 1 (drop p s)), p + 1)) x e in ap (λ y. y.1) (sym (ok_is (from_be_bytes w8 (take 1 (drop p s)), p + 1) x g.1))

octets_end : (s : List ℕ) (p n : ℕ) (x : List ℕ × ℕ) → (octets_of n).read s p ≡ Ok x → x.1 ≡ p + n
unfolding octets_of
octets_end s p n x e = let g = guard_ok (ltb (length s) (p + n)) (truncated p) (Ok (take n (drop p s), p + n)) x e in ap (λ y. y.1) (sym (ok_is (take n (drop p s), p + n) x g.1))

item_grows : (s : List ℕ) → Grows item.read s
unfolding item
item_grows s p x e =
    let u = bind_ok (plain_item.read s p) (λ x. Ok (typed x.0, x.1)) x e in
    let v = bind_ok (byte.read s p) (λ x. (block byte).read s x.1 >>= λ y. Ok ((x.0, y.0), y.1)) u.0 u.1 in
    let id = byte_ends s p v.0 v.1 in
    let w = bind_ok ((block byte).read s v.0.1) (λ y. Ok ((v.0.0, y.0), y.1)) u.0 v.2 in
    let b = bind_ok ((byte ▹ λ n. octets_of n).read s v.0.1) (λ x. Ok (x.0.1, x.1)) w.0 w.1 in
    let count = bind_ok (byte.read s v.0.1) (λ x. (octets_of x.0).read s x.1 >>= λ y. Ok ((x.0, y.0), y.1)) b.0 b.1 in
    let second = byte_ends s v.0.1 count.0 count.1 in
    let value = bind_ok ((octets_of count.0.0).read s count.0.1) (λ y. Ok ((count.0.0, y.0), y.1)) b.0 count.2 in
    let third = octets_end s count.0.1 count.0.0 value.0 value.1 in
    let e1 = ap (λ y. y.1) (ok_is _ _ value.2) in
    let e2 = ap (λ y. y.1) (ok_is _ _ b.2) in
    let e3 = ap (λ y. y.1) (ok_is _ _ w.2) in
    let e4 = ap (λ y. y.1) (ok_is _ _ u.2) in
    omega arith

taken : (a : Item) (r t : Result (List Item) Refusal) → t ≡ (r >>= λ xs. Ok (a ∷ xs)) → IsTrue (is_ok t) → IsTrue (is_ok r) × (result_unwrap_or t [] ≡ a ∷ result_unwrap_or r [])
taken a (Ok xs) t e h = (refl, rw e refl)
taken a (Err d) t e h = absurd (let n = rw e at h in cc)

-- an item is taken, and the others are left
pub next_item : (s : List ℕ) (p : ℕ) (a : Item) (q : ℕ) → p < length s → item.read s p ≡ Ok (a, q) → IsTrue (reads_from s p) → IsTrue (reads_from s q) × (items_from s p ≡ a ∷ items_from s q)
next_item s p a q lt e h = taken a (read_to_the_end item.read s q) (read_to_the_end item.read s p) (all_next item.read s (item_grows s) p a q lt e) h

-- no item is left
pub no_item : (s : List ℕ) (p : ℕ) → length s ≤ p → items_from s p ≡ []
no_item s p le = rw (all_none item.read s p le) refl

-- where items are left, none is refused
pub not_refused : (s : List ℕ) (p : ℕ) (r : Refusal) → p < length s → item.read s p ≡ Err r → IsTrue (reads_from s p) → ⊥
not_refused s p r lt e h = let n = rw (all_stops item.read s p r lt e) at h in absurd cc

-- one item was taken
pub stepped : (s : List ℕ) (p : ℕ) (t : List ℕ) (q : ℕ) (left : List Item) (r : Result ItemView Refusal) (o : Option ItemView) → t ≡ s → p < length s → Finds (λ view. (item_in_view view, q)) r (item.read s p) → IsTrue (reads_from s p) → items_from s p ≡ left → o ≡ result_ok r → IsTrue (reads_from t q) × YieldsFirstBy item_in_view (λ left. left) left o (items_from t q)
stepped s p t q left (Ok view) o same lt found h was is =
    let next = next_item s p (item_in_view view) q lt found h in
    rw (same, is) (next.0, sym was ∙ next.1)
stepped s p t q left (Err r) o same lt found h was is = absurd (not_refused s p r lt found h)

-- and fewer are left
pub progress : {A V : Type 0} (view : V → A) (left after : List A) (o : Option V) → YieldsFirstBy view (λ left. left) left o after → MakesProgress (λ s. Unit {0}) (item_count (λ left. left)) left o after
progress view left after None h = search rules
progress view left after (Some taken) h = let shorter = ap length h in search rules

-- the items take all octets that are left
all_left : (s : List ℕ) (p : ℕ) (r : Result (List Item) Refusal) → AreOctets s → p ≤ length s → read_to_the_end item.read s p ≡ r → IsTrue (is_ok r) → length (flat_map item.spell (result_unwrap_or r [])) ≡ length s - p
all_left s p (Ok items) octets le e h =
    let fills = (to_the_end_law item item_law item_some).takes s p items octets le e in
    ap length (sym fills.parts) ∙ length-drop p s
all_left s p (Err r) octets le e h = absurd cc

pub items_size : (s : List ℕ) (p left : ℕ) (items : List Item) → AreOctets s → p + left ≡ length s → IsTrue (reads_from s p) → items_from s p ≡ items → left ≡ length (flat_map item.spell items)
items_size s p left items octets ends h is =
    let size = all_left s p (read_to_the_end item.read s p) octets (omega arith) refl h in
    omega (arith, size, ap (λ (xs : List Item). length (flat_map item.spell xs)) is)

-- where raw values stand
fixed_length : (m : Position) → position.Fits m → length (fixed.spell m.fixed) ≡ 28
unfolding position fixed number octets_of
fixed_length m fits = let len = fits.0.1.1.1.1.1.1.1.0 in omega arith

raw_spell : (id : ℕ) (value : List ℕ) (rest : List ℕ) → drop 2 (item.spell (Raw id value) ++ rest) ≡ value ++ rest
unfolding item untyped number octets_of
raw_spell id value rest = refl

-- where the octets of a position stand
raw_at : (s : List ℕ) (p : ℕ) (m : Position) (more : List ℕ) → position.Fits m → drop p s ≡ position.spell m ++ more → (before : List Item) (id : ℕ) (value : List ℕ) (after : List Item) → m.items ≡ before ++ Raw id value ∷ after
    → take (length value) (drop (p + 30 + length (flat_map item.spell before)) s) ≡ value
unfolding position
raw_at s p m more fits parts before id value after items =
    let front = flat_map item.spell before in
    let own = item.spell (Raw id value) in
    let others = flat_map item.spell after in
    let size = fixed_length m fits in
    let fields : drop p s ≡ fixed.spell m.fixed ++ (flat_map item.spell m.items ++ more) = parts ∙ append_assoc (fixed.spell m.fixed) (flat_map item.spell m.items) more in
    let start : p + 28 ≡ p + length (fixed.spell m.fixed) = omega arith in
    let behind_fixed : drop (p + 28) s ≡ flat_map item.spell m.items ++ more = ap (λ n. drop n s) start ∙ behind s (fixed.spell m.fixed) (flat_map item.spell m.items ++ more) p fields in
    let halves : flat_map item.spell m.items ≡ front ++ (own ++ others) = ap (flat_map item.spell) items ∙ flat_map-append item.spell before (Raw id value ∷ after) in
    let split : drop (p + 28) s ≡ front ++ (own ++ (others ++ more)) =
    behind_fixed ∙ ap (λ (t : List ℕ). t ++ more) halves ∙ append_assoc front (own ++ others) more ∙ ap (λ (t : List ℕ). front ++ t) (append_assoc own others more) in
    let here = behind s front (own ++ (others ++ more)) (p + 28) split in
    let k : p + 28 + length front + 2 ≡ p + 30 + length front = omega arith in
    let at : drop (p + 30 + length front) s ≡ value ++ (others ++ more) = ap (λ n. drop n s) (sym k) ∙ sym (drop-drop 2 (p + 28 + length front) s) ∙ ap (drop 2) here ∙ raw_spell id value (others ++ more) in
    ap (take (length value)) at ∙ take_at value (others ++ more) (length value) refl

pub raw_stands : (s : List ℕ) (m : Position) → Fills position s 0 m → (before : List Item) (id : ℕ) (value : List ℕ) (after : List Item) → m.items ≡ before ++ Raw id value ∷ after → take (length value) (drop (30 + length (flat_map item.spell before)) s) ≡ value
raw_stands s m st before id value after items = raw_at s 0 m [] st.fits (st.parts ∙ sym (append-nil (position.spell m))) before id value after items

-- ---- where they stand in a batch

-- the value at its place has what all have
one_of : {A : Type 0} (P : A → Type 0) (before : List A) (a : A) (after : List A) → AllByRecursion P (before ++ a ∷ after) → P a
one_of P [] a after all = all.0
one_of P (b ∷ before) a after all = one_of P before a after all.1

head_spell : (count kind : ℕ) (rest : List ℕ) → drop 3 (word.spell count ++ (byte.spell kind ++ rest)) ≡ rest
unfolding number
head_spell count kind rest = refl

length_spell : (count : ℕ) (body rest : List ℕ) → drop 2 ((word.spell count ++ body) ++ rest) ≡ body ++ rest
unfolding number
length_spell count body rest = refl

pub raw_stands_in_batch : (s : List ℕ) (b : Batch) → Fills batch s 0 b → (earlier : List Position) (m : Position) (later : List Position) → b.fixes ≡ earlier ++ m ∷ later
    → (before : List Item) (id : ℕ) (value : List ℕ) (after : List Item) → m.items ≡ before ++ Raw id value ∷ after
    → take (length value) (drop (35 + length (flat_map (sized word position).spell earlier) + length (flat_map item.spell before)) s) ≡ value
unfolding batch
raw_stands_in_batch s b st earlier m later fixes before id value after items =
    let one = (sized word position).spell in
    let front = flat_map one earlier in
    let others = flat_map one later in
    let parts : drop 0 s ≡ word.spell (length b.fixes) ++ (byte.spell b.kind ++ flat_map one b.fixes) = st.parts in
    let split : drop 3 s ≡ front ++ (one m ++ others) = ap (drop 3) parts ∙ head_spell (length b.fixes) b.kind (flat_map one b.fixes) ∙ ap (flat_map one) fixes ∙ flat_map-append one earlier (m ∷ later) in
    let here : drop (3 + length front) s ≡ one m ++ others = behind s front (one m ++ others) 3 split in
    let at : drop (3 + length front + 2) s ≡ position.spell m ++ others = sym (drop-drop 2 (3 + length front) s) ∙ ap (drop 2) here ∙ length_spell (length (position.spell m)) (position.spell m) others in
    let fit : (sized word position).Fits m = one_of (sized word position).Fits earlier m later (subst (AllByRecursion (sized word position).Fits) fixes st.fits.1.1.1) in
    let k : 3 + length front + 2 + 30 + length (flat_map item.spell before) ≡ 35 + length front + length (flat_map item.spell before) = omega arith in
    ap (λ n. take (length value) (drop n s)) (sym k) ∙ raw_at s (3 + length front + 2) m others fit.1.0 at before id value after items
