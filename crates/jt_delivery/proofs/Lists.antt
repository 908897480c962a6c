-- Short facts on rows by their places, and on what a line carries.
use Rattle.std.proofs.Common.{ℕ, zero, suc, ◌+◌, ◌-◌, ◌<◌, ◌≤◌, ◌≡◌, ◌≢◌, List, [], ◌∷◌, ◌++◌, length, take, arith, refl, ap, sym, ◌∙◌, inl, inr, All, Some}
use Rattle.std.specs.Prelude.{◌⊎◌, max}
use Rattle.std.proofs.lemmas.Bool.{cases_eq, eq-eqb, ne_eqb}
use Rattle.std.proofs.lemmas.List.{length_push}
use Rattle.std.proofs.lemmas.List.Elements.{All-head, All-tail}
use Rattle.jt_store.specs.declared.row.Row.{Row}
use Rattle.jt_store.specs.Tables.{IsRow, last_from, last_of}
use Rattle.jt_delivery.specs.World.{Up, Authentication, OtherMessage, Sending, Down, Admission, Acceptance, OtherAnswer, Line, row_at, number_at, WasSent, IsSentIn, HasAdmission, put}
use Rattle.jt_store.specs.Units.{past_accepted}
use Rattle.jt_delivery.specs.Steps.{IsNoUnit, AreOthers}
use Rattle.jt_delivery.specs.Record.{top, seen, end_top, end_seen, SendOk, Follows, Gone, Waiting, Below, Chain, Took, TookAfter}

-- rows by their places
pub row_at_append : (xs ys : List Row) (i : ℕ) → i < length xs → row_at (xs ++ ys) i ≡ row_at xs i
row_at_append [] ys i lt = absurd (omega arith)
row_at_append (x ∷ xs) ys zero lt = refl
row_at_append (x ∷ xs) ys (suc i) lt = row_at_append xs ys i (omega arith)

pub row_at_push : (xs : List Row) (y : Row) → row_at (xs ++ y ∷ []) (length xs) ≡ y
row_at_push [] y = refl
row_at_push (x ∷ xs) y = row_at_push xs y

pub row_at_take : (n : ℕ) (xs : List Row) (i : ℕ) → i < n → row_at (take n xs) i ≡ row_at xs i
row_at_take zero xs i lt = absurd (omega arith)
row_at_take (suc n) [] i lt = refl
row_at_take (suc n) (x ∷ xs) zero lt = refl
row_at_take (suc n) (x ∷ xs) (suc i) lt = row_at_take n xs i (omega arith)

pub take_row : (n : ℕ) (xs : List Row) → n < length xs → take (suc n) xs ≡ take n xs ++ row_at xs n ∷ []
take_row n [] lt = absurd (omega arith)
take_row zero (x ∷ xs) lt = refl
take_row (suc n) (x ∷ xs) lt = ap (λ (t : List Row). x ∷ t) (take_row n xs (omega arith))

-- what holds of each row holds of the one of a place
pub row_at_all : (P : Row → Type 0) (rows : List Row) (i : ℕ) → All P rows → i < length rows → P (row_at rows i)
row_at_all P [] i all lt = absurd (omega arith)
row_at_all P (x ∷ rows) zero all lt = All-head P x rows all
row_at_all P (x ∷ rows) (suc i) all lt = row_at_all P rows i (All-tail P x rows all) (omega arith)

pub row_is_row : (rows : List Row) (i : ℕ) → i < length rows → IsRow rows (row_at rows i)
row_is_row [] i lt = absurd (omega arith)
row_is_row (x ∷ rows) zero lt = inl refl
row_is_row (x ∷ rows) (suc i) lt = inr (row_is_row rows i (omega arith))

-- the last row's number
last_at : (r : Row) (rows : List Row) → last_from r.number rows ≡ number_at (r ∷ rows) (length rows)
last_at r [] = refl
last_at r (s ∷ rows) = last_at s rows

pub last_of_rows : (rows : List Row) → 0 < length rows → last_of rows ≡ Some (number_at rows (length rows - 1))
last_of_rows [] some = absurd (omega arith)
last_of_rows (r ∷ rows) some = let e : length rows ≡ suc (length rows) - 1 = omega arith in ap Some (last_at r rows ∙ ap (number_at (r ∷ rows)) e)

pub none_last : (rows : List Row) → length rows ≤ 0 → rows ≡ []
none_last [] le = refl
none_last (r ∷ rows) le = absurd (omega arith)

-- places below a number are below a greater one
pub all_below : (j j2 : ℕ) (places : List ℕ) → j ≤ j2 → All (λ (place : ℕ). place < j) places → All (λ (place : ℕ). place < j2) places
all_below j j2 places le all = λ k d lt. omega (arith, all k d lt)

-- a line put in its place
pub put_elim : (P : ℕ → Line → Type 0) (lines : ℕ → Line) (l : ℕ) (x : Line) → P l x → (k : ℕ) → (k ≢ l → P k (lines k)) → P k (put lines l x k)
put_elim P lines l x here k there = go (cases_eq k l)
  where
    go : (k ≡ l) ⊎ (k ≡ l → ⊥) → P k (put lines l x k)
    go (inl e) = rw (eq-eqb k l e) (rw e here)
    go (inr n) = rw (ne_eqb k l n) (there n)

pub put_same : (lines : ℕ → Line) (l : ℕ) (x : Line) → put lines l x l ≡ x
put_same lines l x = put_elim (λ k y. k ≡ l → y ≡ x) lines l x (λ e. refl) l (λ n e. absurd (n e)) refl

-- what was sent is below the top
pub sent_top : (first : ℕ) (g : List Up) (i : ℕ) → IsSentIn g i → i < top first g
sent_top first [] i h = absurd h
sent_top first (Authentication ∷ g) i h = sent_top first g i h
sent_top first (OtherMessage ∷ g) i h = sent_top first g i h
sent_top first (Sending k f ∷ g) i (inl e) = omega arith
sent_top first (Sending k f ∷ g) i (inr h) = let lt : i < top first g = sent_top first g i h in omega arith

pub end_top_up : (t : ℕ) (q : List Up) → t ≤ end_top t q
end_top_up t [] = omega arith
end_top_up t (Authentication ∷ q) = end_top_up t q
end_top_up t (OtherMessage ∷ q) = end_top_up t q
end_top_up t (Sending k f ∷ q) = omega (arith, end_top_up (max t (suc k)) q)

pub sent_end_top : (t : ℕ) (q : List Up) (i : ℕ) → IsSentIn q i → i < end_top t q
sent_end_top t [] i h = absurd h
sent_end_top t (Authentication ∷ q) i h = sent_end_top t q i h
sent_end_top t (OtherMessage ∷ q) i h = sent_end_top t q i h
sent_end_top t (Sending k f ∷ q) i (inl e) = omega (arith, end_top_up (max t (suc k)) q)
sent_end_top t (Sending k f ∷ q) i (inr h) = sent_end_top (max t (suc k)) q i h

pub first_top : (first : ℕ) (g : List Up) → first ≤ top first g
first_top first [] = omega arith
first_top first (Authentication ∷ g) = first_top first g
first_top first (OtherMessage ∷ g) = first_top first g
first_top first (Sending k f ∷ g) = omega (arith, first_top first g)

-- one more message at the end
pub end_top_push : (t : ℕ) (q : List Up) (i f : ℕ) → end_top t (q ++ Sending i f ∷ []) ≡ max (end_top t q) (suc i)
end_top_push t [] i f = refl
end_top_push t (Authentication ∷ q) i f = end_top_push t q i f
end_top_push t (OtherMessage ∷ q) i f = end_top_push t q i f
end_top_push t (Sending k g ∷ q) i f = end_top_push (max t (suc k)) q i f

pub waiting_push : (units : List Row) (first t s : ℕ) (q : List Up) (i f : ℕ) → Waiting units first t s q → Follows units first (end_top t q) (end_seen s q) i f → Waiting units first t s (q ++ Sending i f ∷ [])
waiting_push units first t s [] i f w h = (h, tt)
waiting_push units first t s (Authentication ∷ q) i f w h = waiting_push units first t s q i f w h
waiting_push units first t s (OtherMessage ∷ q) i f w h = waiting_push units first t s q i f w h
waiting_push units first t s (Sending k g ∷ q) i f w h = (w.0, waiting_push units first (max t (suc k)) g q i f w.1 h)

pub IsSentIn_push : (q : List Up) (m : Up) (i : ℕ) → IsSentIn (q ++ m ∷ []) i → IsSentIn q i ⊎ IsSentIn (m ∷ []) i
IsSentIn_push [] m i h = inr h
IsSentIn_push (Authentication ∷ q) m i h = IsSentIn_push q m i h
IsSentIn_push (OtherMessage ∷ q) m i h = IsSentIn_push q m i h
IsSentIn_push (Sending k f ∷ q) m i (inl e) = inl (inl e)
IsSentIn_push (Sending k f ∷ q) m i (inr h) = go (IsSentIn_push q m i h)
  where
    go : IsSentIn q i ⊎ IsSentIn (m ∷ []) i → IsSentIn (Sending k f ∷ q) i ⊎ IsSentIn (m ∷ []) i
    go (inl a) = inl (inr a)
    go (inr b) = inr b

-- of what waits every record is of what was formed by now
pub end_seen_known : (units : List Row) (first t s : ℕ) (q : List Up) → Waiting units first t s q → s ≤ length units → end_seen s q ≤ length units
end_seen_known units first t s [] w le = le
end_seen_known units first t s (Authentication ∷ q) w le = end_seen_known units first t s q w le
end_seen_known units first t s (OtherMessage ∷ q) w le = end_seen_known units first t s q w le
end_seen_known units first t s (Sending k f ∷ q) w le = end_seen_known units first (max t (suc k)) f q w.1 w.0.good.known

pub seen_known : (units : List Row) (first formed : ℕ) (g : List Up) → Gone units first formed g → formed ≤ length units → seen formed g ≤ length units
seen_known units first formed [] w le = le
seen_known units first formed (Authentication ∷ g) w le = seen_known units first formed g w le
seen_known units first formed (OtherMessage ∷ g) w le = seen_known units first formed g w le
seen_known units first formed (Sending k f ∷ g) w le = w.0.good.known

pub formed_seen : (units : List Row) (first formed : ℕ) (g : List Up) → Gone units first formed g → formed ≤ seen formed g
formed_seen units first formed [] w = omega arith
formed_seen units first formed (Authentication ∷ g) w = formed_seen units first formed g w
formed_seen units first formed (OtherMessage ∷ g) w = formed_seen units first formed g w
formed_seen units first formed (Sending k f ∷ g) w = let e : formed ≤ seen formed g = formed_seen units first formed g w.1 in omega (arith, w.0.later)

-- the top is at most what was formed by then
pub top_seen : (units : List Row) (first formed : ℕ) (g : List Up) → first ≤ formed → Gone units first formed g → top first g ≤ seen formed g
top_seen units first formed [] le w = le
top_seen units first formed (Authentication ∷ g) le w = top_seen units first formed g le w
top_seen units first formed (OtherMessage ∷ g) le w = top_seen units first formed g le w
top_seen units first formed (Sending k f ∷ g) le w = let e : top first g ≤ seen formed g = top_seen units first formed g le w.1 in omega (arith, w.0.later, w.0.good.before)

pub end_top_known : (units : List Row) (first t s : ℕ) (q : List Up) → Waiting units first t s q → t ≤ length units → end_top t q ≤ length units
end_top_known units first t s [] w le = le
end_top_known units first t s (Authentication ∷ q) w le = end_top_known units first t s q w le
end_top_known units first t s (OtherMessage ∷ q) w le = end_top_known units first t s q w le
end_top_known units first t s (Sending k f ∷ q) w le = end_top_known units first (max t (suc k)) f q w.1 (omega (arith, w.0.good.known, w.0.good.before))

-- acceptances
pub Chain_push : (units : List Row) (lo hi : ℕ) (q : List Down) (i f : ℕ) → Chain units lo hi q → SendOk units i f → hi ≤ f → Chain units lo f (q ++ Acceptance i f ∷ [])
Chain_push units lo hi [] i f c good le = (good, omega arith, omega arith)
Chain_push units lo hi (Admission ∷ q) i f c good le = Chain_push units lo hi q i f c good le
Chain_push units lo hi (OtherAnswer ∷ q) i f c good le = Chain_push units lo hi q i f c good le
Chain_push units lo hi (Acceptance k g ∷ q) i f c good le = (c.0, c.1, Chain_push units g hi q i f c.2 good le)

pub Chain_raise : (units : List Row) (lo hi hi2 : ℕ) (q : List Down) → Chain units lo hi q → hi ≤ hi2 → Chain units lo hi2 q
Chain_raise units lo hi hi2 [] c le = omega arith
Chain_raise units lo hi hi2 (Admission ∷ q) c le = Chain_raise units lo hi hi2 q c le
Chain_raise units lo hi hi2 (OtherAnswer ∷ q) c le = Chain_raise units lo hi hi2 q c le
Chain_raise units lo hi hi2 (Acceptance k g ∷ q) c le = (c.0, c.1, Chain_raise units g hi hi2 q c.2 le)

pub Chain_lower : (units : List Row) (lo lo2 hi : ℕ) (q : List Down) → Chain units lo hi q → lo2 ≤ lo → Chain units lo2 hi q
Chain_lower units lo lo2 hi [] c le = omega arith
Chain_lower units lo lo2 hi (Admission ∷ q) c le = Chain_lower units lo lo2 hi q c le
Chain_lower units lo lo2 hi (OtherAnswer ∷ q) c le = Chain_lower units lo lo2 hi q c le
Chain_lower units lo lo2 hi (Acceptance k g ∷ q) c le = (c.0, omega (arith, c.1), c.2)

pub Chain_else : (units : List Row) (lo hi : ℕ) (q ms : List Down) → Chain units lo hi q → AreOthers ms → Chain units lo hi (q ++ ms)
Chain_else units lo hi [] [] c h = c
Chain_else units lo hi [] (OtherAnswer ∷ ms) c h = Chain_else units lo hi [] ms c h
Chain_else units lo hi [] (Admission ∷ ms) c h = absurd h
Chain_else units lo hi [] (Acceptance i f ∷ ms) c h = absurd h
Chain_else units lo hi (Admission ∷ q) ms c h = Chain_else units lo hi q ms c h
Chain_else units lo hi (OtherAnswer ∷ q) ms c h = Chain_else units lo hi q ms c h
Chain_else units lo hi (Acceptance k g ∷ q) ms c h = (c.0, c.1, Chain_else units g hi q ms c.2 h)

pub Chain_ok : (units : List Row) (lo hi : ℕ) (q : List Down) → Chain units lo hi q → Chain units lo hi (q ++ Admission ∷ [])
Chain_ok units lo hi [] c = c
Chain_ok units lo hi (Admission ∷ q) c = Chain_ok units lo hi q c
Chain_ok units lo hi (OtherAnswer ∷ q) c = Chain_ok units lo hi q c
Chain_ok units lo hi (Acceptance k g ∷ q) c = (c.0, c.1, Chain_ok units g hi q c.2)

pub Below_append : (j : ℕ) (q ms : List Down) → Below j q → Below j ms → Below j (q ++ ms)
Below_append j [] ms a b = b
Below_append j (Admission ∷ q) ms a b = Below_append j q ms a b
Below_append j (OtherAnswer ∷ q) ms a b = Below_append j q ms a b
Below_append j (Acceptance k g ∷ q) ms a b = (a.0, Below_append j q ms a.1 b)

pub Below_more : (j j2 : ℕ) (q : List Down) → j ≤ j2 → Below j q → Below j2 q
Below_more j j2 [] le a = tt
Below_more j j2 (Admission ∷ q) le a = Below_more j j2 q le a
Below_more j j2 (OtherAnswer ∷ q) le a = Below_more j j2 q le a
Below_more j j2 (Acceptance k g ∷ q) le a = (omega (arith, a.0), Below_more j j2 q le a.1)

pub Below_else : (j : ℕ) (ms : List Down) → AreOthers ms → Below j ms
Below_else j [] h = tt
Below_else j (OtherAnswer ∷ ms) h = Below_else j ms h
Below_else j (Admission ∷ ms) h = absurd h
Below_else j (Acceptance i f ∷ ms) h = absurd h

pub HasAdmission_append : (q ms : List Down) → HasAdmission (q ++ ms) → HasAdmission q ⊎ HasAdmission ms
HasAdmission_append [] ms h = inr h
HasAdmission_append (Admission ∷ q) ms h = inl tt
HasAdmission_append (OtherAnswer ∷ q) ms h = HasAdmission_append q ms h
HasAdmission_append (Acceptance k g ∷ q) ms h = HasAdmission_append q ms h

pub HasAdmission_else : (ms : List Down) → AreOthers ms → HasAdmission ms → ⊥
HasAdmission_else [] h k = absurd k
HasAdmission_else (OtherAnswer ∷ ms) h k = HasAdmission_else ms h k
HasAdmission_else (Admission ∷ ms) h k = absurd h
HasAdmission_else (Acceptance i f ∷ ms) h k = absurd h

-- one more unit is formed
pub number_push : (units : List Row) (u : Row) (i : ℕ) → i < length units → number_at (units ++ u ∷ []) i ≡ number_at units i
number_push units u i lt = ap (λ (r : Row). r.number) (row_at_append units (u ∷ []) i lt)

pub number_new : (units : List Row) (u : Row) → number_at (units ++ u ∷ []) (length units) ≡ u.number
number_new units u = ap (λ (r : Row). r.number) (row_at_push units u)

pub SendOk_form : (units : List Row) (u : Row) (i f : ℕ) → SendOk units i f → SendOk (units ++ u ∷ []) i f
SendOk_form units u i f h = record {
  before = h.before;
  known = omega (arith, h.known, length_push units u);
  near = omega (arith, h.near, number_push units u i (omega (arith, h.before, h.known)), number_push units u (f - 1) (omega (arith, h.before, h.known)));
}

pub Follows_form : (units : List Row) (u : Row) (first t s i f : ℕ) → Follows units first t s i f → Follows (units ++ u ∷ []) first t s i f
Follows_form units u first t s i f h = record { good = SendOk_form units u i f h.good; from_first = h.from_first; in_order = h.in_order; later = h.later }

pub Gone_form : (units : List Row) (u : Row) (first formed : ℕ) (g : List Up) → Gone units first formed g → Gone (units ++ u ∷ []) first formed g
Gone_form units u first formed [] h = tt
Gone_form units u first formed (Authentication ∷ g) h = Gone_form units u first formed g h
Gone_form units u first formed (OtherMessage ∷ g) h = Gone_form units u first formed g h
Gone_form units u first formed (Sending i f ∷ g) h = (Follows_form units u first (top first g) (seen formed g) i f h.0, Gone_form units u first formed g h.1)

pub Waiting_form : (units : List Row) (u : Row) (first t s : ℕ) (q : List Up) → Waiting units first t s q → Waiting (units ++ u ∷ []) first t s q
Waiting_form units u first t s [] h = tt
Waiting_form units u first t s (Authentication ∷ q) h = Waiting_form units u first t s q h
Waiting_form units u first t s (OtherMessage ∷ q) h = Waiting_form units u first t s q h
Waiting_form units u first t s (Sending i f ∷ q) h = (Follows_form units u first t s i f h.0, Waiting_form units u first (max t (suc i)) f q h.1)

pub Chain_form : (units : List Row) (u : Row) (lo hi : ℕ) (q : List Down) → Chain units lo hi q → Chain (units ++ u ∷ []) lo hi q
Chain_form units u lo hi [] h = h
Chain_form units u lo hi (Admission ∷ q) h = Chain_form units u lo hi q h
Chain_form units u lo hi (OtherAnswer ∷ q) h = Chain_form units u lo hi q h
Chain_form units u lo hi (Acceptance i f ∷ q) h = (SendOk_form units u i f h.0, h.1, Chain_form units u f hi q h.2)

-- one past the number of the unit of a place
pub past_at : (units : List Row) (a : ℕ) → a < length units → past_accepted units (suc a) ≡ number_at units a + 1
past_at [] a lt = absurd (omega arith)
past_at (row ∷ units) zero lt = refl
past_at (row ∷ units) (suc a) lt = past_at units a (omega arith)

pub past_form : (units : List Row) (u : Row) (a : ℕ) → a ≤ length units → past_accepted (units ++ u ∷ []) a ≡ past_accepted units a
past_form units u zero le = refl
past_form units u (suc a) le = past_at (units ++ u ∷ []) a (omega (arith, length_push units u)) ∙ (ap (λ (n : ℕ). n + 1) (number_push units u a le) ∙ sym (past_at units a le))

-- lines by their numbers
pub Took_after : (takers : List ℕ) (l k : ℕ) → TookAfter takers l k → Took takers l × Took takers k
Took_after [] l k h = absurd h
Took_after (t ∷ ts) l k (inl h) = (inl h.0, inr h.1)
Took_after (t ∷ ts) l k (inr h) = let p : Took ts l × Took ts k = Took_after ts l k h in (inr p.0, inr p.1)

-- a message that is no unit changes nothing of this
pub waiting_say : (units : List Row) (first t s : ℕ) (q : List Up) (m : Up) → IsNoUnit m → Waiting units first t s q → Waiting units first t s (q ++ m ∷ [])
waiting_say units first t s [] Authentication n w = tt
waiting_say units first t s [] OtherMessage n w = tt
waiting_say units first t s [] (Sending i f) n w = absurd n
waiting_say units first t s (Authentication ∷ q) m n w = waiting_say units first t s q m n w
waiting_say units first t s (OtherMessage ∷ q) m n w = waiting_say units first t s q m n w
waiting_say units first t s (Sending k g ∷ q) m n w = (w.0, waiting_say units first (max t (suc k)) g q m n w.1)

pub end_top_say : (t : ℕ) (q : List Up) (m : Up) → IsNoUnit m → end_top t (q ++ m ∷ []) ≡ end_top t q
end_top_say t [] Authentication n = refl
end_top_say t [] OtherMessage n = refl
end_top_say t [] (Sending i f) n = absurd n
end_top_say t (Authentication ∷ q) m n = end_top_say t q m n
end_top_say t (OtherMessage ∷ q) m n = end_top_say t q m n
end_top_say t (Sending k g ∷ q) m n = end_top_say (max t (suc k)) q m n

pub sent_say : (q : List Up) (m : Up) (i : ℕ) → IsNoUnit m → IsSentIn (q ++ m ∷ []) i → IsSentIn q i
sent_say q m i n h = go m n (IsSentIn_push q m i h)
  where
    go : (m : Up) → IsNoUnit m → IsSentIn q i ⊎ IsSentIn (m ∷ []) i → IsSentIn q i
    go m n (inl a) = a
    go Authentication n (inr b) = absurd b
    go OtherMessage n (inr b) = absurd b
    go (Sending k f) n (inr b) = absurd n

pub was_sent_top : (x : Line) (i : ℕ) → WasSent x i → i < end_top (top x.first x.gone) x.waiting
was_sent_top x i (inl h) = let lt : i < top x.first x.gone = sent_top x.first x.gone i h in omega (arith, end_top_up (top x.first x.gone) x.waiting)
was_sent_top x i (inr h) = sent_end_top (top x.first x.gone) x.waiting i h

pub HasAdmission_cons : (d : Down) (q : List Down) → HasAdmission q → HasAdmission (d ∷ q)
HasAdmission_cons Admission q h = tt
HasAdmission_cons OtherAnswer q h = h
HasAdmission_cons (Acceptance i f) q h = h

pub HasAdmission_split : (d : Down) (q r : List Down) → HasAdmission (d ∷ r) → HasAdmission r ⊎ HasAdmission (d ∷ q)
HasAdmission_split Admission q r h = inr tt
HasAdmission_split OtherAnswer q r h = inl h
HasAdmission_split (Acceptance i f) q r h = inl h
