-- What was read, with the replies, has one talk.
use Rattle.std.proofs.Common.{◌≡◌, ◌≤◌, ◌-◌, ℕ, List, [], ◌∷◌, ◌++◌, length, take, drop, Bool, true, false, if◌then◌else◌, ◌⊎◌, Option, None, Some, inl, inr, refl, sym, ap, ◌∙◌, subst, append_assoc, arith, length-append, length-drop, reverse}
use Rattle.std.proofs.lemmas.List.{append_cancel_left, append_cancel_right, reverse-append, take-append-drop}
use Rattle.std.proofs.lemmas.Bool.{false≢true, cases_lt}
use Rattle.jt_stream.specs.Unplaced.{Unplaced}
use Rattle.jt_platform.specs.Allowed.{makes_entry}
use Rattle.jt_platform.specs.declared.request.Request.{Request}
use Rattle.jt_platform.specs.declared.request.Reply.{Reply}
use Rattle.jt_session.specs.Talk.{Turn, Way, Goes, Stops, Talked, talk_from, at_state, start, items_of, asks, FitsFrom, IsReplied}
use Rattle.jt_session.proofs.Joining.{items_append, way_not_short}
use Rattle.jt_session.specs.Law.{reply_in, replies_of, ran_short, short_at, IsOneTalk}

head_is : {A : Type 0} (x y : A) (xs ys : List A) → x ∷ xs ≡ y ∷ ys → x ≡ y
head_is x y xs ys e = cc

turn_is : (t u : Turn) → t.item ≡ u.item → t.way ≡ u.way → t ≡ u
turn_is t u same_item same_way = ap (λ i. record { item = i; way = t.way }) same_item ∙ ap (λ w. record { item = u.item; way = w }) same_way

last_is : (more other : List Reply) (r x : Reply) → more ++ r ∷ [] ≡ other ++ x ∷ [] → r ≡ x
last_is more other r x e = head_is r x (reverse more) (reverse other) (sym (reverse-append more (r ∷ [])) ∙ (ap reverse e ∙ reverse-append other (x ∷ [])))

-- at no item memory was wanted
abbrev NoneShort : List Turn → Type 0
NoneShort [] = Unit {0}
NoneShort (t ∷ older) = (ran_short t.way ≡ false) × NoneShort older

none_short : (k : Talked) (turns : List Turn) → FitsFrom k turns → (talk_from k turns).over ≡ false → NoneShort turns
none_short k [] fits on = tt
none_short k (t ∷ older) fits on = (way_not_short (talk_from k older) t.item (asks (talk_from k older).state t.item) t.way on, none_short k older fits.2 fits.0)

-- at one item and after the same reply a session goes on in one way
way_is : (item : Unplaced) (asked : Option Request) (w v : Way) (more other : List Reply) → IsReplied item asked w → IsReplied item asked v → ran_short w ≡ false → ran_short v ≡ false → more ++ reply_in w ≡ other ++ reply_in v → w ≡ v
way_is item None (Goes None) (Goes None) more other fits fits_too long long_too e = refl
way_is item None (Goes None) (Goes (Some x)) more other fits fits_too long long_too e = absurd fits_too
way_is item None (Goes None) (Stops None) more other fits fits_too long long_too e = absurd (false≢true (sym long_too))
way_is item None (Goes None) (Stops (Some x)) more other fits fits_too long long_too e = absurd fits_too
way_is item None (Goes (Some r)) v more other fits fits_too long long_too e = absurd fits
way_is item None (Stops None) v more other fits fits_too long long_too e = absurd (false≢true (sym long))
way_is item None (Stops (Some r)) v more other fits fits_too long long_too e = absurd fits
way_is item (Some q) (Goes None) v more other fits fits_too long long_too e = absurd fits
way_is item (Some q) (Stops None) v more other fits fits_too long long_too e = absurd (false≢true (sym long))
way_is item (Some q) (Goes (Some r)) (Goes None) more other fits fits_too long long_too e = absurd fits_too
way_is item (Some q) (Goes (Some r)) (Stops None) more other fits fits_too long long_too e = absurd (false≢true (sym long_too))
way_is item (Some q) (Goes (Some r)) (Goes (Some x)) more other fits fits_too long long_too e = ap (λ y. Goes (Some y)) (last_is more other r x e)
way_is item (Some q) (Goes (Some r)) (Stops (Some x)) more other fits fits_too long long_too e = absurd (false≢true (sym fits_too ∙ (ap makes_entry (sym (last_is more other r x e)) ∙ fits)))
way_is item (Some q) (Stops (Some r)) (Goes None) more other fits fits_too long long_too e = absurd fits_too
way_is item (Some q) (Stops (Some r)) (Stops None) more other fits fits_too long long_too e = absurd (false≢true (sym long_too))
way_is item (Some q) (Stops (Some r)) (Stops (Some x)) more other fits fits_too long long_too e = ap (λ y. Stops (Some y)) (last_is more other r x e)
way_is item (Some q) (Stops (Some r)) (Goes (Some x)) more other fits fits_too long long_too e = absurd (false≢true (sym fits ∙ (ap makes_entry (last_is more other r x e) ∙ fits_too)))

-- as many turns over one stream, with the same last replies, are the same turns
same_turns : (k : Talked) (a b : List Turn) → length a ≡ length b → FitsFrom k a → FitsFrom k b → NoneShort a → NoneShort b → (rest others : List Unplaced) → items_of a ++ rest ≡ items_of b ++ others
    → (more other : List Reply) → more ++ replies_of a ≡ other ++ replies_of b → a ≡ b
same_turns k [] [] len fits fits_too long long_too rest others items more other replies = refl
same_turns k [] (u ∷ b) len fits fits_too long long_too rest others items more other replies = absurd (omega (arith, len))
same_turns k (t ∷ a) [] len fits fits_too long long_too rest others items more other replies = absurd (omega (arith, len))
same_turns k (t ∷ a) (u ∷ b) len fits fits_too long long_too rest others items more other replies =
    let shifted : items_of a ++ (t.item ∷ rest) ≡ items_of b ++ (u.item ∷ others) =
    sym (append_assoc (items_of a) (t.item ∷ []) rest) ∙ (items ∙ append_assoc (items_of b) (u.item ∷ []) others) in
    let said : (more ++ reply_in t.way) ++ replies_of a ≡ (other ++ reply_in u.way) ++ replies_of b =
    append_assoc more (reply_in t.way) (replies_of a) ∙ (replies ∙ sym (append_assoc other (reply_in u.way) (replies_of b))) in
    let older : a ≡ b = same_turns k a b (omega (arith, len)) fits.2 fits_too.2 long.1 long_too.1 (t.item ∷ rest) (u.item ∷ others) shifted (more ++ reply_in t.way) (other ++ reply_in u.way) said in
    let item : t.item ≡ u.item =
    head_is t.item u.item rest others (append_cancel_left (items_of b) (t.item ∷ rest) (u.item ∷ others) (ap (λ l. items_of l ++ (t.item ∷ rest)) (sym older) ∙ shifted)) in
    let said_here : more ++ reply_in t.way ≡ other ++ reply_in u.way =
    append_cancel_right (more ++ reply_in t.way) (other ++ reply_in u.way) (replies_of b) (ap (λ l. (more ++ reply_in t.way) ++ replies_of l) (sym older) ∙ said) in
    let fits_here : IsReplied u.item (asks (talk_from k b).state u.item) t.way =
    subst (λ i. IsReplied i (asks (talk_from k b).state i) t.way) item (subst (λ l. IsReplied t.item (asks (talk_from k l).state t.item) t.way) older fits.1) in
    ap (λ x. x ∷ a) (turn_is t u item (way_is u.item (asks (talk_from k b).state u.item) t.way u.way more other fits_here fits_too.1 long.0 long_too.0 said_here)) ∙ ap (λ l. u ∷ l) older

-- ---- turns that are more

fits_older : (k : Talked) (x c : List Turn) → FitsFrom k (x ++ c) → FitsFrom k c
fits_older k [] c fits = fits
fits_older k (t ∷ x) c fits = fits_older k x c fits.2

long_older : (x c : List Turn) → NoneShort (x ++ c) → NoneShort c
long_older [] c long = long
long_older (t ∷ x) c long = long_older x c long.1

-- turns behind others say that those went on
on_before : (k : Talked) (t : Turn) (x c : List Turn) → FitsFrom k (t ∷ (x ++ c)) → (talk_from k c).over ≡ false
on_before k t [] c fits = fits.0
on_before k t (u ∷ x) c fits = on_before k u x c fits.2

replies_older : (x c : List Turn) → replies_of (x ++ c) ≡ replies_of x ++ replies_of c
replies_older [] c = refl
replies_older (t ∷ x) c = ap (λ l. reply_in t.way ++ l) (replies_older x c) ∙ sym (append_assoc (reply_in t.way) (replies_of x) (replies_of c))

not_more : (l : List Unplaced) (item : Unplaced) (rest : List Unplaced) → [] ≡ (l ++ item ∷ []) ++ rest → ⊥
not_more l item rest e = omega (arith, ap length e, length-append (l ++ item ∷ []) rest, length-append l (item ∷ []))

-- turns that went through all the items are not fewer than any others
no_more : (k : Talked) (x c b : List Turn) (rest others : List Unplaced) → FitsFrom k (x ++ c) → c ≡ b → items_of (x ++ c) ++ rest ≡ items_of b ++ others → (others ≡ []) ⊎ ((talk_from k b).over ≡ true) → x ++ c ≡ b
no_more k [] c b rest others fits same items all = same
no_more k (t ∷ x) c b rest others fits same items (inr over) = absurd (false≢true (sym (on_before k t x c fits) ∙ (ap (λ l. (talk_from k l).over) same ∙ over)))
no_more k (t ∷ x) c b rest others fits same items (inl all) =
    let behind : items_of c ++ (items_of (t ∷ x) ++ rest) ≡ items_of c ++ [] =
    sym (append_assoc (items_of c) (items_of (t ∷ x)) rest) ∙ (ap (λ l. l ++ rest) (sym (items_append (t ∷ x) c)) ∙ (items ∙ (ap (λ l. items_of b ++ l) all ∙ ap (λ l. items_of l ++ []) (sym same)))) in
    absurd (not_more (items_of x) t.item rest (sym (append_cancel_left (items_of c) (items_of (t ∷ x) ++ rest) [] behind)))

module _ (k : Talked) (a b : List Turn) (rest others : List Unplaced) (fits : FitsFrom k a) (fits_too : FitsFrom k b) (long : NoneShort a) (long_too : NoneShort b) (items : items_of a ++ rest ≡ items_of b ++ others) (replies : replies_of a ≡ replies_of b) (all : (others ≡ []) ⊎ ((talk_from k b).over ≡ true)) where
  longer : length b ≤ length a → a ≡ b
  longer le =
      let n : ℕ = length a - length b in
      let x : List Turn = take n a in
      let c : List Turn = drop n a in
      let parts : x ++ c ≡ a = take-append-drop n a in
      let fits_parts : FitsFrom k (x ++ c) = subst (FitsFrom k) (sym parts) fits in
      let long_parts : NoneShort (x ++ c) = subst NoneShort (sym parts) long in
      let items_parts : items_of (x ++ c) ++ rest ≡ items_of b ++ others = ap (λ l. items_of l ++ rest) parts ∙ items in
      let same : c ≡ b =
      same_turns k c b (omega (arith, length-drop n a, le)) (fits_older k x c fits_parts) fits_too (long_older x c long_parts) long_too (items_of x ++ rest) others
      (sym (append_assoc (items_of c) (items_of x) rest) ∙ (ap (λ l. l ++ rest) (sym (items_append x c)) ∙ items_parts))
      (replies_of x) [] (sym (replies_older x c) ∙ (ap replies_of parts ∙ replies)) in
      sym parts ∙ no_more k x c b rest others fits_parts same items_parts all

either : (m n : ℕ) → (n ≤ m) ⊎ (m ≤ n)
either m n = elim (cases_lt m n) [ inl lt ↦ inr (omega (arith, lt)) | inr le ↦ inl le ]

module _ (k : Talked) (rest others : List Unplaced) where
  both_long : (a b : List Turn) → FitsFrom k a → FitsFrom k b → NoneShort a → NoneShort b → items_of a ++ rest ≡ items_of b ++ others → replies_of a ≡ replies_of b → (rest ≡ []) ⊎ ((talk_from k a).over ≡ true) → (others ≡ []) ⊎ ((talk_from k b).over ≡ true) → a ≡ b
  both_long a b fits fits_too long long_too items replies all all_too =
      elim (either (length a) (length b)) [
        | inl le ↦ longer k a b rest others fits fits_too long long_too items replies all_too le
        | inr le ↦ sym (longer k b a others rest fits_too fits long_too long (sym items) (sym replies) all le)
      ]

  -- memory was wanted at both
  both_short : (t u : Turn) (a b : List Turn) → FitsFrom k (t ∷ a) → FitsFrom k (u ∷ b) → t.way ≡ Stops None → u.way ≡ Stops None → length a ≡ length b → items_of (t ∷ a) ++ rest ≡ items_of (u ∷ b) ++ others → replies_of (t ∷ a) ≡ replies_of (u ∷ b) → t ∷ a ≡ u ∷ b
  both_short t u a b fits fits_too short short_too len items replies =
      let shifted : items_of a ++ (t.item ∷ rest) ≡ items_of b ++ (u.item ∷ others) =
      sym (append_assoc (items_of a) (t.item ∷ []) rest) ∙ (items ∙ append_assoc (items_of b) (u.item ∷ []) others) in
      let said : replies_of a ≡ replies_of b =
      ap (λ w. reply_in w ++ replies_of a) (sym short) ∙ (replies ∙ ap (λ w. reply_in w ++ replies_of b) short_too) in
      let older : a ≡ b = same_turns k a b len fits.2 fits_too.2 (none_short k a fits.2 fits.0) (none_short k b fits_too.2 fits_too.0) (t.item ∷ rest) (u.item ∷ others) shifted [] [] said in
      let item : t.item ≡ u.item =
      head_is t.item u.item rest others (append_cancel_left (items_of b) (t.item ∷ rest) (u.item ∷ others) (ap (λ l. items_of l ++ (t.item ∷ rest)) (sym older) ∙ shifted)) in
      ap (λ x. x ∷ a) (turn_is t u item (short ∙ sym short_too)) ∙ ap (λ l. u ∷ l) older

-- ---- by whether memory was wanted

short_way : (w : Way) → ran_short w ≡ true → w ≡ Stops None
short_way (Goes r) e = absurd (false≢true e)
short_way (Stops None) e = refl
short_way (Stops (Some r)) e = absurd (false≢true e)

is_long : (k : Talked) (turns : List Turn) → FitsFrom k turns → short_at turns ≡ None → NoneShort turns
is_long k [] fits e = tt
is_long k (t ∷ older) fits e = (not_short (ran_short t.way) (length older) e, none_short k older fits.2 fits.0)
  where
    not_short : (b : Bool) (n : ℕ) → (if b then Some n else None) ≡ None → b ≡ false
    not_short true n e = absurd cc
    not_short false n e = refl

is_short : (b : Bool) (n m : ℕ) → (if b then Some n else None) ≡ Some m → (b ≡ true) × (n ≡ m)
is_short true n m e = (refl, cc)
is_short false n m e = absurd cc

by_short : (k : Talked) (a b : List Turn) (o : Option ℕ) (rest others : List Unplaced) → short_at a ≡ o → short_at b ≡ o → FitsFrom k a → FitsFrom k b → items_of a ++ rest ≡ items_of b ++ others → replies_of a ≡ replies_of b
    → (rest ≡ []) ⊎ ((talk_from k a).over ≡ true) → (others ≡ []) ⊎ ((talk_from k b).over ≡ true) → a ≡ b
by_short k a b None rest others short short_too fits fits_too items replies all all_too =
    both_long k rest others a b fits fits_too (is_long k a fits short) (is_long k b fits_too short_too) items replies all all_too
by_short k [] b (Some n) rest others short short_too fits fits_too items replies all all_too = absurd cc
by_short k (t ∷ a) [] (Some n) rest others short short_too fits fits_too items replies all all_too = absurd cc
by_short k (t ∷ a) (u ∷ b) (Some n) rest others short short_too fits fits_too items replies all all_too =
    let one = is_short (ran_short t.way) (length a) n short in
    let other = is_short (ran_short u.way) (length b) n short_too in
    both_short k rest others t u a b fits fits_too (short_way t.way one.0) (short_way u.way other.0) (one.1 ∙ sym other.1) items replies

pub one_talk : IsOneTalk
one_talk read entries others written other_octets one other replies short =
    let same : one.turns ≡ other.turns =
    by_short (at_state start) one.turns other.turns (short_at other.turns) one.rest other.rest short refl one.fits other.fits (sym one.items ∙ other.items) replies one.all other.all in (
      one.entries_are ∙ (ap (λ l. (talk_from (at_state start) l).entries) same ∙ sym other.entries_are),
      one.written_are ∙ (ap (λ l. (talk_from (at_state start) l).written) same ∙ sym other.written_are),
    )
