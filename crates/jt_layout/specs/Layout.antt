-- Layouts of message bodies: what octets a value has, what octets are refused, and with which reason. To be believed. `read` says
-- the same as a function; the law of layouts shows that its values are those that fit and its reasons those that refuse.
use Rattle.std.specs.Prelude.{◌≡◌, ℕ, zero, suc, ◌+◌, ◌-◌, ◌*◌, ◌^◌, ◌<◌, ◌≤◌, Bool, true, false, ◌⊎◌, List, [], ◌∷◌, ◌++◌, length, take, drop, Option, Some, None, Result, Ok, Err, nat_lt, IsSomeAnd, IfSome, if◌then◌else◌}
use Rattle.std.specs.List.{flat_map, AllByRecursion}
use Rattle.std.specs.Int.{Width, w8, w16, w32, byte_len, from_be_bytes, to_be_bytes}
use Rattle.jt_value.specs.Octets.{AreOctets}
use Rattle.jt_value.specs.declared.refusal.Refusal.{Refusal}
use Rattle.jt_value.specs.declared.refusal.Why.TheVariants as why

-- a field that begins at p passes the end
abbrev pub truncated : ℕ → Refusal
truncated p = record { at = 0; inside = p; why = why.Truncated }

-- the count at p is not that of the words behind it
abbrev pub bad_count : ℕ → Refusal
bad_count p = record { at = 0; inside = p; why = why.BadCount }

-- the layout ends at p before the octets do
abbrev pub trailing : ℕ → Refusal
trailing p = record { at = 0; inside = p; why = why.Trailing }

infixl 10 ◌>>=◌
abbrev pub ◌>>=◌ : {A B : Type 0} → Result A Refusal → (A → Result B Refusal) → Result B Refusal
(Ok x) >>= f = f x
(Err e) >>= f = Err e

-- Some fields in a row, from a place on. Their lengths are fixed or follow from the fields before.
pub record Part (A : Type 0) : Type 1 where
  -- the octets of a value, its fields in order
  pub spell : A → List ℕ
  -- the values that have octets
  pub Fits : A → Type 0
  -- from place p on, the octets s are refused as r
  pub Refuses : List ℕ → ℕ → Refusal → Type 0
  -- the value from place p on, and the place behind it; or the first reason
  pub read : List ℕ → ℕ → Result (A × ℕ) Refusal

-- A layout up to the end of the octets.
pub record Body (A : Type 0) : Type 1 where
  pub spell : A → List ℕ
  pub Fits : A → Type 0
  pub Refuses : List ℕ → ℕ → Refusal → Type 0
  pub read : List ℕ → ℕ → Result A Refusal

-- In s the fields from p up to q are those of a.
pub record Stands {A : Type 0} (f : Part A) (s : List ℕ) (p : ℕ) (a : A) (q : ℕ) : Type 0 where
  pub fits : f.Fits a
  pub parts : drop p s ≡ f.spell a ++ drop q s
  pub ends : q ≡ p + length (f.spell a)
  pub within : q ≤ length s

-- From p up to the end, s is a.
pub record Fills {A : Type 0} (b : Body A) (s : List ℕ) (p : ℕ) (a : A) : Type 0 where
  pub fits : b.Fits a
  pub parts : drop p s ≡ b.spell a

-- ---- fields

-- n octets
unfoldable pub octets_of : ℕ → Part (List ℕ)
octets_of n = record {
  spell = λ v. v;
  Fits = λ v. (length v ≡ n) × AreOctets v;
  Refuses = λ s p r. (length s < p + n) × (r ≡ truncated p);
  read = λ s p. if nat_lt (length s) (p + n) then Err (truncated p) else Ok (take n (drop p s), p + n);
}

-- a number in big-endian octets
unfoldable pub number : Width → Part ℕ
number w = record {
  spell = λ n. to_be_bytes w n;
  Fits = λ n. n < 2 ^ (8 * byte_len w);
  Refuses = λ s p r. (length s < p + byte_len w) × (r ≡ truncated p);
  read = λ s p. if nat_lt (length s) (p + byte_len w) then Err (truncated p) else Ok (from_be_bytes w (take (byte_len w) (drop p s)), p + byte_len w);
}

abbrev pub byte : Part ℕ
byte = number w8

abbrev pub word : Part ℕ
word = number w16

abbrev pub dword : Part ℕ
dword = number w32

-- ---- fields in a row

-- f, and then the fields that its value determines
infixr 5 ◌▹◌
abbrev pub ◌▹◌ : {A B : Type 0} → Part A → (A → Part B) → Part (A × B)
f ▹ g = record {
  spell = λ x. f.spell x.0 ++ (g x.0).spell x.1;
  Fits = λ x. f.Fits x.0 × (g x.0).Fits x.1;
  Refuses = λ s p r. f.Refuses s p r ⊎ ((a : _) × (q : ℕ) × Stands f s p a q × (g a).Refuses s q r);
  read = λ s p. f.read s p >>= λ x. (g x.0).read s x.1 >>= λ y. Ok ((x.0, y.0), y.1);
}

-- f, and then the body that its value determines
infixr 5 ◌▸◌
abbrev pub ◌▸◌ : {A B : Type 0} → Part A → (A → Body B) → Body (A × B)
f ▸ g = record {
  spell = λ x. f.spell x.0 ++ (g x.0).spell x.1;
  Fits = λ x. f.Fits x.0 × (g x.0).Fits x.1;
  Refuses = λ s p r. f.Refuses s p r ⊎ ((a : _) × (q : ℕ) × Stands f s p a q × (g a).Refuses s q r);
  read = λ s p. f.read s p >>= λ x. (g x.0).read s x.1 >>= λ y. Ok (x.0, y);
}

-- nothing is left at p
unfoldable pub at_end : List ℕ → ℕ → Result (Unit {0}) Refusal
at_end s p = if nat_lt p (length s) then Err (trailing p) else Ok tt

-- f, and then the end
abbrev pub ended : {A : Type 0} → Part A → Body A
ended f = record {
  spell = f.spell;
  Fits = f.Fits;
  Refuses = λ s p r. f.Refuses s p r ⊎ ((a : _) × (q : ℕ) × Stands f s p a q × (q < length s) × (r ≡ trailing q));
  read = λ s p. f.read s p >>= λ x. at_end s x.1 >>= λ _. Ok x.0;
}

-- all octets up to the end
unfoldable pub rest : Body (List ℕ)
rest = record {
  spell = λ v. v;
  Fits = AreOctets;
  Refuses = λ s p r. ⊥;
  read = λ s p. Ok (drop p s);
}

-- no fields
abbrev pub empty : Body (Unit {0})
empty = record {
  spell = λ u. [];
  Fits = λ u. Unit {0};
  Refuses = λ s p r. (p < length s) × (r ≡ trailing p);
  read = at_end;
}

-- no octets up to the end
abbrev pub nothing : Body (List ℕ)
nothing = record {
  spell = λ v. v;
  Fits = λ v. v ≡ [];
  Refuses = λ s p r. (p < length s) × (r ≡ trailing p);
  read = λ s p. at_end s p >>= λ _. Ok [];
}

-- one of two layouts, by a test
abbrev pub if_body : {A : Type 0} → Bool → Body A → Body A → Body A
if_body true f g = f
if_body false f g = g

-- all octets up to the end if a test holds, and otherwise none
abbrev pub rest_if : Bool → Body (List ℕ)
rest_if b = if_body b rest nothing

-- ---- the same fields, seen as a value of another type

-- the same fields, their values seen by `to`, and given back by `from`
abbrev pub part_as : {A B : Type 0} → Part A → (A → B) → (B → A) → Part B
part_as f to from = record {
  spell = λ b. f.spell (from b);
  Fits = λ b. f.Fits (from b);
  Refuses = f.Refuses;
  read = λ s p. f.read s p >>= λ x. Ok (to x.0, x.1);
}

-- the same for a body
abbrev pub body_as : {A B : Type 0} → Body A → (A → B) → (B → A) → Body B
body_as f to from = record {
  spell = λ b. f.spell (from b);
  Fits = λ b. f.Fits (from b);
  Refuses = f.Refuses;
  read = λ s p. f.read s p >>= λ x. Ok (to x);
}

-- the same with the values that fit named: where several values would have the same fields
abbrev pub part_typed : {A B : Type 0} → Part A → (A → B) → (B → A) → (B → Type 0) → Part B
part_typed f to from fits = record {
  spell = λ b. f.spell (from b);
  Fits = fits;
  Refuses = f.Refuses;
  read = λ s p. f.read s p >>= λ x. Ok (to x.0, x.1);
}

-- one case of an enum
abbrev pub spell_case : {A : Type 0} → (A → List ℕ) → Option A → List ℕ
spell_case spell None = []
spell_case spell (Some a) = spell a

abbrev pub body_case : {A B : Type 0} → Body A → (A → B) → (B → Option A) → Body B
body_case f make case_of = record {
  spell = λ m. spell_case f.spell (case_of m);
  Fits = λ m. IsSomeAnd (case_of m) f.Fits;
  Refuses = f.Refuses;
  read = λ s p. f.read s p >>= λ x. Ok (make x);
}

-- what was read, unless a test of all octets gave a reason
abbrev pub unless : {A : Type 0} → Option Refusal → Result A Refusal → Result A Refusal
unless None read = read
unless (Some r) read = Err r

-- ---- lists of fields

-- what reads from a place on
abbrev pub Reading : Type 0 → Type 0
Reading A = List ℕ → ℕ → Result (A × ℕ) Refusal

-- n times the same fields
unfoldable pub read_times : {A : Type 0} → Reading A → ℕ → List ℕ → ℕ → Result (List A × ℕ) Refusal
read_times read zero s p = Ok ([], p)
read_times read (suc n) s p = read s p >>= λ x. read_times read n s x.1 >>= λ xs. Ok (x.0 ∷ xs.0, xs.1)

-- What a list of parts spells, and which lists fit. It serves to say that a list stands in octets, and stands in no layout,
-- since it reads nothing.
abbrev pub list_of : {A : Type 0} → Part A → Part (List A)
list_of f = record {
  spell = flat_map f.spell;
  Fits = AllByRecursion f.Fits;
  Refuses = λ s p r. ⊥;
  read = λ s p. Ok ([], p);
}

abbrev pub times : {A : Type 0} → ℕ → Part A → Part (List A)
times n f = record {
  spell = flat_map f.spell;
  Fits = λ xs. (length xs ≡ n) × AllByRecursion f.Fits xs;
  Refuses = λ s p r. (xs : _) × (q : ℕ) × Stands (list_of f) s p xs q × (length xs < n) × f.Refuses s q r;
  read = read_times f.read n;
}

-- as many as are there up to the end; each takes an octet or more, so that n is never too small
unfoldable pub read_all : {A : Type 0} → Reading A → ℕ → List ℕ → ℕ → Result (List A) Refusal
read_all read zero s p = Ok []
read_all read (suc n) s p = if nat_lt p (length s) then (read s p >>= λ x. read_all read n s x.1 >>= λ xs. Ok (x.0 ∷ xs)) else Ok []

-- the same
unfoldable pub read_to_the_end : {A : Type 0} → Reading A → List ℕ → ℕ → Result (List A) Refusal
read_to_the_end read s p = read_all read (length s - p) s p

abbrev pub to_the_end : {A : Type 0} → Part A → Body (List A)
to_the_end f = record {
  spell = flat_map f.spell;
  Fits = AllByRecursion f.Fits;
  Refuses = λ s p r. (xs : _) × (q : ℕ) × Stands (list_of f) s p xs q × (q < length s) × f.Refuses s q r;
  read = read_to_the_end f.read;
}

-- ---- fields of a stated length

-- a body that ends n octets on
abbrev pub within : {A : Type 0} → ℕ → Body A → Part A
within n b = record {
  spell = b.spell;
  Fits = λ a. b.Fits a × (length (b.spell a) ≡ n);
  Refuses = λ s p r. ((length s < p + n) × (r ≡ truncated p)) ⊎ ((p + n ≤ length s) × b.Refuses (take (p + n) s) p r);
  read = λ s p. if nat_lt (length s) (p + n) then Err (truncated p) else (b.read (take (p + n) s) p >>= λ a. Ok (a, p + n));
}

-- a length, and a body of that length
abbrev pub sized : {A : Type 0} → Part ℕ → Body A → Part A
sized lens b = part_as (lens ▹ λ n. within n b) (λ x. x.1) (λ a. (length (b.spell a), a))

-- a length, and that many octets
abbrev pub block : Part ℕ → Part (List ℕ)
block lens = part_as (lens ▹ λ n. octets_of n) (λ x. x.1) (λ v. (length v, v))

-- a count, and that many
abbrev pub counted : {A : Type 0} → Part ℕ → Part A → Part (List A)
counted count f = part_as (count ▹ λ n. times n f) (λ x. x.1) (λ xs. (length xs, xs))

-- fields that are there only if a test holds
abbrev pub spell_option : {A : Type 0} → Part A → Option A → List ℕ
spell_option f None = []
spell_option f (Some a) = f.spell a

unfoldable pub only_if : {A : Type 0} → Bool → Part A → Part (Option A)
only_if true f = record {
  spell = spell_option f;
  Fits = λ o. IsSomeAnd o f.Fits;
  Refuses = f.Refuses;
  read = λ s p. f.read s p >>= λ x. Ok (Some x.0, x.1);
}
only_if false f = record {
  spell = λ o. [];
  Fits = λ o. o ≡ None;
  Refuses = λ s p r. ⊥;
  read = λ s p. Ok (None, p);
}

-- fields that may be missing at the end
abbrev pub may_end : {A : Type 0} → Part A → Body (Option A)
may_end f = record {
  spell = spell_option f;
  Fits = λ o. IfSome o f.Fits;
  Refuses = λ s p r. (p < length s) × (ended f).Refuses s p r;
  read = λ s p. if nat_lt p (length s) then ((ended f).read s p >>= λ a. Ok (Some a)) else Ok None;
}
