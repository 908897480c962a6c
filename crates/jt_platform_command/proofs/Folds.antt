-- What one entry or one report more adds.
use Rattle.std.proofs.lemmas.List.{length-take}
use Rattle.std.proofs.Common.{take, ◌≡◌, ◌≤◌, ◌+◌, ◌++◌, ◌||◌, ℕ, Bool, true, false, if◌then◌else◌, List, [], ◌∷◌, length, Option, Some, None, refl, sym, ap, ◌∙◌, arith}
use Rattle.jt_platform.specs.declared.request.Entry.{Entry}
use Rattle.jt_platform.specs.declared.request.Reply.{Reply as Replied}
use Rattle.jt_session.specs.declared.end.End.{End}
use Rattle.jt_session.specs.declared.report.Report.{Report}
use Rattle.jt_platform_command.specs.Platform.{count_of, some_end, first_limit, limit_in, or_limit}

pub count_snoc : (is_so : Replied → Bool) (xs : List Entry) (x : Entry) → count_of is_so (xs ++ x ∷ []) ≡ count_of is_so xs + (if is_so x.reply then 1 else 0)
count_snoc is_so [] x = omega arith
count_snoc is_so (y ∷ xs) x = let e = count_snoc is_so xs x in omega (arith, e)

one_more : (b : Bool) (n m : ℕ) → n ≤ m → (if b then 1 else 0) + n ≤ m + 1
one_more true n m h = omega (arith, h)
one_more false n m h = omega (arith, h)

pub count_few : (is_so : Replied → Bool) (xs : List Entry) → count_of is_so xs ≤ length xs
count_few is_so [] = omega arith
count_few is_so (y ∷ xs) = let h = one_more (is_so y.reply) (count_of is_so xs) (length xs) (count_few is_so xs) in omega (arith, h)

last : (b : Bool) → (if b then true else false) ≡ (false || b)
last true = refl
last false = refl

next : (a b c : Bool) → (if a then true else (b || c)) ≡ ((if a then true else b) || c)
next true b c = refl
next false b c = refl

pub some_snoc : (is_so : End → Bool) (xs : List Report) (x : Report) → some_end is_so (xs ++ x ∷ []) ≡ (some_end is_so xs || is_so x.end)
some_snoc is_so [] x = last (is_so x.end)
some_snoc is_so (y ∷ xs) x = rw (some_snoc is_so xs x) (next (is_so y.end) (some_end is_so xs) (is_so x.end))

or_none : (a : Option ℕ) → or_limit a None ≡ a
or_none None = refl
or_none (Some limit) = refl

or_or : (a b c : Option ℕ) → or_limit a (or_limit b c) ≡ or_limit (or_limit a b) c
or_or None b c = refl
or_or (Some limit) b c = refl

pub limit_snoc : (xs : List Report) (x : Report) → first_limit (xs ++ x ∷ []) ≡ or_limit (first_limit xs) (limit_in x.end)
limit_snoc [] x = or_none (limit_in x.end)
limit_snoc (y ∷ xs) x = rw (limit_snoc xs x) (or_or (limit_in y.end) (first_limit xs) (limit_in x.end))

-- the same of the front of a list
pub count_more : (is_so : Replied → Bool) (xs : List Entry) (i n : ℕ) (x : Entry) → take (i + 1) xs ≡ take i xs ++ x ∷ [] → n ≡ count_of is_so (take i xs)
    → n + (if is_so x.reply then 1 else 0) ≡ count_of is_so (take (i + 1) xs)
count_more is_so xs i n x more is = ap (λ (m : ℕ). m + (if is_so x.reply then 1 else 0)) is ∙ sym (count_snoc is_so (take i xs) x) ∙ ap (λ (ys : List Entry). count_of is_so ys) (sym more)

pub few_of : (is_so : Replied → Bool) (xs : List Entry) (i n : ℕ) → n ≡ count_of is_so (take i xs) → n ≤ length xs
few_of is_so xs i n is = let few = count_few is_so (take i xs) in omega (arith, few, is, length-take i xs)

pub some_more : (is_so : End → Bool) (xs : List Report) (i : ℕ) (b : Bool) (x : Report) → take (i + 1) xs ≡ take i xs ++ x ∷ [] → b ≡ some_end is_so (take i xs)
    → (b || is_so x.end) ≡ some_end is_so (take (i + 1) xs)
some_more is_so xs i b x more is = ap (λ (a : Bool). a || is_so x.end) is ∙ sym (some_snoc is_so (take i xs) x) ∙ ap (λ (ys : List Report). some_end is_so ys) (sym more)

pub limit_more : (xs : List Report) (i : ℕ) (l : Option ℕ) (x : Report) → take (i + 1) xs ≡ take i xs ++ x ∷ [] → l ≡ first_limit (take i xs)
    → or_limit l (limit_in x.end) ≡ first_limit (take (i + 1) xs)
limit_more xs i l x more is = ap (λ (a : Option ℕ). or_limit a (limit_in x.end)) is ∙ sym (limit_snoc (take i xs) x) ∙ ap first_limit (sym more)
