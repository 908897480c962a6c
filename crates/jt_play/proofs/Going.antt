-- Fixes that go by, and those of them behind so many.
use Rattle.std.proofs.Common.{◌≡◌, ℕ, zero, suc, ◌+◌, ◌-◌, ◌<◌, ◌≤◌, List, [], ◌∷◌, ◌++◌, length, get_or, map, take, arith, refl, sym, ap, ◌∙◌, subst}
use Rattle.std.specs.Prelude.{drop}
use Rattle.std.proofs.lemmas.Grind.{flat_map-append}
use Rattle.std.proofs.lemmas.List.{append-nil, append_assoc, drop_all, length-append, map-append, take_more}
use Rattle.jt_position.specs.Fixes.{fixes, fixes_of}
use Rattle.jt_store.specs.Units.{carried, fixes_in}
use Rattle.jt_store.specs.declared.row.Row.{Row}
use Rattle.jt_relay.proofs.Noting.{drop_both}
use Rattle.jt_play.specs.Behind.{went_by}
use Rattle.jt_play.specs.declared.behind.Behind.{Behind}

less : (a b c : ℕ) → (a - b) - c ≡ a - (b + c)
less a b c = omega arith

by_both : (b : Behind) (xs ys : List (List ℕ)) → went_by (went_by b xs) ys ≡ went_by b (xs ++ ys)
by_both b xs ys =
    let left : (b.left - length xs) - length ys ≡ b.left - length (xs ++ ys) = less b.left (length xs) (length ys) ∙ ap (λ (n : ℕ). b.left - n) (sym (length-append xs ys)) in
    let taken : (b.fixes ++ drop b.left xs) ++ drop (b.left - length xs) ys ≡ b.fixes ++ drop b.left (xs ++ ys) =
    append_assoc b.fixes (drop b.left xs) (drop (b.left - length xs) ys) ∙ ap (λ (l : List (List ℕ)). b.fixes ++ l) (sym (drop_both b.left xs ys)) in
    ap (λ (n : ℕ). record { left = n; fixes = (b.fixes ++ drop b.left xs) ++ drop (b.left - length xs) ys }) left
    ∙ ap (λ (l : List (List ℕ)). record { left = b.left - length (xs ++ ys); fixes = l }) taken

-- these are passed over, all of them
pub by_passed : (b : Behind) (xs : List (List ℕ)) (n : ℕ) → n ≡ length xs → n ≤ b.left → ◌≡◌ {A = Behind} (record { left = b.left - n; fixes = b.fixes }) (went_by b xs)
by_passed b xs n is le =
    ap (λ (m : ℕ). record { left = b.left - m; fixes = b.fixes }) is
    ∙ ap (λ (l : List (List ℕ)). record { left = b.left - length xs; fixes = l }) (sym (ap (λ (l : List (List ℕ)). b.fixes ++ l) (drop_all b.left xs (subst (λ (m : ℕ). m ≤ b.left) is le)) ∙ append-nil b.fixes))

-- nothing, and one fix that is passed over, and one that is taken
pub by_none : (b : Behind) → b ≡ went_by b []
by_none b = let same : b.left ≡ b.left - 0 = omega arith in ap (λ (n : ℕ). record { left = n; fixes = b.fixes }) same ∙ by_passed b [] 0 refl (omega arith)

pub by_over : (b : Behind) (fix : List ℕ) → 0 < b.left → ◌≡◌ {A = Behind} (record { left = b.left - 1; fixes = b.fixes }) (went_by b (fix ∷ []))
by_over b fix some = by_passed b (fix ∷ []) 1 refl (omega (arith, some))

pub by_taken : (b : Behind) (fix : List ℕ) → b.left ≡ 0 → ◌≡◌ {A = Behind} (record { left = b.left; fixes = b.fixes ++ fix ∷ [] }) (went_by b (fix ∷ []))
by_taken b fix none = subst (λ (n : ℕ). ◌≡◌ {A = Behind} (record { left = n; fixes = b.fixes ++ fix ∷ [] }) (record { left = n - 1; fixes = b.fixes ++ drop n (fix ∷ []) })) (sym none) refl

-- one fix more, and those of one row more
pub by_one : (b : Behind) (xs : List (List ℕ)) (x : List ℕ) → went_by b (xs ++ x ∷ []) ≡ went_by (went_by b xs) (x ∷ [])
by_one b xs x = sym (by_both b xs (x ∷ []))

fixes_both : (rows more : List Row) → fixes_in (rows ++ more) ≡ fixes_in rows ++ fixes_in more
fixes_both rows more = ap fixes (map-append carried rows more) ∙ flat_map-append fixes_of (map carried rows) (map carried more)

by_row : (b : Behind) (rows : List Row) (row : Row) → went_by b (fixes_in (rows ++ row ∷ [])) ≡ went_by (went_by b (fixes_in rows)) (fixes_of (row.id, row.body))
by_row b rows row =
    ap (went_by b) (fixes_both rows (row ∷ []) ∙ ap (λ (l : List (List ℕ)). fixes_in rows ++ l) (append-nil (fixes_of (carried row))))
    ∙ sym (by_both b (fixes_in rows) (fixes_of (carried row)))

pub by_row_more : (b mid now : Behind) (rows : List Row) (i : ℕ) (row : Row) → i < length rows → row ≡ get_or rows i row → mid ≡ went_by b (fixes_in (take i rows)) → now ≡ went_by mid (fixes_of (row.id, row.body))
    → now ≡ went_by b (fixes_in (take (i + 1) rows))
by_row_more b mid now rows i row lt at before is =
    is ∙ (ap (λ (m : Behind). went_by m (fixes_of (row.id, row.body))) before
    ∙ (sym (by_row b (take i rows) row) ∙ ap (λ (l : List Row). went_by b (fixes_in l)) (sym (take_more rows i row lt ∙ ap (λ (r : Row). take i rows ++ r ∷ []) (sym at)))))
