-- Fixes that are recorded one after the other, as many as there is room for.
use Rattle.std.proofs.Common.{◌≡◌, ℕ, ◌+◌, ◌-◌, ◌<◌, ◌≤◌, ◌^◌, List, [], ◌∷◌, ◌++◌, length, take, get_or, Result, Ok, Err, OnOk, true, false, inl, inr, arith, refl, sym, ap, ◌∙◌, subst}
use Rattle.std.specs.Prelude.{drop, nat_le, nat_lt, min, ◌↔◌}
use Rattle.std.proofs.lemmas.Bool.{le-ltb, leb-true, le-leb, lt-ltb}
use Rattle.std.proofs.lemmas.List.{append-nil, append_assoc, length-append, take_all, take_more}
use Rattle.jt_value.specs.declared.limits.TheConstants.{FIX_LIMIT}
use Rattle.jt_platform.specs.declared.request.Entry.{Entry}
use Rattle.jt_store.specs.Units.{fixes_in}
use Rattle.jt_store.specs.Vaults.{accepted_count}
use Rattle.jt_script.specs.declared.world_event.WorldEvent.TheVariants as line
use Rattle.jt_octets.specs.World.{World}
use Rattle.jt_play.specs.Laws.{RecordsAtMost}
use Rattle.jt_play.specs.Playing.{Play, finds_full, is_opened, records}
use Rattle.jt_play.specs.Scripts.{IsScripted, Names, Scene}
use Rattle.jt_play.specs.declared.error.WorldError.{WorldError}
use Rattle.jt_play.specs.declared.error.WorldError.TheVariants as refused
use Rattle.jt_gateway.specs.World.{fixes_behind}
use Rattle.jt_gateway.specs.Gateway.{GatewayScene, play_with_fixes, room_for, scene_with_fixes, worlds_of}
use Rattle.jt_gateway.specs.Pumping.{EndsAlike, PumpsMost, RecordsFirst, RecordsMost, RecordsOne}
use Rattle.jt_gateway.proofs.Gateways.{records_world}
use Rattle.jt_gateway.proofs.Leaving.{recorded_by}
use Rattle.jt_gateway.proofs.Playing.{same_scene}

-- ---- one fix

pub one_recorded : (old now : Scene) (fix : List ℕ) (r : Result (List Entry) WorldError) (out : Result (Unit {0}) WorldError) → EndsAlike r out
    → (IsScripted old → OnOk r (IsScripted now)) → OnOk r (now.play ≡ records old.play fix) → now.identity ≡ old.identity → OnOk r (now.edition ≡ old.edition)
    → ((number : ℕ) → (r ≡ Err (refused.NoLine number)) ↔ (Names (line.Raw fix) number × (is_opened old.play.world number ≡ false)))
    → ((limit : ℕ) → r ≡ Err (refused.Full limit) → (limit ≡ FIX_LIMIT) × (finds_full FIX_LIMIT old.play (line.Raw fix) ≡ true))
    → OnOk r (finds_full FIX_LIMIT old.play (line.Raw fix) ≡ false)
    → ((error : WorldError) → r ≡ Err error → (error ≡ refused.Memory → ⊥) → now ≡ old)
    → RecordsOne old now fix out
one_recorded old now fix (Ok x) (Ok u) alike scripted play identity edition no_line full room same = (scripted, same_scene now (scene_with_fixes old (fix ∷ [])) play identity edition, room)
one_recorded old now fix (Ok x) (Err e) alike scripted play identity edition no_line full room same = absurd alike
one_recorded old now fix (Err e) (Ok u) alike scripted play identity edition no_line full room same = absurd alike
one_recorded old now fix (Err e) (Err (refused.Full limit)) alike scripted play identity edition no_line full room same =
    let is = ap (λ (x : WorldError). Err x) (sym alike) in
    let f = full limit is in
    (f.0, same (refused.Full limit) is (λ m. absurd cc), f.1)
one_recorded old now fix (Err e) (Err (refused.NoLine number)) alike scripted play identity edition no_line full room same = ((no_line number).0 (ap (λ (x : WorldError). Err x) (sym alike))).0
one_recorded old now fix (Err e) (Err refused.Memory) alike scripted play identity edition no_line full room same = tt

-- ---- many

records_append : (p : Play) (xs ys : List (List ℕ)) → play_with_fixes p (xs ++ ys) ≡ play_with_fixes (play_with_fixes p xs) ys
records_append p [] ys = refl
records_append p (x ∷ xs) ys = records_append (records p x) xs ys

records_more : (p : Play) (fixes : List (List ℕ)) (i : ℕ) (fix : List ℕ) → i < length fixes → fix ≡ get_or fixes i fix → play_with_fixes p (take (i + 1) fixes) ≡ records (play_with_fixes p (take i fixes)) fix
records_more p fixes i fix lt at =
    ap (play_with_fixes p) (take_more fixes i fix lt ∙ ap (λ (x : List ℕ). take i fixes ++ x ∷ []) (sym at)) ∙ records_append p (take i fixes) (fix ∷ [])

recorded_all : (p : Play) (fixes : List (List ℕ)) → length (play_with_fixes p fixes).held.recorded ≡ length p.held.recorded + length fixes
recorded_all p [] = omega arith
recorded_all p (fix ∷ fixes) = let e = recorded_all (records p fix) fixes in let one = length-append p.held.recorded (fix ∷ []) in omega (arith, e, one)

accepted_all : (p : Play) (fixes : List (List ℕ)) → accepted_count (play_with_fixes p fixes).held ≡ accepted_count p.held
accepted_all p [] = refl
accepted_all p (fix ∷ fixes) = accepted_all (records p fix) fixes

-- how much room there is once so many fixes were recorded
room_left : (p : Play) (fixes : List (List ℕ)) → room_for (play_with_fixes p fixes) ≡ room_for p - length fixes
room_left p fixes = let n = recorded_all p fixes in let a = accepted_all p fixes in omega (arith, n, a)

length_take : (n : ℕ) (xs : List (List ℕ)) → n ≤ length xs → length (take n xs) ≡ n
length_take n xs le = let e = Rattle.std.proofs.Common.length-take n xs in omega (arith, e, le)

has_room : (p : Play) (fix : List ℕ) → finds_full FIX_LIMIT p (line.Raw fix) ≡ false → 1 ≤ room_for p
has_room p fix is = let lt : length p.held.recorded - accepted_count p.held < 100000 = unfull is in omega (arith, lt)
  where
    unfull : nat_le 100000 (length p.held.recorded - accepted_count p.held) ≡ false → length p.held.recorded - accepted_count p.held < 100000
    unfull is = Rattle.std.proofs.lemmas.Bool.leb-false 100000 (length p.held.recorded - accepted_count p.held) is

no_room : (p : Play) (fix : List ℕ) → finds_full FIX_LIMIT p (line.Raw fix) ≡ true → room_for p ≡ 0
no_room p fix is = let le : 100000 ≤ length p.held.recorded - accepted_count p.held = leb-true 100000 (length p.held.recorded - accepted_count p.held) is in omega (arith, le)

-- what is known in front of the fix of this place
pub record At (old now : Scene) (fixes : List (List ℕ)) (i : ℕ) : Type 0 where
  pub scripted : IsScripted old → IsScripted now
  pub is : now ≡ scene_with_fixes old (take i fixes)
  pub room : i ≤ room_for old.play

pub at_first : (old : Scene) (fixes : List (List ℕ)) → At old old fixes 0
at_first old fixes = record { scripted = λ s. s; is = refl; room = omega arith }

room_at : (old mid : Scene) (fixes : List (List ℕ)) (i : ℕ) → i < length fixes → At old mid fixes i → room_for mid.play ≡ room_for old.play - i
room_at old mid fixes i lt at = ap (λ (s : Scene). room_for s.play) at.is ∙ (room_left old.play (take i fixes) ∙ ap (λ (n : ℕ). room_for old.play - n) (length_take i fixes (omega (arith, lt))))

pub at_next : (old mid now : Scene) (fixes : List (List ℕ)) (i : ℕ) (fix : List ℕ) (u : Unit {0}) → i < length fixes → fix ≡ get_or fixes i fix → At old mid fixes i → RecordsOne mid now fix (Ok u) → At old now fixes (i + 1)
at_next old mid now fixes i fix u lt is at one = record {
  scripted = λ s. one.0 (at.scripted s);
  is = one.1 ∙ (ap (λ (s : Scene). scene_with_fixes s (fix ∷ [])) at.is ∙ ap (λ (p : Play). record old { play = p }) (sym (records_more old.play fixes i fix lt is)));
  room = let more = has_room mid.play fix one.2 in let e = room_at old mid fixes i lt at in omega (arith, more, e);
}

pub at_end : (old now : Scene) (fixes : List (List ℕ)) (i : ℕ) (u : Unit {0}) → i ≡ length fixes → At old now fixes i → RecordsMost old now fixes (Ok u)
at_end old now fixes i u is at = (at.scripted, at.is ∙ ap (scene_with_fixes old) (ap (λ (n : ℕ). take n fixes) is ∙ take_all (length fixes) fixes (omega arith)), omega (arith, is, at.room))

pub at_error : (old mid now : Scene) (fixes : List (List ℕ)) (i : ℕ) (fix : List ℕ) (e : WorldError) → i < length fixes → At old mid fixes i → RecordsOne mid now fix (Err e) → RecordsMost old now fixes (Err e)
at_error old mid now fixes i fix (refused.Full limit) lt at one =
    let none = no_room mid.play fix one.2 in
    let e = room_at old mid fixes i lt at in
    let all : i ≡ room_for old.play = omega (arith, none, e, at.room) in (
      one.0,
      λ s. subst IsScripted (sym one.1) (at.scripted s),
      one.1 ∙ (at.is ∙ ap (λ (n : ℕ). scene_with_fixes old (take n fixes)) all),
      omega (arith, all, lt),
    )
at_error old mid now fixes i fix (refused.NoLine number) lt at one = one
at_error old mid now fixes i fix refused.Memory lt at one = tt

-- ---- what was recorded, also where that was cut short

recorded_at : (old now : Scene) (fixes : List (List ℕ)) (i : ℕ) → At old now fixes i → now.play.world.terminal.recorded ≡ old.play.world.terminal.recorded ++ take i fixes
recorded_at old now fixes i at =
    ap (λ (s : Scene). s.play.world.terminal.recorded) at.is ∙ (ap (λ (w : World). w.terminal.recorded) (records_world old.play (take i fixes)) ∙ recorded_by (take i fixes) old.play.world)

pub first_at : (old now : Scene) (fixes : List (List ℕ)) (i : ℕ) → At old now fixes i → RecordsFirst old.play.world.terminal.recorded now.play.world.terminal.recorded fixes
first_at old now fixes i at = record { count = i; is = recorded_at old now fixes i at }

pub first_more : (old mid now : Scene) (fixes : List (List ℕ)) (i : ℕ) (fix : List ℕ) → i < length fixes → fix ≡ get_or fixes i fix → At old mid fixes i
    → RecordsAtMost (line.Raw fix) mid.play.world.terminal.recorded now.play.world.terminal.recorded → RecordsFirst old.play.world.terminal.recorded now.play.world.terminal.recorded fixes
first_more old mid now fixes i fix lt is at (inl same) = record { count = i; is = same ∙ recorded_at old mid fixes i at }
first_more old mid now fixes i fix lt is at (inr more) = record {
  count = i + 1;
  is = more ∙ (ap (λ (l : List (List ℕ)). l ++ fix ∷ []) (recorded_at old mid fixes i at)
      ∙ (append_assoc recorded (take i fixes) (fix ∷ []) ∙ ap (λ (l : List (List ℕ)). recorded ++ l) (sym (take_more fixes i fix lt ∙ ap (λ (x : List ℕ). take i fixes ++ x ∷ []) (sym is)))));
}
  where
    recorded : List (List ℕ)
    recorded = old.play.world.terminal.recorded

-- ---- those that are to be passed on

whole_mark : (mark n : ℕ) → mark ≡ min n (2 ^ 64 - 1) → (mark ≡ 2 ^ 64 - 1 → ⊥) → mark ≡ n
whole_mark mark n is apart = grind arith

-- those behind the number that was recorded
pub behind_are : (g : GatewayScene) (mark : ℕ) (fixes : List (List ℕ)) → g.b.play.held.recorded ≡ g.b.play.world.terminal.recorded
    → mark ≡ min (length g.b.play.held.recorded) (2 ^ 64 - 1) → (mark ≡ 2 ^ 64 - 1 → ⊥) → fixes ≡ drop mark (fixes_in g.a.play.world.keeper.rows) → fixes ≡ fixes_behind (worlds_of g)
behind_are g mark fixes held mark_is apart are =
    are ∙ ap (λ (n : ℕ). drop n (fixes_in g.a.play.world.keeper.rows)) (whole_mark mark (length g.b.play.held.recorded) mark_is apart ∙ ap (λ (l : List (List ℕ)). length l) held)

pub pumps : (old : GatewayScene) (b : Scene) (fixes : List (List ℕ)) (r : Result (Unit {0}) WorldError) → fixes ≡ fixes_behind (worlds_of old) → RecordsMost old.b b fixes r → PumpsMost old (record old { b = b }) r
pumps old b fixes r are most = by r (subst (λ (l : List (List ℕ)). RecordsMost old.b b l r) are most)
  where
    by : (x : Result (Unit {0}) WorldError) → RecordsMost old.b b (fixes_behind (worlds_of old)) x → PumpsMost old (record old { b = b }) x
    by (Ok u) m = (
      m.0,
      ap (λ (s : Scene). record old { b = s }) (m.1 ∙ ap (scene_with_fixes old.b) (sym (take_all (room_for old.b.play) (fixes_behind (worlds_of old)) m.2))),
      le-ltb (room_for old.b.play) (length (fixes_behind (worlds_of old))) m.2,
    )
    by (Err (refused.Full limit)) m = (m.0, m.1, ap (λ (s : Scene). record old { b = s }) m.2, lt-ltb (room_for old.b.play) (length (fixes_behind (worlds_of old))) m.3)
    by (Err (refused.NoLine number)) m = m
    by (Err refused.Memory) m = tt
