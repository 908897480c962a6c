-- The newest line, read and written, and worlds that differ there.
use Rattle.std.proofs.Common.{ℕ, zero, suc, ◌+◌, ◌<◌, ◌≤◌, ◌≡◌, List, [], ◌∷◌, ◌++◌, length, set, arith, refl, ap, sym, ◌∙◌, subst, append_assoc}
use Rattle.std.specs.List.{flat_map}
use Rattle.std.proofs.lemmas.List.{append-nil, set-get_or, set-set}
use Rattle.jt_octets.specs.World.{Line, line_at, new_line, newest_place, written}
use Rattle.jt_octets.proofs.Exactly.{same_place}
use Rattle.jt_play.proofs.Acting.{wrote_sent}
use Rattle.jt_play.proofs.Cutting.{wrote}
use Rattle.jt_play.proofs.Rounds.{newest_set}
use Rattle.jt_order_octets.specs.World.{OrderWorld}
use Rattle.jt_order_terminal_steps.specs.Standing.{TerminalParts, after_call, line_after_call}

-- no more of the newest line was read than was written
abbrev pub Most : List Line → Type 0
Most lines = (line_at lines (newest_place lines)).down.taken ≤ length (line_at lines (newest_place lines)).down.octets

pub most_after_call : (lines : List Line) (count : ℕ) (frames : List (List ℕ)) → (let x = line_at lines (newest_place lines) in x.down.taken + count ≤ length x.down.octets) → Most (set lines (newest_place lines) (line_after_call (line_at lines (newest_place lines)) count frames))
most_after_call [] count frames few = omega arith
most_after_call (line ∷ lines) count frames few =
    let all = line ∷ lines in
    subst (λ (l : Line). l.down.taken ≤ length l.down.octets) (sym (newest_set all (line_after_call (line_at all (newest_place all)) count frames) (omega arith))) few

-- the newest line is replaced twice
set_twice : (lines : List Line) (x : Line) (f : Line → Line) → 0 < length lines
    → (let mid = set lines (newest_place lines) x in set mid (newest_place mid) (f (line_at mid (newest_place mid)))) ≡ set lines (newest_place lines) (f x)
set_twice lines x f some =
    let n = newest_place lines in
    let mid = set lines n x in
    ap (λ (line : Line). set mid (newest_place mid) (f line)) (newest_set lines x some)
    ∙ (ap (λ (k : ℕ). set mid k (f x)) (same_place lines n x) ∙ set-set lines n x (f x))

-- frames go up the newest line
pub wrote_set : (lines : List Line) (x : Line) (frames : List (List ℕ)) → 0 < length lines
    → wrote (set lines (newest_place lines) x) frames ≡ set lines (newest_place lines) (record x { up = written x.up (flat_map (λ (frame : List ℕ). frame) frames) })
wrote_set lines x frames some = wrote_sent (set lines (newest_place lines) x) frames ∙ set_twice lines x (λ (line : Line). record line { up = written line.up (flat_map (λ (frame : List ℕ). frame) frames) }) some

none_more : (line : Line) (n : ℕ) → n ≡ line.down.taken → (record line { down = record line.down { taken = n } }) ≡ line
none_more line n e = ap (λ (k : ℕ). record line { down = record line.down { taken = k } }) e

-- where nothing more is read
pub line_after_none : (line : Line) (frames : List (List ℕ)) → line_after_call line 0 frames ≡ record line { up = written line.up (flat_map (λ (frame : List ℕ). frame) frames) }
line_after_none line frames = none_more (record line { up = written line.up (flat_map (λ (frame : List ℕ). frame) frames) }) (line.down.taken + 0) (omega arith)

pub wrote_line : (lines : List Line) (frames : List (List ℕ)) → wrote lines frames ≡ set lines (newest_place lines) (line_after_call (line_at lines (newest_place lines)) 0 frames)
wrote_line lines frames = wrote_sent lines frames ∙ ap (set lines (newest_place lines)) (sym (line_after_none (line_at lines (newest_place lines)) frames))

-- where nothing was read or written
pub line_after_nothing : (line : Line) → line_after_call line 0 [] ≡ line
line_after_nothing line = line_after_none line [] ∙ ap (λ (octets : List ℕ). record line { up = record line.up { octets = octets } }) (append-nil line.up.octets)

pub lines_nothing : (lines : List Line) → set lines (newest_place lines) (line_after_call (line_at lines (newest_place lines)) 0 []) ≡ lines
lines_nothing lines = ap (set lines (newest_place lines)) (line_after_nothing (line_at lines (newest_place lines))) ∙ set-get_or lines (newest_place lines) new_line

flat_both : (a b : List (List ℕ)) → flat_map (λ (frame : List ℕ). frame) (a ++ b) ≡ flat_map (λ (frame : List ℕ). frame) a ++ flat_map (λ (frame : List ℕ). frame) b
flat_both [] b = refl
flat_both (frame ∷ a) b = ap (λ (z : List ℕ). frame ++ z) (flat_both a b) ∙ sym (append_assoc frame (flat_map (λ (frame : List ℕ). frame) a) (flat_map (λ (frame : List ℕ). frame) b))

-- read and written twice
line_after_both : (line : Line) (n k : ℕ) (a b : List (List ℕ)) → line_after_call (line_after_call line n a) k b ≡ line_after_call line (n + k) (a ++ b)
line_after_both line n k a b =
    ap (λ (z : List ℕ). record line { up = record line.up { octets = z }; down = record line.down { taken = (line.down.taken + n) + k } })
    (append_assoc line.up.octets (flat_map (λ (frame : List ℕ). frame) a) (flat_map (λ (frame : List ℕ). frame) b) ∙ ap (λ (z : List ℕ). line.up.octets ++ z) (sym (flat_both a b)))
    ∙ ap (λ (m : ℕ). record line { up = written line.up (flat_map (λ (frame : List ℕ). frame) (a ++ b)); down = record line.down { taken = m } }) (let e : (line.down.taken + n) + k ≡ line.down.taken + (n + k) = omega arith in e)

lines_twice : (lines : List Line) (n k : ℕ) (a b : List (List ℕ))
    → (let mid = set lines (newest_place lines) (line_after_call (line_at lines (newest_place lines)) n a) in set mid (newest_place mid) (line_after_call (line_at mid (newest_place mid)) k b))
    ≡ set lines (newest_place lines) (line_after_call (line_at lines (newest_place lines)) (n + k) (a ++ b))
lines_twice [] n k a b = refl
lines_twice (line ∷ lines) n k a b =
    let all = line ∷ lines in
    let x = line_at all (newest_place all) in
    set_twice all (line_after_call x n a) (λ (z : Line). line_after_call z k b) (omega arith) ∙ ap (set all (newest_place all)) (line_after_both x n k a b)

-- one world behind another
pub behind_both : (w : OrderWorld) (s t : TerminalParts) (n k : ℕ) (a b : List (List ℕ)) (x y : List ℕ) → after_call (after_call w s n a x) t k b y ≡ after_call w t (n + k) (a ++ b) (y ++ x)
behind_both w s t n k a b x y =
    ap (λ (lines : List Line). record (after_call w t (n + k) (a ++ b) (y ++ x)) { base = record (after_call w t (n + k) (a ++ b) (y ++ x)).base { lines = lines; told = y ++ (x ++ w.base.told) } }) (lines_twice w.base.lines n k a b)
    ∙ ap (λ (told : List ℕ). record (after_call w t (n + k) (a ++ b) (y ++ x)) { base = record (after_call w t (n + k) (a ++ b) (y ++ x)).base { told = told } }) (sym (append_assoc y x w.base.told))
