-- What a pass knows of the desk's history. To be believed.
use Rattle.std.specs.Prelude.{ℕ, List}
use Rattle.jt_turn.specs.declared.entry.Entry.{Entry}
use Rattle.jt_turn.specs.declared.entry.Ended.{Ended}
use Rattle.atomic_table.specs.Seated.{TableId}

-- Which turn it is: two passes are of one turn where these are equal.
abbrev pub TurnId : Type 0
TurnId = TableId

-- turn: which turn it is a pass of. number: whose entries its acts make. opening, base: what no act changes of the desk, and
-- its count of faults, when the turn began. seen: what it has seen, a front of the history. mine: the history's entries of
-- its number. faults: the count when it last acted, or a pass that was joined into it. found, found_faults: the history and the count that its last act found.
-- failed: how many acts raised the count, its own and those of passes that were joined into it. ended: number and entries of
-- each pass that was joined into it, in that order. lent: how many passes it gave that were not joined. given: the greatest
-- number that it gave, at first 0.
pub record PassState (A B O : Type 0) : Type 0 where
  pub turn : TurnId
  pub number : ℕ
  pub opening : O
  pub base : ℕ
  pub seen : List (Entry A B)
  pub mine : List (Entry A B)
  pub faults : ℕ
  pub found : List (Entry A B)
  pub found_faults : ℕ
  pub failed : ℕ
  pub ended : List (Ended A B)
  pub lent : ℕ
  pub given : ℕ
