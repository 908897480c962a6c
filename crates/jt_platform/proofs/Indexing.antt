-- Places that are made in a hub's tables change nothing that they tell.
use Rattle.std.proofs.Common.{List, ◌∙◌}
use Rattle.jt_platform.specs.declared.request.Entry.{Entry}
use Rattle.jt_platform.specs.Index.{Indexed, IsIndex, Keeps}

-- tables that tell the same tell the same history
pub index_kept : (old new : Indexed) (h : List Entry) → Keeps old new → IsIndex old h → IsIndex new h
index_kept old new h keeps is =
    record {
      closes = λ s. keeps.closes s ∙ is.closes s;
      lives = λ key s unclosed. keeps.lives key s ∙ is.lives key s unclosed;
      holders = λ key. keeps.holders key ∙ is.holders key;
    }
