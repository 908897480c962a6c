-- What a run says of fronts that leave the input open, by a weaker word for 'open'.
use Rattle.std.proofs.Common.{ℕ, List, Option}
use Rattle.jt_input.specs.Answer.{ReadsNoFurther, PrintsTaken, StopsAtWrite}
use Rattle.jt_input.specs.Reply.{Reply}

module _ (Open Weaker : List ℕ → List ℕ → Type 0) (opened : (front text : List ℕ) → Open front text → Weaker front text) where
  pub reads_opened : (size : ℕ) (left left_now : Option (List ℕ)) → ReadsNoFurther Open size left left_now → ReadsNoFurther Weaker size left left_now
  reads_opened size left left_now reads =
      record { front = reads.front; last = reads.last; text = reads.text; consumed = reads.consumed; few = reads.few; open_before = opened reads.front reads.text reads.open_before }

  pub prints_opened : (left left_now old now : Option (List ℕ)) → PrintsTaken Open left left_now old now → PrintsTaken Weaker left left_now old now
  prints_opened left left_now old now prints =
      record { taken = prints.taken; text = prints.text; consumed = prints.consumed; writes = prints.writes; open_behind = opened prints.taken prints.text prints.open_behind }

  pub stops_opened : (answer : List ℕ → Reply) (size : ℕ) (left left_now old now : Option (List ℕ)) → StopsAtWrite answer Open size left left_now old now
      → StopsAtWrite answer Weaker size left left_now old now
  stops_opened answer size left left_now old now stops = record {
    front = stops.front;
    last = stops.last;
    text = stops.text;
    consumed = stops.consumed;
    few = stops.few;
    open_before = opened stops.front stops.text stops.open_before;
    part = stops.part;
    beyond = stops.beyond;
    of_answer = stops.of_answer;
    writes = stops.writes;
  }
