-- What a splitter tells of the octets that it took, as an entry.
use Rattle.std.proofs.Common.{◌≡◌, ℕ, List, [], ◌∷◌, ◌++◌, Some, Result, Ok, Err, refl, ap, ◌∙◌, sym, append-nil}
use Rattle.std.specs.Prelude.{IfOk}
use Rattle.jt_value.specs.declared.memory.Memory.{Memory}
use Rattle.jt_escape.specs.Scan.{State}
use Rattle.jt_escape.specs.Splitter.{split_events_in_place}
use Rattle.jt_escape.specs.declared.splitter.Split.{Split}
use Rattle.jt_stream.specs.Item.{Item, AreItemsOf}
use Rattle.jt_view.specs.declared.judged.Judged.{Judged}
use Rattle.jt_view.specs.Entry.{entry_of, line_of}
use Rattle.jt_view.specs.Reporting.{IsTold, JudgesTold, ViewsEntry, ViewsTold, judged}

-- one item is told
told_item : (split : Split) (state : State) (taken : List ℕ) (one : Item) → AreItemsOf (split_events_in_place split state taken) (one ∷ []) → IsTold split state taken (Some (entry_of one))
told_item split state taken one each = record { items = one ∷ []; each = each; entry_is = refl }

pub judges_item : (split : Split) (state : State) (taken : List ℕ) (one : Item) (judgement : Judged) → AreItemsOf (split_events_in_place split state taken) (one ∷ [])
    → judgement ≡ judged (Some (entry_of one)) → JudgesTold split state taken judgement
judges_item split state taken one judgement each is = record { entry = Some (entry_of one); told = told_item split state taken one each; judgement_is = is }

pub views_item : (split : Split) (state : State) (taken : List ℕ) (one : Item) (judgement : Judged) (text text_now : List ℕ) → AreItemsOf (split_events_in_place split state taken) (one ∷ [])
    → ViewsEntry (entry_of one) judgement text text_now → ViewsTold split state taken judgement text text_now
views_item split state taken one judgement text text_now each views = record {
  entry = Some (entry_of one);
  told = told_item split state taken one each;
  judgement_is = views.judgement_is;
  text_is = views.text_is ∙ ap (λ (line : List ℕ). text ++ line) (sym (append-nil (line_of (entry_of one))));
}

-- unless memory was wanted
pub judges_body : (split : Split) (state : State) (taken : List ℕ) (one : Item) (result : Result Judged Memory) → AreItemsOf (split_events_in_place split state taken) (one ∷ [])
    → IfOk result (λ judgement. judgement ≡ judged (Some (entry_of one))) → IfOk result (JudgesTold split state taken)
judges_body split state taken one (Ok judgement) each is = judges_item split state taken one judgement each is
judges_body split state taken one (Err e) each is = tt

pub views_body : (split : Split) (state : State) (taken : List ℕ) (one : Item) (result : Result Judged Memory) (text text_now : List ℕ) → AreItemsOf (split_events_in_place split state taken) (one ∷ [])
    → IfOk result (λ judgement. ViewsEntry (entry_of one) judgement text text_now) → IfOk result (λ judgement. ViewsTold split state taken judgement text text_now)
views_body split state taken one (Ok judgement) text text_now each views = views_item split state taken one judgement text text_now each views
views_body split state taken one (Err e) text text_now each views = tt
