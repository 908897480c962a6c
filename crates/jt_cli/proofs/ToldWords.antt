-- What the words of `report` tell, where they were found.
use Rattle.std.proofs.Common.{◌≡◌, ℕ, List, Option, Some, None, IfSome, MatchOption, subst}
use Rattle.jt_report_command.specs.ReportWords.{ReportValues, AreWords as AreReportWords}
use Rattle.jt_report_command.specs.Telling.{values_in_words}
use Rattle.jt_report_command.specs.declared.report_words.ReportWords.{ReportWords}

pub is_told : (words : List (List ℕ)) (found : Option ReportWords) (told : ReportWords) → found ≡ Some told
    → IfSome found (λ t. AreReportWords (values_in_words t) words) → AreReportWords (values_in_words told) words
is_told words found told is are = subst (λ (f : Option ReportWords). IfSome f (λ t. AreReportWords (values_in_words t) words)) is are

pub same_told : (found : Option ReportWords) (words : ReportWords) (told : ReportValues) → found ≡ Some words
    → MatchOption found ⊥ (λ t. values_in_words t ≡ told) → values_in_words words ≡ told
same_told found words told is that = subst (λ (f : Option ReportWords). MatchOption f ⊥ (λ t. values_in_words t ≡ told)) is that

pub no_told : (found : Option ReportWords) (told : ReportValues) → found ≡ None → MatchOption found ⊥ (λ t. values_in_words t ≡ told) → ⊥
no_told found told is that = subst (λ (f : Option ReportWords). MatchOption f ⊥ (λ t. values_in_words t ≡ told)) is that
