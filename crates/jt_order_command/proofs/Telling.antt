-- How the text of what happened to orders grows.
use Rattle.std.proofs.Common.{◌≡◌, ℕ, ◌+◌, ◌<◌, List, ◌++◌, ◌∷◌, length, drop, get_or, ap, sym, ◌∙◌, append_assoc}
use Rattle.std.proofs.lemmas.List.{drop-drop, drop_more}
use Rattle.jt_order.specs.declared.performed.Performed.{Performed}
use Rattle.jt_order_command.specs.Texts.{answered_text, orders_text, performed_text}

-- the text of the orders from one on is that of the one and of those behind it
pub one_more : (before number : ℕ) (log : List Performed) (results : List ℕ) (performed : Performed) → number < length log → performed ≡ get_or log number performed
    → orders_text before number (drop number log) (drop number results)
    ≡ (performed_text before number performed ++ answered_text number (drop number results)) ++ orders_text before (number + 1) (drop (number + 1) log) (drop (number + 1) results)
one_more before number log results performed lt is =
    ap (λ (l : List Performed). orders_text before number l (drop number results)) (drop_more log number performed lt ∙ ap (λ (p : Performed). p ∷ drop (number + 1) log) (sym is))
    ∙ ap (λ (r : List ℕ). (performed_text before number performed ++ answered_text number (drop number results)) ++ orders_text before (number + 1) (drop (number + 1) log) r) (drop-drop 1 number results)

-- a text, and what is yet to be put behind it, where some of that was put
pub put_one : (text one rest whole text_now : List ℕ) (all : List ℕ) → all ≡ one ++ rest → text ++ all ≡ whole → text_now ≡ text ++ one → text_now ++ rest ≡ whole
put_one text one rest whole text_now all parts same now =
    ap (λ (t : List ℕ). t ++ rest) now ∙ (append_assoc text one rest ∙ (sym (ap (λ (t : List ℕ). text ++ t) parts) ∙ same))
