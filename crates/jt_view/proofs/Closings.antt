-- What closes a report.
use Rattle.std.proofs.Common.{◌≡◌, ℕ, ◌+◌, ◌==◌, cond, List, [], ◌∷◌, ◌++◌, Option, Some, None, refl, sym, ◌∙◌, arith, append_assoc, append-nil}
use Rattle.std.proofs.lemmas.List.Concat.{flat_map-append}
use Rattle.jt_value.specs.declared.refusal.Refusal.{Refusal}
use Rattle.jt_escape.specs.Scan.{end_of_stream}
use Rattle.jt_view.specs.declared.command.Report.{Report}
use Rattle.jt_view.specs.declared.command.Report.TheVariants.{View, Check}
use Rattle.jt_view.specs.declared.closing.Closing.TheVariants.{Whole, TooLong, HexRefused}
use Rattle.jt_input.specs.declared.status.Status.TheVariants as status
use Rattle.jt_view.specs.Entry.{Entry, Frame, Refused, line_of, lines, entries_of, end_entries, frames, refusals, first_refusal}
use Rattle.jt_text.specs.Refusals.{refusal_line}
use Rattle.jt_view.specs.Line.{counts_line, ok_line, too_long_line, hex_refused_line}
use Rattle.jt_view.specs.Report.{view_text, check_text}
use Rattle.jt_view.specs.Reporting.{Tally, CountsEntries, Closes}
use Rattle.jt_view.proofs.Counting.{frames-append, refusals-append}
use Rattle.jt_view.proofs.EntriesTold.{first_refusal-append}

-- the refusal of an end is no frame
frames-end : (end : Option Refusal) → frames (end_entries end) ≡ 0
frames-end None = refl
frames-end (Some refusal) = refl

no_refusals : (entries : List Entry) → first_refusal entries ≡ None → refusals entries ≡ 0
no_refusals [] e = refl
no_refusals (Frame place header message body_len ∷ entries) e = no_refusals entries e
no_refusals (Refused refusal ∷ entries) e = absurd (cc)

pub closed_view : (tally : Tally) (end : Option Refusal) (refused : ℕ) (text text_now : List ℕ)
    → ((octets : List ℕ) → CountsEntries tally octets → end ≡ end_of_stream octets)
    → refused ≡ tally.refused + refusals (end_entries end)
    → text_now ≡ (text ++ lines (end_entries end)) ++ counts_line tally.frames refused
    → Closes View Whole tally text text_now (cond (refused == 0) status.Done status.Refused)
unfolding view_text
closed_view tally end refused text text_now is_end total is = record {
  added = lines (end_entries end) ++ counts_line tally.frames refused;
  text_is = is ∙ append_assoc text (lines (end_entries end)) (counts_line tally.frames refused);
  reply = λ octets counts goes.
      let entries = entries_of octets in
      let same_end : end_of_stream octets ≡ end = sym (is_end octets counts) in
      let parts : lines (entries ++ end_entries end) ≡ lines entries ++ lines (end_entries end) = flat_map-append line_of entries (end_entries end) in
      let all_frames : frames (entries ++ end_entries end) ≡ tally.frames =
      let none = frames-end end in omega (arith, frames-append entries (end_entries end), none, counts.frames) in
      let all_refused : refusals (entries ++ end_entries end) ≡ refused =
      omega (arith, refusals-append entries (end_entries end), counts.refused, total) in
      let before : lines entries ++ lines (end_entries end) ++ counts_line tally.frames refused ≡ lines entries ++ (lines (end_entries end) ++ counts_line tally.frames refused) =
      append_assoc (lines entries) (lines (end_entries end)) (counts_line tally.frames refused) in
      rw (same_end, parts, all_frames, all_refused, before) refl;
}

pub closed_check_refused : (tally : Tally) (refusal : Refusal) (text text_now : List ℕ)
    → ((octets : List ℕ) → CountsEntries tally octets → Some refusal ≡ end_of_stream octets)
    → text_now ≡ text ++ refusal_line refusal → Closes Check Whole tally text text_now status.Refused
unfolding check_text
closed_check_refused tally refusal text text_now is_end is = record {
  added = refusal_line refusal;
  text_is = is;
  reply = λ octets counts goes.
      let same_end : end_of_stream octets ≡ Some refusal = sym (is_end octets counts) in
      let first : first_refusal (entries_of octets ++ Refused refusal ∷ []) ≡ Some refusal = first_refusal-append (entries_of octets) (Refused refusal ∷ []) goes in
      rw (same_end, first) refl;
}

pub closed_check_ok : (tally : Tally) (text text_now : List ℕ)
    → ((octets : List ℕ) → CountsEntries tally octets → None ≡ end_of_stream octets)
    → text_now ≡ text ++ ok_line tally.frames → Closes Check Whole tally text text_now status.Done
unfolding check_text
closed_check_ok tally text text_now is_end is = record {
  added = ok_line tally.frames;
  text_is = is;
  reply = λ octets counts goes.
      let same_end : end_of_stream octets ≡ None = sym (is_end octets counts) in
      let no_first : first_refusal (entries_of octets) ≡ None = goes in
      let none : refusals (entries_of octets) ≡ 0 = no_refusals (entries_of octets) goes in
      let some : frames (entries_of octets) ≡ tally.frames = sym counts.frames in
      rw (same_end, append-nil (entries_of octets), no_first, none, some) refl;
}

pub closed_too_long : (report : Report) (tally : Tally) (text text_now : List ℕ)
    → text_now ≡ text ++ too_long_line → Closes report TooLong tally text text_now status.Refused
unfolding view_text check_text
closed_too_long View tally text text_now is = record { added = too_long_line; text_is = is; reply = λ octets counts goes. refl }
closed_too_long Check tally text text_now is = record {
  added = too_long_line;
  text_is = is;
  reply = λ octets counts goes. let none : first_refusal (entries_of octets) ≡ None = goes in rw none refl;
}

pub closed_hex : (report : Report) (place : ℕ) (tally : Tally) (text text_now : List ℕ)
    → text_now ≡ text ++ hex_refused_line place → Closes report (HexRefused place) tally text text_now status.Refused
unfolding view_text check_text
closed_hex View place tally text text_now is = record { added = hex_refused_line place; text_is = is; reply = λ octets counts goes. refl }
closed_hex Check place tally text text_now is = record {
  added = hex_refused_line place;
  text_is = is;
  reply = λ octets counts goes. let none : first_refusal (entries_of octets) ≡ None = goes in rw none refl;
}
