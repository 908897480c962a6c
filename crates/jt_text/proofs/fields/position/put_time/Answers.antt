use Rattle.std.proofs.Common.{◌≡◌, List, ℕ, ◌++◌, true, append_assoc, sym, ◌∙◌}
use Rattle.std.specs.Prelude.{codes}
use Rattle.jt_position.specs.Moments.{names_moment}
use Rattle.jt_text.specs.Times.{digits_at, time_text}
use Rattle.jt_text.proofs.fields.position.put_time.Goals as goal

-- the text of a time that names a moment, in front of another
put : (time old : List ℕ) → names_moment time ≡ true → codes " time=" ++ (time_text time ++ old)
    ≡ codes " time=20" ++ (digits_at time 0 ++ (codes "-" ++ (digits_at time 1 ++ (codes "-" ++ (digits_at time 2 ++ (codes "T" ++ (digits_at time 3 ++ (codes ":" ++ (digits_at time 4 ++ (codes ":" ++ (digits_at time 5 ++ (codes "+08:00" ++ old))))))))))))
unfolding time_text
put time old is = rw is (simp append_assoc)

pub returns-clause-text : goal.returns-clause-text
returns-clause-text c =
    rw (c.put_named_octet-6.ensures.text, c.put_named_octet-5.ensures.text, c.put_named_octet-4.ensures.text, c.put_named_octet-3.ensures.text, c.put_named_octet-2.ensures.text, c.put_named_octet.ensures.text, c.put_str-2.ensures.text)
    (sym (put c.args.time.now c.args.line.now (sym c.names_moment.ensures ∙ c.if-not-names_moment.false)))
