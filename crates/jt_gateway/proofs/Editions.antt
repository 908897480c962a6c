-- The terminal of world b stays one of 2019, also where a line was cut short.
use Rattle.std.proofs.Common.{◌≡◌, true, inl, inr, refl, ap, ◌∙◌}
use Rattle.jt_value.specs.declared.phone.Edition.{Edition}
use Rattle.jt_value.specs.declared.phone.Edition.TheVariants.{E2019}
use Rattle.jt_value.specs.declared.phone.Phone.{Phone}
use Rattle.jt_script.specs.declared.world_event.WorldEvent.{WorldEvent}
use Rattle.jt_script.specs.declared.world_event.WorldEvent.TheVariants as line
use Rattle.jt_play.specs.declared.identity.Identity.{Identity}
use Rattle.jt_play.specs.Scripts.{Scene, TakesEdition, TakesPhone, edition_by, settings_in}
use Rattle.jt_gateway.specs.Gateway.{IsOf2019, is_line_of_b}

-- a line of world b sets no edition
pub b_sets_none : (event : WorldEvent) (edition : Edition) → is_line_of_b event ≡ true → edition_by edition event ≡ edition
b_sets_none (line.Fix latitude) edition of_b = refl
b_sets_none (line.Raw fix) edition of_b = refl
b_sets_none (line.RestartAs chosen) edition of_b = absurd cc
b_sets_none line.Open edition of_b = refl
b_sets_none (line.Up number count) edition of_b = refl
b_sets_none (line.Down count) edition of_b = refl
b_sets_none (line.Tick by) edition of_b = refl
b_sets_none (line.Beat n) edition of_b = refl
b_sets_none line.Run edition of_b = refl
b_sets_none (line.Cut number) edition of_b = refl
b_sets_none line.Lost edition of_b = refl
b_sets_none line.RestartTerminal edition of_b = refl
b_sets_none line.RestartPlatform edition of_b = refl

module _ (old now : Scene) (event : WorldEvent) (none : edition_by old.edition event ≡ old.edition) (is : IsOf2019 old) where
  takes_2019 : edition_by old.edition event ≡ E2019
  takes_2019 = none ∙ is.edition

  edition_stays : TakesEdition event old.edition now.edition → now.edition ≡ E2019
  edition_stays (inl same) = same ∙ is.edition
  edition_stays (inr next) = next ∙ takes_2019

  phone_stays : TakesPhone old.identity old.edition event old.play.world.terminal.phone now.play.world.terminal.phone → now.play.world.terminal.phone.edition ≡ E2019
  phone_stays (inl same) = ap (λ (p : Phone). p.edition) same ∙ is.phone
  phone_stays (inr anew) = ap (λ (p : Phone). p.edition) anew ∙ (ap (λ (e : Edition). (settings_in old.identity e).phone.edition) takes_2019 ∙ is.identity)

  -- a line that sets no edition
  pub stays_2019 : now.identity ≡ old.identity → TakesEdition event old.edition now.edition
      → TakesPhone old.identity old.edition event old.play.world.terminal.phone now.play.world.terminal.phone → IsOf2019 now
  stays_2019 identity edition phone = record {
    phone = phone_stays phone;
    edition = edition_stays edition;
    identity = ap (λ (i : Identity). i.e2019.phone.edition) identity ∙ is.identity;
  }
