use Rattle.std.proofs.Common.{sym, subst}
use Rattle.jt_regions.specs.Tables.{AtMost}
use Rattle.jt_codec.specs.Bodies.{Fits}
use Rattle.jt_codec.specs.declared.message.Message.{Message}
use Rattle.jt_regions.specs.declared.change.RegionChange.{RegionChange}
use Rattle.jt_terminal_answers.proofs.Fitting.{fits_circles, fits_deletion, fits_ids, fits_params, fits_rectangles}
use Rattle.jt_terminal_answers.proofs.answering.answer.Goals as goal

pub set_params_of-requires-clause-few : goal.set_params_of-requires-clause-few
set_params_of-requires-clause-few c =
    (fits_params c.args.header.now.edition c.in-SetParams.params (subst (λ (m : Message). Fits c.args.header.now.edition m) c.in-SetParams.is c.requires.fits)).0

pub set_params_of-requires-clause-octets : goal.set_params_of-requires-clause-octets
set_params_of-requires-clause-octets c =
    (fits_params c.args.header.now.edition c.in-SetParams.params (subst (λ (m : Message). Fits c.args.header.now.edition m) c.in-SetParams.is c.requires.fits)).1

pub tell_some-requires-clause-few : goal.tell_some-requires-clause-few
tell_some-requires-clause-few c =
    fits_ids c.args.header.now.edition c.in-QuerySome.ids (subst (λ (m : Message). Fits c.args.header.now.edition m) c.in-QuerySome.is c.requires.fits)

pub change_regions-requires-clause-few : goal.change_regions-requires-clause-few
change_regions-requires-clause-few c =
    subst (λ (change : RegionChange). AtMost 65535 change) (sym c.in_ok-change-in-Circles.ensures) (fits_circles c.args.header.now.edition c.in-Circles.setting c.in-Circles.list (subst (λ (m : Message). Fits c.args.header.now.edition m) c.in-Circles.is c.requires.fits))

pub change_regions-requires-in-Rectangles-clause-few : goal.change_regions-requires-in-Rectangles-clause-few
change_regions-requires-in-Rectangles-clause-few c =
    subst (λ (change : RegionChange). AtMost 65535 change) (sym c.in_ok-change-in-Rectangles.ensures) (fits_rectangles c.args.header.now.edition c.in-Rectangles.setting c.in-Rectangles.list (subst (λ (m : Message). Fits c.args.header.now.edition m) c.in-Rectangles.is c.requires.fits))

pub change_regions-requires-in-Delete-clause-few : goal.change_regions-requires-in-Delete-clause-few
change_regions-requires-in-Delete-clause-few c =
    subst (λ (change : RegionChange). AtMost 65535 change) (sym c.in_ok-change-in-Delete.ensures) (fits_deletion c.args.header.now.edition c.in-Delete.kind c.in-Delete.ids (subst (λ (m : Message). Fits c.args.header.now.edition m) c.in-Delete.is c.requires.fits))
