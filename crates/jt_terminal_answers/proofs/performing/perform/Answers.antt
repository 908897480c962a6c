use Rattle.std.proofs.Common.{◌≡◌, ℕ, sym, subst}
use Rattle.std.proofs.lemmas.Result.{IfOk-weaker}
use Rattle.jt_params.specs.Tables.{Table}
use Rattle.jt_terminal_answers.specs.Performing.{HeldTables, message_outcome, tables, with_change}
use Rattle.jt_regions.specs.Tables.{AtMost}
use Rattle.jt_codec.specs.Bodies.{Fits}
use Rattle.jt_codec.specs.declared.message.Message.{Message}
use Rattle.jt_regions.specs.declared.change.RegionChange.{RegionChange}
use Rattle.jt_terminal_answers.proofs.Fitting.{fits_circles, fits_deletion, fits_params, fits_rectangles}
use Rattle.jt_terminal_answers.proofs.performing.perform.Goals as goal

pub set_params-requires : goal.set_params-requires
set_params-requires c =
    (fits_params c.requires.fits.0 c.in-SetParams.list (subst (λ (m : Message). Fits c.requires.fits.0 m) c.in-SetParams.is c.requires.fits.1)).0

pub change_regions-requires : goal.change_regions-requires
change_regions-requires c =
    subst (λ (change : RegionChange). AtMost 65535 change) (sym c.in_ok-change-in-Circles.ensures) (fits_circles c.requires.fits.0 c.in-Circles.setting c.in-Circles.list (subst (λ (m : Message). Fits c.requires.fits.0 m) c.in-Circles.is c.requires.fits.1))

pub change_regions-requires-in-Rectangles : goal.change_regions-requires-in-Rectangles
change_regions-requires-in-Rectangles c =
    subst (λ (change : RegionChange). AtMost 65535 change) (sym c.in_ok-change-in-Rectangles.ensures) (fits_rectangles c.requires.fits.0 c.in-Rectangles.setting c.in-Rectangles.list (subst (λ (m : Message). Fits c.requires.fits.0 m) c.in-Rectangles.is c.requires.fits.1))

pub change_regions-requires-in-Delete : goal.change_regions-requires-in-Delete
change_regions-requires-in-Delete c =
    subst (λ (change : RegionChange). AtMost 65535 change) (sym c.in_ok-change-in-Delete.ensures) (fits_deletion c.requires.fits.0 c.in-Delete.kind c.in-Delete.ids (subst (λ (m : Message). Fits c.requires.fits.0 m) c.in-Delete.is c.requires.fits.1))

pub returns-in-SetParams-clause-octets : goal.returns-in-SetParams-clause-octets
returns-in-SetParams-clause-octets c held =
    c.set_params.ensures.octets (fits_params c.requires.fits.0 c.in-SetParams.list (subst (λ (m : Message). Fits c.requires.fits.0 m) c.in-SetParams.is c.requires.fits.1)).1 held

pub returns-in_ok-change-in-Delete-clause-ok : goal.returns-in_ok-change-in-Delete-clause-ok
returns-in_ok-change-in-Delete-clause-ok c =
    IfOk-weaker c.change_regions-in-Delete.result (λ outcome. (params : Table) → ◌≡◌ {A = ℕ × HeldTables} (outcome, tables params c.change_regions-in-Delete.new.table) (with_change (tables params c.args.regions.now) c.in_ok-change-in-Delete.change))
    (λ outcome. ◌≡◌ {A = ℕ × HeldTables} (outcome, tables c.args.params.now c.change_regions-in-Delete.new.table) (message_outcome (tables c.args.params.now c.args.regions.now) c.args.message.now))
    (λ outcome done. subst (λ (m : Message). ◌≡◌ {A = ℕ × HeldTables} (outcome, tables c.args.params.now c.change_regions-in-Delete.new.table) (message_outcome (tables c.args.params.now c.args.regions.now) m)) (sym c.in-Delete.is)
    (subst (λ (change : RegionChange). ◌≡◌ {A = ℕ × HeldTables} (outcome, tables c.args.params.now c.change_regions-in-Delete.new.table) (with_change (tables c.args.params.now c.args.regions.now) change)) c.in_ok-change-in-Delete.ensures (done c.args.params.now)))
    c.change_regions-in-Delete.ensures.ok
