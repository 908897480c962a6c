use Rattle.std.specs.Option.{option_map}
use Rattle.jt_platform.specs.Hub.{opening_of}
use Rattle.jt_service.proofs.serving.serve_on.Given as goal

abbrev pub ghosts-serve_turn : goal.ghosts-serve_turn
ghosts-serve_turn g a = record {
  turn = a.turn;
  opening = option_map (λ o. opening_of (g.P.Keeper.tables o.start) (g.P.Keeper.limit o.start) o.fleet o.secret) a.pass.opening;
}
