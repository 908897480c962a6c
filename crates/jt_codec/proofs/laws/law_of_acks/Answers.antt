use Rattle.jt_codec.proofs.AckLaws.{terminal_octets, platform_octets, terminal_fits, platform_fits}
use Rattle.jt_codec.proofs.laws.law_of_acks.Goals as goal

pub returns : goal.returns
returns c = record {
  terminal = terminal_octets;
  platform = platform_octets;
  terminal_fits = terminal_fits;
  platform_fits = platform_fits;
}
