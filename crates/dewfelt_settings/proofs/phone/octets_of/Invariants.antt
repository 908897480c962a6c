use Rattle.std.proofs.Common.{◌≡◌, ◌+◌, ◌*◌, ◌++◌, length, flat_map}
use Rattle.dewfelt_settings.specs.Phones.{are_digits, two_digits}
use Rattle.dewfelt_settings.proofs.phone.octets_of.Given as goal

abbrev pub decreases-loop-first : goal.decreases-loop-first
decreases-loop-first l = length l.rest

abbrev pub invariant-loop-first : goal.invariant-loop-first
invariant-loop-first l = record {
  letters : flat_map two_digits l.octets.items ++ l.rest ≡ l.letters;
  digits : are_digits l.letters ≡ are_digits l.rest;
  count : 2 * length l.octets.items + length l.rest ≡ 20;
}
