-- The lines of a report beside those of frames and refusals, as functions from values to octets: this project's texts. To be
-- believed.
use Rattle.std.specs.Prelude.{ℕ, List, ◌++◌, codes}
use Rattle.std.specs.Fmt.{decimal}

-- the last line of a view: how many lines of frames and how many of refusals stand before it
unfoldable pub counts_line : ℕ → ℕ → List ℕ
counts_line frames refused = codes "frames=" ++ decimal frames ++ codes " refused=" ++ decimal refused ++ codes "\n"

-- what a check prints of a stream without refusals
unfoldable pub ok_line : ℕ → List ℕ
ok_line frames = codes "ok frames=" ++ decimal frames ++ codes "\n"

-- the input has more octets than one input may have
unfoldable pub too_long_line : List ℕ
too_long_line = codes "input too long\n"

-- the place in the input where its hexadecimal digits go wrong
unfoldable pub hex_refused_line : ℕ → List ℕ
hex_refused_line place = codes "hex refused at " ++ decimal place ++ codes "\n"
