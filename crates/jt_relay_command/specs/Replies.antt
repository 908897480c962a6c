-- What `relay` prints of what it came to, and its status: this project's own texts. To be believed.
use Rattle.std.specs.Prelude.{ℕ, List, [], ◌++◌, codes, Result, Ok, Err}
use Rattle.std.specs.Fmt.{decimal}
use Rattle.jt_input.specs.EarlyEnds.{early_reply}
use Rattle.jt_input.specs.Reply.{Reply}
use Rattle.jt_input.specs.declared.early_end.EarlyEnd.TheVariants as early
use Rattle.jt_input.specs.declared.status.Status.TheVariants as status
use Rattle.jt_relay.specs.declared.relayed.Relayed.{Relayed}
use Rattle.jt_relay.specs.declared.relayed.RelayError.{RelayError}
use Rattle.jt_relay.specs.declared.relayed.RelayError.TheVariants as errors

-- so many fixes were recorded, of so many that the rows have
unfoldable pub relayed_line : ℕ → ℕ → List ℕ
relayed_line added fixes = codes "relayed=" ++ decimal added ++ codes " of " ++ decimal fixes ++ codes "\n"

-- the vault has recorded so many, more than the rows have
unfoldable pub behind_line : ℕ → ℕ → List ℕ
behind_line recorded fixes = codes "behind " ++ decimal recorded ++ codes " " ++ decimal fixes ++ codes "\n"

-- the row of this number has a fix that is too long
unfoldable pub long_line : ℕ → List ℕ
long_line number = codes "long at " ++ decimal number ++ codes "\n"

abbrev pub relay_reply : Result Relayed RelayError → Reply
relay_reply (Ok relayed) = record { text = relayed_line relayed.added relayed.fixes; status = status.Done }
relay_reply (Err (errors.Behind recorded fixes)) = record { text = behind_line recorded fixes; status = status.Refused }
relay_reply (Err (errors.Long number)) = record { text = long_line number; status = status.Refused }
relay_reply (Err (errors.Full limit)) = early_reply (early.VaultFull limit)
relay_reply (Err errors.Keeper) = early_reply early.StoreFault
relay_reply (Err errors.Vault) = early_reply early.StoreFault
relay_reply (Err errors.Memory) = record { text = []; status = status.Memory }
