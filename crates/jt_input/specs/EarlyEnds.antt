-- What ends a command before all of its input was answered: the line that tells it, and the status. This project's own texts. To
-- be believed.
use Rattle.std.specs.Prelude.{ℕ, List, ◌++◌, codes}
use Rattle.std.specs.Fmt.{decimal}
use Rattle.jt_input.specs.Lines.{bad_line}
use Rattle.jt_input.specs.Reply.{Reply}
use Rattle.jt_input.specs.declared.early_end.EarlyEnd.{EarlyEnd}
use Rattle.jt_input.specs.declared.early_end.EarlyEnd.TheVariants as early
use Rattle.jt_input.specs.declared.status.Status.TheVariants as status

-- a vault holds as many fixes that are not accepted as it may
unfoldable pub full_line : ℕ → List ℕ
full_line limit = codes "vault full at " ++ decimal limit ++ codes "\n"

-- a list of the platform holds as many as it may
unfoldable pub list_line : ℕ → List ℕ
list_line limit = codes "list full at " ++ decimal limit ++ codes "\n"

abbrev pub early_reply : EarlyEnd → Reply
early_reply (early.BadLine number) = record { text = bad_line number; status = status.Refused }
early_reply (early.VaultFull limit) = record { text = full_line limit; status = status.StoreFault }
early_reply (early.ListFull limit) = record { text = list_line limit; status = status.StoreFault }
early_reply early.StoreFault = record { text = codes "store fault\n"; status = status.StoreFault }
early_reply early.ListenFault = record { text = codes "listen fault\n"; status = status.NetFault }
