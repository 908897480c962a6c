-- The exit statuses of the commands beside a service: this project's own. To be believed.
use Rattle.std.specs.Prelude.{ℕ}
use Rattle.dewfelt_commands.specs.declared.outcome.Outcome.{Outcome}
use Rattle.dewfelt_commands.specs.declared.outcome.Outcome.TheVariants.{Done, Output, Store, Memory, Folder, NoAnswer, File, NotRegistered, Bound, NotUnderstood}

abbrev pub number_of : Outcome → ℕ
number_of Done = 0
number_of Output = 4
number_of Store = 5
number_of Memory = 8
number_of Folder = 9
number_of NoAnswer = 20
number_of File = 21
number_of NotRegistered = 22
number_of Bound = 23
number_of NotUnderstood = 24
