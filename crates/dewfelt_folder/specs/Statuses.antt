-- The exit statuses of `dewfelt`, but for those of the commands beside a service: this project's own. To be believed.
use Rattle.std.specs.Prelude.{ℕ}
use Rattle.dewfelt_folder.specs.declared.status.Status.{Status}
use Rattle.dewfelt_folder.specs.declared.status.Status.TheVariants.{Done, Settings, Usage, Fleet, Output, Listen, Busy, Memory, Folder, Threads, Http}

abbrev pub number_of : Status → ℕ
number_of Done = 0
number_of Settings = 1
number_of Usage = 2
number_of Fleet = 3
number_of Output = 4
number_of Listen = 6
number_of Busy = 7
number_of Memory = 8
number_of Folder = 9
number_of Threads = 10
number_of Http = 11
