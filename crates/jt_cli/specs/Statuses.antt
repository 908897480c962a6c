-- The statuses of runs that need no links. To be believed.
use Rattle.jt_input.specs.declared.status.Status.{Status}
use Rattle.jt_input.specs.declared.status.Status.TheVariants.{Done, Refused, Usage, ReadFault, WriteFault, StoreFault, NetFault, Unsent, Memory}

-- it is none of a store's, a listener's or of fixes that are not accepted
abbrev pub IsAlone : Status → Type 0
IsAlone Done = Unit {0}
IsAlone Refused = Unit {0}
IsAlone Usage = Unit {0}
IsAlone ReadFault = Unit {0}
IsAlone WriteFault = Unit {0}
IsAlone StoreFault = ⊥
IsAlone NetFault = ⊥
IsAlone Unsent = ⊥
IsAlone Memory = Unit {0}

-- it is none of a listener or of fixes that are not accepted
abbrev pub IsWithoutLinks : Status → Type 0
IsWithoutLinks Done = Unit {0}
IsWithoutLinks Refused = Unit {0}
IsWithoutLinks Usage = Unit {0}
IsWithoutLinks ReadFault = Unit {0}
IsWithoutLinks WriteFault = Unit {0}
IsWithoutLinks StoreFault = Unit {0}
IsWithoutLinks NetFault = ⊥
IsWithoutLinks Unsent = ⊥
IsWithoutLinks Memory = Unit {0}
