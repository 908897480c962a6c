-- What is said of an answer of a store that tells nothing (this project's own). To be believed.
use Rattle.std.specs.Prelude.{Result, Ok, Err}
use Rattle.jt_store.specs.declared.error.StoreError.{StoreError}
use Rattle.jt_store.specs.declared.error.StoreError.TheVariants.{Failed, Full, Memory}

-- an answer that is not Full: where nothing is told, no more can be said of a call that reads
abbrev pub IsNotFull : {T : Type 0} → Result T StoreError → Type 0
IsNotFull (Ok x) = Unit {0}
IsNotFull (Err Failed) = Unit {0}
IsNotFull (Err Memory) = Unit {0}
IsNotFull (Err (Full l)) = ⊥
