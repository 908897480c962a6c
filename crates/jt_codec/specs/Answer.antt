-- What a reader answers where it is known what it is to answer. To be believed.
use Rattle.std.specs.Prelude.{◌≡◌, Result, Ok, Err}
use Rattle.jt_value.specs.declared.refusal.Refusal.{Refusal}
use Rattle.jt_value.specs.declared.refusal.CodecError.{CodecError}
use Rattle.jt_value.specs.declared.refusal.CodecError.TheVariants as errors

-- this value or this refusal is answered, unless memory was wanted
abbrev pub IsUnlessMemory : {A : Type 0} → Result A CodecError → Result A Refusal → Type 0
IsUnlessMemory (Ok a) answer = answer ≡ Ok a
IsUnlessMemory (Err (errors.Refused refusal)) answer = answer ≡ Err refusal
IsUnlessMemory (Err errors.Memory) answer = Unit {0}
