-- What a reader of fields found, beside what `read` gives from the place where it stood. To be believed.
use Rattle.std.specs.Prelude.{◌≡◌, ℕ, Result, Ok, Err, IsOk}
use Rattle.jt_value.specs.declared.refusal.Refusal.{Refusal}
use Rattle.jt_value.specs.declared.refusal.CodecError.{CodecError}
use Rattle.jt_value.specs.declared.refusal.CodecError.TheVariants as errors

-- what was returned, seen by view, is what reading gives
abbrev pub Finds : {X Y : Type 0} → (X → Y) → Result X Refusal → Result Y Refusal → Type 0
Finds view (Ok x) read = read ≡ Ok (view x)
Finds view (Err r) read = read ≡ Err r

-- reading fails with this error, unless memory was wanted
abbrev pub Fails : {Y : Type 0} → CodecError → Result Y Refusal → Type 0
Fails errors.Memory read = Unit {0}
Fails (errors.Refused r) read = read ≡ Err r

-- the same as `Finds`, unless memory was wanted
abbrev pub Gives : {X Y : Type 0} → (X → Y) → Result X CodecError → Result Y Refusal → Type 0
Gives view (Ok x) read = read ≡ Ok (view x)
Gives view (Err e) read = Fails e read

-- Reading gives a value up to this place, which is not told; or it fails, as `Gives` says.
abbrev pub Passes : {X Y : Type 0} → ℕ → Result X CodecError → Result (Y × ℕ) Refusal → Type 0
Passes place (Ok x) read = (y : _) × (read ≡ Ok (y, place))
Passes place (Err e) read = Fails e read

-- Reading gives a value, which is not told; or it fails, as `Gives` says.
abbrev pub Judges : {X Y : Type 0} → Result X CodecError → Result Y Refusal → Type 0
Judges (Ok x) read = IsOk read
Judges (Err e) read = Fails e read
