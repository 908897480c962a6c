-- Whatever a store that tells nothing is asked, its answer is as its trait says, but for Full.
use Rattle.std.proofs.Common.{None, refl}
use Rattle.std.specs.Prelude.{Result, Ok, Err}
use Rattle.jt_store.specs.declared.error.StoreError.{StoreError}
use Rattle.jt_store.specs.declared.error.StoreError.TheVariants.{Failed, Full, Memory}
use Rattle.jt_store.specs.Tables.{Reads}
use Rattle.jt_store_answers.specs.Untold.{IsNotFull}

pub reads : {H : Type 0} {T : Type 0} (r : Result T StoreError) → IsNotFull r → (P : H → T → Type 0) → Reads None None P r
reads (Ok x) is P = (refl, tt)
reads (Err Failed) is P = refl
reads (Err Memory) is P = refl
reads (Err (Full l)) is P = is
