use Rattle.std.proofs.Common.{◌≡◌, ◌++◌, take}
use Rattle.std.specs.Prelude.{string_bytes}
use Rattle.std.specs.List.{flat_map}
use Rattle.std.specs.Io.{StartsWith}
use Rattle.jt_text.specs.ParamFields.{param_text}
use Rattle.jt_text.proofs.fields.params.push_list.Given as goal

abbrev pub invariant-loop-param : goal.invariant-loop-param
invariant-loop-param l = (string_bytes l.text ≡ string_bytes l.fn.text ++ flat_map param_text (take l.param-index l.params)) × StartsWith (string_bytes l.text) (string_bytes l.fn.text)
