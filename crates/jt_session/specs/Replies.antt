-- Which replies a session can write (this project's own). To be believed.
use Rattle.std.specs.Prelude.{◌≤◌, length}
use Rattle.jt_platform.specs.declared.request.Reply.{Reply}
use Rattle.jt_platform.specs.declared.request.Reply.TheVariants as say

-- a code is at most as long as the body of the answer has room for
abbrev pub HasRoomFor : Reply → Type 0
HasRoomFor (say.Registered code) = length code ≤ 1020
HasRoomFor reply = Unit {0}
