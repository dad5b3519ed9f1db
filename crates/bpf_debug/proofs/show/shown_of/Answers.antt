use Rattle.std.proofs.Common.{◌≡◌, List, map, subst, arith, String, Global}
use Rattle.std.specs.Prelude.{string_bytes}
use Rattle.bpf_debug.specs.Private.Room.{total}
use Rattle.bpf_debug.proofs.show.shown_of.Goals as goal

pub returns-clause-room : goal.returns-clause-room
returns-clause-room c =
    let T : List (String Global) → Type 0 = λ ls. c.in-Some.bytes ≡ total (map string_bytes ls) in
    let sum = subst T c.deref.ensures.value c.in-Some.ensures in
    record { lines = c.in_ok-lines.ensures.count; room = omega (arith, c.in_ok-room.ensures.len, c.in_ok-room.ensures.capacity, sum) }
