-- A write below the front's end is a write to the front.
use Rattle.std.proofs.Common.{◌≡◌, ◌<◌, arith, length, take}
use Rattle.std.proofs.Math.Seq.{take-set-lt}
use Rattle.std.proofs.lemmas.List.{get_or-take, length-take-le}
use Rattle.bpf_mem.proofs.frames.Frames.store.Goals as goal

pub returns-clause-live : goal.returns-clause-live
returns-clause-live c =
    let i = c.self.inside in
    let s = c.self.invariant in
    let count : length (take i.live i.frames) ≡ i.live = length-take-le i.live i.frames (omega arith) in
    let known = rw (← c.self.view_is) at c.requires.live in
    let live : c.args.depth < i.live = omega (arith, known) in
    rw (← c.self.view_is, take-set-lt i.live i.frames c.args.depth c.store.new.bytes live, get_or-take, c.store.ensures)
