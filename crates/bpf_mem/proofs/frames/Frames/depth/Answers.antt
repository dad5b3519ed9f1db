-- The view's lists are fronts of the arrays.
use Rattle.std.proofs.Common.{◌≡◌, ◌-◌, length, take, arith}
use Rattle.std.proofs.lemmas.List.Elements.{All-take}
use Rattle.std.proofs.lemmas.List.{length-take-le}
use Rattle.bpf_mem.specs.Limits.{frame_bytes}
use Rattle.bpf_mem.proofs.frames.Frames.depth.Goals as goal

pub returns-clause-stack : goal.returns-clause-stack
returns-clause-stack c =
    let i = c.self.inside in
    let s = c.self.invariant in
    let frames : length (take i.live i.frames) ≡ i.live = length-take-le i.live i.frames (omega arith) in
    let callers : length (take (i.live - 1) i.callers) ≡ i.live - 1 = length-take-le (i.live - 1) i.callers (omega arith) in
    rw (← c.self.view_is) record {
      some = omega arith;
      bounded = omega arith;
      sized = All-take (λ frame. length frame ≡ frame_bytes) i.live i.frames s.sized;
      paired = omega arith;
    }
