use Rattle.std.proofs.Common.{◌≡◌, ◌<◌, ◌≤◌, [], length, arith}
use Rattle.std.proofs.lemmas.List.Elements.{All-set}
use Rattle.bpf_mem.specs.Limits.{frame_bytes}
use Rattle.bpf_mem.specs.Saved.{frame_saved, IsFrame}
use Rattle.bpf_mem.proofs.CodeLemmas.{reads_more, reads_stop, one_more}
use Rattle.bpf_mem.proofs.FrameLemmas.{frame_told}
use Rattle.bpf_mem.proofs.Fronts.{if_none}
use Rattle.bpf_mem.proofs.frames.saving.read_frames.Goals as goal

pub returns-in_err-rest-clause-none : goal.returns-in_err-rest-clause-none
returns-in_err-rest-clause-none c =
    let room : c.args.live ≤ length c.loop-depth.frames = omega (arith, c.loop-depth.auto.frames) in
    if_none c.from_residual.result (reads_stop IsFrame frame_saved [] frame_told c.args.bytes.now c.loop-depth.frames c.loop-depth.depth
    c.args.live c.loop-depth.rest.now (omega arith) room c.loop-depth.invariant.each c.loop-depth.invariant.read c.in_err-rest.ensures.none)

pub loop-depth-preserved : goal.loop-depth-preserved
loop-depth-preserved c =
    let inside : c.loop-depth.depth < length c.loop-depth.frames = omega (arith, c.loop-depth.auto.frames) in
    let frames = c.loop-depth.frames in
    let frame = c.read_frame.new.frame in
    let is = c.in_ok-rest.ensures.is_frame in
    record {
      sized = All-set (λ frame. length frame ≡ frame_bytes) frames c.loop-depth.depth frame is.size c.loop-depth.invariant.sized;
      each = one_more IsFrame frame_saved [] frame_told frames c.loop-depth.depth frame inside c.loop-depth.invariant.each is;
      read = reads_more IsFrame frame_saved [] frame_told c.args.bytes.now frames c.loop-depth.depth frame c.loop-depth.rest.now
          c.in_ok-rest.rest.now inside c.loop-depth.invariant.read c.in_ok-rest.ensures.some;
    }

pub returns-in_err-rest-clause-sized : goal.returns-in_err-rest-clause-sized
returns-in_err-rest-clause-sized c =
    let frames = c.loop-depth.frames in
    All-set (λ frame. length frame ≡ frame_bytes) frames c.loop-depth.depth c.read_frame.new.frame c.in_err-rest.ensures.sized c.loop-depth.invariant.sized
