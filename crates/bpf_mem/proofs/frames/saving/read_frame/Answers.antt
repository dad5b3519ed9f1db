use Rattle.std.proofs.Common.{◌≡◌, length, arith}
use Rattle.bpf_mem.proofs.FrameLemmas.{frame_read, frame_is, frame_none}
use Rattle.bpf_mem.proofs.Fronts.{if_none}
use Rattle.bpf_mem.proofs.frames.saving.read_frame.Goals as goal

pub returns-in_err-rest-clause-none : goal.returns-in_err-rest-clause-none
returns-in_err-rest-clause-none c = if_none c.from_residual.result (frame_none c.args.bytes.now c.in_err-rest.ensures.none)

pub returns-clause-some : goal.returns-clause-some
returns-clause-some c =
    let size : length c.read_words.new.words ≡ 64 = omega (arith, c.read_words.auto.words) in
    frame_read c.args.bytes.now c.read_words.new.words c.set_words.new.frame c.in_ok-rest.rest.now size c.in_ok-rest.ensures.fit
    c.set_words.ensures c.in_ok-rest.ensures.some

pub returns-clause-is_frame : goal.returns-clause-is_frame
returns-clause-is_frame c =
    let size : length c.read_words.new.words ≡ 64 = omega (arith, c.read_words.auto.words) in
    frame_is c.read_words.new.words c.set_words.new.frame size c.set_words.ensures
