use Rattle.bpf_mem.proofs.FrameLemmas.{frames_told}
use Rattle.bpf_mem.proofs.laws.saved_tells_frames.Goals as goal

pub returns : goal.returns
returns c = frames_told
