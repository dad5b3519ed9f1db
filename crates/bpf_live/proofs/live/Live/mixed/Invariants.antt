use Rattle.std.proofs.Common.{◌≡◌, ℕ, [], length}
use Rattle.std.specs.Prelude.{slice_index}
use Rattle.bpf_live.specs.Live.{IsLive}
use Rattle.bpf_live.proofs.live.Live.mixed.Given as goal

abbrev pub invariant-loop-register : goal.invariant-loop-register
invariant-loop-register l = record {
  many : length l.registers ≡ length l.cpu.registers;
  live : (r : ℕ) → IsLive l.self l.cpu.pc r → slice_index l.registers r ≡ slice_index l.cpu.registers r;
  entered : l.cpu.memory.frames.callers ≡ [];
}
