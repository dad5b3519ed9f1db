use Rattle.std.proofs.Common.{arith, subst, ◌≡◌, ◌≤◌, List, ℕ, length}
use Rattle.bpf_mem.specs.Limits.{max_packet}
use Rattle.bpf_file.proofs.Fits.{packet_short}
use Rattle.bpf_file.proofs.draft.around_packet.Goals as goal

pub context-requires : goal.context-requires
context-requires c =
    let P : List ℕ → Type 0 = λ bytes. length bytes ≤ max_packet in
    let same : c.in_ok-bytes.bytes.items ≡ c.deref.result.now = cc in
    subst P same (packet_short c.args.packet.digits.now c.in_ok-bytes.bytes.items c.requires.brief c.in_ok-bytes.ensures)

pub new-requires-in-Ok : goal.new-requires-in-Ok
new-requires-in-Ok c =
    let short = packet_short c.args.packet.digits.now c.in_ok-bytes.bytes.items c.requires.brief c.in_ok-bytes.ensures in
    omega (arith, short, c.in_ok-bytes.bytes.ok.0)
