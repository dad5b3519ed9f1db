-- A write to the part that the place is in.
use Rattle.std.proofs.Common.{arith, refl}
use Rattle.bpf_base.specs.Bytes.{low_bytes}
use Rattle.bpf_mem.specs.Bytes.{length_of}
use Rattle.bpf_base.proofs.Numbers.{length-low_bytes}
use Rattle.bpf_mem.proofs.WriteLemmas.{Writes-context, Writes-frame, Writes-packet}
use Rattle.bpf_mem.proofs.memory.PrivateMemory.write.Goals as goal

pub returns-in-Context : goal.returns-in-Context
returns-in-Context c =
    let m = c.args.self.now in
    let bytes = low_bytes (length_of c.args.size) c.args.value in
    let count = length-low_bytes (length_of c.args.size) c.args.value in
    let within = rw c.in-Context.is at c.requires in
    rw c.in-Context.is (Writes-context m _ c.in-Context.offset bytes c.store.ensures.bounded (omega (arith, count, within))
    c.store.ensures.value refl refl refl)

pub returns-in-Packet : goal.returns-in-Packet
returns-in-Packet c =
    let m = c.args.self.now in
    let bytes = low_bytes (length_of c.args.size) c.args.value in
    let count = length-low_bytes (length_of c.args.size) c.args.value in
    let within = rw c.in-Packet.is at c.requires in
    rw c.in-Packet.is (Writes-packet m _ c.in-Packet.offset bytes c.store-in-Packet.ensures.bounded (omega (arith, count, within))
    c.store-in-Packet.ensures.value refl refl refl)

pub returns-in-Frame : goal.returns-in-Frame
returns-in-Frame c =
    let m = c.args.self.now in
    let bytes = low_bytes (length_of c.args.size) c.args.value in
    let count = length-low_bytes (length_of c.args.size) c.args.value in
    let within = rw c.in-Frame.is at c.requires in
    let done = c.store-in-Frame.ensures in
    rw c.in-Frame.is (Writes-frame m _ c.in-Frame.depth c.in-Frame.offset bytes done.stack.sized within.0 (omega (arith, count, within))
    refl refl done.live done.callers)
