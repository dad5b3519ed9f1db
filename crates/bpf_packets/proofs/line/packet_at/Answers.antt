use Rattle.std.proofs.Common.{◌<◌, [], length, sym, ap, ◌∙◌}
use Rattle.std.proofs.lemmas.Bool.{ltb-true}
use Rattle.std.proofs.lemmas.List.{get_or-map}
use Rattle.bpf_shared.specs.Contents.{bytes_of}
use Rattle.bpf_packets.proofs.line.packet_at.Goals as goal

pub returns-in-Some : goal.returns-in-Some
returns-in-Some c =
    let packets = c.args.packets.now in
    let inside : c.args.job < length packets = ltb-true _ _ (sym c.in-Some.ensures.lookup.0) in
    c.deref.ensures.value ∙ (ap bytes_of c.in-Some.ensures.lookup.1 ∙ sym (get_or-map bytes_of packets c.args.job c.in-Some.packet.now [] inside))
