use Rattle.std.specs.Prelude.{string_bytes}
use Rattle.bpf_names.specs.Names.{names_of}
use Rattle.bpf_shared.specs.Contents.{bytes_of_all}
use Rattle.bpf_packets.proofs.Packets.{reported}
use Rattle.bpf_packets.proofs.running.report_of.Goals as goal

pub make_rounds-requires : goal.make_rounds-requires
make_rounds-requires c =
    let r = c.in_ok-make_turns.ensures c.requires.0 c.requires.1 in
    (r.0, r.2)

pub returns : goal.returns
returns c w shows first =
    reported w c.args.machine.now c.make_turns.new.machine c.make_rounds.new.machine (names_of c.args.names.now) c.args.schedule.now c.args.maps
    (bytes_of_all c.args.packets.now) (bytes_of_all c.make_turns.new.packets) (bytes_of_all c.make_rounds.new.packets) (string_bytes c.in_ok-report.report.text)
    (string_bytes c.push_packets.new.text) c.in_ok-report.report.stopped shows first c.in_ok-make_turns.ensures c.in_ok-make_rounds.ensures.kept
    c.in_ok-make_rounds.ensures.ended c.in_ok-report.ensures c.in_ok-push_packets.ensures
