use Rattle.std.proofs.Common.{map}
use Rattle.std.specs.Prelude.{string_bytes}
use Rattle.bpf_events.proofs.Told.{turn_lines}
use Rattle.bpf_events.proofs.telling.push_worked.Goals as goal

pub returns : goal.returns
returns c =
    turn_lines (map string_bytes c.args.names.now) c.args.place.cpu c.args.place.job c.args.place.pc c.args.notes.now c.args.answer
    (string_bytes c.args.text.now) (string_bytes c.push_notes.new.text) (string_bytes c.push_end.new.text)
    c.in_ok-push_notes.ensures c.in_ok-push_end.ensures
