use Rattle.std.proofs.Common.{map}
use Rattle.std.specs.Prelude.{string_bytes}
use Rattle.bpf_events.proofs.Told.{end_line}
use Rattle.bpf_events.proofs.telling.push_end.Goals as goal

pub returns-in_ok-push_note-in-Ended : goal.returns-in_ok-push_note-in-Ended
returns-in_ok-push_note-in-Ended c =
    end_line (map string_bytes c.args.names.now) c.args.place.cpu c.args.place.job c.args.place.pc c.args.answer c.in-Ended.field-0
    c.in-Ended.field-1 (string_bytes c.args.text.now) (string_bytes c.push_note.new.text) c.in-Ended.is c.in_ok-push_note-in-Ended.ensures
