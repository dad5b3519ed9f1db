use Rattle.std.proofs.Common.{map}
use Rattle.std.specs.Prelude.{string_bytes}
use Rattle.bpf_machine.specs.Happenings.{happening}
use Rattle.bpf_buffering.specs.Waiting as buffers
use Rattle.bpf_buffer_events.proofs.Items.{end_lines}
use Rattle.bpf_buffer_events.proofs.telling.push_end.Goals as goal

pub returns-in_ok-push_call-in-Ended : goal.returns-in_ok-push_call-in-Ended
returns-in_ok-push_call-in-Ended c =
    let place = c.args.place in
    end_lines (map string_bytes c.args.names.now) place.cpu (happening place.cpu place.job place.pc)
    (map buffers.event_of c.args.waiting.now.items) c.args.answer c.in-Ended.field-0 c.in-Ended.field-1 (string_bytes c.args.text.now)
    (string_bytes c.push_call.new.text) c.in-Ended.is c.in_ok-push_call-in-Ended.ensures.text
