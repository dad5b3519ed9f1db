use Rattle.std.proofs.Common.{◌≡◌, ◌++◌, ℕ, Option, map, subst, sym}
use Rattle.std.specs.Prelude.{string_bytes}
use Rattle.bpf_machine.specs.Happenings.{end_events, happening}
use Rattle.bpf_buffering.specs.Waiting as buffers
use Rattle.bpf_events.specs.Watched.{event_of}
use Rattle.bpf_buffer_events.specs.Printed.{item_lines}
use Rattle.bpf_buffer_events.specs.Private.Watched.{noted}
use Rattle.bpf_buffer_events.proofs.Items.{calls_both}
use Rattle.bpf_buffer_events.proofs.telling.push_turn.Goals as goal

pub returns : goal.returns
returns c =
    let turn = c.args.turn in
    let names = map string_bytes c.args.names.now in
    let waiting = map buffers.event_of c.args.waiting.now.items in
    let text = string_bytes c.args.text.now in
    let later = string_bytes c.push_end.new.text in
    let events = map event_of turn.notes.now in
    subst (λ (at : Option (ℕ × ℕ)). later ≡ text ++ item_lines names (noted turn.cpu at waiting events turn.answer)) (sym c.in-Some.is)
    (calls_both turn.cpu (happening turn.cpu c.in-Some.job c.in-Some.pc) names waiting (map buffers.event_of c.push_calls.new.waiting.items) events
    (end_events turn.answer) text (string_bytes c.push_calls.new.text) later c.in_ok-push_calls.ensures.waiting c.in_ok-push_calls.ensures.text
    c.in_ok-push_end.ensures)
