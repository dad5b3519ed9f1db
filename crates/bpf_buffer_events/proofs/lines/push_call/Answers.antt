use Rattle.std.proofs.Common.{◌≡◌, ◌∙◌, ◌++◌, [], List, ap, map, sym}
use Rattle.std.specs.Prelude.{if◌then◌else◌, string_bytes}
use Rattle.std.proofs.lemmas.Result.{on_ok_weaker}
use Rattle.bpf_machine.specs.Happenings.{happening}
use Rattle.bpf_buffering.specs.declared.waiting.Stored.{Stored}
use Rattle.bpf_buffering.specs.Waiting as buffers
use Rattle.bpf_events.specs.Watched.{event_of}
use Rattle.bpf_buffer_events.specs.Happenings.{Flushed, drains}
use Rattle.bpf_buffer_events.specs.Printed.{item_lines}
use Rattle.bpf_buffer_events.proofs.Items.{call_lines, drained_lines, undrained_lines}
use Rattle.bpf_buffer_events.proofs.lines.push_call.Goals as goal
use Rattle.bpf_buffer_events.proofs.lines.push_call.Goals.{then-drains+in_ok-push_flushes, else-drains}

pub returns-clause-text : goal.returns-clause-text
returns-clause-text c =
    let place = c.args.place in
    let names = map string_bytes c.args.names.now in
    let e = event_of c.args.note.now in
    let waiting = map buffers.event_of c.args.waiting.now.items in
    let text = string_bytes c.args.text.now in
    let mid = string_bytes c.if-drains.text in
    let before : mid ≡ text ++ item_lines names (map (Flushed place.cpu) (if drains e then waiting else [])) =
    elim c.if-drains.branch [
      | then-drains+in_ok-push_flushes w ↦
          drained_lines names place.cpu waiting (drains e) text mid (sym c.drains.ensures ∙ w.if-drains.true)
          (ap string_bytes w.text-is ∙ (w.in_ok-push_flushes.ensures ∙ ap
          (λ (xs : List Stored). text ++ item_lines names (map (Flushed place.cpu) (map buffers.event_of xs))) w.deref.ensures.value))
      | else-drains w ↦
          ap string_bytes w.text-is ∙ undrained_lines names place.cpu waiting (drains e) text (sym c.drains.ensures ∙ w.if-drains.false)
    ] in
    on_ok_weaker c.push_note.result (λ after. call_lines place.cpu (happening place.cpu place.job place.pc) names waiting e text mid
    (string_bytes c.push_note.new.text) before after) c.push_note.ensures
