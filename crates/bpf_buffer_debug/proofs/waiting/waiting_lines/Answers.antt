use Rattle.std.proofs.Common.{◌∙◌, ◌++◌, ℕ, List, map, ap, arith}
use Rattle.std.specs.Prelude.{string_bytes}
use Rattle.bpf_buffer_debug.proofs.WaitLaws.{line_more}
use Rattle.bpf_buffer_debug.proofs.waiting.waiting_lines.Goals as goal

pub loop-stored-preserved : goal.loop-stored-preserved
loop-stored-preserved c =
    let text = string_bytes c.loop-stored.text in
    line_more (map string_bytes c.args.names.now) c.args.cpu c.args.stores.now c.loop-stored.stored-index _ text (string_bytes c.in_ok-line.line)
    (string_bytes c.push_str.new.self) (omega arith) c.loop-stored.invariant c.in_ok-line.ensures
    (c.in_ok-push_str.ensures.bytes ∙ ap (λ (s : List ℕ). text ++ s) c.as_str.ensures.value)
