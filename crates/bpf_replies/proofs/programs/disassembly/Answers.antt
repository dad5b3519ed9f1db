use Rattle.std.proofs.Common.{rules, ◌≡◌, string_bytes}
use Rattle.bpf_insn.specs.Encoding.{IsEncodedAs}
use Rattle.bpf_insn.specs.Refusal.{IsSized}
use Rattle.bpf_lines.specs.HexText.{IsHexOf}
use Rattle.bpf_replies.specs.Programs.{shown_program}
use Rattle.bpf_replies.proofs.programs.disassembly.Goals as goal

pub returns-clause-shown : goal.returns-clause-shown
returns-clause-shown c =
    let program = c.in_ok-program.program.items in
    let bytes = c.in_ok-bytes.bytes.items in
    let spelled : IsHexOf c.args.text.now bytes = search rules in
    let sized : IsSized bytes = search rules in
    let encoded : IsEncodedAs program bytes = search rules in
    let shown : string_bytes c.in_ok-shown.shown ≡ shown_program c.args.pc bytes program = search rules in
    (program, (bytes, spelled, sized, encoded), shown)
