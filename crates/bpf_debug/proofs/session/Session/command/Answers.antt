use Rattle.std.proofs.Common.{List, ℕ, subst}
use Rattle.std.specs.Prelude.{IfOk, string_bytes}
use Rattle.bpf_lines.specs.Lines.{fields_of}
use Rattle.bpf_debug.specs.Session.{LeavesLine}
use Rattle.bpf_debug.proofs.session.Session.command.Goals as goal

pub returns-clause-answered : goal.returns-clause-answered
returns-clause-answered c =
    let P : List ℕ → Type 0 = λ line. IfOk c.command_bytes.result
    (λ text. LeavesLine c.args.self.now (fields_of line) (string_bytes text) c.command_bytes.new.self) in
    subst P c.as_bytes.ensures.value c.command_bytes.ensures.answered
