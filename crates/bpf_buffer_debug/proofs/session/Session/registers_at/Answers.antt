use Rattle.std.proofs.Common.{◌≡◌, ◌++◌, ℕ, List, Some, subst}
use Rattle.std.specs.Prelude.{string_bytes}
use Rattle.bpf_buffering.specs.Search.{BufferedState}
use Rattle.bpf_debug.specs.Answer.{IsRegisters}
use Rattle.bpf_debug.specs.Command.{Registers}
use Rattle.bpf_debug.proofs.SessionLaws.{told_registers}
use Rattle.bpf_buffer_debug.proofs.SessionLaws.{alike, plain_state}
use Rattle.bpf_buffer_debug.proofs.session.Session.registers_at.Goals as goal

pub returns-clause-answered : goal.returns-clause-answered
returns-clause-answered c =
    let s = c.args.self.now in
    let room = string_bytes c.in_ok-out.out in
    let last = string_bytes c.put_registers.new.out in
    let M : BufferedState → Type 0 = λ b. (text : List ℕ) × IsRegisters b.machine.jobs c.args.cpu text × (last ≡ room ++ text) in
    alike s (Registers (Some c.args.cpu)) last tt
    (told_registers (plain_state s) c.args.cpu room last c.requires c.in_ok-out.ensures.empty (subst M c.machine.ensures c.put_registers.ensures))
