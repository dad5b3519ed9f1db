use Rattle.std.proofs.Common.{ℕ, Option, sym, subst}
use Rattle.std.specs.Prelude.{IfOk, string_bytes}
use Rattle.bpf_buffer_debug.specs.Command.{Flush}
use Rattle.bpf_buffer_debug.specs.Session.{Leaves}
use Rattle.bpf_buffer_debug.proofs.session.Session.flush.Goals as goal

pub returns-clause-answered : goal.returns-clause-answered
returns-clause-answered c =
    let P : Option ℕ → Type 0 = λ o. IfOk c.flush_at.result (λ text. Leaves c.args.self.now (Flush o) (string_bytes text) c.flush_at.new.self) in
    subst P (sym c.in-Some.ensures.some.0) c.flush_at.ensures.answered
