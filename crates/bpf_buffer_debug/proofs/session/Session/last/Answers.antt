use Rattle.std.proofs.Common.{ℕ, Option, sym, subst}
use Rattle.std.specs.Prelude.{IfOk, string_bytes}
use Rattle.bpf_debug.specs.Command.{Last}
use Rattle.bpf_buffer_debug.specs.Command.{Plain}
use Rattle.bpf_buffer_debug.specs.Session.{Leaves}
use Rattle.bpf_buffer_debug.proofs.session.Session.last.Goals as goal

pub returns-clause-answered : goal.returns-clause-answered
returns-clause-answered c =
    let P : Option ℕ → Type 0 = λ o. IfOk c.last_at.result (λ text. Leaves c.args.self.now (Plain (Last o)) (string_bytes text) c.last_at.new.self) in
    subst P (sym c.in-Some.ensures.some.0) c.last_at.ensures.answered
