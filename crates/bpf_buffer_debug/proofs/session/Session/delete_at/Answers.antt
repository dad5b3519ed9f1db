use Rattle.std.proofs.Common.{ℕ, Option, Some, sym, subst}
use Rattle.std.specs.Prelude.{IfOk, string_bytes}
use Rattle.bpf_debug.specs.Command.{Delete}
use Rattle.bpf_buffer_debug.specs.Command.{Plain}
use Rattle.bpf_buffer_debug.specs.Session.{Leaves}
use Rattle.bpf_buffer_debug.proofs.session.Session.delete_at.Goals as goal

pub returns-clause-answered : goal.returns-clause-answered
returns-clause-answered c =
    let P : Option ℕ → Type 0 = λ o. IfOk c.delete_break.result (λ text. Leaves c.args.self.now (Plain (Delete (Some c.args.cpu) o))
    (string_bytes text) c.delete_break.new.self) in
    subst P (sym c.in-Some.is) c.delete_break.ensures.answered
