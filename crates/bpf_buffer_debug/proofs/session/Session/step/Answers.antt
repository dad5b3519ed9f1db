use Rattle.std.proofs.Common.{ℕ, [], ◌∷◌, Option, sym, subst, String, Global}
use Rattle.std.specs.Prelude.{string_bytes}
use Rattle.std.proofs.lemmas.Result.{IfOk-weaker}
use Rattle.bpf_debug.specs.Command.{Step, Steps}
use Rattle.bpf_buffer_debug.specs.Command.{Plain}
use Rattle.bpf_buffer_debug.specs.Session.{Leaves}
use Rattle.bpf_buffer_debug.proofs.SessionLaws.{one_turn}
use Rattle.bpf_buffer_debug.proofs.session.Session.step.Goals as goal

pub returns-clause-answered : goal.returns-clause-answered
returns-clause-answered c =
    let s = c.args.self.now in
    let t = c.turns_at.new.self in
    let cpu = c.in-Some.cpu in
    let number = c.in-Some.ensures.some in
    IfOk-weaker c.turns_at.result (λ (x : String Global). Leaves s (Plain (Steps ((cpu, 1) ∷ []))) (string_bytes x) t)
    (λ (x : String Global). Leaves s (Plain (Step c.args.number)) (string_bytes x) t)
    (λ x leaves. subst (λ (o : Option ℕ). Leaves s (Plain (Step o)) (string_bytes x) t) (sym number.0)
    (one_turn s t cpu (string_bytes x) number.1 leaves)) c.turns_at.ensures.answered
