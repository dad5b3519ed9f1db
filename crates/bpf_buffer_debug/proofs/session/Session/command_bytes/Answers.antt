use Rattle.std.proofs.Common.{ℕ, List, ap, subst, ◌∙◌, map}
use Rattle.std.specs.Prelude.{IfOk, string_bytes}
use Rattle.bpf_buffer_debug.specs.Session.{LeavesLine}
use Rattle.std.proofs.Common.{Bor}
use Rattle.bpf_buffer_debug.proofs.session.Session.command_bytes.Goals as goal

pub returns-clause-answered : goal.returns-clause-answered
returns-clause-answered c =
    let P : List (List ℕ) → Type 0 = λ fs. IfOk c.obey.result (λ text. LeavesLine c.args.self.now fs (string_bytes text) c.obey.new.self) in
    let same = ap (map (λ (f : Bor (List ℕ)). f.now)) c.deref.ensures.value ∙ c.in_ok-fields.ensures in
    subst P same c.obey.ensures.answered
