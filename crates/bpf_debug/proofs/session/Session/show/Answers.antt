use Rattle.std.proofs.Common.{◌≡◌, ℕ, List, Option, Some, sym, subst}
use Rattle.std.specs.Prelude.{IfOk, string_bytes}
use Rattle.bpf_debug.specs.Command.{Show}
use Rattle.bpf_debug.specs.Session.{SessionState, Leaves}
use Rattle.bpf_debug.proofs.session.Session.show.Goals as goal

pub returns-clause-answered : goal.returns-clause-answered
returns-clause-answered c =
    let P : Option ℕ → Type 0 = λ o. IfOk c.show_at.result (λ text. Leaves c.args.self.now (Show o) (string_bytes text) c.show_at.new.self) in
    subst P (sym c.in-Some.ensures.some.0) c.show_at.ensures.answered

pub show_at-requires-clause-told : goal.show_at-requires-clause-told
show_at-requires-clause-told c =
    let C : SessionState → Type 0 = λ s. (runs : List (ℕ × ℕ)) × (s.course ≡ Some runs) in
    subst C c.self.view_is (c.in-Some-runs.field-0.now, c.in-Some-runs.ensures.kept)
