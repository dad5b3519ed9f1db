use Rattle.std.proofs.Common.{subst}
use Rattle.std.specs.Prelude.{IfOk, string_bytes}
use Rattle.bpf_names.specs.Names.{names_of}
use Rattle.bpf_expand.specs.State.{ExpanderState, IsTold}
use Rattle.bpf_expand.proofs.expander.Expander.report.Goals as goal

pub returns : goal.returns
returns c =
    subst (λ (x : ExpanderState). IfOk c.report.result (λ text. IsTold x.machine (names_of c.args.names.now) (string_bytes text)))
    c.self.view_is c.report.ensures
