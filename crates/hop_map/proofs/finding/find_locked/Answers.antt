use Rattle.std.proofs.Common.{Option, sym, subst}
use Rattle.bpf_shared.specs.declared.events.Span.{Span}
use Rattle.hop_map.specs.Finding.{Looked}
use Rattle.hop_map.proofs.finding.find_locked.Goals as goal

pub returns-clause-found : goal.returns-clause-found
returns-clause-found g c = subst (λ (o : Option Span). Looked c.args.table.now.about c.args.lane.known c.args.map c.args.key.now o
    c.locate_locked-lane.result.0.known) (sym c.span_of.ensures) c.locate_locked-lane.ensures.found
