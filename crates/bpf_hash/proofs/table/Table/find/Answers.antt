use Rattle.std.proofs.lemmas.Option.{IfSome_then}
use Rattle.bpf_hash.proofs.table.Table.find.Goals as goal

pub returns-clause-found : goal.returns-clause-found
returns-clause-found c = IfSome_then c.find_at.result c.find_at.ensures.found (λ i p. (p.linked, p.is))
