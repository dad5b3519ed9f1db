use Rattle.std.proofs.Common.{sym, subst, ◌∙◌}
use Rattle.bpf_live.specs.Live.{IsLive, IsLiveTable, Table}
use Rattle.bpf_live.proofs.Needed.{all_are_live, no_set}
use Rattle.bpf_live.proofs.finding.all_live.Goals as goal

pub returns-clause-all : goal.returns-clause-all
returns-clause-all c pc r = subst (λ (t : Table). IsLive t pc r) (sym (c.new-2.ensures ∙ c.new.ensures.items)) (no_set pc r)

pub returns-clause-right : goal.returns-clause-right
returns-clause-right c program = subst (IsLiveTable program) (sym (c.new-2.ensures ∙ c.new.ensures.items)) (λ pc i begins. all_are_live program pc i)
