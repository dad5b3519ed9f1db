use Rattle.std.proofs.Common.{Bool, is_some, string_bytes, subst, sym}
use Rattle.bpf_names.specs.Names.{names_of}
use Rattle.bpf_machine.specs.Machine.{MachineState}
use Rattle.bpf_expand.specs.Private.Races.{TellsRaces}
use Rattle.bpf_expand.proofs.Answered.{races_told}
use Rattle.bpf_expand.proofs.filter.Filter.tell_races.Goals as goal

pub returns-clause-some : goal.returns-clause-some
returns-clause-some c =
    let e = c.take.new.self in
    let m = e.machine in
    let text = string_bytes c.in_ok-text.text in
    let was = is_some c.self.inside.watcher in
    let names = names_of c.self.inside.names in
    let told = subst (λ (x : MachineState). TellsRaces was x names text) c.machine.ensures c.in_ok-text.ensures.told in
    races_told (is_some c.told_races.new.watcher) e.host names c.args.bytes.now text m (c.in_ok-take.ensures.taken c.if-not-branch.false)
    (subst (λ (b : Bool). TellsRaces b m names text) (sym c.told_races.ensures.same) told)
