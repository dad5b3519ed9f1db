use Rattle.std.proofs.Common.{◌∙◌, ap, subst, sym, string_bytes}
use Rattle.std.proofs.lemmas.Option.{IfSome_then}
use Rattle.bpf_plain.specs.PlainStore.{Contents}
use Rattle.bpf_machine.specs.Machine.{MachineState}
use Rattle.bpf_debug.specs.Session.{SessionState, IsShown}
use Rattle.bpf_replies.specs.Script.{scene_of}
use Rattle.bpf_run.proofs.HungPlaces.{count_is, places_told}
use Rattle.bpf_run.proofs.hung.places_after.Goals as goal

pub returns : goal.returns
returns c = IfSome_then c.places_by.result c.places_by.ensures (λ text told.
    let opened = c.in-Ok.ensures.opened in
    let store = c.store.ensures ∙ ap (λ (m : MachineState). m.store) c.machine.ensures in
    places_told c.new-debugger.result opened.0 c.args.file.now c.args.schedule.now (string_bytes text) c.cpus-cpus.result opened.1
    (subst (λ (s : SessionState). IsShown s (scene_of opened.0)) (sym c.new-debugger.ensures) opened.2)
    (count_is opened.0 c.cpus-cpus.result c.store.result.now.shape c.cpus-cpus.ensures.cpus
    (opened.2.world.store.shape ∙ ap (λ (p : Contents). p.shape) (sym store))) c.cpus-cpus.ensures.in_range.1 told)
