use Rattle.std.proofs.Common.{◌≡◌, Option, option_map, refl, subst}
use Rattle.bpf_run.specs.Conversing.{asked_talk}
use Rattle.bpf_run.specs.declared.conversing.Asked.{Asked}
use Rattle.bpf_run.proofs.Talked.{does_else, does_talk}
use Rattle.bpf_run.proofs.program.perform_command.Goals as goal

pub returns-in-Some : goal.returns-in-Some
returns-in-Some g c =
    let A : Option Asked → Type 0 = λ asked. option_map (λ (a : Asked). (a.partner, a.name.now)) asked ≡ asked_talk c.args.errand.command
    (option_map (λ s. s.now) c.args.errand.file) c.args.errand.json in
    does_talk _ _ _ _ _ _ _ _ _ _ _ _ _ _ _ _ (subst A c.in-Some.is c.asked_talk.ensures) c.talk_named.ensures

pub returns-in-None : goal.returns-in-None
returns-in-None g c =
    let A : Option Asked → Type 0 = λ asked. option_map (λ (a : Asked). (a.partner, a.name.now)) asked ≡ asked_talk c.args.errand.command
    (option_map (λ s. s.now) c.args.errand.file) c.args.errand.json in
    does_else _ _ _ _ _ _ _ _ _ _ _ _ _ _ (subst A c.in-None.is c.asked_talk.ensures) refl c.perform_as.ensures.replies
