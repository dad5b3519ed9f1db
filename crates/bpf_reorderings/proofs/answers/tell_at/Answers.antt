use Rattle.std.proofs.Common.{refl}
use Rattle.bpf_names.specs.Names.{names_of}
use Rattle.bpf_explore.proofs.AnswerLaws.{none_lost}
use Rattle.bpf_reorderings.proofs.Printing.{more_gathered, has_work}
use Rattle.bpf_reorderings.proofs.answers.tell_at.Goals as goal

pub returns-then-not-has_ended-clause-gathered : goal.returns-then-not-has_ended-clause-gathered
returns-then-not-has_ended-clause-gathered c =
    let names = names_of c.args.names.now in
    let e = c.args.explorer.now in
    let told = c.args.told.now in
    let far = c.requires.gathered in
    more_gathered e.patient e.kept names c.args.maps c.args.place told told far refl far.sorted (none_lost told.answers.items) far.ends
    (has_work e.kept names c.args.maps told.answers.items c.args.place (c.if-not-has_ended.ensures.works refl))
