use Rattle.std.proofs.Common.{refl}
use Rattle.bpf_names.specs.Names.{names_of}
use Rattle.bpf_explore.proofs.AnswerLaws.{more_gathered, none_lost}
use Rattle.bpf_explore.proofs.TellLaws.{has_work}
use Rattle.bpf_explore.proofs.answers.tell_at.Goals as goal

pub returns-then-not-has_ended-clause-gathered : goal.returns-then-not-has_ended-clause-gathered
returns-then-not-has_ended-clause-gathered c =
    let names = names_of c.args.names.now in
    let kept = c.args.spread.now.kept in
    let answers = c.args.answers.now.items in
    more_gathered kept names c.args.maps c.args.place answers answers c.requires.gathered c.requires.gathered.sorted (none_lost answers)
    c.requires.gathered.ends
    (has_work kept names c.args.maps answers c.args.place (c.if-not-has_ended.ensures.works refl))

pub tell_ended-requires : goal.tell_ended-requires
tell_ended-requires c = record {
  place = c.requires.place;
  ended = c.if-not-has_ended.ensures.ended refl;
  first = c.requires.first;
  sorted = c.requires.gathered.sorted;
  ends = c.requires.gathered.ends;
}

pub returns-clause-gathered : goal.returns-clause-gathered
returns-clause-gathered c =
    let names = names_of c.args.names.now in
    let kept = c.args.spread.now.kept in
    let e = c.in_ok-tell_ended.ensures in
    more_gathered kept names c.args.maps c.args.place c.args.answers.now.items c.tell_ended.new.answers.items c.requires.gathered e.sorted
    e.keeps e.ends e.answered
