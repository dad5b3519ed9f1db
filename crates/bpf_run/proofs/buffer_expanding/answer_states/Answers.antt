use Rattle.bpf_run.proofs.buffer_expanding.answer_states.Goals as goal

pub returns-clause-talks : goal.returns-clause-talks
returns-clause-talks g c =
    let talks = c.talk-talked.ensures in
    (talks.0, c.talk-talked.result, c.talk-talked.new.session, talks.1, talks.2, c.come_to.ensures.status)
