use Rattle.bpf_races.proofs.Nexts.{has_program, watched_next}
use Rattle.bpf_races.proofs.next.next_in_hand.Goals as goal

pub returns-in_default-clause-next : goal.returns-in_default-clause-next
returns-in_default-clause-next c = absurd (has_program c.args.machine.now c.args.cpu c.args.job c.args.state.now c.program_of.result
    c.requires.hand c.program_of.ensures c.in_default.is)

pub returns-clause-next : goal.returns-clause-next
returns-clause-next c =
    watched_next c.writes_are_determined.ensures c.one_instruction_begins.ensures c.calls_have_one_reply.ensures c.args.machine.now
    c.args.cpu c.args.job c.program_of.result c.in-Some.program c.in_ok-at.at c.watch.new.recorder.events c.args.state.now
    c.in_ok-accesses.accesses.items c.stands.ensures c.requires.hand c.program_of.ensures c.in-Some.is c.remember.ensures
    c.in_ok-at.ensures.watched c.in_ok-accesses.ensures
