use Rattle.bpf_machine.proofs.ListingLaws.{lists_with_last, lists_not_yet}
use Rattle.bpf_machine.proofs.machine.Machine.list_at_end.Goals as goal

pub unreachable-requires : goal.unreachable-requires
unreachable-requires c = let has = c.in-InHand.ensures in c.requires.free c.in-InHand.field-0 has.0 has.1 has.2 has.3

pub returns-in-Nothing-clause-lists : goal.returns-in-Nothing-clause-lists
returns-in-Nothing-clause-lists c = lists_with_last c.args.self.now c.make_list.new.self c.args.cpu c.in-Nothing.ensures.1 c.make_list.ensures.lists

pub returns-in-Waiting-clause-lists : goal.returns-in-Waiting-clause-lists
returns-in-Waiting-clause-lists c = lists_not_yet c.args.self.now c.args.cpu c.in-Waiting.field-0 c.in-Waiting.ensures
