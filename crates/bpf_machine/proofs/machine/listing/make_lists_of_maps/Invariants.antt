use Rattle.std.proofs.Common.{length, take, ◌-◌}
use Rattle.bpf_plain.specs.PlainStore.{shapes_of}
use Rattle.bpf_machine.specs.Private.KeyLists.{AreListsOf}
use Rattle.bpf_machine.proofs.machine.listing.make_lists_of_maps.Given as goal

abbrev pub invariant-maps : goal.invariant-maps
invariant-maps l = AreListsOf (take (length l.lists.items) (shapes_of l.store)) l.lists.items

abbrev pub decreases-maps : goal.decreases-maps
decreases-maps l = 16 - length l.lists.items
