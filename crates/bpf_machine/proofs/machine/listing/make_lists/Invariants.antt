use Rattle.std.proofs.Common.{◌≡◌, ℕ, ◌<◌, length, Some}
use Rattle.std.specs.Prelude.{slice_get}
use Rattle.bpf_cpu.specs.declared.job.Job.{Job}
use Rattle.bpf_plain.specs.PlainStore.{shapes_of}
use Rattle.bpf_machine.specs.Private.KeyLists.{AreFirst, HasLists}
use Rattle.bpf_machine.proofs.machine.listing.make_lists.Given as goal

abbrev pub invariant-loop-cpu : goal.invariant-loop-cpu
invariant-loop-cpu l = record {
  count : length l.all.items ≡ l.cpu;
  first : AreFirst l.all.items;
  have : (j : ℕ) (x : Job) → slice_get l.jobs j ≡ Some x → x.cpu < l.cpu → HasLists (shapes_of l.store) l.all.items x.cpu;
}
