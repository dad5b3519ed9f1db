use Rattle.std.proofs.Common.{◌≡◌, ℕ, ◌<◌, Some}
use Rattle.std.specs.Prelude.{slice_get}
use Rattle.std.specs.FinMap.{keys}
use Rattle.bpf_shared.specs.KeyOrder.{Listed}
use Rattle.bpf_shared.specs.Store.{Plain}
use Rattle.bpf_shared.specs.Sound.{IsSoundStore}
use Rattle.bpf_plain.specs.PlainStore.{has_cpu, is_running, held_spans, shape_of, shapes_of, StandsFor}
use Rattle.bpf_machine.specs.Private.KeyLists.{AreListsOf}
use Rattle.bpf_machine.proofs.machine.listing.list_all.Given as goal

abbrev pub invariant-loop-map : goal.invariant-loop-map
invariant-loop-map l = record {
  listed : (s : Plain) → IsSoundStore s → StandsFor l.initial.store s
      → StandsFor l.store s × ((k : ℕ) (x : Listed) → k < l.map → slice_get l.lists k ≡ Some x → x.keys ≡ keys (s.maps k));
  lists : AreListsOf (shapes_of l.initial.store) l.lists;
  shape : shape_of l.store ≡ shape_of l.initial.store;
  serves : has_cpu l.store ≡ has_cpu l.initial.store;
  runs : is_running l.store ≡ is_running l.initial.store;
  held : held_spans l.store ≡ held_spans l.initial.store;
}
