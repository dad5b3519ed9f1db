use Rattle.std.proofs.Common.{◌≡◌, ℕ, Bool, true, length, sym, ap, subst, ◌∙◌, refl, vec_len, arith, rules}
use Rattle.std.specs.Prelude.{map, slice_set}
use Rattle.std.specs.Vec.{with_items}
use Rattle.std.proofs.lemmas.List.{length-map}
use Rattle.bpf_base.proofs.Lists.{filled}
use Rattle.bpf_shared.specs.declared.shapes.MapShape.{MapShape}
use Rattle.bpf_shared.specs.KeyOrder.{Listed}
use Rattle.bpf_shared.specs.Shape.{Shape}
use Rattle.bpf_plain.specs.PlainStore.{shapes_of}
use Rattle.bpf_machine.specs.declared.machine.listing.KeyLists.{KeyLists}
use Rattle.bpf_machine.specs.Machine.{MachineState}
use Rattle.bpf_machine.specs.Parts.{IsSameHost}
use Rattle.bpf_machine.specs.Private.Lanes.{tasks_of}
use Rattle.bpf_machine.specs.Private.KeyLists.{AreListsOf, listings}
use Rattle.bpf_machine.proofs.HostLaws.{some_lists}
use Rattle.bpf_machine.proofs.ListingLaws.{has_job, serves, lists_within, are_lists, still_fit, shows_listed, same_board}
use Rattle.bpf_machine.proofs.machine.Machine.make_list.Goals as goal

pub index_mut-lists-requires : goal.index_mut-lists-requires
index_mut-lists-requires c =
    let m = c.self.inside in
    let has = has_job _ _ c.args.cpu c.self.view_is c.requires in
    let asked : m.keys ≡ true = search rules in
    omega (
      arith,
      lists_within m.store m.programs.items m.jobs.items m.lanes.items c.self.invariant.0 c.args.cpu has m.keys m.lists.items
          asked c.self.invariant.1,
      m.lists.ok.0,
    )

pub list_all-requires-clause-serves : goal.list_all-requires-clause-serves
list_all-requires-clause-serves c =
    let m = c.self.inside in
    serves m.store m.programs.items m.jobs.items m.lanes.items c.self.invariant.0 c.args.cpu (has_job _ _ c.args.cpu c.self.view_is c.requires)

pub list_all-requires-clause-lists : goal.list_all-requires-clause-lists
list_all-requires-clause-lists c =
    let m = c.self.inside in
    let has = has_job _ _ c.args.cpu c.self.view_is c.requires in
    let asked : m.keys ≡ true = search rules in
    let l = c.index_mut-lists.result.now in
    subst (AreListsOf (shapes_of m.store)) (sym c.deref_mut.ensures.value)
    (are_lists m.store m.programs.items m.jobs.items m.lanes.items c.self.invariant.0 c.args.cpu has m.keys m.lists.items asked
    c.self.invariant.1 l c.index_mut-lists.ensures.value)

pub invariant_of-self : goal.invariant_of-self
invariant_of-self c =
    let m = c.self.inside in
    let has = has_job _ _ c.args.cpu c.self.view_is c.requires in
    let asked : m.keys ≡ true = search rules in
    let l = c.index_mut-lists.result.now in
    let new = c.list_all.new.lists in
    let l' : KeyLists = record { maps = with_items l.maps new; made = true } in
    let are = are_lists m.store m.programs.items m.jobs.items m.lanes.items c.self.invariant.0 c.args.cpu has m.keys m.lists.items asked
    c.self.invariant.1 l c.index_mut-lists.ensures.value in
    let long : length new ≡ vec_len l.maps = omega (
      arith,
      l.maps.ok.0,
      length-map new (λ (x : Listed). x.shape),
      length-map l.maps.items
          (λ (x : Listed). x.shape),
      ap (length {A = MapShape}) c.list_all.ensures.lists.shapes_are,
      ap (length {A = MapShape}) are.shapes_are,
    ) in
    let items : l'.maps.items ≡ new = filled (vec_len l.maps) new l.maps.items long in (
      same_board m.store c.list_all.new.store m.programs.items m.jobs.items m.lanes.items c.list_all.ensures.same.0
          c.list_all.ensures.same.1 c.list_all.ensures.same.2 c.self.invariant.0,
      still_fit m.store m.programs.items m.jobs.items m.lanes.items c.self.invariant.0 c.args.cpu has m.keys m.lists.items asked
          c.self.invariant.1 l c.index_mut-lists.ensures.value l' refl c.list_all.new.store
          (ap (λ (h : Shape). h.maps) c.list_all.ensures.shape) (subst (AreListsOf (shapes_of m.store)) (sym items) c.list_all.ensures.lists),
    )

pub returns-clause-lists : goal.returns-clause-lists
returns-clause-lists c =
    let m = c.self.inside in
    let has = has_job _ _ c.args.cpu c.self.view_is c.requires in
    let asked : m.keys ≡ true = search rules in
    let l = c.index_mut-lists.result.now in
    let new = c.list_all.new.lists in
    let l' : KeyLists = record { maps = with_items l.maps new; made = true } in
    let are = are_lists m.store m.programs.items m.jobs.items m.lanes.items c.self.invariant.0 c.args.cpu has m.keys m.lists.items asked
    c.self.invariant.1 l c.index_mut-lists.ensures.value in
    let long : length new ≡ vec_len l.maps = omega (
      arith,
      l.maps.ok.0,
      length-map new (λ (x : Listed). x.shape),
      length-map l.maps.items
          (λ (x : Listed). x.shape),
      ap (length {A = MapShape}) c.list_all.ensures.lists.shapes_are,
      ap (length {A = MapShape}) are.shapes_are,
    ) in
    let items : l'.maps.items ≡ new = filled (vec_len l.maps) new l.maps.items long in
    shows_listed m.store m.programs.items m.jobs.items m.lanes.items c.self.invariant.0 c.args.cpu has m.keys m.lists.items asked
    c.self.invariant.1 l c.index_mut-lists.ensures.value l' refl c.list_all.new.store
    (ap (λ (h : Shape). h.maps) c.list_all.ensures.shape) (subst (AreListsOf (shapes_of m.store)) (sym items) c.list_all.ensures.lists)
    (λ s sound stands. (let told = c.list_all.ensures.keys s sound stands in (told.0, ap (map (λ (x : Listed). x.keys)) items ∙ told.1)))
    c.args.self.now c.self.view_is

pub returns-clause-same : goal.returns-clause-same
returns-clause-same c =
    let m = c.self.inside in
    let asked : m.keys ≡ true = search rules in
    let l = c.index_mut-lists.result.now in
    let l' : KeyLists = record { maps = with_items l.maps c.list_all.new.lists; made = true } in
    let new : MachineState = record {
      store = c.list_all.new.store;
      programs = m.programs.items;
      jobs = tasks_of m.lanes.items m.jobs.items;
      lists = listings m.keys (slice_set m.lists.items c.args.cpu l');
    } in
    let H : MachineState → Type 0 = λ s. IsSameHost s new in
    subst H c.self.view_is (record {
      programs = refl;
      jobs = refl;
      shape = (λ n. ap (λ (f : ℕ → Bool). f n) c.list_all.ensures.same.0, c.list_all.ensures.shape);
      lists = λ none. some_lists m.keys m.lists.items asked none;
    })
