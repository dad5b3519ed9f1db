use Rattle.std.proofs.Common.{◌≡◌, ◌≢◌, ℕ, List, length, subst, ap, arith}
use Rattle.bpf_shared.specs.declared.shapes.MapShape.{MapShape}
use Rattle.bpf_shared.specs.Shape.{IsElement}
use Rattle.bpf_hash.specs.Private.Rows.{Rows, key_of, IsLinked}
use Rattle.bpf_hash.specs.Private.Contents.{Contents, rows, IsStore, with_table}
use Rattle.bpf_hash.proofs.Changing.{map_there, read_row}
use Rattle.bpf_hash.proofs.Looking.{unlooked_calls}
use Rattle.bpf_hash.proofs.LookingUp.{element_there, cpu_there, is_element, lookup_store, lookup_same, lookup_calls, lookup_held}
use Rattle.bpf_hash.proofs.Elements.{are_maps, held_is_element}
use Rattle.bpf_hash.proofs.store.HashStore.lookup.Goals as goal

pub returns-in_err-element-clause-found : goal.returns-in_err-element-clause-found
returns-in_err-element-clause-found c =
    let p = c.args.self.now in
    let m = c.args.map in
    let mi = map_there p m c.requires.key.0 c.requires.key.1 in
    let row : c.index-table.result.now ≡ rows p m = read_row p m c.self.inside.runs.items c.self.inside.tables.items
    c.index-table.result.now c.self.view_is mi c.index-table.ensures in
    let absent = subst (λ (t : Rows). (i : ℕ) → IsLinked t i → key_of t i ≢ c.args.key.now) row c.in_err-element.ensures.absent in
    rw c.from_residual.ensures (unlooked_calls p c.args.cpu m c.args.key.now c.requires.in_run c.requires.key absent)

pub span-span-requires-clause-map : goal.span-span-requires-clause-map
span-span-requires-clause-map c =
    let mi = map_there c.args.self.now c.args.map c.requires.key.0 c.requires.key.1 in
    omega (arith, mi, ap (λ (q : Contents). length q.tables) c.self.view_is, c.self.invariant.maps)

pub index_mut-requires : goal.index_mut-requires
index_mut-requires c =
    let mi = map_there c.args.self.now c.args.map c.requires.key.0 c.requires.key.1 in
    omega (arith, mi, ap (λ (q : Contents). length q.tables) c.self.view_is, c.self.inside.tables.ok.0)

pub look_up-requires-clause-element : goal.look_up-requires-clause-element
look_up-requires-clause-element c = element_there (record { runs = c.self.inside.runs.items; tables = c.self.inside.tables.items })
    c.args.self.now c.self.view_is c.self.invariant c.args.cpu c.args.map c.requires.serves c.requires.key.0 c.requires.key.1
    c.index-table.result.now c.index-table.ensures c.index_mut.result.now c.index_mut.ensures.value c.in_ok-element.element
    c.in_ok-element.ensures.inside

pub look_up-requires-clause-cpu : goal.look_up-requires-clause-cpu
look_up-requires-clause-cpu c = cpu_there (record { runs = c.self.inside.runs.items; tables = c.self.inside.tables.items }) c.args.self.now
    c.self.view_is c.self.invariant c.args.cpu c.args.map c.requires.serves c.requires.key.0 c.requires.key.1 c.index-table.result.now
    c.index-table.ensures c.index_mut.result.now c.index_mut.ensures.value c.in_ok-element.element c.in_ok-element.ensures.inside

pub invariant_of-self : goal.invariant_of-self
invariant_of-self c = lookup_store (record { runs = c.self.inside.runs.items; tables = c.self.inside.tables.items }) c.args.self.now
    c.self.view_is c.self.invariant c.args.cpu c.args.map c.requires.serves c.requires.key.0 c.requires.key.1 c.index-table.result.now
    c.index-table.ensures c.index_mut.result.now c.index_mut.ensures.value c.in_ok-element.element c.in_ok-element.ensures.inside
    c.index.result.now c.index.ensures c.look_up.new.self c.look_up.ensures.noted c.look_up.ensures.table.1

pub returns-clause-found : goal.returns-clause-found
returns-clause-found c = lookup_calls (record { runs = c.self.inside.runs.items; tables = c.self.inside.tables.items }) c.args.self.now
    c.self.view_is c.self.invariant c.args.cpu c.args.map c.requires.serves c.requires.key.0 c.requires.key.1 c.index-table.result.now
    c.index-table.ensures c.index_mut.result.now c.index_mut.ensures.value c.in_ok-element.element c.in_ok-element.ensures.inside
    c.index.result.now c.index.ensures c.look_up.new.self c.look_up.ensures.noted c.requires.in_run c.args.key.now c.requires.key.2
    c.in_ok-element.ensures.found.0 c.in_ok-element.ensures.found.1 c.span-span.result c.span-span.ensures.span

pub returns-clause-held : goal.returns-clause-held
returns-clause-held c = lookup_held (record { runs = c.self.inside.runs.items; tables = c.self.inside.tables.items }) c.args.self.now
    c.self.view_is c.self.invariant c.args.cpu c.args.map c.requires.serves c.requires.key.0 c.requires.key.1 c.index-table.result.now
    c.index-table.ensures c.index_mut.result.now c.index_mut.ensures.value c.in_ok-element.element c.in_ok-element.ensures.inside
    c.index.result.now c.index.ensures c.look_up.new.self c.look_up.ensures.noted c.requires.in_run c.args.key.now c.requires.key.2
    c.in_ok-element.ensures.found.0 c.in_ok-element.ensures.found.1 c.span-span.result c.span-span.ensures.span

pub returns-clause-element : goal.returns-clause-element
returns-clause-element c = is_element (record { runs = c.self.inside.runs.items; tables = c.self.inside.tables.items }) c.args.self.now
    c.self.view_is c.self.invariant c.args.cpu c.args.map c.requires.serves c.requires.key.0 c.requires.key.1 c.index-table.result.now
    c.index-table.ensures c.index_mut.result.now c.index_mut.ensures.value c.in_ok-element.element c.in_ok-element.ensures.inside
    c.span-span.result c.span-span.ensures.span

pub returns-clause-same : goal.returns-clause-same
returns-clause-same c = lookup_same (record { runs = c.self.inside.runs.items; tables = c.self.inside.tables.items }) c.args.self.now
    c.self.view_is c.self.invariant c.args.cpu c.args.map c.requires.serves c.requires.key.0 c.requires.key.1 c.index-table.result.now
    c.index-table.ensures c.index_mut.result.now c.index_mut.ensures.value c.in_ok-element.element c.in_ok-element.ensures.inside
    c.index.result.now c.index.ensures c.look_up.new.self c.look_up.ensures.noted

pub returns-in_err-element-clause-maps : goal.returns-in_err-element-clause-maps
returns-in_err-element-clause-maps c = are_maps c.args.self.now (subst IsStore c.self.view_is c.self.invariant)

pub returns-in_err-element-clause-elements : goal.returns-in_err-element-clause-elements
returns-in_err-element-clause-elements c = held_is_element c.args.self.now c.args.cpu

pub returns-clause-maps : goal.returns-clause-maps
returns-clause-maps c = are_maps c.args.self.now (subst IsStore c.self.view_is c.self.invariant)

pub returns-clause-elements : goal.returns-clause-elements
returns-clause-elements c = λ q held.
    let new : Contents = with_table (record { runs = c.self.inside.runs.items; tables = c.self.inside.tables.items }) c.args.map c.look_up.new.self in
    subst (λ (maps : List MapShape). IsElement maps q) (returns-clause-same c).0 (held_is_element new c.args.cpu q held)
