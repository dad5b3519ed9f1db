use Rattle.std.proofs.Common.{◌≡◌, ◌∙◌, ◌<◌, ℕ, List, length, take, ap, sym, subst, arith}
use Rattle.std.specs.Prelude.{map, slice_index_or}
use Rattle.std.proofs.lemmas.List.{length-map, length-take-le}
use Rattle.bpf_hash.specs.Private.Rows.{Rows, no_rows, shape_of}
use Rattle.bpf_hash.specs.Private.Normal.{run_read}
use Rattle.bpf_hash.specs.Private.Sized.{IsReadTable}
use Rattle.bpf_hash.proofs.Sizing.{read_store}
use Rattle.bpf_hash.proofs.Storing.{as_many, runs_inside, tables_saved, is_normal}
use Rattle.bpf_hash.proofs.Options.{at_some, at_none}
use Rattle.bpf_hash.proofs.store.HashStore.restored.Goals as goal

pub returns-then-bytes-cpus-clause-none : goal.returns-then-bytes-cpus-clause-none
returns-then-bytes-cpus-clause-none c k p first =
    let enough = runs_inside p c.args.self.now c.args.bytes.now k first c.count_cpus-cpus.result c.count_cpus-cpus.ensures.count in
    let few = c.if-bytes-cpus.true in absurd (omega arith)

pub invariant_of-result : goal.invariant_of-result
invariant_of-result c =
    let n = c.count_cpus-cpus.result in
    let enough = c.if-bytes-cpus.false in
    let many : length c.in_ok-runs.runs.items ≡ n =
    ap (λ (rs : List _). length rs) c.in_ok-runs.ensures ∙ (length-map (take n c.args.bytes.now) run_read ∙ length-take-le n c.args.bytes.now (omega arith))
    in
    let shaped : map shape_of c.in-Some.tables.items ≡ map shape_of c.tables.result.now = at_some _ _ _ c.in-Some.is c.in_ok-tables.ensures.shaped in
    let maps = as_many c.in-Some.tables.items c.tables.result.now shaped in
    let few = c.tables.ensures.few in
    let small = c.count_cpus-cpus.ensures.few in
    let read : (m : ℕ) → m < length c.in-Some.tables.items → IsReadTable n (slice_index_or c.in-Some.tables.items m no_rows) = at_some _ _ _
    c.in-Some.is c.in_ok-tables.ensures.tables in
    read_store (record { runs = c.in_ok-runs.runs.items; tables = c.in-Some.tables.items }) (take n c.args.bytes.now) c.in_ok-runs.ensures
    (omega (arith, many, small)) (omega (arith, maps, few))
    (λ m l. subst (λ (k : ℕ). IsReadTable k (slice_index_or c.in-Some.tables.items m no_rows)) (sym many) (read m l))

pub returns-in-Some-clause-read : goal.returns-in-Some-clause-read
returns-in-Some-clause-read c k p first =
    let n = c.count_cpus-cpus.result in
    let shapes = ap (λ (ts : List Rows). map shape_of ts) c.tables.ensures.same in
    let saved = tables_saved p c.args.self.now c.args.bytes.now k first n c.count_cpus-cpus.ensures.count (map shape_of c.tables.result.now)
    c.past.result.now shapes c.past.ensures in
    is_normal p c.args.self.now c.args.bytes.now k first n c.count_cpus-cpus.ensures.count c.in_ok-runs.runs.items c.in-Some.tables.items
    c.in_ok-runs.ensures (at_some _ _ _ c.in-Some.is c.in_ok-tables.ensures.read p _ saved)

pub returns-in-None-clause-none : goal.returns-in-None-clause-none
returns-in-None-clause-none c k p first =
    let n = c.count_cpus-cpus.result in
    let shapes = ap (λ (ts : List Rows). map shape_of ts) c.tables.ensures.same in
    let saved = tables_saved p c.args.self.now c.args.bytes.now k first n c.count_cpus-cpus.ensures.count (map shape_of c.tables.result.now)
    c.past.result.now shapes c.past.ensures in
    at_none _ _ c.in-None.is c.in_ok-tables.ensures.none p _ saved
