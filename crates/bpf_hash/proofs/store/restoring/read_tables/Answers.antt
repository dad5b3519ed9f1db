use Rattle.std.proofs.Common.{◌≡◌, ◌∙◌, ◌<◌, ◌≤◌, ℕ, List, length, length-drop, sym, ap, get_or, arith}
use Rattle.std.specs.Prelude.{map, slice_index_or}
use Rattle.std.proofs.lemmas.List.{get_or_read}
use Rattle.bpf_hash.specs.Private.Rows.{Rows, no_rows, shape_of}
use Rattle.bpf_hash.specs.Private.Contents.{Contents, rows}
use Rattle.bpf_hash.specs.Private.Sized.{IsReadTable}
use Rattle.bpf_hash.proofs.Storing.{same_shapes, as_many, table_here, more_tables, all_tables, one_shape, all_shapes, one_table}
use Rattle.bpf_hash.proofs.Options.{at_some, at_none}
use Rattle.bpf_hash.proofs.store.restoring.read_tables.Goals as goal

module _ (old : List Rows) (m : ℕ) (table : Rows) (p : Contents) (shapes : map shape_of p.tables ≡ map shape_of old)
    (inside : m < length old) (read : table ≡ get_or old m table) where
  shape_is : (rows p m).shape ≡ table.shape
  shape_is = same_shapes p.tables old shapes m ∙ ap (λ (t : Rows). t.shape) (sym (get_or_read old m table inside read no_rows))

pub loop-map-preserved : goal.loop-map-preserved
loop-map-preserved c =
    let at_map : c.loop-map.map < length c.args.old.now = omega arith in
    let read_shape : c.in-Some.table.shape ≡ c.shape-shape.result = at_some _ _ _ c.in-Some.is c.in_ok-table.ensures.shaped in
    let old_shape : c.shape-shape.result ≡ (slice_index_or c.args.old.now c.loop-map.map no_rows).shape = c.shape-shape.ensures.shape ∙ ap
    (λ (t : Rows). t.shape) (get_or_read c.args.old.now c.loop-map.map c.index-old-map.result at_map c.index-old-map.is no_rows) in record {
      read = λ p more saved.
          (let many = as_many p.tables c.args.old.now saved.shaped in
          let far = c.loop-map.invariant.read p more saved in
          let inside : c.loop-map.map < length p.tables = omega arith in
          let shaped = shape_is c.args.old.now c.loop-map.map c.index-old-map.result p saved.shaped at_map c.index-old-map.is in
          let same = shaped ∙ sym c.shape-shape.ensures.shape in
          let here = table_here (map shape_of c.args.old.now) c.args.cpus c.args.bytes.now p more saved c.loop-map.map c.loop-map.at inside
          far.at_is c.shape-shape.result c.past.result.now same c.past.ensures in
          more_tables (map shape_of c.args.old.now) c.args.cpus c.args.bytes.now p more saved c.loop-map.map c.loop-map.at inside far.at_is
          c.shape-shape.result c.in-Some.count _ _ c.in-Some.table same far
          (at_some _ _ _ c.in-Some.is c.in_ok-table.ensures.read p.runs (rows p c.loop-map.map) _ here) c.in_ok-push.ensures.items);
      inside =
          (let most : c.in-Some.count ≤ length c.past.result.now = at_some _ _ _ c.in-Some.is c.in_ok-table.ensures.inside in
          let rest = ap (λ (bs : List ℕ). length bs) c.past.ensures in
          let size = length-drop c.loop-map.at c.args.bytes.now in
          let before = c.loop-map.invariant.inside in
          omega (arith, most, rest, size, before));
      shaped = one_shape c.args.old.now _ _ c.loop-map.map c.in-Some.table at_map c.loop-map.invariant.shaped c.in_ok-push.ensures.items
          (read_shape ∙ old_shape);
      tables = one_table (IsReadTable c.args.cpus) _ c.in-Some.table c.loop-map.invariant.tables
          (at_some _ _ _ c.in-Some.is c.in_ok-table.ensures.table) _ c.in_ok-push.ensures.items;
    }

pub returns-in_default-clause-none : goal.returns-in_default-clause-none
returns-in_default-clause-none c p more saved =
    let many = as_many p.tables c.args.old.now saved.shaped in
    let far = c.loop-map.invariant.read p more saved in
    let at_map : c.loop-map.map < length c.args.old.now = omega arith in
    let inside : c.loop-map.map < length p.tables = omega arith in
    let shaped = shape_is c.args.old.now c.loop-map.map c.index-old-map.result p saved.shaped at_map c.index-old-map.is in
    let same = shaped ∙ sym c.shape-shape.ensures.shape in
    let here = table_here (map shape_of c.args.old.now) c.args.cpus c.args.bytes.now p more saved c.loop-map.map c.loop-map.at inside
    far.at_is c.shape-shape.result c.past.result.now same c.past.ensures in
    at_none _ _ c.in_default.is c.in_ok-table.ensures.none p.runs (rows p c.loop-map.map) _ here

pub returns-clause-read : goal.returns-clause-read
returns-clause-read c p more saved = all_tables p c.loop-map.map c.loop-map.at c.loop-map.tables.items
    (let many = as_many p.tables c.args.old.now saved.shaped in omega arith) (c.loop-map.invariant.read p more saved)

pub returns-clause-shaped : goal.returns-clause-shaped
returns-clause-shaped c = all_shapes c.args.old.now c.loop-map.tables.items c.loop-map.map (omega arith) c.loop-map.invariant.shaped
