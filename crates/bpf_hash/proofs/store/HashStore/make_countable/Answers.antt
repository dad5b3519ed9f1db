use Rattle.std.proofs.Common.{◌≡◌, ℕ, ◌<◌, true, false, List, length, set, get_or, inl, inr, subst, ap, sym, ◌∙◌, arith}
use Rattle.std.proofs.lemmas.List.{with_items_is, get_or_read, get_or-set_same, get_or-set_other, length-set}
use Rattle.bpf_hash.specs.declared.runs.Runs.{Runs}
use Rattle.bpf_hash.specs.Private.Runs.{no_runs}
use Rattle.bpf_hash.specs.Private.Rows.{Rows, no_rows, Forgets, IsTable}
use Rattle.bpf_hash.specs.Private.Contents.{Contents, has_cpu, is_running, IsStore}
use Rattle.bpf_hash.specs.Private.Changes.{IsAlike, Recounts}
use Rattle.bpf_shared.proofs.Puts.{equal_or_not}
use Rattle.bpf_hash.proofs.Blocks.{below_or_same}
use Rattle.bpf_hash.proofs.Counting.{served, anew_store, anew_alike}
use Rattle.bpf_hash.proofs.store.HashStore.make_countable.Goals as goal

pub loop-table-preserved : goal.loop-table-preserved
loop-table-preserved c =
    let i = c.loop-table.invariant in
    let k = c.loop-table.table-index in
    let items = c.loop-table.table-items in
    let n = c.forget.new.self in
    let within : k < length items = omega (arith, i.count, c.loop-table-test.true) in
    let here : get_or items k c.table-item.result ≡ get_or c.deref_mut-table-items.result.now k no_rows = get_or_read items k
    (get_or items k c.table-item.result) within (sym (ap (get_or items k) (sym c.table-item.is))) no_rows ∙ i.rest k (omega arith) in
    record {
      count = length-set items k n ∙ i.count;
      done = λ m l. elim (equal_or_not m k) [
        | inl e ↦
            let at : get_or (set items k n) m no_rows ≡ n = ap (λ (x : ℕ). get_or (set items k n) x no_rows) e ∙ get_or-set_same items k n no_rows within in
            let was : get_or c.deref_mut-table-items.result.now k no_rows ≡ get_or c.deref_mut-table-items.result.now m no_rows = ap
            (λ (x : ℕ). get_or c.deref_mut-table-items.result.now x no_rows) (sym e) in (
              subst (Forgets c.args.cpu (get_or c.deref_mut-table-items.result.now m no_rows)) (sym at)
                  (subst (λ (t : Rows). Forgets c.args.cpu t n) (here ∙ was) c.forget.ensures.forgets),
              subst IsTable (sym at) c.forget.ensures.table,
            )
        | inr ne ↦
            let at : get_or (set items k n) m no_rows ≡ get_or items m no_rows = get_or-set_other items k m n no_rows ne in
            let old = i.done m (below_or_same m k l ne) in (
              subst (Forgets c.args.cpu (get_or c.deref_mut-table-items.result.now m no_rows)) (sym at) old.0,
              subst IsTable (sym at) old.1,
            )
      ];
      rest = λ m l. get_or-set_other items k m n no_rows (λ e. (let z : m ≡ k = e in omega arith)) ∙ i.rest m (omega arith);
    }

-- the CPU's runs are counted anew in the store whose parts are these, and it is forgotten in each table; the tables are those that the loop left
module _ (parts p : Contents) (view : ◌≡◌ {A = Contents} parts p) (ok : IsStore parts) (cpu : ℕ) (serves : has_cpu p cpu ≡ true)
    (idle : is_running p cpu ≡ false) (run : Runs) (run_is : run ≡ get_or parts.runs cpu run)
    (start items : List Rows) (start_is : start ≡ parts.tables) (count : length items ≡ length start)
    (each : (m : ℕ) → m < length items → Forgets cpu (get_or start m no_rows) (get_or items m no_rows) × IsTable (get_or items m no_rows)) where
  abbrev anew : Contents
  anew = record { runs = set parts.runs cpu (record { count = 0; running = run.running }); tables = items }

  as_many : length items ≡ length parts.tables
  as_many = count ∙ ap (length {A = Rows}) start_is

  served_here : has_cpu parts cpu ≡ true
  served_here = subst (λ (q : Contents). has_cpu q cpu ≡ true) (sym view) serves

  idle_here : is_running parts cpu ≡ false
  idle_here = subst (λ (q : Contents). is_running q cpu ≡ false) (sym view) idle

  recounts : Recounts parts cpu anew
  recounts = record {
    runs = ap (λ (y : Runs). set parts.runs cpu (record { count = 0; running = y.running }))
        (get_or_read parts.runs cpu run (served parts cpu served_here) run_is no_runs);
    count = as_many;
    tables = λ m l. subst (λ (ts : List Rows). Forgets cpu (get_or ts m no_rows) (get_or items m no_rows) × IsTable
        (get_or items m no_rows)) start_is (each m (let z : m < length parts.tables = l in omega (arith, z, as_many)));
  }

  recounted : IsStore anew × IsAlike p anew
  recounted = (
    anew_store parts anew cpu ok served_here idle_here recounts,
    subst (λ (x : Contents). IsAlike x anew) view
        (anew_alike parts anew cpu ok served_here idle_here recounts),
  )

pub invariant_of-self : goal.invariant_of-self
invariant_of-self c =
    let many = as_many (record { runs = c.self.inside.runs.items; tables = c.self.inside.tables.items }) c.args.self.now c.self.view_is
    c.self.invariant c.args.cpu c.requires.serves c.requires.idle c.index_mut.result.now c.index_mut.ensures.value
    c.deref_mut-table-items.result.now c.loop-table.table-items c.deref_mut-table-items.ensures.value c.loop-table.invariant.count
    (λ m l. c.loop-table.invariant.done m (let z : m < length c.loop-table.table-items = l in omega arith)) in
    let written = with_items_is c.self.inside.tables c.loop-table.table-items (omega (arith, c.self.inside.tables.ok.0, many)) in
    let both = recounted (record { runs = c.self.inside.runs.items; tables = c.self.inside.tables.items }) c.args.self.now c.self.view_is
    c.self.invariant c.args.cpu c.requires.serves c.requires.idle c.index_mut.result.now c.index_mut.ensures.value
    c.deref_mut-table-items.result.now c.loop-table.table-items c.deref_mut-table-items.ensures.value c.loop-table.invariant.count
    (λ m l. c.loop-table.invariant.done m (let z : m < length c.loop-table.table-items = l in omega arith)) in
    subst (λ (ts : List Rows). IsStore (record {
      runs = set c.self.inside.runs.items c.args.cpu
          (record { count = 0; running = c.index_mut.result.now.running });
      tables = ts;
    })) (sym written) both.0

pub returns-clause-alike : goal.returns-clause-alike
returns-clause-alike c =
    let many = as_many (record { runs = c.self.inside.runs.items; tables = c.self.inside.tables.items }) c.args.self.now c.self.view_is
    c.self.invariant c.args.cpu c.requires.serves c.requires.idle c.index_mut.result.now c.index_mut.ensures.value
    c.deref_mut-table-items.result.now c.loop-table.table-items c.deref_mut-table-items.ensures.value c.loop-table.invariant.count
    (λ m l. c.loop-table.invariant.done m (let z : m < length c.loop-table.table-items = l in omega arith)) in
    let written = with_items_is c.self.inside.tables c.loop-table.table-items (omega (arith, c.self.inside.tables.ok.0, many)) in
    let both = recounted (record { runs = c.self.inside.runs.items; tables = c.self.inside.tables.items }) c.args.self.now c.self.view_is
    c.self.invariant c.args.cpu c.requires.serves c.requires.idle c.index_mut.result.now c.index_mut.ensures.value
    c.deref_mut-table-items.result.now c.loop-table.table-items c.deref_mut-table-items.ensures.value c.loop-table.invariant.count
    (λ m l. c.loop-table.invariant.done m (let z : m < length c.loop-table.table-items = l in omega arith)) in
    subst (λ (ts : List Rows). IsAlike c.args.self.now (record {
      runs = set c.self.inside.runs.items c.args.cpu
          (record { count = 0; running = c.index_mut.result.now.running });
      tables = ts;
    })) (sym written) both.1
