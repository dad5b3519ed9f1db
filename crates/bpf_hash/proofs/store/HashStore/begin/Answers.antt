use Rattle.std.proofs.Common.{◌≡◌, ℕ, ◌<◌, Bool, true, length, subst, ap, sym, ◌∙◌, arith}
use Rattle.std.proofs.lemmas.List.{get_or_read}
use Rattle.bpf_hash.specs.declared.runs.Runs.{Runs}
use Rattle.bpf_hash.specs.Private.Runs.{no_runs}
use Rattle.bpf_hash.specs.Private.Contents.{Contents, runs_of, has_cpu}
use Rattle.bpf_hash.proofs.Counting.{served, begun_calls, begun_running, begun_held, begun_same}
use Rattle.bpf_hash.proofs.store.HashStore.begin.Goals as goal

pub returns-clause-begun : goal.returns-clause-begun
returns-clause-begun c = begun_calls c.args.self.now c.make_countable.new.self c.args.cpu c.requires.serves c.requires.idle
    c.make_countable.ensures.alike c.self.inside.runs.items c.self.inside.tables.items c.index_mut-runs.result.now c.self.view_is
    c.index_mut-runs.ensures.value c.self.invariant

pub returns-clause-held : goal.returns-clause-held
returns-clause-held c = begun_held c.args.self.now c.make_countable.new.self c.args.cpu c.requires.serves c.requires.idle
    c.make_countable.ensures.alike c.self.inside.runs.items c.self.inside.tables.items c.index_mut-runs.result.now c.self.view_is
    c.index_mut-runs.ensures.value c.self.invariant

pub returns-clause-same : goal.returns-clause-same
returns-clause-same c = begun_same c.args.self.now c.make_countable.new.self c.args.cpu c.requires.serves c.requires.idle
    c.make_countable.ensures.alike c.self.inside.runs.items c.self.inside.tables.items c.index_mut-runs.result.now c.self.view_is
    c.index_mut-runs.ensures.value c.self.invariant

pub returns-clause-running : goal.returns-clause-running
returns-clause-running c = begun_running c.args.self.now c.make_countable.new.self c.args.cpu c.requires.serves c.requires.idle
    c.make_countable.ensures.alike c.self.inside.runs.items c.self.inside.tables.items c.index_mut-runs.result.now c.self.view_is
    c.index_mut-runs.ensures.value c.self.invariant

pub index_mut-runs-requires : goal.index_mut-runs-requires
index_mut-runs-requires c =
    let x = c.make_countable.new.self in
    let serves : has_cpu x c.args.cpu ≡ true = ap (λ (f : ℕ → Bool). f c.args.cpu) c.make_countable.ensures.alike.serves ∙ c.requires.serves in
    let inside = served x c.args.cpu serves in
    omega (arith, ap (λ (q : Contents). length q.runs) c.self.view_is, c.self.inside.runs.ok.0)

pub overflow_add-runs : goal.overflow_add-runs
overflow_add-runs c =
    let x = c.make_countable.new.self in
    let serves : has_cpu x c.args.cpu ≡ true = ap (λ (f : ℕ → Bool). f c.args.cpu) c.make_countable.ensures.alike.serves ∙ c.requires.serves in
    let inside : c.args.cpu < length c.self.inside.runs.items = subst (λ (q : Contents). c.args.cpu < length q.runs) (sym c.self.view_is)
    (served x c.args.cpu serves) in
    let read : c.index_mut-runs.result.now ≡ runs_of x c.args.cpu = get_or_read c.self.inside.runs.items c.args.cpu
    c.index_mut-runs.result.now inside c.index_mut-runs.ensures.value no_runs ∙ ap (λ (q : Contents). runs_of q c.args.cpu) c.self.view_is in
    let count : c.index_mut-runs.result.now.count ≡ (runs_of x c.args.cpu).count = ap (λ (r : Runs). r.count) read in
    let room = c.make_countable.ensures.countable in
    omega arith
