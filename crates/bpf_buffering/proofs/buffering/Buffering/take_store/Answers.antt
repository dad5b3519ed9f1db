use Rattle.std.proofs.Common.{◌≡◌, [], map, sym, ap, subst, ◌∙◌}
use Rattle.bpf_plain.specs.PlainStore.{Contents, IsSavedAs}
use Rattle.bpf_plain.specs.Alike.{IsSameShape}
use Rattle.bpf_plain.proofs.SavedAlike.{saved_alike_look_alike}
use Rattle.bpf_buffering.specs.Search.{BufferedState}
use Rattle.bpf_buffering.specs.Waiting.{WaitingContents}
use Rattle.bpf_buffering.specs.Jobs.{tasks_of}
use Rattle.bpf_buffering.specs.Buffering.{state_of}
use Rattle.bpf_buffering.specs.Private.Kept.{IsBoard, ShowsAsMuch, with_store}
use Rattle.bpf_buffering.proofs.Keeping.{board_of, board_too, buffering_of, shows_saved}
use Rattle.bpf_buffering.proofs.Waits.{items_of}
use Rattle.bpf_buffering.proofs.buffering.Buffering.take_store.Goals as goal

pub invariant_of-self : goal.invariant_of-self
invariant_of-self c =
    let m = c.self.inside in
    let z = c.restore.new.self in
    let p = m.here.store in
    let q = c.args.store.now in
    let bytes = c.requires.alike.0 in
    let shape : IsSameShape p q = subst (λ (s : BufferedState). IsSameShape s.machine.store q) (sym c.self.view_is) c.requires.shape in
    let saved : IsSavedAs p bytes = subst (λ (s : BufferedState). IsSavedAs s.machine.store bytes) (sym c.self.view_is) c.requires.alike.1 in
    let alike = saved_alike_look_alike p q bytes shape saved c.requires.alike.2 in
    let board = board_too p q alike m.programs.items (tasks_of m.jobs.items) (map items_of m.buffers.items)
    (board_of m.here m.programs.items m.jobs.items m.buffers.items c.self.invariant) in
    let store : z.store ≡ q = ap (λ (a : WaitingContents). a.store) c.restore.ensures in
    let none : z.waiting ≡ [] = ap (λ (a : WaitingContents). a.waiting) c.restore.ensures ∙ c.self.invariant.put_back in
    buffering_of z m.programs.items m.jobs.items m.buffers.items none
    (subst (λ (s : Contents). IsBoard s m.programs.items (tasks_of m.jobs.items) (map items_of m.buffers.items)) (sym store) board)

pub returns-clause-shows : goal.returns-clause-shows
returns-clause-shows c =
    let m = c.self.inside in
    let old = c.args.self.now in
    let q = c.args.store.now in
    let state = state_of m.here m.programs.items m.jobs.items m.buffers.items in
    let is = ap (λ (s : Contents). with_store state s) (ap (λ (a : WaitingContents). a.store) c.restore.ensures) ∙ ap
    (λ (s : BufferedState). with_store s q) c.self.view_is in
    subst (λ (s : BufferedState). ShowsAsMuch old s) (sym is)
    (shows_saved old q c.requires.alike.0 c.requires.shape c.requires.alike.1 c.requires.alike.2)
