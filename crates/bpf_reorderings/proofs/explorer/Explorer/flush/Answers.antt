use Rattle.std.proofs.Common.{◌∙◌, ◌+◌, [], ◌∷◌, map, replicate, refl, subst}
use Rattle.bpf_x86.specs.Machine.{FlushOf}
use Rattle.bpf_buffering.specs.Search.{move_of}
use Rattle.bpf_reorderings.specs.Private.Searching.{Searched, IsMovedTo}
use Rattle.bpf_reorderings.proofs.Growing.{alike_kept, flush_numbers, just_moved, leads_plainly, one_moved, led_from, cannot_moved, kept_moved}
use Rattle.bpf_reorderings.proofs.explorer.Explorer.flush.Goals as goal

pub keep-requires-clause-led : goal.keep-requires-clause-led
keep-requires-clause-led c =
    let m = c.self.inside in
    let same = c.flush.ensures.same ∙ c.restore.ensures.same in
    led_from m.patient m.album.kept c.flush.new.self.kept c.args.place (FlushOf c.args.cpu) c.restore.new.self.machine c.flush.new.self.machine same
    c.in_ok-restore.ensures.ok (map move_of (replicate (0 + 1) (128 + c.args.cpu))) (FlushOf c.args.cpu ∷ []) (flush_numbers c.args.cpu)
    (leads_plainly m.patient c.restore.new.self.machine (FlushOf c.args.cpu ∷ []) c.flush.new.self.machine
    (one_moved c.restore.new.self.machine c.flush.new.self.machine (FlushOf c.args.cpu) (c.if-flush.ensures.flushed refl)))

pub returns-in_ok-number-clause-moved : goal.returns-in_ok-number-clause-moved
returns-in_ok-number-clause-moved c =
    let m = c.self.inside in
    let same = c.flush.ensures.same ∙ c.restore.ensures.same in
    let kept = c.keep.new.self.kept in
    let n = c.in_ok-number.number in
    let at = c.in_ok-number.ensures.kept in
    subst (λ (a : Searched). IsMovedTo a.patient kept c.args.place (FlushOf c.args.cpu) n) c.self.view_is
    (kept_moved m.patient m.album.kept c.flush.new.self.kept c.args.place (FlushOf c.args.cpu)
    c.restore.new.self.machine c.flush.new.self.machine same c.in_ok-restore.ensures.ok kept n c.keep.ensures.extends
    (just_moved c.restore.new.self.machine c.flush.new.self.machine (FlushOf c.args.cpu) (c.if-flush.ensures.flushed refl))
    at.0 (alike_kept m.patient kept n c.flush.new.self.machine at.1))

pub returns-else-flush-clause-moved : goal.returns-else-flush-clause-moved
returns-else-flush-clause-moved c =
    let m = c.self.inside in
    let same = c.flush.ensures.same ∙ c.restore.ensures.same in
    cannot_moved m.patient m.album.kept c.flush.new.self.kept c.args.place (FlushOf c.args.cpu) c.restore.new.self.machine c.flush.new.self.machine
    same c.in_ok-restore.ensures.ok (c.if-flush.ensures.none refl)
