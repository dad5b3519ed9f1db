use Rattle.std.proofs.Common.{Bool, sym, subst}
use Rattle.bpf_buffer_debug.proofs.GoLaws.{FlushesTo, flushed, none_waits, not_asked}
use Rattle.bpf_buffer_debug.proofs.going.flush.Goals as goal

pub returns-then-not-flushes-clause-flushed : goal.returns-then-not-flushes-clause-flushed
returns-then-not-flushes-clause-flushed c =
    let m = c.args.album.now.machine in
    let notes = c.args.course.now in
    subst (λ (b : Bool). FlushesTo notes b m c.args.cpu notes m) (sym c.if-not-flushes.true) (not_asked notes m c.args.cpu)

pub returns-then-flush_alone-clause-flushed : goal.returns-then-flush_alone-clause-flushed
returns-then-flush_alone-clause-flushed c =
    let m = c.args.album.now.machine in
    let n = c.flush_alone.new.self.machine in
    let notes = c.args.course.now in
    let more = c.add.new.self in
    subst (λ (b : Bool). FlushesTo notes b m c.args.cpu more n) (sym c.if-not-flushes.false)
    (flushed notes more m n c.args.cpu (c.flush_alone.ensures.flushed c.if-flush_alone.true) c.add.ensures)

pub returns-else-flush_alone-clause-flushed : goal.returns-else-flush_alone-clause-flushed
returns-else-flush_alone-clause-flushed c =
    let m = c.args.album.now.machine in
    let n = c.flush_alone.new.self.machine in
    let notes = c.args.course.now in
    subst (λ (b : Bool). FlushesTo notes b m c.args.cpu notes n) (sym c.if-not-flushes.false)
    (none_waits notes m n c.args.cpu (c.flush_alone.ensures.unchanged c.if-flush_alone.false) (c.flush_alone.ensures.empty c.if-flush_alone.false))
