use Rattle.std.proofs.Common.{[], List, ap, sym, subst}
use Rattle.hop_words.specs.declared.known.Fresh.{Fresh}
use Rattle.hop_words.specs.Kinds.{Replaces, Replaced}
use Rattle.hop_words.specs.Owning.{tail_of}
use Rattle.hop_words.specs.Locking.{lock_of, hand}
use Rattle.hop_map.specs.LockedSegment.{Locked, Ready}
use Rattle.hop_map.proofs.locked.LockedWords.unlock_replaced.Goals as goal

pub unlock_replaced-requires-clause-replaces : goal.unlock_replaced-requires-clause-replaces
unlock_replaced-requires-clause-replaces c =
    let i = c.self.inside in
    let l = i.lane.known in
    let r = subst (λ (x : Locked). Ready x.about x.known x.map x.segment → Replaces x.about x.known (lock_of x.known) (hand x.known) []
    c.args.request.now.key.now c.args.request.now.value.now c.args.request.now.flags c.args.old) (sym c.self.view_is) c.requires.replaces
    c.self.invariant.ready in
    subst (λ (rest : List Fresh). Replaces i.table.now.about l (lock_of l) (hand l) rest c.args.request.now.key.now
    c.args.request.now.value.now c.args.request.now.flags
    c.args.old) (sym (ap tail_of r.filled.hand)) r

pub returns-clause-replaced : goal.returns-clause-replaced
returns-clause-replaced c =
    let i = c.self.inside in
    let l = i.lane.known in
    let r = subst (λ (x : Locked). Ready x.about x.known x.map x.segment → Replaces x.about x.known (lock_of x.known) (hand x.known) []
    c.args.request.now.key.now c.args.request.now.value.now c.args.request.now.flags c.args.old) (sym c.self.view_is) c.requires.replaces
    c.self.invariant.ready in
    subst (λ (x : Locked). Replaced x.about x.known (lock_of x.known) [] c.args.request.now.key.now c.args.request.now.value.now
    c.args.request.now.flags c.args.old
    c.unlock_replaced.new.self.known) c.self.view_is
    (subst (λ (rest : List Fresh). Replaced i.table.now.about l (lock_of l) rest c.args.request.now.key.now c.args.request.now.value.now
    c.args.request.now.flags c.args.old
    c.unlock_replaced.new.self.known) (ap tail_of r.filled.hand) c.unlock_replaced.ensures.replaced)
