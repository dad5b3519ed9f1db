use Rattle.std.proofs.Common.{◌≡◌, List, Some, inl, refl, sym, ap, subst, length}
use Rattle.std.specs.Prelude.{slice_get}
use Rattle.std.proofs.lemmas.List.{get_or_read}
use Rattle.std.proofs.lemmas.Option.{slice_get_read}
use Rattle.bpf_cpu.specs.Task.{Task}
use Rattle.bpf_live.specs.Live.{Table}
use Rattle.bpf_machine.specs.Parts.{no_task}
use Rattle.bpf_equal.specs.Groups.{IsJobOf}
use Rattle.bpf_equal.specs.Peers.{Peer}
use Rattle.bpf_equal.specs.Private.Twins.{IsAsFarAs, part_at}
use Rattle.bpf_equal.proofs.twins.Twins.fits.Goals as goal

pub returns-then-moved-other : goal.returns-then-moved-other
returns-then-moved-other c is peer at =
    let peers = c.args.self.now.peers.items in
    let x = c.index-peer.result.now in
    let there : slice_get peers c.args.place ≡ Some x = slice_get_read peers (length peers) c.args.place x refl c.requires.place c.index-peer.ensures in
    let same : x ≡ peer = cc in
    let o = c.index-parts-other in
    let other : o.result ≡ part_at c.args.parts.now c.args.other = get_or_read c.args.parts.now c.args.other o.result c.requires.other o.is no_task in
    let mine : IsJobOf x o.result = c.if-not-is_of.ensures refl in (
      subst (λ (p : Peer). IsJobOf p (part_at c.args.parts.now c.args.other)) same (subst (λ (t : Task). IsJobOf x t) other mine),
      inl (inl (ap (λ n. (part_at c.args.parts.now n).stage) (sym c.if-moved-other.true))),
    )

pub returns : goal.returns
returns c is peer at =
    let peers = c.args.self.now.peers.items in
    let tables = c.args.self.now.tables.items in
    let x = c.index-peer.result.now in
    let there : slice_get peers c.args.place ≡ Some x = slice_get_read peers (length peers) c.args.place x refl c.requires.place c.index-peer.ensures in
    let same : x ≡ peer = cc in
    let o = c.index-parts-other in
    let m = c.index-parts-moved in
    let other : o.result ≡ part_at c.args.parts.now c.args.other = get_or_read c.args.parts.now c.args.other o.result c.requires.other o.is no_task in
    let moved : m.result ≡ part_at c.args.parts.now c.args.moved = get_or_read c.args.parts.now c.args.moved m.result c.requires.moved m.is no_task in
    let mine : IsJobOf x o.result = c.if-not-is_of.ensures refl in
    let far : IsAsFarAs tables x m.result.stage o.result.stage =
    subst (λ (ts : List Table). IsAsFarAs ts x m.result.stage o.result.stage) c.deref.ensures.value (c.is_as_far.ensures is) in (
      subst (λ (p : Peer). IsJobOf p (part_at c.args.parts.now c.args.other)) same (subst (λ (t : Task). IsJobOf x t) other mine),
      subst (λ (p : Peer). IsAsFarAs tables p (part_at c.args.parts.now c.args.moved).stage (part_at c.args.parts.now c.args.other).stage) same
          (subst (λ (t : Task). IsAsFarAs tables x t.stage (part_at c.args.parts.now c.args.other).stage) moved
          (subst (λ (t : Task). IsAsFarAs tables x m.result.stage t.stage) other far)),
    )
