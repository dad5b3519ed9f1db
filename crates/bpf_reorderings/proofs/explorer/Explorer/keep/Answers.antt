use Rattle.std.proofs.Common.{◌<◌, ◌+◌, ℕ, length, map, replicate, sym, subst, arith}
use Rattle.bpf_buffering.specs.Alike.{IsKeptAlikeAtX86}
use Rattle.bpf_buffering.specs.Search.{move_of}
use Rattle.bpf_reorderings.specs.declared.explorer.Origin.{Origin}
use Rattle.bpf_reorderings.specs.Private.Searching.{Searched}
use Rattle.bpf_reorderings.specs.Private.Trail.{IsLedFrom, moves_of}
use Rattle.bpf_reorderings.proofs.Trails.{cut_origins}
use Rattle.bpf_reorderings.proofs.Growing.{adds_one}
use Rattle.bpf_reorderings.proofs.explorer.Explorer.keep.Goals as goal

pub invariant_of-self-in_err-number : goal.invariant_of-self-in_err-number
invariant_of-self-in_err-number c =
    let m = c.self.inside in
    let o : Origin = record { from = c.in_ok-from.from; more = c.in_ok-more.more; made = c.args.made } in
    let led = subst (λ (a : Searched). IsLedFrom a.patient a.kept c.args.place (map move_of (replicate (c.args.more + 1) c.args.made)) a.machine)
    (sym c.self.view_is) c.requires.led in
    let so = subst (λ (k : ℕ). IsLedFrom m.patient m.album.kept c.args.place (map move_of (replicate (k + 1) c.args.made)) m.album.machine)
    (sym c.in_ok-more.ensures) led in
    let here = subst (λ (k : ℕ). IsLedFrom m.patient m.album.kept k (moves_of o) m.album.machine) (sym c.in_ok-from.ensures) so in
    let there = subst (λ (a : Searched). c.args.place < length a.kept) (sym c.self.view_is) c.requires.inside in
    let adds = adds_one m.album.kept c.keep-kept.new.self.kept m.album.machine c.keep-kept.result c.keep-kept.ensures.adds
    c.keep-kept.ensures.err in
    cut_origins m.patient m.album.kept c.keep-kept.new.self.kept m.album.machine m.origins.items c.push.new.self.items c.truncate.new.self.items o
    c.len.result c.self.invariant (omega (arith, c.in_ok-from.ensures, there)) here adds c.in_ok-push.ensures.items c.len.ensures
    c.truncate.ensures.items

pub invariant_of-self-2 : goal.invariant_of-self-2
invariant_of-self-2 c =
    let m = c.self.inside in
    let o : Origin = record { from = c.in_ok-from.from; more = c.in_ok-more.more; made = c.args.made } in
    let led = subst (λ (a : Searched). IsLedFrom a.patient a.kept c.args.place (map move_of (replicate (c.args.more + 1) c.args.made)) a.machine)
    (sym c.self.view_is) c.requires.led in
    let so = subst (λ (k : ℕ). IsLedFrom m.patient m.album.kept c.args.place (map move_of (replicate (k + 1) c.args.made)) m.album.machine)
    (sym c.in_ok-more.ensures) led in
    let here = subst (λ (k : ℕ). IsLedFrom m.patient m.album.kept k (moves_of o) m.album.machine) (sym c.in_ok-from.ensures) so in
    let there = subst (λ (a : Searched). c.args.place < length a.kept) (sym c.self.view_is) c.requires.inside in
    let adds = adds_one m.album.kept c.keep-kept.new.self.kept m.album.machine c.keep-kept.result c.keep-kept.ensures.adds
    c.keep-kept.ensures.err in
    cut_origins m.patient m.album.kept c.keep-kept.new.self.kept m.album.machine m.origins.items c.push.new.self.items c.truncate.new.self.items o
    c.len.result c.self.invariant (omega (arith, c.in_ok-from.ensures, there)) here adds c.in_ok-push.ensures.items c.len.ensures
    c.truncate.ensures.items

pub returns-clause-kept : goal.returns-clause-kept
returns-clause-kept c = (
  c.in_ok-number.ensures.inside,
  subst (λ (a : Searched). IsKeptAlikeAtX86 c.keep-kept.new.self.kept c.in_ok-number.number a.machine) c.self.view_is c.in_ok-number.ensures.alike,
)
