use Rattle.std.proofs.Common.{◌≡◌, ◌∙◌, List, true, false, sym, subst}
use Rattle.bpf_equal.specs.Covers.{KeepsEnds}
use Rattle.bpf_equal.specs.declared.peers.Peer.{Peer}
use Rattle.bpf_explore.specs.Album.{AlbumState, BeginsAt}
use Rattle.bpf_explore.specs.Search.{CameToEnds, Extends, Permuted, ShowsEnds, is_whole}
use Rattle.bpf_explore.specs.Private.Answers.{StartsFresh}
use Rattle.bpf_explore.specs.Private.Peers.{FitPeers}
use Rattle.bpf_explore.proofs.ExploreLaws.{still_begins, whole_of}
use Rattle.bpf_explore.proofs.PermutedLaws.{closed_came, ends_shown, part_came}
use Rattle.bpf_explore.proofs.exploring.close_ends.Goals as goal

pub close-closed-requires : goal.close-closed-requires
close-closed-requires c =
    let peers = c.deref.ensures.value ∙ c.into_spread-spread.ensures.peers in
    let found = c.into_spread-spread.ensures.spread in
    record {
      first = subst (λ (a : AlbumState). StartsFresh a.kept) (sym found) c.requires;
      fit = subst (λ (a : AlbumState). FitPeers a.stock a.kept c.deref.result.now) (sym found)
          (subst (FitPeers c.args.explorer.found.stock c.args.explorer.found.kept) (sym peers) c.into_spread-spread.ensures.fit);
    }

pub returns-then-not-is_whole-clause-begins : goal.returns-then-not-is_whole-clause-begins
returns-then-not-is_whole-clause-begins c w begins = subst (λ (a : AlbumState). BeginsAt a.kept w) (sym c.into_spread-spread.ensures.spread) begins

pub returns-then-not-is_whole-clause-ends : goal.returns-then-not-is_whole-clause-ends
returns-then-not-is_whole-clause-ends c came =
    let given = c.is_whole.ensures in
    let told = c.if-not-is_whole.true in
    let part : is_whole c.args.extent ≡ false = cc in
    subst (λ (a : AlbumState). CameToEnds ShowsEnds a.kept c.args.extent c.args.limit) (sym c.into_spread-spread.ensures.spread)
    (part_came ShowsEnds (Permuted c.args.explorer.peers) c.args.explorer.found.kept c.args.extent c.args.limit part came)

pub returns-clause-begins : goal.returns-clause-begins
returns-clause-begins c w begins =
    let new = c.close-closed.new.self.kept in
    let longer = subst (λ (a : AlbumState). Extends a.kept new) c.into_spread-spread.ensures.spread c.close-closed.ensures.extends in
    still_begins c.args.explorer.found.kept new w begins longer

pub returns-clause-ends : goal.returns-clause-ends
returns-clause-ends c came =
    let given = c.is_whole.ensures in
    let told = c.if-not-is_whole.false in
    let all : is_whole c.args.extent ≡ true = cc in
    let new = c.close-closed.new.self.kept in
    let longer = subst (λ (a : AlbumState). Extends a.kept new) c.into_spread-spread.ensures.spread c.close-closed.ensures.extends in
    closed_came ShowsEnds (Permuted c.args.explorer.peers) c.args.explorer.found.kept new c.args.extent c.close-closed.result c.args.limit
    (λ covers is. ends_shown c.kept_ends_are_shown.ensures c.args.explorer.peers c.args.explorer.found.kept new c.requires longer covers
    (subst (λ (ps : List Peer). KeepsEnds ps new) (c.deref.ensures.value ∙ c.into_spread-spread.ensures.peers) (c.close-closed.ensures.whole is)))
    (whole_of c.args.extent all) c.close-closed.ensures.met c.close-closed.ensures.short came
