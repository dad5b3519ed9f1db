use Rattle.std.proofs.Common.{◌≡◌, ◌∙◌, ◌<◌, ℕ, List, inl, inr, sym, ap, subst, length, drop, arith}
use Rattle.std.specs.Prelude.{slice_index_or}
use Rattle.std.proofs.lemmas.Option.{slice_get_cases}
use Rattle.bpf_cpu.specs.Task.{Task}
use Rattle.bpf_machine.specs.Parts.{chosen}
use Rattle.bpf_alike.specs.Worlds.{AreLiveTables, table_at}
use Rattle.bpf_equal.specs.Groups.{AreJobsOf, ArePeers}
use Rattle.bpf_equal.specs.Twins.{AreAlikeElsewhere}
use Rattle.bpf_explore.specs.Album.{AlbumState, IsNumbered}
use Rattle.bpf_explore.specs.Private.Peers.{IsKeptElsewhereAt}
use Rattle.bpf_explore.specs.Tuples.{tuple_at}
use Rattle.bpf_explore.proofs.AlbumLaws.{shelf_of, kept_inside}
use Rattle.bpf_explore.proofs.ElsewhereLaws.{kept_elsewhere}
use Rattle.bpf_explore.proofs.album.Album.is_elsewhere.Goals as goal

pub tuple-tuple-requires : goal.tuple-tuple-requires
tuple-tuple-requires c =
    let m = c.self.inside in
    let shelf = shelf_of m.machine.programs m.stores m.parts m.states.tuples in
    kept_inside shelf c.args.place (subst (λ (a : AlbumState). c.args.place < length a.kept) (sym c.self.view_is) c.requires.place)

pub returns-clause-kept : goal.returns-clause-kept
returns-clause-kept c is one given =
    let m = c.self.inside in
    let shelf = shelf_of m.machine.programs m.stores m.parts m.states.tuples in
    let inside = kept_inside shelf c.args.place (subst (λ (a : AlbumState). c.args.place < length a.kept) (sym c.self.view_is) c.requires.place) in
    let numbered = subst (λ (a : AlbumState). IsNumbered a.stock one c.args.numbers.now) (sym c.self.view_is) given in
    let peers = c.args.twins.now.peers.items in
    let tables = c.args.twins.now.tables.items in
    let are = subst (λ (a : AlbumState). ArePeers a.stock.shape a.stock.programs peers) (sym c.self.view_is) c.requires.peers in
    let right = subst (λ (a : AlbumState). AreLiveTables a.stock.programs (table_at tables)) (sym c.self.view_is) c.requires.tables in
    let tuple = tuple_at m.states.tuples c.args.place in
    let numbers = c.args.numbers.now in
    let same : c.tuple-tuple.result.now ≡ tuple = sym c.tuple-tuple.ensures.tuple.1 in
    let own : chosen c.jobs.result.now c.behind_first-own.result.now ≡ chosen m.parts (drop 1 numbers) =
    ap (λ (ts : List Task). chosen ts c.behind_first-own.result.now) c.jobs.ensures ∙ ap (chosen m.parts) c.behind_first-own.ensures in
    let others : chosen c.jobs.result.now c.behind_first-others.result.now ≡ chosen m.parts (drop 1 tuple) =
    ap (λ (ts : List Task). chosen ts c.behind_first-others.result.now) c.jobs.ensures
    ∙ ap (chosen m.parts) (c.behind_first-others.ensures ∙ ap (drop 1) same) in
    let jobs : AreJobsOf peers (chosen m.parts (drop 1 numbers)) = subst (AreJobsOf peers) own (c.in_ok-is.ensures.own is) in
    let elsewhere : AreAlikeElsewhere peers tables (chosen m.parts (drop 1 numbers)) (chosen m.parts (drop 1 tuple)) =
    subst (λ (ts : List Task). AreAlikeElsewhere peers tables (chosen m.parts (drop 1 numbers)) ts) others
    (subst (λ (ts : List Task). AreAlikeElsewhere peers tables ts (chosen c.jobs.result.now c.behind_first-others.result.now)) own
    (c.in_ok-is.ensures.alike is)) in
    let store : slice_index_or tuple 0 0 ≡ slice_index_or numbers 0 0 = ap (λ (ns : List ℕ). slice_index_or ns 0 0) (sym same) ∙ c.if-tuple-numbers.false in
    let some : 0 < length peers = c.in_ok-is.ensures.some is in
    elim (slice_get_cases peers 0).1 [
      | inl x ↦ subst (λ (a : AlbumState). IsKeptElsewhereAt peers a.kept c.args.place one) c.self.view_is
          (kept_elsewhere m.shape shelf one numbers c.self.invariant.0 numbered peers tables are right jobs x.0 x.2 c.args.place inside store elsewhere)
      | inr x ↦ absurd (omega (arith, x.0, some))
    ]
