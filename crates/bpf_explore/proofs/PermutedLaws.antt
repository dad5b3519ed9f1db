-- A search in which equal jobs count as one.
use Rattle.std.proofs.Common.{◌≡◌, ◌∙◌, ℕ, ◌<◌, ◌≤◌, true, false, List, [], Option, Some, None, Vec, Global, length, refl, sym, ap, subst, append-nil, arith}
use Rattle.std.specs.Prelude.{IfNone, IfSome, slice_get}
use Rattle.std.proofs.lemmas.Option.{none-some, same_Some}
use Rattle.bpf_shared.specs.Shape.{Shape}
use Rattle.bpf_loader.specs.Loaded.{Loaded}
use Rattle.bpf_base.proofs.Lists.{slice_get-front}
use Rattle.bpf_live.specs.Live.{Table}
use Rattle.bpf_machine.specs.Cover.{TurnsTo}
use Rattle.bpf_machine.specs.Machine.{MachineState}
use Rattle.bpf_machine.specs.Schedule.{World}
use Rattle.bpf_alike.specs.Worlds.{AreLiveTables, table_at}
use Rattle.bpf_equal.specs.Covers.{KeepsEnds, KeptEndsAreShown}
use Rattle.bpf_equal.specs.Groups.{ArePeers}
use Rattle.bpf_equal.specs.declared.peers.Peer.{Peer}
use Rattle.bpf_explore.specs.declared.frontier.Extent.{Extent}
use Rattle.bpf_explore.specs.declared.frontier.Extent.TheVariants.{Whole, Limited, Refused}
use Rattle.bpf_explore.specs.Album.{BeginsAt, HasMore, HaveWholeBudgets, IsNumbered, Stock}
use Rattle.bpf_explore.specs.Scouts.{IsTurnAhead}
use Rattle.bpf_explore.specs.Search.{Alike, Manner, Permuted, Richly, CameTo, CameToEnds, CoversAll, Extends, IsTurned, ShowsEnds, ShowsEndsInBudget, is_whole}
use Rattle.bpf_explore.specs.Private.Answers.{IsFirst, StartsFresh}
use Rattle.bpf_explore.specs.Private.Peers.{AreAllRefilled, FitPeers, IsKeptElsewhereAt}
use Rattle.bpf_explore.specs.Private.Permuted.{AreTwins}
use Rattle.bpf_explore.proofs.SearchLaws.{shown_still}
use Rattle.bpf_explore.proofs.ScoutLaws.{leads_exactly}
use Rattle.bpf_explore.proofs.ExploreLaws.{one_there}

-- ---- turns
-- what is kept but for dead registers is kept so
pub alike_permuted : (peers : List Peer) (kept : List MachineState) (i c : ℕ) → IsTurned Alike kept i c → IsTurned (Permuted peers) kept i c
alike_permuted peers kept i c turned m there = let r = turned m there in (r.0, r.1, λ w shows. (w, (0, refl), r.2 w shows))

-- a turn to a machine that is kept but for places
pub known_turned : (peers : List Peer) (kept : List MachineState) (stock : Stock) (place c n i : ℕ) (numbers : List ℕ)
    → IsTurnAhead false kept stock place c n numbers
    → ((m : MachineState) → IsNumbered stock m numbers → IsKeptElsewhereAt peers kept i m) → IsTurned (Permuted peers) kept place c
known_turned peers kept stock place c n i numbers is known m there =
    let leads = leads_exactly kept place c n is.0 is.1 in
    let two : Some is.1.old ≡ Some m = sym is.1.at ∙ there in
    let same : is.1.old ≡ m = cc in
    let elsewhere = known is.0 is.2 in (
      is.0,
      subst (λ (o : MachineState). TurnsTo o c is.0) same leads.turns,
      λ w shows. (let r = elsewhere w shows in (r.0, r.1, (r.2.0, r.2.1, (i, r.2.2.0, r.2.2.1, r.2.2.2)))),
    )

-- ---- while more is kept
pub first_still : (old new : List MachineState) → 0 < length old → Extends old new → slice_get new 0 ≡ slice_get old 0
first_still old new some more = ap (λ (ms : List MachineState). slice_get ms 0) more.1 ∙ slice_get-front old more.0 0 some

module _ (old new : Stock) (before after : List MachineState) (more : HasMore old new) (some : 0 < length before) (longer : Extends before after) where
  pub peers_more : (peers : List Peer) → FitPeers old before peers → FitPeers new after peers
  peers_more peers fit = record {
    are = subst (λ (h : Shape). ArePeers h new.programs peers) (sym more.shape)
        (subst (λ (ps : List Loaded). ArePeers old.shape ps peers) (sym more.programs) fit.are);
    first = λ j one m there at. fit.first j one m there (sym (first_still before after some longer) ∙ at);
  }

  pub twins_more : (peers : List Peer) (tables : List Table) → AreTwins old before peers tables → AreTwins new after peers tables
  twins_more peers tables are = record {
    fit = peers_more peers are.fit;
    right = subst (λ (ps : List Loaded). AreLiveTables ps (table_at tables)) (sym more.programs) are.right;
  }

pub same_extends : (old new : List MachineState) → new ≡ old → Extends old new
same_extends old new same = ([], same ∙ sym (append-nil old))

pub twins_as : (stock : Stock) (kept : List MachineState) (peers later : Vec Peer Global) (tables after : Vec Table Global) → later ≡ peers
    → after ≡ tables → AreTwins stock kept peers.items tables.items → AreTwins stock kept later.items after.items
twins_as stock kept peers later tables after same right are =
    subst (λ (ps : Vec Peer Global). AreTwins stock kept ps.items after.items) (sym same)
    (subst (λ (ts : Vec Table Global). AreTwins stock kept peers.items ts.items) (sym right) are)

-- what is so of what is there
pub some_has : (P : ℕ → Type 0) (o : Option ℕ) (n : ℕ) → o ≡ Some n → IfSome o P → P n
some_has P None n none is = absurd (none-some n none)
some_has P (Some k) n same is = subst P (same_Some k n same) is

pub none_has : (P : Type 0) (o : Option ℕ) → o ≡ None → IfNone o P → P
none_has P None none is = is
none_has P (Some k) none is = absurd (none-some k (sym none))

-- where the same is kept, of more stores and jobs
pub twins_still : (old new : Stock) (before after : List MachineState) (place : ℕ) → HasMore old new → place < length before → after ≡ before
    → (peers : List Peer) (tables : List Table) → AreTwins old before peers tables → AreTwins new after peers tables
twins_still old new before after place more inside same peers tables are =
    twins_more old new before after more (omega (arith, inside)) (same_extends before after same) peers tables are

-- ---- no job is equal to another
pub no_peers : (stock : Stock) (kept : List MachineState) → FitPeers stock kept []
no_peers stock kept = record {
  are = record {
    inside = λ j one there. cc;
    apart = λ j k one other there at same. cc;
    blind = λ j k one other group differ. (let there = group.first in cc);
    program = λ j k one other group. (let there = group.first in cc);
    budget = λ j k one other group. (let there = group.first in cc);
    told = λ j one there blind. cc;
    no_maps = λ j one there. cc;
  };
  first = λ j one m there at. cc;
}

-- ---- ends
module _ (law : KeptEndsAreShown) (peers : List Peer) (old new : List MachineState) (fresh : StartsFresh old) (longer : Extends old new) where
  began : (w : World) → BeginsAt new w → BeginsAt old w
  began w (first, (one, at, here)) = (first, (one, sym (first_still old new (one_there old fresh) longer) ∙ at, here))

  pub ends_shown : CoversAll (Permuted peers) old → KeepsEnds peers new → ShowsEnds new
  ends_shown covers keeps w z schedule begins runs ended =
      let b = began w begins in
      let r = (covers w z schedule b.0 (0, b.1.0, b.1.1, b.1.2) runs).1 ended in
      law peers new z keeps (r.0, r.1, shown_still old new longer r.0 r.2) ended

  pub ends_shown_in_budget : CoversAll (Richly peers) old → KeepsEnds peers new → ShowsEndsInBudget new
  ends_shown_in_budget covers keeps w z schedule begins runs well ended =
      let b = began w begins in
      let r = (covers w z schedule b.0 (0, b.1.0, b.1.1, b.1.2) runs well).1 ended in
      law peers new z keeps (r.0, r.1, shown_still old new longer r.0 r.2) ended

-- what the first of more shows, the first shows
pub first_there : (old new : List MachineState) → StartsFresh old → Extends old new → (w : World) → IsFirst new w → IsFirst old w
first_there old new fresh longer w (one, at, shows) = (one, sym (first_still old new (one_there old fresh) longer) ∙ at, shows)

pub whole_still : (old new : List MachineState) → StartsFresh old → Extends old new → (AreAllRefilled old → AreAllRefilled new)
    → HaveWholeBudgets old → HaveWholeBudgets new
whole_still old new begins longer more whole w fresh shown = more (whole w fresh (first_there old new begins longer w shown))

-- the ends were kept besides
pub closed_came : (Ends : List MachineState → Type 0) (manner : Manner) (old new : List MachineState) (extent closed : Extent) (limit : ℕ)
    → (CoversAll manner old → closed ≡ Whole → Ends new) → extent ≡ Whole → (closed ≡ Limited → limit < length new)
    → (closed ≡ Refused → length new ≤ limit) → CameTo manner old extent limit → CameToEnds Ends new closed limit
closed_came Ends manner old new extent closed limit shown all met short came = record {
  ends = λ is. shown (came.covers all) is;
  met = met;
  short = short;
}

-- where something is left to be kept
not_whole : (extent : Extent) → is_whole extent ≡ false → extent ≡ Whole → ⊥
not_whole extent part all = apart (sym (ap is_whole all) ∙ part)
  where
    apart : true ≡ false → ⊥
    apart e = cc

pub part_came : (Ends : List MachineState → Type 0) (manner : Manner) (kept : List MachineState) (extent : Extent) (limit : ℕ) → is_whole extent ≡ false
    → CameTo manner kept extent limit → CameToEnds Ends kept extent limit
part_came Ends manner kept extent limit part came = record {
  ends = λ is. absurd (not_whole extent part is);
  met = came.met;
  short = came.short;
}
