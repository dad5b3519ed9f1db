-- From a shape and its jobs to the races.
use Rattle.std.proofs.Common.{subst, ◌≡◌, ◌∙◌, ℕ, ◌⊎◌, Bool, true, false, List, length, inl, inr, refl, sym, ap}
use Rattle.std.proofs.lemmas.Option.{slice_get_within}
use Rattle.bpf_machine.specs.Machine.{MachineState}
use Rattle.bpf_machine.specs.Schedule.{World}
use Rattle.bpf_equal.specs.Covers.{PermutedPatientSetsHaveTurns, PermutedSetsHaveTurns}
use Rattle.bpf_equal.specs.declared.peers.Peer.{Peer}
use Rattle.bpf_equal.specs.Races.{PermutedPatientRacesAreKept, PermutedRacesAreKept}
use Rattle.bpf_races.specs.declared.sync.Part.{Part}
use Rattle.bpf_races.specs.Races.{RaceFound, AreOnce, HaveAllRaces, AreRaces, IsKeyAt, Spot}
use Rattle.bpf_races.proofs.RaceFree.{free_parts, is_race_free_so}
use Rattle.bpf_x86.specs.Laws.{FirstsFit, TurningRaceFreeIsSame}
use Rattle.bpf_explore.specs.Album.{BeginsAt, AreApart, AreLed}
use Rattle.bpf_explore.specs.Search.{CameTo, Permuted, Richly, is_whole, is_refused}
use Rattle.bpf_explore.specs.declared.frontier.Extent.{Extent}
use Rattle.bpf_explore.specs.declared.frontier.Extent.TheVariants.{Whole}
use Rattle.bpf_explore.proofs.ExploreLaws.{whole_of, limited_of, not_whole}
use Rattle.bpf_explore.proofs.TrailLaws.{are_reached}
use Rattle.bpf_races.specs.Private.Exchanging.{AreAllBy, HaveExchanges, CoversBelow}
use Rattle.bpf_races.specs.Private.Searching.{Gathered, AreListedAt}
use Rattle.bpf_races.proofs.ExchangingLaws.{told_elsewhere}

module _ (kept : List MachineState) (w : World) (sync : List Part) (races : List RaceFound) (extent : Extent) (limit : ℕ)
    (whole refused told all : Bool) (fits : FirstsFit w.programs) (begins : BeginsAt kept w) (by_itself : AreAllBy w sync races) (once : AreOnce races)
    (listed : told ≡ true → (i : ℕ) → AreListedAt kept races sync i) (joined : all ≡ true → (whole ≡ true) × (told ≡ true))
    (is_so : whole ≡ is_whole extent) (cut : refused ≡ is_refused extent) where
  whole_then : whole ≡ true → extent ≡ Whole
  whole_then is = whole_of extent (sym is_so ∙ is)

  -- where memory was refused, they aren't all
  cut_short : (b : Bool) → (b ≡ true → whole ≡ true) → refused ≡ true → b ≡ false
  cut_short true h is =
      let two : true ≡ false = sym (h refl) ∙ (is_so ∙ not_whole extent (sym cut ∙ is)) in
      cc
  cut_short false h is = refl

  pub are_races : PermutedRacesAreKept → PermutedSetsHaveTurns → TurningRaceFreeIsSame → (peers : List Peer) → HaveExchanges peers races
      → CameTo (Permuted peers) kept extent limit → AreLed kept → AreApart kept → told ≡ true → (all ≡ false → (whole ≡ false) ⊎ (told ≡ false))
      → AreRaces false w sync races all refused limit
  are_races law turns x86 peers closed came led apart sure split = record {
    same = λ free. (let whole_it = (free_parts sync races all free).0 in
        x86 false w fits begins.0 (λ schedule z runs c. turns peers kept w z schedule c (came.whole (whole_then (joined whole_it).0)) begins.0
        (0, begins.1.0, begins.1.1, begins.1.2) runs) (is_race_free_so false w sync races all complete free));
    met = λ exact is uncut. (
      length kept,
      are_reached kept w begins.1 led apart,
      elim (split is) [
        | inl part ↦ came.met (limited_of extent (sym is_so ∙ part) (sym cut ∙ uncut))
        | inr lacking ↦ let no : true ≡ false = sym sure ∙ lacking in cc
      ],
    );
    short = cut_short all (λ is. (joined is).0);
    each = by_itself;
    once = once;
    complete = complete;
  }
    where
      complete : all ≡ true → HaveAllRaces false w sync races
      complete is schedule z runs pair b order race =
          told_elsewhere peers kept races sync (listed (joined is).1) closed z pair b order race.apart
          (law peers kept w z schedule (came.whole (whole_then (joined is).0)) begins.0 (0, begins.1.0, begins.1.1, begins.1.2) runs pair.one
          pair.other b race)

  pub are_races_patiently : PermutedPatientRacesAreKept → PermutedPatientSetsHaveTurns → TurningRaceFreeIsSame → (peers : List Peer)
      → HaveExchanges peers races → CameTo (Richly peers) kept extent limit → AreRaces true w sync races all refused limit
  are_races_patiently law turns x86 peers closed came = record {
    same = λ free. (let whole_it = (free_parts sync races all free).0 in
        x86 true w fits begins.0 (λ schedule z runs none. turns peers kept w z schedule (came.whole (whole_then (joined whole_it).0)) begins.0
        (0, begins.1.0, begins.1.1, begins.1.2) runs none) (is_race_free_so true w sync races all complete free));
    met = λ exact. cc;
    short = cut_short all (λ is. (joined is).0);
    each = by_itself;
    once = once;
    complete = complete;
  }
    where
      complete : all ≡ true → HaveAllRaces true w sync races
      complete is schedule z runs none pair b order race =
          told_elsewhere peers kept races sync (listed (joined is).1) closed z pair b order race.apart
          (law peers kept w z schedule (came.whole (whole_then (joined is).0)) begins.0 (0, begins.1.0, begins.1.1, begins.1.2) runs none
          pair.one pair.other b race)

-- ---- races that are gathered, and those with equal CPUs exchanged
pub all_by : (kept : List MachineState) (sync : List Part) (races : List RaceFound) (w : World) → Gathered kept sync races → BeginsAt kept w
    → AreAllBy w sync races
all_by kept sync races w gathered begins race there = gathered.each race there w begins.1

-- what is listed of another list is printed there
pub still_listed : (peers : List Peer) (kept : List MachineState) (sync : List Part) (old new : List RaceFound) → CoversBelow peers old new (length old)
    → ((i : ℕ) → AreListedAt kept old sync i) → (i : ℕ) → AreListedAt kept new sync i
still_listed peers kept sync old new covers listed i m at w shows pair b order race = elim (listed i m at w shows pair b order race) [
  | inl (one, (k, there), pairs, maps, key) ↦
      let (other, among, same) = covers.listed k one (slice_get_within old k one there) there in
      inl (
        other,
        among,
        ap (λ (s : Spot). s.pair) same ∙ pairs,
        ap (λ (s : Spot). s.map) same ∙ maps,
        subst (IsKeyAt w.store b) (sym (ap (λ (s : Spot). s.key) same)) key,
      )
  | inr out ↦ inr out
]
