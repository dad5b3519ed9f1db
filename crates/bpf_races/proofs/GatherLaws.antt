-- Races that are gathered of kept machines.
use Rattle.std.proofs.Common.{◌≡◌, ◌∙◌, ℕ, ◌+◌, ◌<◌, ◌≤◌, ◌⊎◌, Bool, true, false, List, [], ◌∷◌, ◌++◌, Option, Some, None, length, get_or}
use Rattle.std.proofs.Common.{inl, inr, refl, sym, ap, subst, arith}
use Rattle.std.specs.Prelude.{slice_get, option_map, IfSome, IfNone, Vec}
use Rattle.std.specs.declared.alloc.Global.{Global}
use Rattle.bpf_shared.specs.Shape.{Shape}
use Rattle.bpf_helpers.specs.Arrays.{IsInArray}
use Rattle.std.proofs.lemmas.Bool.{cases_lt}
use Rattle.std.proofs.lemmas.Option.{slice_get_read, slice_get_within}
use Rattle.bpf_plain.specs.PlainStore.{Contents, StandsFor, shape_of}
use Rattle.bpf_plain.specs.Shows.{LeadsTo, ShowsKey, ShowsNoKey}
use Rattle.bpf_machine.specs.Machine.{MachineState, Shows}
use Rattle.bpf_machine.specs.Race.{IsRace}
use Rattle.bpf_machine.specs.Schedule.{World, RunsSchedule, unrolled}
use Rattle.bpf_explore.specs.Album.{IsShownAt, LeadsFrom}
use Rattle.bpf_races.specs.declared.found.Pair.{Pair}
use Rattle.bpf_races.specs.declared.sync.Part.{Part}
use Rattle.bpf_races.specs.Touch.{IsAmong}
use Rattle.bpf_races.specs.Searched.{IsLedTo}
use Rattle.bpf_races.specs.Races.{RaceFound, RacesBy, RacesIn, AreRacesIn, IsIndexAt, IsKeyAt, IsListed, IsTold, Spot, spot_of}
use Rattle.bpf_races.specs.Parts.{IsLeftOut}
use Rattle.bpf_races.specs.Private.Searching.{AreAllListed, AreListedAt, AreRacesAt, Gathered, IsOneOf, IsRaceAt, Keeps}
use Rattle.bpf_races.proofs.Lists.{in_cases}
use Rattle.bpf_races.proofs.Listed.{keeps_same, keeps_more, listed_still, once_pushed}

-- ---- a race where a schedule leads
-- one that is again among the races of a machine is one there
pub is_there_again : (m : MachineState) (sync : List Part) (races : List RaceFound) (race : RaceFound) → AreRacesIn m sync races → IsOneOf
    races race → (w : World) → Shows m w → RacesIn w sync race
is_there_again m sync races race are (one, among, same) w shows =
    let here = are.each one among w shows in
    record {
      counts = subst (λ (x : ℕ). IsLeftOut sync x → ⊥) same.at here.counts;
      race = subst (λ (x : ℕ). IsRace w race.pair.one race.pair.other x) same.at (subst (λ (p : Pair). IsRace w p.one p.other one.at) same.pair here.race);
      key = subst (λ (x : ℕ). IsKeyAt w.store x race.key) same.at (subst (λ (k : Option (List ℕ)). IsKeyAt w.store one.at k) same.key here.key);
    }

-- of a kept machine it is one in what that shows
pub kept_there : (kept : List MachineState) (sync : List Part) (place : ℕ) (m : MachineState) (race : RaceFound) → IsRaceAt kept sync place
    race → slice_get kept place ≡ Some m → (w : World) → Shows m w → RacesIn w sync race
kept_there kept sync place m race is at w shows = is w (m, at, shows)

-- where a schedule leads to the machine, it is a race by that
pub races_led : (kept : List MachineState) (m : MachineState) (sync : List Part) (by : List (ℕ × ℕ)) (found race : RaceFound) →
    found.pair.one.cpu < found.pair.other.cpu → race ≡ record found { by = by } → IsLedTo kept (unrolled by) m
    → ((w : World) → Shows m w → RacesIn w sync found) → (w : World) → IsShownAt kept 0 w → RacesBy w sync race
races_led kept m sync by found race order same led races w shown = subst (RacesBy w sync) (sym same) led_so
  where
    led_so : RacesBy w sync (record found { by = by })
    led_so =
        let z = led w shown in
        let here = races z.0 z.2 in
        record { order = order; last = z.0; runs = z.1; races = record { counts = here.counts; race = here.race; key = here.key } }

-- ---- what is gathered
pub none_gathered : (kept : List MachineState) (sync : List Part) → Gathered kept sync []
none_gathered kept sync = record { each = λ race (i, at). cc; once = λ i j one two at at_too same. cc }

pub gathered_pushed : (kept : List MachineState) (sync : List Part) (old new : List RaceFound) (found race : RaceFound) → Gathered kept sync
    old → new ≡ old ++ race ∷ [] → spot_of race ≡ spot_of found
    → ((w : World) → IsShownAt kept 0 w → RacesBy w sync race) → (IsListed old (spot_of found) → ⊥) → Gathered kept sync new
gathered_pushed kept sync old new found race far is spots races fresh = subst (Gathered kept sync) (sym is)
    (record { each = each; once = once_pushed old race far.once (subst (λ (s : Spot). IsListed old s → ⊥) (sym spots) fresh) })
  where
    each : (one : RaceFound) → IsAmong (old ++ race ∷ []) one → (w : World) → IsShownAt kept 0 w → RacesBy w sync one
    each one there = elim (in_cases old race one there) [
      | inl here ↦ far.each one here
      | inr same ↦ subst (λ (x : RaceFound). (w : World) → IsShownAt kept 0 w → RacesBy w sync x) (sym same) races
    ]

pub spots_with : (found race : RaceFound) (by : List (ℕ × ℕ)) → race ≡ record found { by = by } → spot_of race ≡ spot_of found
spots_with found race by same = ap spot_of same

-- ---- races of a kept machine
pub both_true : (a b r : Bool) → (r ≡ false → (a ≡ false) ⊎ (b ≡ false)) → a ≡ true → b ≡ true → r ≡ true
both_true a b true split first second = refl
both_true a b false split first second = elim (split refl) [
  | inl was ↦ let two : true ≡ false = sym first ∙ was in cc
  | inr was ↦ let two : true ≡ false = sym second ∙ was in cc
]

-- those before the n-th
pub record FoundSoFar (exact : Type 0) (kept : List MachineState) (sync : List Part) (found old : List RaceFound) (n : ℕ)
    (now : List MachineState) (races : List RaceFound) (all : Bool) : Type 0 where
  pub same : now ≡ kept
  pub gathered : Gathered kept sync races
  pub keeps : Keeps old races
  pub listed : all ≡ true → (i : ℕ) (race : RaceFound) → i < n → slice_get found i ≡ Some race → IsListed races (spot_of race)
  pub sure : exact → all ≡ true

pub found_begins : (exact : Type 0) (kept : List MachineState) (sync : List Part) (found old : List RaceFound) → Gathered kept sync old →
    FoundSoFar exact kept sync found old 0 kept old true
found_begins exact kept sync found old gathered = record {
  same = refl;
  gathered = gathered;
  keeps = keeps_same old;
  listed = λ is i race
      less at. absurd (omega arith);
  sure = λ e. refl;
}

pub race_read : (found : List RaceFound) (n : ℕ) (race : RaceFound) → n < length found → race ≡ get_or found n race → slice_get found n ≡ Some race
race_read found n race inside read = slice_get_read found (length found) n race refl inside read

pub found_goes_on : (exact : Type 0) (kept now later : List MachineState) (sync : List Part) (found old mid new : List RaceFound) (n : ℕ)
    (race : RaceFound) (all listed both : Bool) → FoundSoFar exact kept sync found old n now mid all
    → slice_get found n ≡ Some race → later ≡ now → Gathered now sync new → Keeps mid new → (listed ≡ true → IsListed new (spot_of race)) →
    (both ≡ true → (all ≡ true) × (listed ≡ true))
    → (exact → listed ≡ true) → (both ≡ false → (all ≡ false) ⊎ (listed ≡ false)) → FoundSoFar exact kept sync found old (n + 1) later new both
found_goes_on exact kept now later sync found old mid new n race all listed both far at same gathered keeps one joined sure split = record {
  sure = λ e. both_true all listed both split (far.sure e) (sure e);
  same = same ∙ far.same;
  gathered = subst (λ (ms : List MachineState). Gathered ms sync new) far.same gathered;
  keeps = keeps_more old mid new far.keeps keeps;
  listed = λ is i this below there. elim (cases_lt i n) [
    | inl less ↦ listed_still mid new (spot_of this) keeps (far.listed (joined is).0 i this less there)
    | inr past ↦
        let e : n ≡ i = omega arith in
        let two : Some race ≡ Some this = sym at ∙ (ap (λ (k : ℕ). slice_get found k) e ∙ there) in
        let it : race ≡ this = cc in
        subst (λ (x : RaceFound). IsListed new (spot_of x)) it (one (joined is).1)
  ];
}

pub all_found : (found races : List RaceFound) (n : ℕ) → length found ≤ n →
    ((i : ℕ) (race : RaceFound) → i < n → slice_get found i ≡ Some race → IsListed races (spot_of race)) → AreAllListed races found
all_found found races n past far race (i, there) = let inside = slice_get_within found i race there in far i race (omega arith) there

-- all races of the kept machine are printed where those that were found are listed
told_of : (found races : List RaceFound) (w : World) (pair : Pair) (b : ℕ) → AreAllListed races found → IsTold found w.store pair b → IsTold
    races w.store pair b
told_of found races w pair b listed (race, among, pairs, maps, key) =
    let l = listed race among in
    let keys : l.0.key ≡ race.key = ap (λ (s : Spot). s.key) l.2 in
    (l.0, l.1, ap (λ (s : Spot). s.pair) l.2 ∙ pairs, ap (λ (s : Spot). s.map) l.2 ∙ maps, subst (λ (k : Option (List ℕ)). IsKeyAt w.store b k) (sym keys) key)

pub found_at : (kept : List MachineState) (races found : List RaceFound) (sync : List Part) (place : ℕ) (m working : MachineState) →
    slice_get kept place ≡ Some working → m ≡ working → AreRacesIn m sync found → AreAllListed races found → AreListedAt kept races sync place
found_at kept races found sync place m working at same are listed other there w shows pair b order race =
    let two : Some working ≡ Some other = sym at ∙ there in
    let one : working ≡ other = cc in
    let shown : Shows m w = subst (λ (x : MachineState). Shows x w) (sym (same ∙ one)) shows in
    elim (are.all w shown pair b order race) [
      | inl told ↦ inl (told_of found races w pair b listed told)
      | inr out ↦ inr out
    ]

pub found_there : (kept : List MachineState) (found : List RaceFound) (sync : List Part) (place : ℕ) (m working : MachineState) → slice_get
    kept place ≡ Some working → m ≡ working → AreRacesIn m sync found → AreRacesAt kept sync place found
found_there kept found sync place m working at same are race among w (other, there, shows) =
    let two : Some working ≡ Some other = sym at ∙ there in
    let one : working ≡ other = cc in
    are.each race among w (subst (λ (x : MachineState). Shows x w) (sym (same ∙ one)) shows)

-- ---- all kept machines
pub record KeptSoFar (exact : Type 0) (kept : List MachineState) (sync : List Part) (n : ℕ) (now : List MachineState)
    (races : List RaceFound) (all : Bool) : Type 0 where
  pub same : now ≡ kept
  pub gathered : Gathered kept sync races
  pub listed : all ≡ true → (i : ℕ) → i < n → AreListedAt kept races sync i
  pub sure : exact → all ≡ true

pub kept_begins : (exact : Type 0) (kept : List MachineState) (sync : List Part) → KeptSoFar exact kept sync 0 kept [] true
kept_begins exact kept sync = record { same = refl; gathered = none_gathered kept sync; listed = λ is i less. absurd (omega arith); sure = λ e. refl }

pub at_still : (kept : List MachineState) (old new : List RaceFound) (sync : List Part) (i : ℕ) → Keeps old new → AreListedAt kept old sync i →
    AreListedAt kept new sync i
at_still kept old new sync i keeps listed m at w shows pair b order race = elim (listed m at w shows pair b order race) [
  | inl (one, among, pairs, maps, key) ↦ inl (one, keeps one among, pairs, maps, key)
  | inr out ↦ inr out
]

pub kept_goes_on : (exact : Type 0) (kept now later : List MachineState) (sync : List Part) (mid new : List RaceFound) (n : ℕ)
    (all listed both : Bool) → KeptSoFar exact kept sync n now mid all
    → later ≡ now → Gathered now sync new → Keeps mid new → (listed ≡ true → AreListedAt now new sync n) → (both ≡ true → (all ≡ true) × (listed ≡ true))
    → (exact → listed ≡ true) → (both ≡ false → (all ≡ false) ⊎ (listed ≡ false)) → KeptSoFar exact kept sync (n + 1) later new both
kept_goes_on exact kept now later sync mid new n all listed both far same gathered keeps one joined sure split = record {
  sure = λ e. both_true all listed both split (far.sure e) (sure e);
  same = same ∙ far.same;
  gathered = subst (λ (ms : List MachineState). Gathered ms sync new) far.same gathered;
  listed = λ is i below. elim (cases_lt i n) [
    | inl less ↦ at_still kept mid new sync i keeps (far.listed (joined is).0 i less)
    | inr past ↦
        let e : n ≡ i = omega arith in
        subst (λ (k : ℕ). AreListedAt kept new sync k) e (subst (λ (ms : List MachineState). AreListedAt ms new sync n) far.same (one (joined is).1))
  ];
}

pub all_kept : (kept : List MachineState) (races : List RaceFound) (sync : List Part) (n : ℕ) → length kept ≤ n →
    ((i : ℕ) → i < n → AreListedAt kept races sync i) → (i : ℕ) → AreListedAt kept races sync i
all_kept kept races sync n past far i m at = let inside = slice_get_within kept i m at in far i (omega arith) m at

-- ---- keys
pub key_shown : (m : MachineState) (p : Contents) (at : ℕ) (key bytes : List ℕ) → p ≡ m.store → ShowsKey p at key → bytes ≡ key →
    (w : World) → Shows m w → IsKeyAt w.store at (Some bytes)
key_shown m p at key bytes same shown is w shows =
    inl (subst (λ (k : List ℕ). LeadsTo w.store at k) (sym is) (shown w.store shows.sound
    (subst (λ (q : Contents). StandsFor q w.store) (sym same) shows.store)))

-- no key of a map leads there, and this is the index in an array, if there is one
pub index_shown : (m : MachineState) (p q : Contents) (at : ℕ) (index : Option (Vec ℕ Global)) → p ≡ m.store → q ≡ m.store → ShowsNoKey p at
    → IfSome index (λ bytes. IsIndexAt (shape_of q) at bytes.items) → IfNone index (¬ IsInArray (shape_of q) at 1)
    → (w : World) → Shows m w → IsKeyAt w.store at (option_map (λ bytes. bytes.items) index)
index_shown m p q at None same too shown some none w shows =
    let shape : shape_of q ≡ w.store.shape = ap shape_of too ∙ sym shows.store.shape in (
      λ key leads. shown w.store shows.sound (subst (λ (x : Contents). StandsFor x w.store) (sym same) shows.store) key leads,
      λ there. none (subst (λ (h : Shape). IsInArray h at 1) (sym shape) there),
    )
index_shown m p q at (Some bytes) same too shown some none w shows =
    let shape : shape_of q ≡ w.store.shape = ap shape_of too ∙ sym shows.store.shape in
    inr (subst (λ (h : Shape). IsIndexAt h at bytes.items) shape some)

-- ---- ways
pub led_from : (kept : List MachineState) (schedule : List ℕ) (place : ℕ) (m : MachineState) → LeadsFrom kept 0 schedule place → slice_get
    kept place ≡ Some m → IsLedTo kept schedule m
led_from kept schedule place m leads at w shown =
    let r = leads w shown in
    let other = r.2 in
    let two : Some other.0 ≡ Some m = sym other.1 ∙ at in
    let one : other.0 ≡ m = cc in
    (r.0, r.1, subst (λ (x : MachineState). Shows x r.0) one other.2)

pub led_again : (kept : List MachineState) (schedule : List ℕ) (first last : MachineState) → slice_get kept 0 ≡ Some first →
    ((w : World) → Shows first w → (z : World) × RunsSchedule w schedule z × Shows last z) → IsLedTo kept schedule last
led_again kept schedule first last at runs w (m, there, shows) =
    let two : Some m ≡ Some first = sym there ∙ at in
    let one : m ≡ first = cc in
    runs w (subst (λ (x : MachineState). Shows x w) one shows)
