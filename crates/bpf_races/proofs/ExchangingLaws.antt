-- Races where two equal CPUs change places.
use Rattle.std.proofs.Common.{◌≡◌, ◌≢◌, ◌∙◌, ℕ, ◌+◌, ◌<◌, ◌≤◌, ◌⊎◌, Bool, true, false, if◌then◌else◌, nat_lt, List, [], ◌∷◌}
use Rattle.std.proofs.Common.{◌++◌, Option, Some, None}
use Rattle.std.proofs.Common.{inl, inr, refl, sym, ap, subst, length, map, append-nil, append_assoc, length-append, arith}
use Rattle.std.specs.Prelude.{slice_get, slice_index_or}
use Rattle.std.proofs.lemmas.Bool.{cases_lt}
use Rattle.std.proofs.lemmas.Bool.Decides.{nat_tests}
use Rattle.std.proofs.lemmas.Option.{slice_get-get_or, slice_get_within}
use Rattle.bpf_base.proofs.Lists.{slice_get-front}
use Rattle.bpf_shared.specs.Store.{Plain}
use Rattle.bpf_machine.specs.declared.machine.Stand.{Stand}
use Rattle.bpf_machine.specs.Machine.{MachineState}
use Rattle.bpf_machine.specs.Race.{IsRace}
use Rattle.bpf_machine.specs.Schedule.{World, RunsSchedule, unrolled}
use Rattle.bpf_equal.specs.declared.peers.Peer.{Peer}
use Rattle.bpf_equal.specs.Peers.{AreOneGroup}
use Rattle.bpf_equal.specs.Permutations.{Permutation, exchanged}
use Rattle.bpf_equal.specs.Races.{AreAllEqual, AreEqualCpus, IsRaceKeptElsewhere, RacesAreExchanged, StaysExchanged, stand_after, stand_exchanged}
use Rattle.bpf_equal.specs.Stores.{store_permuted}
use Rattle.bpf_equal.proofs.Exchanging.{twice}
use Rattle.bpf_races.specs.declared.found.Pair.{Pair}
use Rattle.bpf_races.specs.declared.sync.Part.{Part}
use Rattle.bpf_races.specs.Touch.{IsAmong}
use Rattle.bpf_races.specs.Parts.{IsLeftOut, map_at}
use Rattle.bpf_races.specs.Races.{RaceFound, RacesBy, AreOnce, IsKeyAt, IsListed, IsTold, Spot, spot_of}
use Rattle.bpf_races.specs.Private.Exchanging.{AreAllBy, HaveExchanges, HaveExchangesBelow, CoversBelow, Grows, IsExchanged, IsListedAround, IsListedFor}
use Rattle.bpf_races.specs.Private.Exchanging.{IsListedFrom, in_order, pair_exchanged, spot_exchanged}
use Rattle.bpf_races.specs.Private.Searching.{AddsRace, AreListedAt, Keeps}
use Rattle.bpf_races.proofs.Listed.{listed_pushed, listed_still, once_pushed}
use Rattle.bpf_races.proofs.Lists.{in_cases}
use Rattle.bpf_races.proofs.RaceFree.{turned}

-- ---- two CPUs in their order
abbrev as_pair : Stand → Stand → Bool → Pair
as_pair one other less = if less then record { one = one; other = other } else record { one = other; other = one }

rises : (one other : Stand) → one.cpu < other.cpu → in_order one other ≡ record { one = one; other = other }
rises one other less = let is : nat_lt one.cpu other.cpu ≡ true = grind (arith, nat_tests) in ap (as_pair one other) is

falls : (one other : Stand) → other.cpu < one.cpu → in_order one other ≡ record { one = other; other = one }
falls one other more = let is : nat_lt one.cpu other.cpu ≡ false = grind (arith, nat_tests) in ap (as_pair one other) is

data Order (one other : Stand) : Type 0 where
  Rising : one.cpu < other.cpu → Order one other
  Falling : other.cpu < one.cpu → Order one other

order_of : (one other : Stand) → one.cpu ≢ other.cpu → Order one other
order_of one other apart = elim (cases_lt one.cpu other.cpu) [
  | inl less ↦ Rising less
  | inr past ↦ elim (cases_lt other.cpu one.cpu) [
    | inl more ↦ Falling more
    | inr again ↦ absurd (apart (omega (arith, past, again)))
  ]
]

-- what is so of both, whichever is first
in_either : (P : Stand → Stand → Type 0) → ((one other : Stand) → P one other → P other one) → (one other : Stand) → one.cpu ≢ other.cpu → P one other
    → P (in_order one other).one (in_order one other).other
in_either P turn one other apart both = elim (order_of one other apart) [
  | Rising less ↦ subst (λ (p : Pair). P p.one p.other) (sym (rises one other less)) both
  | Falling more ↦ subst (λ (p : Pair). P p.one p.other) (sym (falls one other more)) (turn one other both)
]

in_its_order : (one other : Stand) → one.cpu ≢ other.cpu → (in_order one other).one.cpu < (in_order one other).other.cpu
in_its_order one other apart = elim (order_of one other apart) [
  | Rising less ↦ subst (λ (p : Pair). p.one.cpu < p.other.cpu) (sym (rises one other less)) less
  | Falling more ↦ subst (λ (p : Pair). p.one.cpu < p.other.cpu) (sym (falls one other more)) more
]

-- the order in which they are named doesn't matter
either_first : (one other : Stand) → one.cpu ≢ other.cpu → in_order other one ≡ in_order one other
either_first one other apart = elim (order_of one other apart) [
  | Rising less ↦ falls other one less ∙ sym (rises one other less)
  | Falling more ↦ rises other one more ∙ sym (falls one other more)
]

-- ---- exchanged
abbrev exchange : ℕ → ℕ → Stand → Stand
exchange c d here = stand_exchanged c d here

back_again : (c d : ℕ) (here : Stand) → exchange c d (exchange c d here) ≡ here
back_again c d here = ap (λ (n : ℕ). record here { cpu = n }) (twice c d here.cpu)

still_apart : (c d : ℕ) (one other : Stand) → one.cpu ≢ other.cpu → exchanged c d one.cpu ≢ exchanged c d other.cpu
still_apart c d one other apart e = apart (sym (twice c d one.cpu) ∙ (ap (exchanged c d) e ∙ twice c d other.cpu))

-- two that have been exchanged are exchanged back
pair_back : (c d : ℕ) (one other : Stand) → one.cpu ≢ other.cpu → pair_exchanged c d (in_order (exchange c d one) (exchange c d other)) ≡ in_order one other
pair_back c d one other apart =
    let a = exchange c d one in
    let b = exchange c d other in
    let far = still_apart c d one other apart in
    let both : in_order (exchange c d a) (exchange c d b) ≡ in_order one other =
    ap (λ (s : Stand). in_order s (exchange c d b)) (back_again c d one) ∙ ap (in_order one) (back_again c d other) in
    elim (order_of a b far) [
      | Rising less ↦ ap (pair_exchanged c d) (rises a b less) ∙ both
      | Falling more ↦
          ap (pair_exchanged c d) (falls a b more)
          ∙ (either_first (exchange c d a) (exchange c d b) (still_apart c d a b far) ∙ both)
    ]

abbrev spot_at : Pair → ℕ → Option (List ℕ) → Spot
spot_at pair m key = record { pair = pair; map = m; key = key }

module _ (peers : List Peer) (races : List RaceFound) (closed : HaveExchanges peers races) (m : ℕ) (key : Option (List ℕ)) where
  -- so what is listed where exchanges lead, is listed
  came_back : (pairs : List (ℕ × ℕ)) → AreAllEqual peers pairs → (one other : Stand) → one.cpu ≢ other.cpu
      → IsListed races (spot_at (in_order (stand_after pairs one) (stand_after pairs other)) m key) → IsListed races (spot_at (in_order one other) m key)
  came_back [] equal one other apart listed = listed
  came_back ((c, d) ∷ pairs) ((j, k, p, q, less, group, is_c, is_d), rest) one other apart listed =
      let (race, among, is) = came_back pairs rest (exchange c d one) (exchange c d other) (still_apart c d one other apart) listed in
      let there = closed race among j k less p q group in
      let cpus : spot_exchanged p.cpu q.cpu (spot_of race) ≡ spot_exchanged c d (spot_of race) =
      ap (λ (n : ℕ). spot_exchanged n q.cpu (spot_of race)) is_c ∙ ap (λ (n : ℕ). spot_exchanged c n (spot_of race)) is_d in
      let spot : spot_exchanged c d (spot_of race) ≡ spot_at (in_order one other) m key =
      ap (spot_exchanged c d) is ∙ ap (λ (pair : Pair). spot_at pair m key) (pair_back c d one other apart) in
      subst (IsListed races) (cpus ∙ spot) there

-- ---- keys, in stores that are the same but for places
key_there : (cpus : Permutation) (s : Plain) (b : ℕ) (key : Option (List ℕ)) → IsKeyAt s b key → IsKeyAt (store_permuted cpus s) b key
key_there cpus s b None is = is
key_there cpus s b (Some key) is = is

key_back : (cpus : Permutation) (s : Plain) (b : ℕ) (key : Option (List ℕ)) → IsKeyAt (store_permuted cpus s) b key → IsKeyAt s b key
key_back cpus s b None is = is
key_back cpus s b (Some key) is = is

-- ---- races of all that is led to
turned_so : (z : World) (b : ℕ) (one other : Stand) → IsRace z one other b → IsRace z other one b
turned_so z b one other race = turned z one other b race

-- one that a kept machine has but for places is printed
pub told_elsewhere : (peers : List Peer) (kept : List MachineState) (races : List RaceFound) (sync : List Part)
    → ((i : ℕ) → AreListedAt kept races sync i) → HaveExchanges peers races
    → (z : World) (pair : Pair) (b : ℕ) → pair.one.cpu < pair.other.cpu → pair.one.cpu ≢ pair.other.cpu
    → IsRaceKeptElsewhere peers kept z pair.one pair.other b → IsTold races z.store pair b ⊎ IsLeftOut sync b
told_elsewhere peers kept races sync listed closed z pair b order apart found =
    let one = stand_after found.pairs pair.one in
    let other = stand_after found.pairs pair.other in
    let (i, m, at, shows) = found.shown in
    let v = found.world in
    let race = found.race.race in
    let both = in_either (λ x y. IsRace v x y b) (λ x y r. turned_so v b x y r) one other race.apart race in
    elim (listed i m at v shows (in_order one other) b (in_its_order one other race.apart) both) [
      | inl (it, among, pairs, maps, key) ↦
          let there : spot_of it ≡ spot_at (in_order one other) (map_at b) it.key =
          ap (λ (p : Pair). spot_at p (map_at it.at) it.key) pairs ∙ ap (λ (n : ℕ). spot_at (in_order one other) n it.key) maps in
          let (here, within, is) = came_back peers races closed (map_at b) it.key found.pairs found.equal pair.one pair.other apart (it, among, there) in
          let keys : it.key ≡ here.key = sym (ap (λ (s : Spot). s.key) is) in
          inl (
            here,
            within,
            ap (λ (s : Spot). s.pair) is ∙ rises pair.one pair.other order,
            ap (λ (s : Spot). s.map) is,
            subst (IsKeyAt z.store b) keys
                (key_back found.race.cpus z.store b it.key (subst (λ (s : Plain). IsKeyAt s b it.key) found.race.store key)),
          )
      | inr out ↦ inr out
    ]

-- ---- a race with both CPUs exchanged
module _ (law : RacesAreExchanged) (peers : List Peer) (w : World) (sync : List Part) (stays : StaysExchanged peers w) (c d : ℕ)
    (equal : AreEqualCpus peers c d) (old new : RaceFound) (is : IsExchanged c d old new) where
  exchanged_by : RacesBy w sync old → RacesBy w sync new
  exchanged_by by =
      let one = exchange c d old.pair.one in
      let other = exchange c d old.pair.other in
      let (y, runs, there) =
      law peers w by.last (unrolled old.by) c d stays equal by.runs old.pair.one old.pair.other old.at by.races.race in
      let apart = there.race.apart in
      let both = in_either (λ x y'. IsRace y x y' old.at) (λ x y' r. turned_so y old.at x y' r) one other apart there.race in
      let key = subst (λ (s : Plain). IsKeyAt s old.at old.key) (sym there.store)
      (key_there there.cpus by.last.store old.at old.key by.races.key) in
      record {
        order = subst (λ (p : Pair). p.one.cpu < p.other.cpu) (sym is.pair) (in_its_order one other apart);
        last = y;
        runs = subst (λ (cs : List ℕ). RunsSchedule w cs y) (sym is.by) runs;
        races = record {
          counts = subst (λ (a : ℕ). IsLeftOut sync a → ⊥) (sym is.at) by.races.counts;
          race = subst (λ (a : ℕ). IsRace y new.pair.one new.pair.other a) (sym is.at)
              (subst (λ (p : Pair). IsRace y p.one p.other old.at) (sym is.pair) both);
          key = subst (λ (a : ℕ). IsKeyAt y.store a new.key) (sym is.at) (subst (IsKeyAt y.store old.at) (sym is.key) key);
        };
      }

-- ---- while races are listed
pub grows_not : (peers : List Peer) (races : List RaceFound) → Grows peers races races
grows_not peers races = record { longer = ([], sym (append-nil races)); each = λ w sync stays all. all; once = λ once. once }

pub grows_on : (peers : List Peer) (old mid new : List RaceFound) → Grows peers old mid → Grows peers mid new → Grows peers old new
grows_on peers old mid new a b =
    let (xs, is) = a.longer in
    let (ys, too) = b.longer in
    record {
      longer = (xs ++ ys, too ∙ (ap (λ (rs : List RaceFound). rs ++ ys) is ∙ append_assoc old xs ys));
      each = λ w sync stays all. b.each w sync stays (a.each w sync stays all);
      once = λ once. b.once (a.once once);
    }

front_among : (old more : List RaceFound) (race : RaceFound) → IsAmong old race → IsAmong (old ++ more) race
front_among old more race (i, at) = (i, slice_get-front old more i (slice_get_within old i race at) ∙ at)

pub grows_keeps : (peers : List Peer) (old new : List RaceFound) → Grows peers old new → Keeps old new
grows_keeps peers old new grows race among =
    let (more, is) = grows.longer in
    subst (λ (rs : List RaceFound). IsAmong rs race) (sym is) (front_among old more race among)

pub grows_longer : (peers : List Peer) (old new : List RaceFound) → Grows peers old new → length old ≤ length new
grows_longer peers old new grows =
    let (more, is) = grows.longer in
    let e : length new ≡ length old + length more = ap (λ (rs : List RaceFound). length rs) is ∙ length-append old more in
    omega (arith, e)

same_spot : (c d : ℕ) (old new : RaceFound) → IsExchanged c d old new → spot_of new ≡ spot_exchanged c d (spot_of old)
same_spot c d old new is =
    ap (λ (p : Pair). spot_at p (map_at new.at) new.key) is.pair
    ∙ (ap (λ (a : ℕ). spot_at (pair_exchanged c d old.pair) (map_at a) new.key) is.at
    ∙ ap (spot_at (pair_exchanged c d old.pair) (map_at old.at)) is.key)

-- one is listed, unless it is
module _ (law : RacesAreExchanged) (peers : List Peer) (j k : ℕ) (p q : Peer) (less : j < k) (group : AreOneGroup peers j k p q)
    (race new : RaceFound) (old races : List RaceFound) (among : IsAmong old race) (is : IsExchanged p.cpu q.cpu race new) (adds : AddsRace old new races) where
  pub one_grows : Grows peers old races
  one_grows = elim adds [
    | inl (listed, same) ↦ subst (Grows peers old) (sym same) (grows_not peers old)
    | inr (fresh, pushed) ↦ record {
      longer = (new ∷ [], pushed);
      each = λ w sync stays all. subst (AreAllBy w sync) (sym pushed) (λ one there. elim (in_cases old new one there) [
        | inl here ↦ all one here
        | inr it ↦ subst (RacesBy w sync) (sym it)
            (exchanged_by law peers w sync stays p.cpu q.cpu (j, k, p, q, less, group, refl, refl) race new is (all race among))
      ]);
      once = λ once. subst AreOnce (sym pushed) (once_pushed old new once fresh);
    }
  ]

  there : IsListed races (spot_of new)
  there = elim adds [
    | inl (listed, same) ↦ subst (λ (rs : List RaceFound). IsListed rs (spot_of new)) (sym same) listed
    | inr (fresh, pushed) ↦ listed_pushed old races new pushed
  ]

  pub one_listed : IsListedFor peers races race j k
  one_listed one other both =
      let first : Some p ≡ Some one = sym group.first ∙ both.first in
      let is_one : p ≡ one = cc in
      let second : Some q ≡ Some other = sym group.second ∙ both.second in
      let is_other : q ≡ other = cc in
      subst (λ (x : Peer). IsListed races (spot_exchanged one.cpu x.cpu (spot_of race))) is_other
      (subst (λ (x : Peer). IsListed races (spot_exchanged x.cpu q.cpu (spot_of race))) is_one
      (subst (IsListed races) (same_spot p.cpu q.cpu race new is) there))

-- the two of these places, where they are of one group
module _ (law : RacesAreExchanged) (peers : List Peer) (j k : ℕ) (d e : Peer) (less : j < k) (inside : k < length peers)
    (same : (slice_index_or peers j d).group ≡ (slice_index_or peers k e).group) (race new : RaceFound) (old races : List RaceFound)
    (among : IsAmong old race) (is : IsExchanged (slice_index_or peers j d).cpu (slice_index_or peers k e).cpu race new) (adds : AddsRace old new races) where
  abbrev p : Peer
  p = slice_index_or peers j d

  abbrev q : Peer
  q = slice_index_or peers k e

  together : AreOneGroup peers j k p q
  together = record {
    first = slice_get-get_or peers j d (omega (arith, less, inside));
    second = slice_get-get_or peers k e inside;
    group = sym same;
  }

  pub equal_grows : Grows peers old races
  equal_grows = one_grows law peers j k p q less together race new old races among is adds

  pub equal_listed : IsListedFor peers races race j k
  equal_listed = one_listed law peers j k p q less together race new old races among is adds

pub for_still : (peers : List Peer) (old new : List RaceFound) (race : RaceFound) (j k : ℕ) → Keeps old new → IsListedFor peers old race j k
    → IsListedFor peers new race j k
for_still peers old new race j k keeps listed one other group = listed_still old new (spot_exchanged one.cpu other.cpu (spot_of race)) keeps
    (listed one other group)

-- those before are listed, and this one
pub from_on : (peers : List Peer) (old new : List RaceFound) (race : RaceFound) (j k : ℕ) → Keeps old new → IsListedFrom peers old race j k
    → IsListedFor peers new race j k → IsListedFrom peers new race j (k + 1)
from_on peers old new race j k keeps far here n less below = elim (cases_lt n k) [
  | inl early ↦ for_still peers old new race j n keeps (far n less early)
  | inr past ↦ let e : k ≡ n = omega (arith, past, below) in subst (IsListedFor peers new race j) e here
]

pub around_on : (peers : List Peer) (old new : List RaceFound) (race : RaceFound) (n : ℕ) → Keeps old new → IsListedAround peers old race n
    → IsListedFrom peers new race n (length peers) → IsListedAround peers new race (n + 1)
around_on peers old new race n keeps far here j k below less = elim (cases_lt j n) [
  | inl early ↦ for_still peers old new race j k keeps (far j k early less)
  | inr past ↦
      let e : n ≡ j = omega (arith, past, below) in
      subst (λ (i : ℕ). IsListedFor peers new race i k) e
      (λ one other group. here k (omega (arith, e, less)) (slice_get_within peers k other group.second) one other group)
]

pub around_all : (peers : List Peer) (races : List RaceFound) (race : RaceFound) (n : ℕ) → length peers ≤ n → IsListedAround peers races race n
    → (j k : ℕ) → j < k → IsListedFor peers races race j k
around_all peers races race n past far j k less one other group =
    let inside = slice_get_within peers j one group.first in
    far j k (omega (arith, past, inside)) less one other group

-- ---- until each is
pub none_closed : (peers : List Peer) (races : List RaceFound) → HaveExchangesBelow peers races 0
none_closed peers races i j k race below at less = absurd (omega (arith, below))

pub closed_on : (peers : List Peer) (old new : List RaceFound) (race : RaceFound) (n : ℕ) → n < length old → Grows peers old new
    → slice_get old n ≡ Some race → HaveExchangesBelow peers old n → ((j k : ℕ) → j < k → IsListedFor peers new race j k) → HaveExchangesBelow peers new (n + 1)
closed_on peers old new race n inside grows at far here i j k this below there less =
    let (more, is) = grows.longer in
    let within : i < length old = omega (arith, inside, below) in
    let read : slice_get old i ≡ Some this =
    sym (slice_get-front old more i within) ∙ (ap (λ (rs : List RaceFound). slice_get rs i) (sym is) ∙ there) in
    elim (cases_lt i n) [
      | inl early ↦ for_still peers old new this j k (grows_keeps peers old new grows) (far i j k this early read less)
      | inr past ↦
          let e : n ≡ i = omega (arith, past, below) in
          let two : Some race ≡ Some this = sym at ∙ (ap (slice_get old) e ∙ read) in
          let same : race ≡ this = cc in
          subst (λ (x : RaceFound). IsListedFor peers new x j k) same (here j k less)
    ]

pub all_closed : (peers : List Peer) (races : List RaceFound) (n : ℕ) → length races ≤ n → HaveExchangesBelow peers races n → HaveExchanges peers races
all_closed peers races n past far race (i, at) j k less =
    let inside = slice_get_within races i race at in
    far i j k race (omega (arith, past, inside)) at less

-- ---- race by race
-- one is listed, unless it is
adds_keeps : (old new : List RaceFound) (race : RaceFound) → AddsRace old race new → Keeps old new
adds_keeps old new race adds one among = elim adds [
  | inl (listed, same) ↦ subst (λ (rs : List RaceFound). IsAmong rs one) (sym same) among
  | inr (fresh, pushed) ↦ subst (λ (rs : List RaceFound). IsAmong rs one) (sym pushed) (front_among old (race ∷ []) one among)
]

adds_listed : (old new : List RaceFound) (race : RaceFound) → AddsRace old race new → IsListed new (spot_of race)
adds_listed old new race adds = elim adds [
  | inl (listed, same) ↦ subst (λ (rs : List RaceFound). IsListed rs (spot_of race)) (sym same) listed
  | inr (fresh, pushed) ↦ listed_pushed old new race pushed
]

pub adds_within : (old new : List RaceFound) (race : RaceFound) → AddsRace old race new → length old ≤ length new
adds_within old new race adds = elim adds [
  | inl (listed, same) ↦ let e : length new ≡ length old = ap (λ (rs : List RaceFound). length rs) same in omega (arith, e)
  | inr (fresh, pushed) ↦
      let e : length new ≡ length old + 1 = ap (λ (rs : List RaceFound). length rs) pushed ∙ length-append old (race ∷ []) in
      omega (arith, e)
]

pub adds_closed : (peers : List Peer) (old new : List RaceFound) (race : RaceFound) (n : ℕ) → n ≡ length old → AddsRace old race new
    → HaveExchangesBelow peers old n → HaveExchangesBelow peers new n
adds_closed peers old new race n all adds closed i j k this below there less =
    for_still peers old new this j k (adds_keeps old new race adds) (closed i j k this below read less)
  where
    within : i < length old
    within = omega (arith, all, below)

    read : slice_get old i ≡ Some this
    read = elim adds [
      | inl (listed, same) ↦ ap (λ (rs : List RaceFound). slice_get rs i) (sym same) ∙ there
      | inr (fresh, pushed) ↦
          sym (slice_get-front old (race ∷ []) i within) ∙ (ap (λ (rs : List RaceFound). slice_get rs i) (sym pushed) ∙ there)
    ]

pub covers_none : (peers : List Peer) (found : List RaceFound) → CoversBelow peers found [] 0
covers_none peers found = record {
  listed = λ i race below at. absurd (omega (arith, below));
  each = λ w sync stays all race (i, at). cc;
  once = λ i j one two at. cc;
}

pub covers_on : (peers : List Peer) (found old mid new : List RaceFound) (race : RaceFound) (n : ℕ) → slice_get found n ≡ Some race
    → AddsRace old race mid → Grows peers mid new → CoversBelow peers found old n → CoversBelow peers found new (n + 1)
covers_on peers found old mid new race n here adds grows covers = record {
  listed = λ i this below at. elim (cases_lt i n) [
    | inl early ↦ listed_still mid new (spot_of this) keeps
        (listed_still old mid (spot_of this) (adds_keeps old mid race adds) (covers.listed i this early at))
    | inr past ↦
        let e : n ≡ i = omega (arith, past, below) in
        let two : Some race ≡ Some this = sym here ∙ (ap (slice_get found) e ∙ at) in
        let same : race ≡ this = cc in
        listed_still mid new (spot_of this) keeps (subst (λ (x : RaceFound). IsListed mid (spot_of x)) same (adds_listed old mid race adds))
  ];
  each = λ w sync stays all. grows.each w sync stays (by w sync all (covers.each w sync stays all));
  once = grows.once once;
}
  where
    keeps : Keeps mid new
    keeps = grows_keeps peers mid new grows

    by : (w : World) (sync : List Part) → AreAllBy w sync found → AreAllBy w sync old → AreAllBy w sync mid
    by w sync all before = elim adds [
      | inl (listed, same) ↦ subst (AreAllBy w sync) (sym same) before
      | inr (fresh, pushed) ↦ subst (AreAllBy w sync) (sym pushed) (λ one there. elim (in_cases old race one there) [
        | inl there ↦ before one there
        | inr it ↦ subst (RacesBy w sync) (sym it) (all race (n, here))
      ])
    ]

    once : AreOnce mid
    once = elim adds [
      | inl (listed, same) ↦ subst AreOnce (sym same) covers.once
      | inr (fresh, pushed) ↦ subst AreOnce (sym pushed) (once_pushed old race covers.once fresh)
    ]
