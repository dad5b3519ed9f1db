-- Races of one machine, by rising pair of CPUs.
use Rattle.std.proofs.Common.{◌≡◌, ◌≢◌, ◌∙◌, ℕ, ◌+◌, ◌<◌, ◌≤◌, ◌⊎◌, List, [], ◌∷◌, ◌++◌, Option, Some, length, get_or, inl, inr, refl, sym, ap, subst, arith}
use Rattle.std.specs.Prelude.{slice_get}
use Rattle.std.proofs.lemmas.Bool.{cases_lt}
use Rattle.std.proofs.lemmas.Option.{slice_get_read, slice_get_within}
use Rattle.bpf_cpu.specs.Task.{Task, InHand}
use Rattle.bpf_shared.specs.Store.{Plain}
use Rattle.bpf_machine.specs.declared.machine.Stand.{Stand}
use Rattle.bpf_machine.specs.Hands.{IsAt, IsFree}
use Rattle.bpf_machine.specs.Machine.{MachineState, Shows}
use Rattle.bpf_machine.specs.Race.{IsRace}
use Rattle.bpf_machine.specs.Schedule.{World}
use Rattle.bpf_races.specs.declared.found.Pair.{Pair}
use Rattle.bpf_races.specs.declared.sync.Part.{Part}
use Rattle.bpf_races.specs.Touch.{IsAmong, Clash}
use Rattle.bpf_races.specs.Next.{NextStep, IsNextIn}
use Rattle.bpf_races.specs.Races.{RaceFound, AreOnce, AreRacesIn, AreRising, IsBefore, IsKeyAt, IsTold, Spot}
use Rattle.bpf_races.specs.Parts.{IsLeftOut, map_at}
use Rattle.bpf_races.specs.Private.Clashes.{Collects}
use Rattle.bpf_races.specs.Private.Searching.{AddsRace, AreNexts, IsNextOf, Keeps}
use Rattle.bpf_races.specs.Private.Within.{Amid, AreListedOf, IsByteTold, IsFor, IsPassed, IsThere, UpTo}
use Rattle.bpf_races.proofs.Lists.{at_cases, in_cases, in_last}
use Rattle.bpf_races.proofs.Listed.{keeps_same, keeps_pushed, once_pushed}
use Rattle.bpf_races.proofs.Touching.{clash_race, race_clash}

-- ---- pairs of CPUs
passed_more : (c d a b : ℕ) → IsPassed c d a b → IsPassed c (d + 1) a b
passed_more c d a b (inl less) = inl less
passed_more c d a b (inr (same, less)) = inr (same, omega arith)

passed_cases : (c d a b : ℕ) → IsPassed c (d + 1) a b → IsPassed c d a b ⊎ ((c ≡ a) × (d ≡ b))
passed_cases c d a b (inl less) = inl (inl less)
passed_cases c d a b (inr (same, less)) = elim (cases_lt b d) [ inl below ↦ inl (inr (same, below)) | inr past ↦ inr (sym same, omega arith) ]

passed_row : (c a b : ℕ) → a < b → IsPassed c (c + 1) a b → IsPassed c 0 a b
passed_row c a b order (inl less) = inl less
passed_row c a b order (inr (same, less)) = absurd (omega arith)

row_passed : (c d a b : ℕ) → IsPassed c 0 a b → IsPassed c d a b
row_passed c d a b (inl less) = inl less
row_passed c d a b (inr (same, less)) = absurd (omega arith)

rows_passed : (c d a b : ℕ) → IsPassed c d a b → IsPassed (c + 1) 0 a b
rows_passed c d a b (inl less) = inl (omega arith)
rows_passed c d a b (inr (same, less)) = inl (omega arith)

passed_rows : (c n a b : ℕ) → b < n → IsPassed (c + 1) 0 a b → IsPassed c n a b
passed_rows c n a b inside (inl less) = elim (cases_lt a c) [ inl below ↦ inl below | inr past ↦ inr (omega arith, inside) ]
passed_rows c n a b inside (inr (same, less)) = absurd (omega arith)

none_passed : (a b : ℕ) → IsPassed 0 0 a b → ⊥
none_passed a b (inl less) = absurd (omega arith)
none_passed a b (inr (same, less)) = absurd (omega arith)

-- ---- what is gathered
nothing_at : {A : Type 0} → (i : ℕ) (x : A) → slice_get [] i ≡ Some x → ⊥
nothing_at i x at = cc

-- a CPU without a job in hand has no race
none_of_free : (m : MachineState) (races : List RaceFound) (sync : List Part) (w : World) (pair : Pair) (b : ℕ) → IsFree m.jobs
    pair.other.cpu → Shows m w → IsRace w pair.one pair.other b → IsTold races w.store pair b ⊎ IsLeftOut sync b
none_of_free m races sync w pair b free shows race =
    let next = race.next_too in
    absurd (free next.job next.task next.state next.left (subst (λ (jobs : List Task). IsAt jobs pair.other.cpu next.job next.task
    (InHand next.state next.left)) shows.jobs next.at))

module _ (m : MachineState) (sync : List Part) (nexts : List NextStep) where
  pub none_yet : UpTo m sync nexts 0 0 []
  none_yet = record {
    each = λ race (i, at). absurd (nothing_at i race at);
    passed = λ race (i, at). absurd (nothing_at i race at);
    listed = λ a b order inside passed. absurd (none_passed a b passed);
    once = λ i j one two at at_too. absurd (nothing_at i one at);
    rising = λ i j one two less at at_too. absurd (nothing_at i one at);
  }

  pub row_begins : (c : ℕ) (races : List RaceFound) → UpTo m sync nexts c 0 races → UpTo m sync nexts c (c + 1) races
  row_begins c races far = record {
    each = far.each;
    passed = λ race there. row_passed c (c + 1) race.pair.one.cpu race.pair.other.cpu (far.passed race there);
    listed = λ a b order inside passed. far.listed a b order inside (passed_row c a b order passed);
    once = far.once;
    rising = far.rising;
  }

  pub row_ends : (c d : ℕ) (races : List RaceFound) → length nexts ≤ d → UpTo m sync nexts c d races → UpTo m sync nexts (c + 1) 0 races
  row_ends c d races past far = record {
    each = far.each;
    passed = λ race there. rows_passed c d race.pair.one.cpu race.pair.other.cpu (far.passed race there);
    listed = λ a b order inside passed. far.listed a b order inside (passed_rows c d a b (omega arith) passed);
    once = far.once;
    rising = far.rising;
  }

  -- all pairs of CPUs with a next step are passed, and others have none
  pub all_passed : (n : ℕ) (races : List RaceFound) → length nexts ≤ n → AreNexts m nexts → UpTo m sync nexts n 0 races → AreRacesIn m sync races
  all_passed n races past are far = record {
    each = λ race there. (far.each race there).races;
    ordered = λ race there. (far.each race there).order;
    here = λ race there. (far.each race there).here;
    once = far.once;
    rising = far.rising;
    all = λ w shows pair b order race. elim (cases_lt pair.other.cpu (length nexts)) [
      | inl inside ↦ far.listed pair.one.cpu pair.other.cpu order inside (inl (omega arith)) w shows pair b refl refl race
      | inr beyond ↦ none_of_free m races sync w pair b (are.none pair.other.cpu (omega arith)) shows race
    ];
  }

-- ---- one more race
told_still : (old new : List RaceFound) (s : Plain) (pair : Pair) (b : ℕ) → Keeps old new → IsTold old s pair b → IsTold new s pair b
told_still old new s pair b keeps (race, there, pairs, maps, key) = (race, keeps race there, pairs, maps, key)

of_still : (old new : List RaceFound) (sync : List Part) (m : MachineState) (c d : ℕ) → Keeps old new → AreListedOf old sync m c d → AreListedOf new sync m c d
of_still old new sync m c d keeps listed w shows pair b cpu other race = elim (listed w shows pair b cpu other race) [
  | inl here ↦ inl (told_still old new w.store pair b keeps here)
  | inr out ↦ inr out
]

adds_keeps : (old new : List RaceFound) (race : RaceFound) → AddsRace old race new → Keeps old new
adds_keeps old new race (inl (listed, same)) = subst (Keeps old) (sym same) (keeps_same old)
adds_keeps old new race (inr (not, is)) = keeps_pushed old new race is

adds_cases : (old new : List RaceFound) (race one : RaceFound) → AddsRace old race new → IsAmong new one → IsAmong old one ⊎ (one ≡ race)
adds_cases old new race one (inl (listed, same)) there = inl (subst (λ (xs : List RaceFound). IsAmong xs one) same there)
adds_cases old new race one (inr (not, is)) there = in_cases old race one (subst (λ (xs : List RaceFound). IsAmong xs one) is there)

adds_once : (old new : List RaceFound) (race : RaceFound) → AddsRace old race new → AreOnce old → AreOnce new
adds_once old new race (inl (listed, same)) once = subst AreOnce (sym same) once
adds_once old new race (inr (not, is)) once = subst AreOnce (sym is) (once_pushed old race once not)

adds_rising : (old new : List RaceFound) (race : RaceFound) → ((one : RaceFound) → IsAmong old one → IsBefore one.pair race.pair) → AddsRace
    old race new → AreRising old → AreRising new
adds_rising old new race before (inl (listed, same)) rising = subst AreRising (sym same) rising
adds_rising old new race before (inr (not, is)) rising = subst AreRising (sym is) pushed
  where
    pushed : AreRising (old ++ race ∷ [])
    pushed i j one two less at at_too = elim (at_cases old race one i at) [
      | inl early ↦ elim (at_cases old race two j at_too) [
        | inl late ↦ rising i j one two less early late
        | inr (last, same) ↦ subst (λ (x : RaceFound). IsBefore one.pair x.pair) (sym same) (before one (i, early))
      ]
      | inr (end, same) ↦ elim (at_cases old race two j at_too) [
        | inl late ↦ let inside = slice_get_within old j two late in absurd (omega arith)
        | inr (last, too) ↦ absurd (omega arith)
      ]
    ]

-- where such a race is listed or put there, the byte is printed
adds_told : (m : MachineState) (old new : List RaceFound) (race : RaceFound) (pair : Pair) (b : ℕ) → IsFor m pair b race → AddsRace old race
    new → IsByteTold m pair new b
adds_told m old new race pair b for (inl ((one, among, same), is)) w shows =
    let keys : one.key ≡ race.key = ap (λ (s : Spot). s.key) same in (
      one,
      subst (λ (xs : List RaceFound). IsAmong xs one) (sym is) among,
      ap (λ (s : Spot). s.pair) same ∙ for.pair,
      ap (λ (s : Spot). s.map) same ∙ ap map_at for.at,
      subst (λ (k : Option (List ℕ)). IsKeyAt w.store b k) (sym keys) (for.key w shows),
    )
adds_told m old new race pair b for (inr (not, is)) w shows =
    (race, subst (λ (xs : List RaceFound). IsAmong xs race) (sym is) (in_last old race), for.pair, ap map_at for.at, for.key w shows)

-- ---- two CPUs
apart : (c d : ℕ) → c < d → c ≢ d
apart c d less same = absurd (omega arith)

module _ (m : MachineState) (sync : List Part) (nexts : List NextStep) (first second : NextStep) (pair : Pair) (one : pair.one ≡ first.here)
    (other : pair.other ≡ second.here) where
  one_cpu : pair.one.cpu ≡ first.here.cpu
  one_cpu = ap (λ (s : Stand). s.cpu) one

  other_cpu : pair.other.cpu ≡ second.here.cpu
  other_cpu = ap (λ (s : Stand). s.cpu) other

  -- a byte for which their next steps are at odds is a race in what the machine shows
  is_there : (race : RaceFound) (b : ℕ) → first.here.cpu < second.here.cpu → IsNextIn m first → IsNextIn m second → Clash first.accesses
      second.accesses b → (IsLeftOut sync b → ⊥) → IsFor m pair b race → IsThere m sync race
  is_there race b order next next_too clash counts for = record {
    races = λ w shows. record {
      counts = subst (λ (x : ℕ). IsLeftOut sync x → ⊥) (sym for.at) counts;
      race = subst (λ (x : ℕ). IsRace w race.pair.one race.pair.other x) (sym for.at)
          (subst (λ (p : Pair). IsRace w p.one p.other b) (sym for.pair) (here w shows));
      key = subst (λ (x : ℕ). IsKeyAt w.store x race.key) (sym for.at) (for.key w shows);
    };
    order = subst (λ (p : Pair). p.one.cpu < p.other.cpu) (sym for.pair)
        (subst (λ (n : ℕ). n < pair.other.cpu) (sym one_cpu) (subst (λ (n : ℕ). first.here.cpu < n) (sym other_cpu) order));
    here = for.by;
  }
    where
      here : (w : World) → Shows m w → IsRace w pair.one pair.other b
      here w shows = subst (λ (s : Stand). IsRace w s pair.other b) (sym one) (subst (λ (s : Stand). IsRace w first.here s b) (sym other)
          (clash_race w first second b (next w shows) (next_too w shows) (apart first.here.cpu second.here.cpu order) clash))

  pub amid_begins : (bytes : List ℕ) (races : List RaceFound) → UpTo m sync nexts first.here.cpu second.here.cpu races → Amid m sync nexts pair bytes 0 races
  amid_begins bytes races far = record {
    each = up.each;
    passed = λ race there. passed_more pair.one.cpu pair.other.cpu race.pair.one.cpu race.pair.other.cpu (up.passed race there);
    listed = up.listed;
    once = up.once;
    rising = up.rising;
    told = λ i b less at. absurd (omega arith);
  }
    where
      up : UpTo m sync nexts pair.one.cpu pair.other.cpu races
      up = subst (λ (c : ℕ). UpTo m sync nexts c pair.other.cpu races) (sym one_cpu)
          (subst (λ (d : ℕ). UpTo m sync nexts first.here.cpu d races) (sym other_cpu) far)

  pub amid_goes_on : (bytes : List ℕ) (k : ℕ) (b : ℕ) (race : RaceFound) (old new : List RaceFound) → first.here.cpu < second.here.cpu →
      IsNextIn m first → IsNextIn m second → Collects (Clash first.accesses second.accesses) sync [] bytes
      → slice_get bytes k ≡ Some b → IsFor m pair b race → AddsRace old race new → Amid m sync nexts pair bytes k old → Amid m sync nexts pair bytes (k + 1) new
  amid_goes_on bytes k b race old new order next next_too collects at for adds far = record {
    each = λ x there. elim (adds_cases old new race x adds there) [
      | inl before ↦ far.each x before
      | inr same ↦ subst (IsThere m sync) (sym same) there_too
    ];
    passed = λ x there. elim (adds_cases old new race x adds there) [
      | inl before ↦ far.passed x before
      | inr same ↦ subst (λ (y : RaceFound). IsPassed pair.one.cpu (pair.other.cpu + 1) y.pair.one.cpu y.pair.other.cpu) (sym same) last_passed
    ];
    listed = λ a d order inside passed. of_still old new sync m a d keeps (far.listed a d order inside passed);
    once = adds_once old new race adds far.once;
    rising = adds_rising old new race before_last adds far.rising;
    told = λ i x less there. elim (cases_lt i k) [
      | inl below ↦ told_more x (far.told i x below there)
      | inr past ↦
          let e : i ≡ k = omega arith in
          let two : Some b ≡ Some x = sym at ∙ (ap (λ (n : ℕ). slice_get bytes n) (sym e) ∙ there) in
          let same : b ≡ x = cc in
          subst (IsByteTold m pair new) same (adds_told m old new race pair b for adds)
    ];
  }
    where
      keeps : Keeps old new
      keeps = adds_keeps old new race adds

      told_more : (x : ℕ) → IsByteTold m pair old x → IsByteTold m pair new x
      told_more x told w shows = told_still old new w.store pair x keeps (told w shows)

      there_too : IsThere m sync race
      there_too = elim (collects.each b (k, at)) [
        | inl (i, none) ↦ absurd (nothing_at i b none)
        | inr it ↦ is_there race b order next next_too it.0 it.1 for
      ]

      last_passed : IsPassed pair.one.cpu (pair.other.cpu + 1) race.pair.one.cpu race.pair.other.cpu
      last_passed = subst (λ (p : Pair). IsPassed pair.one.cpu (pair.other.cpu + 1) p.one.cpu p.other.cpu) (sym for.pair) (inr (refl, omega arith))

      before_pair : (p : Pair) → IsPassed pair.one.cpu (pair.other.cpu + 1) p.one.cpu p.other.cpu → IsBefore p pair
      before_pair p (inl less) = inl less
      before_pair p (inr (same, less)) = inr (same, omega arith)

      before_last : (x : RaceFound) → IsAmong old x → IsBefore x.pair race.pair
      before_last x there = subst (IsBefore x.pair) (sym for.pair) (before_pair x.pair (far.passed x there))

  pub amid_ends : (bytes : List ℕ) (k : ℕ) (races : List RaceFound) → IsNextIn m first → IsNextIn m second → Collects
      (Clash first.accesses second.accesses) sync [] bytes → length bytes ≤ k
      → Amid m sync nexts pair bytes k races → UpTo m sync nexts first.here.cpu (second.here.cpu + 1) races
  amid_ends bytes k races next next_too collects past far = subst (λ (c : ℕ). UpTo m sync nexts c (second.here.cpu + 1) races) one_cpu
      (subst (λ (d : ℕ). UpTo m sync nexts pair.one.cpu (d + 1) races) other_cpu up)
    where
      told : (w : World) → Shows m w → (own : Pair) (b : ℕ) → own ≡ pair → IsAmong bytes b → IsTold races w.store own b
      told w shows own b same (i, at) =
          let inside = slice_get_within bytes i b at in
          subst (λ (p : Pair). IsTold races w.store p b) (sym same) (far.told i b (omega arith) at w shows)

      same_pair : (own : Pair) → own.one ≡ first.here → own.other ≡ second.here → own ≡ pair
      same_pair own a b = ap (λ (s : Stand). record { one = s; other = own.other }) (a ∙ sym one) ∙ ap
          (λ (s : Stand). record { one = pair.one; other = s }) (b ∙ sym other)

      of_these : AreListedOf races sync m pair.one.cpu pair.other.cpu
      of_these w shows own b cpu cpu_too race =
          let r = race_clash w first second b (next w shows) (next_too w shows) own.one own.other (cpu ∙ one_cpu) (cpu_too ∙ other_cpu) race in
          elim (collects.all b r.2) [
            | inl among ↦ inl (told w shows own b (same_pair own r.0 r.1) among)
            | inr out ↦ inr out
          ]

      up : UpTo m sync nexts pair.one.cpu (pair.other.cpu + 1) races
      up = record {
        each = far.each;
        passed = far.passed;
        listed = λ a b order inside passed. elim (passed_cases pair.one.cpu pair.other.cpu a b passed) [
          | inl before ↦ far.listed a b order inside before
          | inr (cpu, cpu_too) ↦ subst (λ (x : ℕ). AreListedOf races sync m x b) cpu
              (subst (λ (y : ℕ). AreListedOf races sync m pair.one.cpu y) cpu_too of_these)
        ];
        once = far.once;
        rising = far.rising;
      }

pub next_read : (nexts : List NextStep) (n : ℕ) (next : NextStep) → n < length nexts → next ≡ get_or nexts n next → slice_get nexts n ≡ Some next
next_read nexts n next inside read = slice_get_read nexts (length nexts) n next refl inside read

-- a CPU's next step, by its own number
pub own_next : (m : MachineState) (c : ℕ) (next : NextStep) → IsNextOf m c next → IsNextOf m next.here.cpu next
own_next m c next is = record { of = refl; is = is.is }

-- pairs of CPUs, by their own numbers
module _ (m : MachineState) (sync : List Part) (nexts : List NextStep) (c d : ℕ) (first second : NextStep) (one : IsNextOf m c first)
    (two : IsNextOf m d second) where
  pub own_up : (races : List RaceFound) → UpTo m sync nexts c d races → UpTo m sync nexts first.here.cpu second.here.cpu races
  own_up races far = subst (λ (x : ℕ). UpTo m sync nexts x second.here.cpu races) (sym one.of) (subst (λ (y : ℕ). UpTo m sync nexts c y races) (sym two.of) far)

  pub own_back : (races : List RaceFound) → UpTo m sync nexts first.here.cpu (second.here.cpu + 1) races → UpTo m sync nexts c (d + 1) races
  own_back races far = subst (λ (x : ℕ). UpTo m sync nexts x (d + 1) races) one.of
      (subst (λ (y : ℕ). UpTo m sync nexts first.here.cpu (y + 1) races) two.of far)
