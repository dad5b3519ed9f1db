-- Where a search finds no race, none is left out and the search isn't patient, no schedule leads to one.
use Rattle.std.proofs.Common.{◌≡◌, ◌<◌, ℕ, Bool, true, false, ◌&&◌, ◌||◌, ◌==◌, List, [], ◌∷◌, length, Some, None, inl, inr, refl, sym, subst, arith}
use Rattle.std.proofs.lemmas.Bool.{and_parts, cases_order}
use Rattle.std.proofs.lemmas.Bool.Decides.{nat_tests}
use Rattle.bpf_machine.specs.declared.machine.Stand.{Stand}
use Rattle.bpf_machine.specs.Schedule.{World}
use Rattle.bpf_machine.specs.Race.{IsRace}
use Rattle.bpf_races.specs.declared.found.Pair.{Pair}
use Rattle.bpf_races.specs.declared.sync.Part.{Part}
use Rattle.bpf_races.specs.Races.{RaceFound, AreListed, HaveAllRaces, is_race_free}
use Rattle.bpf_races.specs.OnX86.{AnswersHoldOnX86}
use Rattle.bpf_x86.specs.Laws.{IsRaceFree}

is_empty : {A : Type 0} (xs : List A) → length xs ≡ 0 → xs ≡ []
is_empty [] e = refl
is_empty (x ∷ xs) e = absurd (omega arith)

pub free_parts : (sync : List Part) (races : List RaceFound) (all : Bool) → is_race_free sync races all ≡ true → (all ≡ true) × (sync ≡ []) × (races ≡ [])
free_parts sync races all h =
    let p = and_parts all (length sync == 0 && length races == 0) h in
    let q = and_parts (length sync == 0) (length races == 0) p.1 in
    let none : (length sync == 0) ≡ true = q.0 in
    let no_race : (length races == 0) ≡ true = q.1 in
    (p.0, is_empty sync (grind (arith, nat_tests)), is_empty races (grind (arith, nat_tests)))

-- a race of two is one of the same two, the other first
or_turned : (a b : Bool) → a || b ≡ true → b || a ≡ true
or_turned true true h = refl
or_turned true false h = refl
or_turned false true h = refl
or_turned false false h = h

and_turned : (a b : Bool) → a && b ≡ false → b && a ≡ false
and_turned true true h = h
and_turned true false h = refl
and_turned false true h = refl
and_turned false false h = refl

pub turned : (z : World) (one other : Stand) (b : ℕ) → IsRace z one other b → IsRace z other one b
turned z one other b race = record {
  apart = λ e. race.apart (sym e);
  first = race.second;
  second = race.first;
  next = race.next_too;
  next_too = race.next;
  writes = race.writes_too;
  writes_too = race.writes;
  atomic = race.atomic_too;
  atomic_too = race.atomic;
  touches = race.touches_too;
  touches_too = race.touches;
  one_writes = or_turned race.writes race.writes_too race.one_writes;
  not_both = and_turned race.atomic race.atomic_too race.not_both;
}

-- none is listed of a machine, so it has none
none_listed : (z : World) → AreListed [] [] z → (one other : Stand) (b : ℕ) → IsRace z one other b → ⊥
none_listed z listed one other b race = elim (cases_order one.cpu other.cpu) [
  | inl same ↦ race.apart same
  | inr apart ↦ elim apart [
    | inl less ↦ none (record { one = one; other = other }) less race
    | inr more ↦ none (record { one = other; other = one }) more (turned z one other b race)
  ]
]
  where
    none : (pair : Pair) → pair.one.cpu < pair.other.cpu → IsRace z pair.one pair.other b → ⊥
    none pair order race = elim (listed pair b order race) [
      | inl told ↦ (let no : None ≡ Some told.0 = told.1.1 in cc)
      | inr out ↦ (let no : None ≡ Some out.0 = out.1.1 in cc)
    ]

none_led_to : (patient : Bool) (w : World) → HaveAllRaces patient w [] [] → IsRaceFree patient w
none_led_to false w have schedule z runs counts one other b race = none_listed z (have schedule z runs) one other b race
none_led_to true w have schedule z runs counts one other b race = none_listed z (have schedule z runs counts) one other b race

pub is_race_free_so : (patient : Bool) (w : World) (sync : List Part) (races : List RaceFound) (all : Bool) →
    (all ≡ true → HaveAllRaces patient w sync races) → is_race_free sync races all ≡ true → IsRaceFree patient w
is_race_free_so patient w sync races all complete h =
    let p = free_parts sync races all h in
    none_led_to patient w (subst (λ (xs : List Part). HaveAllRaces patient w xs []) p.1
    (subst (λ (xs : List RaceFound). HaveAllRaces patient w sync xs) p.2 (complete p.0)))

pub answers_hold_on_x86 : AnswersHoldOnX86
answers_hold_on_x86 false w names maps answers have same text stopped (moves, z, runs, ended, counts, tells) =
    let r = same moves z runs ended counts in
    have text stopped (r.0, (z.world, r.1, ended, tells))
answers_hold_on_x86 true w names maps answers have same text stopped (moves, z, runs, ended, counts, tells) =
    let r = same moves z runs ended counts in
    have text stopped (r.0, z.world, r.1, ended, counts, tells)
