-- What a search finds of data races is so.
use Rattle.std.proofs.Common.{◌≡◌, ℕ, ◌==◌, Bool, true, false, List, [], ◌∷◌, Some, length, refl, sym, subst, ◌∙◌, ◌⊎◌, inl, inr, arith}
use Rattle.std.specs.Prelude.{slice_get, not}
use Rattle.std.proofs.lemmas.Bool.{eqb-true}
use Rattle.bpf_machine.specs.Schedule.{World, unrolled}
use Rattle.bpf_check.specs.Verdict.{HasNoRace, HasRace, IsRacing}
use Rattle.bpf_races.specs.declared.found.Pair.{Pair}
use Rattle.bpf_races.specs.Parts.{IsLeftOut}
use Rattle.bpf_races.specs.Races.{AreListed, HaveAllRaces, IsTold, RaceFound, RacesBy}
use Rattle.bpf_races.specs.Touch.{IsAmong}
use Rattle.bpf_replies.specs.Script.{first_world_of}
use Rattle.bpf_run.specs.Laws.{FoundRacesAreTrue}
use Rattle.bpf_run.specs.Racing.{is_any_race}

some_race : (races : List RaceFound) → is_any_race races ≡ true → (race : RaceFound) × IsAmong races race
some_race [] e = let no : false ≡ true = e in absurd cc
some_race (race ∷ races) e = (race, (0, refl))

turned : (b : Bool) → not b ≡ false → b ≡ true
turned true e = refl
turned false e = cc

no_races : (races : List RaceFound) → is_any_race races ≡ false → races ≡ []
no_races [] e = refl
no_races (race ∷ races) e =
    let none : length (race ∷ races) ≡ 0 = eqb-true (length (race ∷ races)) 0 (turned (length (race ∷ races) == 0) e) in absurd (omega (arith, none))

nothing_there : {X : Type 0} (i : ℕ) (x : X) → slice_get [] i ≡ Some x → ⊥
nothing_there i x e = cc

has_race : (w : World) (race : RaceFound) → RacesBy w [] race → HasRace w
has_race w race by = (unrolled race.by, by.last, by.runs, (race.pair.one, race.pair.other, race.at, by.order, by.races.race))

from_some : (w : World) (races : List RaceFound) → ((race : RaceFound) → IsAmong races race → RacesBy w [] race) → (race : RaceFound) ×
    IsAmong races race → HasRace w
from_some w races each (race, among) = has_race w race (each race among)

never : (z : World) (pair : Pair) (b : ℕ) → IsTold [] z.store pair b ⊎ IsLeftOut [] b → ⊥
never z pair b (inl told) = nothing_there told.1.0 told.0 told.1.1
never z pair b (inr out) = nothing_there out.1.0 out.0 out.1.1

lacks : (z : World) → AreListed [] [] z → IsRacing z → ⊥
lacks z listed (one, other, b, order, race) = never z (record { one = one; other = other }) b (listed (record { one = one; other = other }) b order race)

has_none : (patient : Bool) (w : World) → HaveAllRaces patient w [] [] → HasNoRace patient w
has_none false w all = λ schedule z runs racing. lacks z (all schedule z runs) racing
has_none true w all = λ schedule z runs left racing. lacks z (all schedule z runs left) racing

pub true_races : FoundRacesAreTrue
true_races limit f found (races, refused, are, lines, some) =
    let w = first_world_of f in
    record {
      there = λ is. from_some w races are.each (some_race races (sym some ∙ is));
      none = λ is all. has_none found.patient w (subst (λ (rs : List RaceFound). HaveAllRaces found.patient w [] rs)
          (no_races races (sym some ∙ is)) (are.complete all));
    }
