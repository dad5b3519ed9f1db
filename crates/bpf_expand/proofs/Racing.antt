-- Lines that are closed under what they are answered have each race.
use Rattle.std.proofs.Common.{◌≡◌, ◌∙◌, ◌<◌, ◌⊎◌, ℕ, List, [], inl, inr, refl, sym, subst}
use Rattle.std.specs.Prelude.{Ok}
use Rattle.hex.specs.Hex.{decode_of}
use Rattle.bpf_plain.specs.Alike.{AlikeStandAlike, SavedAlikeLookAlike}
use Rattle.bpf_machine.specs.Machine.{MachineState, Shows}
use Rattle.bpf_machine.specs.Patient.{PatientRacesAreKept}
use Rattle.bpf_machine.specs.Race.{IsRace, RacesAreKept}
use Rattle.bpf_machine.specs.Schedule.{World}
use Rattle.bpf_shared.specs.Store.{Plain}
use Rattle.bpf_races.specs.declared.found.Pair.{Pair}
use Rattle.bpf_races.specs.Parts.{IsLeftOut}
use Rattle.bpf_races.specs.Races.{RaceFound, IsTold}
use Rattle.bpf_expand.specs.State.{Host, IsStateOf}
use Rattle.bpf_expand.specs.Filter.{AreRacesOf}
use Rattle.bpf_expand.specs.Laws.{IsAmong, IsToldAmong, LinesHaveRaces}
use Rattle.bpf_expand.proofs.Alike.{shows_too}
use Rattle.bpf_expand.proofs.Covering.{IsRaceOf, race_of_state}
use Rattle.bpf_expand.proofs.Reporting.{all, are_closed, has_line, is_among}

-- no byte is left out
none_out : (races : List RaceFound) (s : Plain) (pair : Pair) (b : ℕ) → (IsTold races s pair b ⊎ IsLeftOut [] b) → IsTold races s pair b
none_out races s pair b (inl here) = here
none_out races s pair b (inr (part, (i, at), is)) = cc

-- a race in what a machine of the state shows is among those of the state
told_of : SavedAlikeLookAlike → AlikeStandAlike → (h : Host) (bytes : List ℕ) (races : List RaceFound) (m : MachineState) (v z : World)
    (pair : Pair) (b : ℕ) → AreRacesOf h bytes races → IsStateOf h m bytes → Shows m v → v.store ≡ z.store
    → pair.one.cpu < pair.other.cpu → IsRace v pair.one pair.other b → IsTold races z.store pair b
told_of look stand h bytes races m v z pair b (x, isx, are) is shows store order race =
    subst (λ (s : Plain). IsTold races s pair b) store (none_out races v.store pair b
    (are.all v (shows_too look stand h m x bytes is isx v shows) pair b order race))

pub lines_have_races : SavedAlikeLookAlike → AlikeStandAlike → RacesAreKept → PatientRacesAreKept → LinesHaveRaces
lines_have_races look stand law patiently h names lines told first bytes w z schedule answered tells is has fresh shown runs fit pair b order race =
    at_race (race_of_state look stand law patiently h (all look stand h names lines answered) first bytes w z schedule h.patient refl
    (are_closed look stand h names lines answered) is (is_among look stand h names lines answered bytes has) fresh shown runs fit
    pair.one pair.other b race)
  where
    at_line : (v : World) (m : MachineState) (state line : List ℕ) → IsAmong lines line → decode_of line ≡ Ok state → IsStateOf h m state →
        Shows m v → v.store ≡ z.store → IsRace v pair.one pair.other b → IsToldAmong lines told z.store pair b
    at_line v m state line among decoded is shows store race =
        let t = tells line among in
        let one : t.0 ≡ state = cc (sym t.1 ∙ decoded) in (
          line,
          among,
          told_of look stand h state (told line) m v z pair b (subst (λ (l : List ℕ). AreRacesOf h l (told line)) one t.2) is
              shows store order race,
        )

    at_race : IsRaceOf h (all look stand h names lines answered) z pair.one pair.other b → IsToldAmong lines told z.store pair b
    at_race (v, m, state, among, is, shows, store, race) =
        let l = has_line look stand h names lines answered state among in
        at_line v m state l.0 l.1 l.2 is shows store race
