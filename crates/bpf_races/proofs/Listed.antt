-- Lists of races.
use Rattle.std.proofs.Common.{◌≡◌, ◌∙◌, ℕ, List, [], ◌∷◌, ◌++◌, inl, inr, refl, sym, ap, subst}
use Rattle.bpf_races.specs.Touch.{IsAmong}
use Rattle.bpf_races.specs.Races.{RaceFound, AreOnce, IsListed, Spot, spot_of}
use Rattle.bpf_races.specs.Private.Searching.{Keeps}
use Rattle.bpf_races.proofs.Lists.{at_cases, in_front, in_last}

pub keeps_same : (races : List RaceFound) → Keeps races races
keeps_same races race there = there

pub keeps_more : (old mid new : List RaceFound) → Keeps old mid → Keeps mid new → Keeps old new
keeps_more old mid new a b race there = b race (a race there)

pub keeps_pushed : (old new : List RaceFound) (race : RaceFound) → new ≡ old ++ race ∷ [] → Keeps old new
keeps_pushed old new race is one there = subst (λ (xs : List RaceFound). IsAmong xs one) (sym is) (in_front old race one there)

pub listed_still : (old new : List RaceFound) (spot : Spot) → Keeps old new → IsListed old spot → IsListed new spot
listed_still old new spot keeps (race, there, same) = (race, keeps race there, same)

pub listed_pushed : (old new : List RaceFound) (race : RaceFound) → new ≡ old ++ race ∷ [] → IsListed new (spot_of race)
listed_pushed old new race is = (race, subst (λ (xs : List RaceFound). IsAmong xs race) (sym is) (in_last old race), refl)

pub once_pushed : (old : List RaceFound) (race : RaceFound) → AreOnce old → (IsListed old (spot_of race) → ⊥) → AreOnce (old ++ race ∷ [])
once_pushed old race once fresh i j one two at at_too same = elim (at_cases old race one i at) [
  | inl early ↦ elim (at_cases old race two j at_too) [
    | inl late ↦ once i j one two early late same
    | inr (last, is) ↦ absurd (fresh (one, (i, early), same ∙ ap spot_of is))
  ]
  | inr (end, is) ↦ elim (at_cases old race two j at_too) [
    | inl late ↦ absurd (fresh (two, (j, late), sym same ∙ ap spot_of is))
    | inr (last, too) ↦ end ∙ sym last
  ]
]
