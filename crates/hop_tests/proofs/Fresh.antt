-- A CPU that has begun its first run.
use Rattle.std.proofs.Common.{refl, ◌≡◌, ℕ, ◌<◌, true, List, [], ◌∷◌, ◌++◌, All, ap, sym, subst, ◌∙◌, length, arith}
use Rattle.std.proofs.lemmas.List.Elements.{All-head, All-tail}
use Rattle.bpf_shared.specs.declared.events.Event.{Event}
use Rattle.bpf_shared.specs.declared.events.Event.TheVariants.{Begin}
use Rattle.bpf_shared.specs.History.{events_of}
use Rattle.hop_layout.specs.declared.about.About.{About}
use Rattle.hop_words.specs.declared.known.Known.{Known}
use Rattle.hop_words.specs.Ghost.{IsSegment, shape_at}
use Rattle.hop_words.specs.Kinds.{KnowsBorn, First, AddsEvent}
use Rattle.bpf_shared.specs.Own.{in_run}
use Rattle.hop_layout.specs.Layout.{depth}
use Rattle.hop_words.specs.Opens.{lanes_from}
use Rattle.hop_map.specs.Stores.{IsNewLane}
use Rattle.hop_map.proofs.Dealing.{lanes_new}
use Rattle.hop_map.proofs.Homes.{some_power}
use Rattle.hop_map.proofs.Ports.{own_after}

pub first_segment : (a : About) → 0 < length a.shape.maps → IsSegment a 0 0
first_segment a some = (some, some_power (depth (shape_at a 0)))

pub lanes_are_new : (a b : About) (ls : List Known) → b ≡ a → ls ≡ lanes_from a 0 a.shape.cpus → All (IsNewLane b) ls
lanes_are_new a b ls same is = subst (λ (z : About). All (IsNewLane z) ls) (sym same)
    (subst (All (IsNewLane a)) (sym is) (lanes_new a 0 a.shape.cpus (omega arith)))

pub first_new : (a : About) (l : Known) (old rest : List Known) → old ≡ l ∷ rest → All (IsNewLane a) old → IsNewLane a l
first_new a l old rest is all = All-head (IsNewLane a) l rest (subst (All (IsNewLane a)) is all)

pub rest_new : (a : About) (l : Known) (old rest : List Known) → old ≡ l ∷ rest → All (IsNewLane a) old → All (IsNewLane a) rest
rest_new a l old rest is all = All-tail (IsNewLane a) l rest (subst (All (IsNewLane a)) is all)

pub running : (a : About) (l l' : Known) → IsNewLane a l → AddsEvent a l Begin l' → in_run (events_of l'.cpu l'.seen) ≡ true
running a l l' new begun =
    let none : events_of l.cpu l.seen ≡ [] = ap (λ (k : Known). events_of l.cpu k.seen) new.1 in
    let same : l'.cpu ≡ l.cpu = ap (λ (k : Known). k.cpu) begun.after in
    ap in_run (own_after a l l' Begin begun.seen same ∙ ap (λ (es : List Event). es ++ Begin ∷ []) none)

-- a map's first segment is born from the start
pub first_born : (a : About) (l : Known) (m : ℕ) → KnowsBorn a l m 0
first_born a l m = First refl
