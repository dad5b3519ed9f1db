-- What events touch, byte by byte and as accesses; and races as accesses at odds.
use Rattle.std.proofs.Common.{◌≡◌, ◌≢◌, ℕ, Bool, true, false, Some, refl, sym, subst}
use Rattle.std.specs.Prelude.{◌||◌, ◌&&◌}
use Rattle.bpf_shared.specs.declared.events.Event.{Event}
use Rattle.bpf_shared.specs.declared.events.Event.TheVariants.{Begin, End, Lookup, Update, Delete, Keys, Load, Store, Atomic}
use Rattle.bpf_machine.specs.declared.machine.Stand.{Stand}
use Rattle.bpf_machine.specs.Schedule.{World}
use Rattle.bpf_machine.specs.Race.{Touches, IsRace}
use Rattle.bpf_races.specs.declared.access.Access.{Access}
use Rattle.bpf_races.specs.Touch.{access_at, access_of, Hits, AreAtOdds, Clash}
use Rattle.bpf_races.specs.Next.{NextStep, IsNext}

pub touches_access : (event : Event) (b : ℕ) (writes atomic : Bool) → Touches event b writes atomic → (a : Access) ×
    (access_of event ≡ Some a) × Hits a b × (writes ≡ a.writes) × (atomic ≡ a.atomic)
touches_access (Load at size found) b writes atomic t = (access_at at size false false, refl, (t.0, t.1), t.2, t.3)
touches_access (Store at size word) b writes atomic t = (access_at at size true false, refl, (t.0, t.1), t.2, t.3)
touches_access (Atomic at size op operand expected found) b writes atomic t = (access_at at size true true, refl, (t.0, t.1), t.2, t.3)
touches_access Begin b writes atomic t = absurd t
touches_access End b writes atomic t = absurd t
touches_access (Lookup m key answer) b writes atomic t = absurd t
touches_access (Update m key bytes flags answer) b writes atomic t = absurd t
touches_access (Delete m key answer) b writes atomic t = absurd t
touches_access (Keys m ks) b writes atomic t = absurd t

touches_by : (event : Event) (b : ℕ) (a x : Access) → x ≡ a → Hits a b → (Hits x b → Touches event b x.writes x.atomic) → Touches event b a.writes a.atomic
touches_by event b a x same hits touches =
    subst (λ (y : Access). Touches event b y.writes y.atomic) same (touches (subst (λ (y : Access). Hits y b) (sym same) hits))

pub access_touches : (event : Event) (b : ℕ) (a : Access) → access_of event ≡ Some a → Hits a b → Touches event b a.writes a.atomic
access_touches (Load at size found) b a is hits =
    let same : access_at at size false false ≡ a = cc in touches_by (Load at size found) b a (access_at at size false false) same hits
    (λ h. (h.0, h.1, refl, refl))
access_touches (Store at size word) b a is hits =
    let same : access_at at size true false ≡ a = cc in touches_by (Store at size word) b a (access_at at size true false) same hits
    (λ h. (h.0, h.1, refl, refl))
access_touches (Atomic at size op operand expected found) b a is hits =
    let same : access_at at size true true ≡ a = cc in touches_by (Atomic at size op operand expected found) b a
    (access_at at size true true) same hits (λ h. (h.0, h.1, refl, refl))
access_touches Begin b a is hits = cc
access_touches End b a is hits = cc
access_touches (Lookup m key answer) b a is hits = cc
access_touches (Update m key bytes flags answer) b a is hits = cc
access_touches (Delete m key answer) b a is hits = cc
access_touches (Keys m ks) b a is hits = cc

module _ (w : World) (first second : NextStep) (b : ℕ) (next : IsNext w first) (next_too : IsNext w second) where
  pub clash_race : first.here.cpu ≢ second.here.cpu → Clash first.accesses second.accesses b → IsRace w first.here second.here b
  clash_race apart (one, two, here, there, odds) =
      let x = next.each one here in
      let y = next_too.each two there in
      record {
        apart = apart;
        first = x.0;
        second = y.0;
        next = x.1;
        next_too = y.1;
        writes = one.writes;
        writes_too = two.writes;
        atomic = one.atomic;
        atomic_too = two.atomic;
        touches = access_touches x.0 b one x.2 odds.hits;
        touches_too = access_touches y.0 b two y.2 odds.hits_too;
        one_writes = odds.one_writes;
        not_both = odds.not_both;
      }

  pub race_clash : (one other : Stand) → one.cpu ≡ first.here.cpu → other.cpu ≡ second.here.cpu → IsRace w one other b → (one ≡ first.here)
      × (other ≡ second.here) × Clash first.accesses second.accesses b
  race_clash one other cpu other_cpu race =
      let x = touches_access race.first b race.writes race.atomic race.touches in
      let y = touches_access race.second b race.writes_too race.atomic_too race.touches_too in
      let here = next.all one race.first x.0 cpu race.next x.1 in
      let there = next_too.all other race.second y.0 other_cpu race.next_too y.1 in
      let odds : AreAtOdds x.0 y.0 b =
      record {
        hits = x.2;
        hits_too = y.2;
        one_writes = subst (λ (v : Bool). x.0.writes || v ≡ true) y.3 (subst (λ (u : Bool). u || race.writes_too ≡ true) x.3 race.one_writes);
        not_both = subst (λ (v : Bool). x.0.atomic && v ≡ false) y.4 (subst (λ (u : Bool). u && race.atomic_too ≡ false) x.4 race.not_both);
      }
      in
      (here.0, there.0, (x.0, y.0, here.1, there.1, odds))
