-- Kept machines from which an end can be reached, and from which none can, but for places.
use Rattle.std.proofs.Common.{◌≡◌, ℕ, zero, suc, Bool, false, List, [], ◌∷◌, Some, refl, sym, subst}
use Rattle.std.specs.Prelude.{slice_get}
use Rattle.bpf_shared.specs.Laws.{CallsHaveOneReply}
use Rattle.bpf_loader.specs.Laws.{OneInstructionBegins}
use Rattle.bpf_mem.specs.Laws.{WritesAreDetermined}
use Rattle.bpf_cpu.specs.Task.{Task}
use Rattle.bpf_live.specs.Laws.{AlikeIsAnEquivalence, OneStateIsAlike, StepsAreAlike}
use Rattle.bpf_machine.specs.declared.machine.Turn.{Turn}
use Rattle.bpf_machine.specs.Ends.{CanEnd, RunsFreely}
use Rattle.bpf_machine.specs.Headways.{turns_in, with_jobs}
use Rattle.bpf_machine.specs.Machine.{MachineState}
use Rattle.bpf_machine.specs.Patient.{AsRich, NoneRanOut}
use Rattle.bpf_machine.specs.Rounds.{HaveEnded}
use Rattle.bpf_machine.specs.Schedule.{TakesTurn, World}
use Rattle.bpf_machine.proofs.CoverLaws.{IsCoveredBy, LeadsBy, LeadsOn, comes, ended_jobs, true_is_covered}
use Rattle.bpf_machine.proofs.DeterminedTurns.{IsWorld, fresh_world, one_turn}
use Rattle.bpf_machine.proofs.EndLaws.{IsShownAt, freely_none, have_ended_before, none_before, none_poor, poor_ended, rich_join, through}
use Rattle.bpf_machine.proofs.PatientLaws.{Richly, all_same, enriched, rich_again, rich_ended, rich_turn, rich_world}
use Rattle.bpf_machine.proofs.PatientRaceLaws.{world_after}
use Rattle.bpf_alike.specs.Ends.{IsShownAlikeAt}
use Rattle.bpf_alike.proofs.AlikeEnds.{end_here, leads_alike_by, none_alike, works_alike}
use Rattle.bpf_alike.proofs.AlikeRicher.{dead_and_rich}
use Rattle.bpf_equal.specs.Patient.{AreStuckPermuted, EndsInPermuted, IsShownPermutedRichlyAt, LeadsToPermuted, PermutedCanEnd, PermutedStuckAreHung}
use Rattle.bpf_equal.specs.Peers.{Peer}
use Rattle.bpf_equal.specs.Worlds.{ArePermuted, ArePermutedIn}
use Rattle.bpf_equal.proofs.Chains.{again, back, dead_places, ended_there, none_there, places_richly, rich_over, turns_back}
use Rattle.bpf_equal.proofs.Covering.{Places, carry, in_place}
use Rattle.bpf_equal.proofs.Freely.{can_end_after, can_end_along, can_end_poor}

-- ---- this many turns lead from what is true of worlds to an end
module _ (peers : List Peer) (P : ℕ → World → Type 0) where
  abbrev EndOn : ℕ → ℕ → Type 0
  EndOn zero i = (z : World) → P i z → HaveEnded z.jobs × NoneRanOut z.jobs
  EndOn (suc n) i = (c : ℕ) × (k : ℕ) × LeadsBy (P i) (λ h u. Places peers (Richly (P k)) u) c × EndOn n k

  can_end : (n i : ℕ) (z : World) → EndOn n i → IsCoveredBy (P i) z → CanEnd z
  can_end zero i z ends (v, headways, shown, same, ahead) =
      let e = ends v shown in
      ([], z, (z.jobs, all_same z.jobs, refl), have_ended_before z v headways ahead e.0, none_before z v headways ahead e.1)
  can_end (suc n) i z (c, k, leads, rest) (v, headways, shown, same, ahead) =
      let t = through (P i) (Places peers (Richly (P k))) c (turns_in (headways c)) leads z v headways shown same ahead refl in
      let q = carry peers (Richly (P k)) t.1 t.3 in
      let e = enriched (P k) q.0 q.2 in
      let r = can_end n k (with_jobs q.0 e.0) rest e.2 in
      can_end_after t.0 z t.1 t.2 (can_end_along peers q.1.0 t.1 q.0 q.1.1 (can_end_poor q.0 e.0 e.1 r))

-- ---- from these worlds none can be reached
module _ (peers : List Peer) (P : World → Type 0) (leads : LeadsOn P (Places peers (Richly P))) (works : (w : World) → P w → HaveEnded w.jobs → ⊥)
    (none_out : (w : World) → P w → NoneRanOut w.jobs) where
  stays : (v : World) → P v → Places peers (Richly P) v
  stays v shown = in_place peers (Richly P) v (v.jobs, all_same v.jobs, shown)

  -- with poorer jobs, but for turns ahead, this is true of the world
  abbrev Poorly : World → Type 0
  Poorly u = (jobs : List Task) × AsRich jobs u.jobs × IsCoveredBy P (with_jobs u jobs)

  -- it is, with richer jobs, but for places
  abbrev IsLikeStuck : World → Type 0
  IsLikeStuck = Richly (Places peers Poorly)

  raised : (u : World) (more : List Task) → AsRich u.jobs more → Poorly u → Poorly (with_jobs u more)
  raised u more rich (jobs, below, covered) = (jobs, rich_again jobs u.jobs more below rich, covered)

  given_more : (z : World) (more : List Task) → AsRich z.jobs more → IsLikeStuck z → IsLikeStuck (with_jobs z more)
  given_more z more rich (top, up, (u, (n, chain), poor)) =
      let j = rich_join z.jobs more top rich up in
      let t = rich_over peers n (with_jobs z top) u j.0 chain j.2 in
      (j.0, j.1, (with_jobs u t.0, (n, t.2), raised u t.0 t.1 poor))

  never_ended : (y : World) → IsLikeStuck y → HaveEnded y.jobs → ⊥
  never_ended y (top, up, (u, (n, chain), (jobs, below, (v, headways, shown, same, ahead)))) ended =
      let high : top ≡ y.jobs = rich_ended y.jobs top up ended in
      let ended_u : HaveEnded u.jobs = ended_there peers n (with_jobs y top) u chain (subst HaveEnded (sym high) ended) in
      let low : u.jobs ≡ jobs = poor_ended jobs u.jobs below ended_u in
      let ended_low : HaveEnded jobs = subst HaveEnded low ended_u in
      let there : jobs ≡ v.jobs = ended_jobs (with_jobs u jobs) v headways ahead ended_low in
      works v shown (subst HaveEnded there ended_low)

  -- no job of what is covered with richer jobs has run out of budget
  none_covered : (q : World) → IsCoveredBy (Richly P) q → NoneRanOut q.jobs
  none_covered q (v, headways, (jobs, rich, shown), same, ahead) =
      none_before q v headways ahead (none_poor v.jobs jobs rich (none_out (with_jobs v jobs) shown))

  same_first : (n : ℕ) (w v u : World) → w ≡ v → ArePermutedIn peers n w u → ArePermutedIn peers n v u
  same_first n w v u same chain = subst (λ (x : World). ArePermutedIn peers n x u) same chain

  module _ (law : WritesAreDetermined) (begins : OneInstructionBegins) (replies : CallsHaveOneReply) where
    stuck_turn : (z m : World) (c : ℕ) (answer : Turn) → IsWorld z → IsLikeStuck z → TakesTurn z c answer m → NoneRanOut m.jobs → IsLikeStuck m
    stuck_turn z m c answer world (top, up, (u, (n, chain), (jobs, below, covered))) taken none =
        let b = turns_back peers n (with_jobs z top) u chain in
        let p = with_jobs u jobs in
        let r = comes P (Places peers (Richly P)) stays leads p (b.0 c) covered in
        let q = carry peers (Richly P) r.1 r.3 in
        let q_back = back peers r.1 q.0 q.1 in
        let none_p = none_there peers q_back.0 q.0 r.1 q_back.1 (none_covered q.0 q.2) in
        let e = enriched P q.0 q.2 in
        let a = rich_turn p u.jobs (b.0 c) r.0 r.1 below r.2 none_p in
        let t = b.1 c r.0 (with_jobs r.1 a.0) a.1 in
        let k = rich_turn z top c answer m up taken none in
        let one = one_turn law begins replies (with_jobs z top) c t.0 answer t.1 (with_jobs m k.0) (rich_world z top up world) t.2 k.1 in
        let f = rich_over peers q.1.0 r.1 q.0 a.0 q.1.1 a.2 in
        let j = rich_join (q.0).jobs f.0 e.0 f.1 e.1 in
        let all : ArePermuted peers (with_jobs m k.0) (with_jobs q.0 f.0) =
        again peers (with_jobs m k.0) (with_jobs r.1 a.0) (with_jobs q.0 f.0) (n, same_first n t.1 (with_jobs m k.0) (with_jobs r.1 a.0) one.worlds t.3)
        (q.1.0, f.2) in
        let g = places_richly peers Poorly (with_jobs m k.0) (with_jobs q.0 f.0, all, (j.0, j.1, (e.0, j.2, e.2))) in
        (g.0, rich_again m.jobs k.0 g.0 k.2 g.1, g.2)

    never : (cs : List ℕ) (z y : World) → IsWorld z → IsLikeStuck z → RunsFreely z cs y → HaveEnded y.jobs → NoneRanOut y.jobs → ⊥
    never [] z y world like (jobs, rich, same) ended none =
        never_ended (with_jobs z jobs) (given_more z jobs rich like) (subst (λ (x : World). HaveEnded x.jobs) same ended)
    never (c ∷ cs) z y world like (jobs, answer, m, rich, taken, runs) ended none =
        let here = rich_world z jobs rich world in
        let next = (one_turn law begins replies (with_jobs z jobs) c answer answer m m here taken taken).world in
        never cs m y next (stuck_turn (with_jobs z jobs) m c answer here (given_more z jobs rich like) taken (freely_none cs m y runs none)) runs ended none

-- ---- kept machines
module _ (equal : AlikeIsAnEquivalence) (steps : StepsAreAlike) (one : OneStateIsAlike) (peers : List Peer) (kept : List MachineState) where
  abbrev At : ℕ → World → Type 0
  At = IsShownAlikeAt kept

  leads_at : (i c k : ℕ) → LeadsToPermuted peers kept i c k → LeadsBy (At i) (λ h u. Places peers (Richly (At k)) u) c
  leads_at i c k (m, new, at, turns, is_kept) v shown =
      let r = leads_alike_by kept equal steps one (IsShownPermutedRichlyAt peers kept k) i c m new at turns is_kept v shown in (
        r.0,
        r.1,
        r.2,
        r.3,
        r.4,
        r.5,
        λ y seen.
            let s = dead_places peers equal (Richly (At k)) y (r.6 y seen) in
            (s.0, s.1, dead_and_rich equal (IsShownAt kept k) s.0 s.2),
      )

  ends_on : (n i : ℕ) → EndsInPermuted peers kept n i → EndOn peers At n i
  ends_on zero i ends = end_here kept equal i ends
  ends_on (suc n) i (c, k, leads, rest) = (c, k, leads_at i c k leads, ends_on n k rest)

  module _ (ends : List Bool) (stuck : AreStuckPermuted peers kept ends) where
    abbrev IsStuck : World → Type 0
    IsStuck w = (i : ℕ) × (slice_get ends i ≡ Some false) × At i w

    stuck_leads : LeadsOn IsStuck (Places peers (Richly IsStuck))
    stuck_leads v c (i, off, shown) =
        let next = (stuck i off).turns c in
        let r = leads_at i c next.0 next.1 v shown in (
          r.0,
          r.1,
          r.2,
          r.3,
          r.4,
          r.5,
          λ y seen. (let s = r.6 y seen in (s.0, s.1, (s.2.0, s.2.1, (next.0, next.2, s.2.2)))),
        )

    stuck_works : (v : World) → IsStuck v → HaveEnded v.jobs → ⊥
    stuck_works v (i, off, (jobs, all, (m, at, shows))) ended = works_alike equal v jobs m all shows ((stuck i off).works m at) ended

    none_stuck : (v : World) → IsStuck v → NoneRanOut v.jobs
    none_stuck v (i, off, (jobs, all, (m, at, shows))) =
        none_alike equal v.programs v.jobs jobs all (subst NoneRanOut (sym shows.jobs) ((stuck i off).none m at))

    like_stuck : (i : ℕ) (z : World) → slice_get ends i ≡ Some false → IsShownPermutedRichlyAt peers kept i z
        → IsLikeStuck peers IsStuck stuck_leads stuck_works none_stuck z
    like_stuck i z off shown =
        let r = places_richly peers (At i) z shown in
        let u = r.2.0 in
        (r.0, r.1, (u, r.2.1, (u.jobs, all_same u.jobs, true_is_covered IsStuck u (i, off, r.2.2))))

pub permuted_can_end : AlikeIsAnEquivalence → StepsAreAlike → OneStateIsAlike → PermutedCanEnd
permuted_can_end equal steps one peers kept n i z ends (jobs, rich, (v, (m, chain), covered)) =
    let e = can_end peers (IsShownAlikeAt kept) n i v (ends_on equal steps one peers kept n i ends) covered in
    can_end_poor z jobs rich (can_end_along peers m (with_jobs z jobs) v chain e)

pub permuted_stuck_are_hung : AlikeIsAnEquivalence → StepsAreAlike → OneStateIsAlike → WritesAreDetermined → OneInstructionBegins → CallsHaveOneReply
    → PermutedStuckAreHung
permuted_stuck_are_hung equal steps one law begins replies peers kept ends first z schedule i stuck fresh runs off shown (cs, y, freely, ended, none) =
    let P = IsStuck equal steps one peers kept ends stuck in
    let leads = stuck_leads equal steps one peers kept ends stuck in
    let works = stuck_works equal steps one peers kept ends stuck in
    let none_out = none_stuck equal steps one peers kept ends stuck in
    let world = world_after law begins replies schedule first z (fresh_world law begins replies first fresh) runs in
    never peers P leads works none_out law begins replies cs z y world (like_stuck equal steps one peers kept ends stuck i z off shown) freely ended none
